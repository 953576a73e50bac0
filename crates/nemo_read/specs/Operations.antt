-- What the member `op` of a vertex that is no loop may say.
use Rattle.std.specs.Prelude.{ℕ, List, Option, Some, None, if◌then◌else◌, codes}
use Rattle.nemo_value.specs.Texts.{same_text}
use Rattle.nemo_read.specs.declared.operation.Operation.{Operation}
use Rattle.nemo_read.specs.declared.operation.Operation.TheVariants.{Source, Map, Filter, Emit, Words, Union, Reduce, Distinct, Join, SideJoin, Sink}

abbrev pub operation_of : List ℕ → Option Operation
operation_of word =
    if same_text word (codes "source") then Some Source
    else (if same_text word (codes "map") then Some Map
    else (if same_text word (codes "filter") then Some Filter
    else (if same_text word (codes "emit") then Some Emit
    else (if same_text word (codes "words") then Some Words
    else (if same_text word (codes "union") then Some Union
    else (if same_text word (codes "reduce") then Some Reduce
    else (if same_text word (codes "distinct") then Some Distinct
    else (if same_text word (codes "join") then Some Join
    else (if same_text word (codes "sidejoin") then Some SideJoin
    else (if same_text word (codes "sink") then Some Sink
    else None))))))))))
