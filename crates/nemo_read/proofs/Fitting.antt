-- Each operation that is read fits its vertex, and each row of a source has a field.
use Rattle.std.proofs.Common.{◌≡◌, refl, ℕ, ◌&&◌, List, [], ◌∷◌, length, Option, Some, None, option_map, option_and_then, Bool, true, codes}
use Rattle.std.proofs.lemmas.Bool.{eq-eqb}
use Rattle.std.proofs.lemmas.Cmp.{nat_list_eq_equiv}
use Rattle.std.specs.List.{list_all}
use Rattle.serde_json.specs.Data.{Data}
use Rattle.serde_json.specs.Find.{as_str}
use Rattle.nemo_value.specs.Texts.{same_text}
use Rattle.nemo_value.specs.declared.expr.Expr.{Expr}
use Rattle.nemo_transform.specs.Gives.{is_filled}
use Rattle.nemo_transform.specs.declared.transform.Folding.{Folding}
use Rattle.nemo_transform.specs.declared.transform.Folding.TheVariants.{Sum, Min, Max, Count}
use Rattle.nemo_transform.specs.declared.transform.Output.{Output}
use Rattle.nemo_transform.specs.declared.transform.Transform.{Transform}
use Rattle.nemo_transform.specs.declared.transform.Transform.TheVariants.{Source, Map, Filter, Emit, Words, Reduce}
use Rattle.nemo_job.specs.Chain.{rows_filled}
use Rattle.nemo_job.specs.Fitting.{fits}
use Rattle.nemo_job.specs.declared.vertex.Ref.{Ref}
use Rattle.nemo_job.specs.declared.vertex.Work.TheVariants.{Op}
use Rattle.nemo_read.specs.Exprs.{expr_of}
use Rattle.nemo_read.specs.Parts.{array_of, member_of, tested, is_few, field_of, record_of, name_of}
use Rattle.nemo_read.specs.Vertices.{Form, Does, Loops, Head, few_of, form_by, head_named, head_of, head_with, inputs_of, loop_of, output_of, output_with, own_place, reduce_by, reduce_of, transform_of}
use Rattle.nemo_read.specs.Operations.{operation_of}
use Rattle.nemo_read.specs.declared.operation.Operation.{Operation}
use Rattle.nemo_read.specs.declared.operation.Operation.TheVariants as op
use Rattle.nemo_read.proofs.Passing.{passes, true_passes, if_passes, map_passes, then_passes, array_passes, first_passes, tested_passes}

few_filled : {X : Type 0} (o : Option (List X)) → passes is_filled (tested is_few o) ≡ true
few_filled None = refl
few_filled (Some []) = refl
few_filled (Some (x ∷ xs)) = if_passes is_filled (is_few (x ∷ xs)) (Some (x ∷ xs)) None refl refl

-- the member has 1 to 16 things
few_are : {X : Type 0} (reads : Data → Option X) (name : List ℕ) (d : Data) → passes is_few (few_of name reads d) ≡ true
few_are reads name d =
    let things = member_of name (array_of reads) d in
    first_passes is_few (λ _. true) (few_of name reads d) (tested_passes is_few (λ _. true) things (true_passes things))

-- 1 to 16 expressions
abbrev is_short : Output → Bool
is_short o = is_few o.out

with_short : (cond : Option Expr) (out : Option (List Expr)) → passes is_few out ≡ true → passes is_short (output_with cond out) ≡ true
with_short (Some cond) (Some out) h = h
with_short (Some cond) None h = refl
with_short None out h = refl

output_short : (d : Data) → passes is_short (output_of d) ≡ true
output_short d = with_short (member_of (codes "if") expr_of d) (few_of (codes "out") expr_of d) (few_are expr_of (codes "out") d)

-- whether the rows of a transform have fields, and it fits a vertex of this name and of n inputs
abbrev pub is_right : List ℕ → ℕ → Transform → Bool
is_right name n t = rows_filled (Op t) && fits name n t

source_right : (name : List ℕ) (n : ℕ) (rows : Option (List (List _))) → passes (list_all is_filled) rows ≡ true → passes (λ rows. is_right name n (Source rows)) rows ≡ true
source_right name n (Some rows) h = rw h refl
source_right name n None h = refl

by_right : (name : List ℕ) (n : ℕ) (d : Data) (by : Folding) → passes (is_right name n) (reduce_by d by) ≡ true
by_right name n d Sum = map_passes (is_right name n) (Reduce Sum) (own_place d) (true_passes (own_place d))
by_right name n d Min = map_passes (is_right name n) (Reduce Min) (own_place d) (true_passes (own_place d))
by_right name n d Max = map_passes (is_right name n) (Reduce Max) (own_place d) (true_passes (own_place d))
by_right name n d Count = refl

reduce_right : (name : List ℕ) (n : ℕ) (d : Data) → passes (is_right name n) (reduce_of d) ≡ true
reduce_right name n d = then_passes (is_right name n) (reduce_by d) _ (by_right name n d)

rows_right : (name : List ℕ) (n : ℕ) (d : Data) → passes (is_right name n) (option_map Source (member_of (codes "rows") (array_of record_of) d)) ≡ true
rows_right name n d =
    let rows = member_of (codes "rows") (array_of record_of) d in
    map_passes (is_right name n) Source rows
    (source_right name n rows (array_passes record_of is_filled (λ e. few_filled (array_of field_of e)) (codes "rows") d))

outs_right : (name : List ℕ) (n : ℕ) (d : Data) → passes (is_right name n) (option_map Emit (few_of (codes "outs") output_of d)) ≡ true
outs_right name n d =
    let outs = member_of (codes "outs") (array_of output_of) d in
    map_passes (is_right name n) Emit (few_of (codes "outs") output_of d)
    (tested_passes is_few (list_all is_short) outs (array_passes output_of is_short output_short (codes "outs") d))

by_operation_right : (name : List ℕ) (n : ℕ) (d : Data) (o : Operation) → passes (is_right name n) (transform_of name n d o) ≡ true
by_operation_right name n d op.Source = rows_right name n d
by_operation_right name n d op.Map = map_passes (is_right name n) Map (few_of (codes "out") expr_of d) (few_are expr_of (codes "out") d)
by_operation_right name n d op.Filter = map_passes (is_right name n) Filter (member_of (codes "if") expr_of d) (true_passes (member_of (codes "if") expr_of d))
by_operation_right name n d op.Emit = outs_right name n d
by_operation_right name n d op.Words = map_passes (is_right name n) Words (own_place d) (true_passes (own_place d))
by_operation_right name n d op.Union = eq-eqb n n refl
by_operation_right name n d op.Reduce = reduce_right name n d
by_operation_right name n d op.Distinct = refl
by_operation_right name n d op.Join = refl
by_operation_right name n d op.SideJoin = refl
by_operation_right name n d op.Sink = nat_list_eq_equiv.refl name

-- whether an operation is right
abbrev pub does_right : List ℕ → ℕ → Form → Bool
does_right name n (Does t) = is_right name n t
does_right name n (Loops l) = true

abbrev pub head_right : Head → Bool
head_right h = does_right h.name (length h.inputs) h.form

form_right : (name : List ℕ) (n : ℕ) (d : Data) (word : List ℕ) → passes (does_right name n) (form_by name n d word) ≡ true
form_right name n d word =
    let transform = option_and_then (transform_of name n d) (operation_of word) in
    if_passes (does_right name n) (same_text word (codes "loop")) _ _
    (map_passes (does_right name n) Loops (loop_of d) (true_passes (loop_of d)))
    (map_passes (does_right name n) Does transform (then_passes (is_right name n) (transform_of name n d) (operation_of word) (by_operation_right name n d)))

with_right : (name : List ℕ) (inputs : List Ref) (form : Option Form) → passes (does_right name (length inputs)) form ≡ true → passes head_right (head_with name inputs form) ≡ true
with_right name inputs (Some form) h = h
with_right name inputs None h = refl

-- the operation of a head that is read
pub heads_right : (d : Data) → passes head_right (head_of d) ≡ true
heads_right d =
    then_passes head_right (head_named d) (member_of (codes "name") name_of d)
    (λ name. then_passes head_right (λ inputs. head_with name inputs (option_and_then (form_by name (length inputs) d) (member_of (codes "op") as_str d))) (inputs_of d)
    (λ inputs. with_right name inputs (option_and_then (form_by name (length inputs) d) (member_of (codes "op") as_str d))
    (then_passes (does_right name (length inputs)) (form_by name (length inputs) d) (member_of (codes "op") as_str d) (form_right name (length inputs) d))))
