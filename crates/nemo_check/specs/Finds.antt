-- What the search for a first failure gives.
use Rattle.std.specs.Prelude.{ℕ, List, [], ◌∷◌, Option, Some, None}
use Rattle.nemo_ir.specs.Flat.{FlatForm}
use Rattle.nemo_ir.specs.Valid.{FailsAt, FirstAmong, FirstFailure, Holds, number_of}
use Rattle.nemo_ir.specs.declared.clause.Clause.{Clause}
use Rattle.nemo_ir.specs.declared.dag.IrDag.{IrDag}
use Rattle.nemo_check.specs.declared.checker.CheckEnd.{CheckEnd}
use Rattle.nemo_check.specs.declared.checker.CheckEnd.TheVariants.{Refused, NoMemory}

-- the least place at which a clause isn't met, or that it holds
abbrev pub Finds : FlatForm → IrDag → Clause → Option ℕ → Type 0
Finds flat dag c (Some i) = FailsAt flat dag c i
Finds flat dag c None = Holds flat dag c

abbrev pub AllHold : FlatForm → IrDag → List Clause → Type 0
AllHold flat dag [] = Unit {0}
AllHold flat dag (c ∷ cs) = Holds flat dag c × AllHold flat dag cs

-- the first of some clauses that fails with its least place, or that all hold
abbrev pub Judges : FlatForm → IrDag → List Clause → Option (Clause × ℕ) → Type 0
Judges flat dag cs (Some f) = FirstAmong flat dag cs (number_of f.0) f.1
Judges flat dag cs None = AllHold flat dag cs

-- why a check ends with no yes
abbrev pub IsEnd : FlatForm → IrDag → CheckEnd → Type 0
IsEnd flat dag (Refused clause index) = FirstFailure flat dag clause index
IsEnd flat dag NoMemory = Unit {0}
