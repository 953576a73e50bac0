-- The words of the ways to fold.
use Rattle.std.specs.Prelude.{ℕ, List, codes}
use Rattle.nemo_transform.specs.declared.transform.Folding.{Folding}
use Rattle.nemo_transform.specs.declared.transform.Folding.TheVariants.{Sum, Min, Max, Count}

abbrev pub folding_word : Folding → List ℕ
folding_word Sum = codes "sum"
folding_word Min = codes "min"
folding_word Max = codes "max"
folding_word Count = codes "count"
