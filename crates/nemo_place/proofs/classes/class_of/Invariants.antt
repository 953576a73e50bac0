use Rattle.std.proofs.Common.{◌≡◌, ◌==◌, drop, filter}
use Rattle.nemo_place.specs.Classes.{class_of}
use Rattle.nemo_place.proofs.ClassSteps.{class_with}
use Rattle.nemo_place.proofs.classes.class_of.Given as goal

-- the in-edges so far with those that are left give the class
abbrev pub invariant-loop-e : goal.invariant-loop-e
invariant-loop-e l = class_with l.done l.fed l.steady (filter (λ e. e.to == l.v) (drop l.e-index l.edges)) ≡ class_of l.done (filter (λ e. e.to == l.v) l.edges)
