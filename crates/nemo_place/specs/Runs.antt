-- Edges in the order of the vertices that they lead to.
use Rattle.std.specs.Prelude.{ℕ, ◌&&◌, Bool, true, nat_le, List, [], ◌∷◌}
use Rattle.nemo_ir.specs.declared.dag.IrEdge.{IrEdge}

-- no edge leads to a vertex before this one, nor to one before that of the edge in front of it
abbrev pub rises_from : ℕ → List IrEdge → Bool
rises_from v [] = true
rises_from v (e ∷ es) = nat_le v e.to && rises_from e.to es
