-- Tables by vertex.
use Rattle.std.specs.Prelude.{ℕ, ◌+◌, ◌==◌, ◌&&◌, [], ◌∷◌, Bool, true, List, length, map}
use Rattle.std.specs.List.{list_any}
use Rattle.nemo_ir.specs.Along.{below}
use Rattle.nemo_ir.specs.Index.{changed}
use Rattle.nemo_ir.specs.Nodes.{edge_at, producer, rep_of, resolve}
use Rattle.nemo_ir.specs.declared.dag.IrDag.{IrDag}

abbrev pub marked : List Bool → ℕ → List Bool
marked marks number = changed (λ b. true) marks number

-- of each vertex whether it stands for a flat vertex
abbrev pub standing_in : ℕ → List ℕ → List Bool
standing_in n rep = map (λ v. list_any (λ r. r == v) rep) (below n)

abbrev pub standing : IrDag → List Bool
standing dag = standing_in (length dag.vertices) dag.rep

-- whether the Ops behind the ports of a vertex, from a port on, are those that stand for these flat vertices
abbrev pub ports_match : IrDag → ℕ → ℕ → List ℕ → Bool
ports_match dag v port [] = true
ports_match dag v port (y ∷ ys) = (resolve dag (producer (edge_at dag.edges v port)) == rep_of dag y) && ports_match dag v (port + 1) ys
