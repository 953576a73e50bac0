-- DAGs before any utility vertex comes.
use Rattle.std.specs.Prelude.{◌≡◌, not, true}
use Rattle.std.specs.List.{list_all}
use Rattle.nemo_ir.specs.Nodes.{is_utility}
use Rattle.nemo_ir.specs.declared.dag.IrDag.{IrDag}

-- a DAG of Ops alone
abbrev pub IsOfOps : IrDag → Type 0
IsOfOps dag = list_all (λ u. not (is_utility u.kind)) dag.vertices ≡ true
