use Rattle.std.proofs.Common.{arith, ◌≡◌, ◌∙◌, ap, sym, subst, [], length, true}
use Rattle.std.proofs.lemmas.List.{get_or_default}
use Rattle.std.specs.Prelude.{is_some}
use Rattle.nemo_base.specs.Places.{item_at}
use Rattle.nemo_core.proofs.Cells.{within}
use Rattle.nemo_core.proofs.grid.Grid.set.Goals as goal

pub set-requires : goal.set-requires
set-requires g c =
    let rows = c.self.inside.rows.items in
    let w = within rows c.args.row c.args.at (subst (λ all. is_some (item_at all c.args.row c.args.at) ≡ true) (sym c.self.view_is) c.requires) in
    let same = ap length (c.index_mut.ensures.value ∙ get_or_default rows c.args.row _ [] w.0) in
    omega (arith, same, w.1)
