use Rattle.std.proofs.Common.{◌∙◌, ap, sym, map, slice_get, Some, ℕ, List}
use Rattle.std.proofs.lemmas.List.{take_all}
use Rattle.std.proofs.lemmas.Option.{slice_get-get_or}
use Rattle.std.specs.List.{flat_map}
use Rattle.nemo_value.proofs.JoinedLists.{map_map}
use Rattle.nemo_ir.specs.Along.{below}
use Rattle.nemo_plan.specs.Graph.{reads_into, vertices_of}
use Rattle.nemo_plan.specs.Stages.{count_stages}
use Rattle.nemo_plan.proofs.Made.{item_low}
use Rattle.nemo_plan.proofs.graph.all_reads.Goals as goal

pub reads-requires : goal.reads-requires
reads-requires c = λ k v e.
    item_low c.args.index.now c.args.made.now c.requires.making c.loop-members.members-index c.members-item.result
    (ap (λ (xs : List (List ℕ)). slice_get xs c.loop-members.members-index) (sym c.as_slice-members-items.ensures.value)
    ∙ slice_get-get_or c.as_slice-members-items.result.now c.loop-members.members-index c.members-item.result c.loop-members-test.true ∙ ap Some (sym c.members-item.is)) k v
    (ap (λ (xs : List ℕ). slice_get xs k) (sym c.as_slice-in-loop-members.ensures) ∙ e)

pub returns : goal.returns
returns c =
    let read = flat_map (λ v. reads_into c.args.flat.now c.args.index.now c.args.made.now.stages v (slice_get c.args.index.now.vertices v)) in
    c.loop-members.invariant
    ∙ ap (map read) (take_all c.loop-members.members-index c.as_slice-members-items.result.now c.loop-members-test.false ∙ c.as_slice-members-items.ensures.value ∙ c.requires.making.members)
    ∙ map_map read (vertices_of c.args.made.now.stages) (below (count_stages c.args.made.now.stages))
