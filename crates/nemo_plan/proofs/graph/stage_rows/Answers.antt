use Rattle.std.proofs.Common.{◌≡◌, ◌∙◌, ◌+◌, ◌<◌, ◌++◌, ◌∷◌, [], ap, sym, arith, filter, get_or, length, map, slice_get, suc, Some, ℕ, List}
use Rattle.std.proofs.lemmas.List.{map-append}
use Rattle.std.proofs.lemmas.Option.{slice_get-get_or}
use Rattle.nemo_base.specs.declared.graph.Read.{Read}
use Rattle.nemo_base.specs.declared.graph.StageRow.{StageRow}
use Rattle.nemo_ir.specs.Along.{below, passes}
use Rattle.nemo_ir.specs.Flat.{FlatForm}
use Rattle.nemo_ir.specs.declared.dag.IrDag.{IrDag}
use Rattle.nemo_ir.proofs.Tables.{at_below}
use Rattle.nemo_plan.specs.Graph.{class_of, first_vertex, has_blocks, rank_of, reads_of, stage_row, tasks_of, vertices_of}
use Rattle.nemo_plan.specs.Stages.{count_stages}
use Rattle.nemo_plan.proofs.Growing.{below_more}
use Rattle.nemo_plan.proofs.Made.{item_low, members_item, members_long}
use Rattle.nemo_plan.proofs.graph.stage_rows.Goals as goal

-- the row of a stage of these vertices
abbrev row_of : FlatForm → IrDag → List ℕ → List ℕ → ℕ → List Read → StageRow
row_of flat dag stages members rank reads = record {
  class = class_of (first_vertex dag members);
  parallelism = tasks_of (first_vertex dag members);
  rank = rank;
  blocks = filter (λ v. passes (has_blocks flat dag stages v) (slice_get dag.vertices v)) members;
  reads = reads;
}

pub stage_row-requires : goal.stage_row-requires
stage_row-requires c = λ k v e.
    item_low c.args.index.now c.args.made.now c.requires.making c.loop-stage.stage c.members-item.result
    (ap (λ (xs : List (List ℕ)). slice_get xs c.loop-stage.stage) (sym c.as_slice-members-items.ensures.value)
    ∙ slice_get-get_or c.as_slice-members-items.result.now c.loop-stage.stage c.members-item.result c.loop-stage-test.true ∙ ap Some (sym c.members-item.is)) k v
    (ap (λ (xs : List ℕ). slice_get xs k) (sym c.as_slice-in-loop-stage.ensures) ∙ e)

pub loop-stage-preserved : goal.loop-stage-preserved
loop-stage-preserved c =
    let flat = c.args.flat.now in
    let dag = c.args.index.now in
    let stages = c.args.made.now.stages in
    let i : ℕ = c.loop-stage.stage in
    let items : length c.as_slice-members-items.result.now ≡ length c.args.made.now.members.items = ap length c.as_slice-members-items.ensures.value in
    let long : length c.args.made.now.members.items ≡ count_stages c.args.made.now.stages = members_long dag c.args.made.now c.requires.making in
    let less : c.loop-stage.stage < length c.as_slice-members-items.result.now = c.loop-stage-test.true in
    let within : c.loop-stage.stage < count_stages c.args.made.now.stages = omega arith in
    let up : suc c.loop-stage.stage ≡ c.loop-stage.stage + 1 = omega arith in
    let members : c.as_slice-in-loop-stage.result.now ≡ vertices_of c.args.made.now.stages c.loop-stage.stage =
    c.as_slice-in-loop-stage.ensures
    ∙ members_item dag c.args.made.now c.requires.making i c.members-item.result
    (ap (λ (xs : List (List ℕ)). slice_get xs c.loop-stage.stage) (sym c.as_slice-members-items.ensures.value)
    ∙ slice_get-get_or c.as_slice-members-items.result.now c.loop-stage.stage c.members-item.result c.loop-stage-test.true ∙ ap Some (sym c.members-item.is)) in
    let rank : get_or c.args.ranks.now c.loop-stage.stage 0 ≡ rank_of c.args.flat.now c.args.index.now c.args.made.now.stages c.loop-stage.stage =
    ap (λ (t : List ℕ). get_or t i 0) c.requires.ranks ∙ at_below (rank_of flat dag stages) (count_stages stages) i 0 within in
    let reads : c.index-reads-stage.result ≡ reads_of c.args.flat.now c.args.index.now c.args.made.now.stages c.loop-stage.stage =
    c.index-reads-stage.is ∙ ap (λ (t : List (List Read)). get_or t i c.index-reads-stage.result) c.requires.reads ∙ at_below (reads_of flat dag stages) (count_stages stages) i c.index-reads-stage.result within in
    c.in_ok-push.ensures.ok
    ∙ ap (λ (l : List StageRow). l ++ c.in_ok-row.row ∷ []) c.loop-stage.invariant
    ∙ ap (λ (r : StageRow). map (stage_row flat dag stages) (below i) ++ r ∷ [])
    (c.in_ok-row.ensures
    ∙ ap (λ (ss : List ℕ). row_of flat dag ss c.as_slice-in-loop-stage.result.now (get_or c.args.ranks.now c.loop-stage.stage 0) c.index-reads-stage.result) c.as_slice.ensures
    ∙ ap (λ (ms : List ℕ). row_of flat dag stages ms (get_or c.args.ranks.now c.loop-stage.stage 0) c.index-reads-stage.result) members
    ∙ ap (λ (n : ℕ). row_of flat dag stages (vertices_of stages i) n c.index-reads-stage.result) rank ∙ ap (λ (rs : List Read). row_of flat dag stages (vertices_of stages i) (rank_of flat dag stages i) rs) reads)
    ∙ sym (map-append (stage_row flat dag stages) (below i) (i ∷ [])) ∙ ap (map (stage_row flat dag stages)) (sym (below_more i)) ∙ ap (λ (n : ℕ). map (stage_row flat dag stages) (below n)) up

pub returns : goal.returns
returns c =
    let items : length c.as_slice-members-items.result.now ≡ length c.args.made.now.members.items = ap length c.as_slice-members-items.ensures.value in
    let long : length c.args.made.now.members.items ≡ count_stages c.args.made.now.stages = members_long c.args.index.now c.args.made.now c.requires.making in
    let all : c.loop-stage.stage ≡ count_stages c.args.made.now.stages = omega (arith, c.loop-stage-test.false, c.loop-stage.auto.stage-end) in
    c.loop-stage.invariant ∙ ap (λ (n : ℕ). map (stage_row c.args.flat.now c.args.index.now c.args.made.now.stages) (below n)) all
