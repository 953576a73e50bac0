use Rattle.std.proofs.Common.{◌≡◌, ◌∙◌, ◌<◌, ◌≤◌, sym, ap, subst, map, length, Some, None}
use Rattle.nemo_job.specs.Ends.{fault_end}
use Rattle.nemo_job.specs.Held.{IsPlaced, node_of}
use Rattle.nemo_job.specs.Nodes.{copy_of}
use Rattle.nemo_job.specs.Unrolled.{path_in, unrolled}
use Rattle.nemo_job.proofs.CopiesPlaced.{unrolled_placed}
use Rattle.nemo_job.proofs.JobEnds.{IsCollected, collected_by, fault_below, end_is, names_apart, nodes_counted, nodes_placed, rows_are, no_faults}
use Rattle.nemo_job.proofs.ShortPaths.{short_path}
use Rattle.nemo_job.proofs.evaluate.eval_job.Goals as goal

pub all_held-requires : goal.all_held-requires
all_held-requires c =
    let vs = c.args.job.now in
    let made : map copy_of c.in_ok-nodes.nodes.items ≡ unrolled vs = c.in_ok-nodes.ensures ∙ ap unrolled (c.as_slice.ensures ∙ c.vertices.ensures.vertices) in
    let ps = ap (map node_of) c.as_slice-2.ensures.value ∙ nodes_placed vs c.in_ok-nodes.nodes.items made in
    subst IsPlaced (sym ps) (unrolled_placed vs c.vertices.ensures.job)

pub end_at-requires-clause-within : goal.end_at-requires-clause-within
end_at-requires-clause-within c =
    let vs = c.args.job.now in
    let made : map copy_of c.in_ok-nodes.nodes.items ≡ unrolled vs = c.in_ok-nodes.ensures ∙ ap unrolled (c.as_slice.ensures ∙ c.vertices.ensures.vertices) in
    let sinks = c.in_ok-sinks.field-0.sinks.items in
    let got : IsCollected vs sinks (Some c.in-Some.fault) =
    collected_by vs c.as_slice-3.result.now c.in_ok-nodes.nodes.items sinks c.in_ok-sinks.field-0.first (Some c.in-Some.fault)
    c.as_slice-3.ensures.value made c.in_ok-sinks.ensures.sinks c.in_ok-sinks.ensures.first c.in-Some.is in
    let count = nodes_counted vs c.in_ok-nodes.nodes.items made ∙ sym (ap length c.as_slice-in-Some.ensures.value) in
    subst (λ n. c.in-Some.fault.place < n) count (fault_below vs c.vertices.ensures.job sinks c.in-Some.fault got)

pub end_at-requires-clause-short : goal.end_at-requires-clause-short
end_at-requires-clause-short c =
    let vs = c.args.job.now in
    let made : map copy_of c.in_ok-nodes.nodes.items ≡ unrolled vs = c.in_ok-nodes.ensures ∙ ap unrolled (c.as_slice.ensures ∙ c.vertices.ensures.vertices) in
    let copies : map copy_of c.as_slice-in-Some.result.now ≡ unrolled vs = ap (map copy_of) c.as_slice-in-Some.ensures.value ∙ made in
    subst (λ l. length (path_in l c.in-Some.fault.place) ≤ 65535) (sym copies) (short_path vs c.vertices.ensures.job c.in-Some.fault.place)

pub returns-in-Some-clause-end : goal.returns-in-Some-clause-end
returns-in-Some-clause-end c =
    let vs = c.args.job.now in
    let made : map copy_of c.in_ok-nodes.nodes.items ≡ unrolled vs = c.in_ok-nodes.ensures ∙ ap unrolled (c.as_slice.ensures ∙ c.vertices.ensures.vertices) in
    let sinks = c.in_ok-sinks.field-0.sinks.items in
    let got : IsCollected vs sinks (Some c.in-Some.fault) =
    collected_by vs c.as_slice-3.result.now c.in_ok-nodes.nodes.items sinks c.in_ok-sinks.field-0.first (Some c.in-Some.fault)
    c.as_slice-3.ensures.value made c.in_ok-sinks.ensures.sinks c.in_ok-sinks.ensures.first c.in-Some.is in
    let copies : map copy_of c.as_slice-in-Some.result.now ≡ unrolled vs = ap (map copy_of) c.as_slice-in-Some.ensures.value ∙ made in
    end_is vs c.vertices.ensures.job sinks c.in-Some.fault c.in_ok-end_at-in-Some.field-0 got
    (c.in_ok-end_at-in-Some.ensures ∙ ap (λ l. fault_end (record { vertex = path_in l c.in-Some.fault.place; kind = c.in-Some.fault.kind; rec = c.in-Some.fault.rec })) copies)

pub by_name-requires : goal.by_name-requires
by_name-requires c =
    let vs = c.args.job.now in
    let made : map copy_of c.in_ok-nodes.nodes.items ≡ unrolled vs = c.in_ok-nodes.ensures ∙ ap unrolled (c.as_slice.ensures ∙ c.vertices.ensures.vertices) in
    let sinks = c.in_ok-sinks.field-0.sinks.items in
    let got : IsCollected vs sinks None =
    collected_by vs c.as_slice-3.result.now c.in_ok-nodes.nodes.items sinks c.in_ok-sinks.field-0.first None
    c.as_slice-3.ensures.value made c.in_ok-sinks.ensures.sinks c.in_ok-sinks.ensures.first c.in-None.is in
    names_apart vs c.vertices.ensures.job sinks None got

pub returns-clause-rows : goal.returns-clause-rows
returns-clause-rows c =
    let vs = c.args.job.now in
    let made : map copy_of c.in_ok-nodes.nodes.items ≡ unrolled vs = c.in_ok-nodes.ensures ∙ ap unrolled (c.as_slice.ensures ∙ c.vertices.ensures.vertices) in
    let sinks = c.in_ok-sinks.field-0.sinks.items in
    let got : IsCollected vs sinks None =
    collected_by vs c.as_slice-3.result.now c.in_ok-nodes.nodes.items sinks c.in_ok-sinks.field-0.first None
    c.as_slice-3.ensures.value made c.in_ok-sinks.ensures.sinks c.in_ok-sinks.ensures.first c.in-None.is in
    rows_are vs c.vertices.ensures.job sinks c.by_name.result.items None got c.by_name.ensures

pub returns-clause-sound : goal.returns-clause-sound
returns-clause-sound c =
    let vs = c.args.job.now in
    let made : map copy_of c.in_ok-nodes.nodes.items ≡ unrolled vs = c.in_ok-nodes.ensures ∙ ap unrolled (c.as_slice.ensures ∙ c.vertices.ensures.vertices) in
    let sinks = c.in_ok-sinks.field-0.sinks.items in
    let got : IsCollected vs sinks None =
    collected_by vs c.as_slice-3.result.now c.in_ok-nodes.nodes.items sinks c.in_ok-sinks.field-0.first None
    c.as_slice-3.ensures.value made c.in_ok-sinks.ensures.sinks c.in_ok-sinks.ensures.first c.in-None.is in
    no_faults vs c.vertices.ensures.job sinks got
