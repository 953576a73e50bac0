use Rattle.std.proofs.Common.{◌≡◌, ◌∙◌, ◌<◌, ◌-◌, ap, sym, arith, false, get_or, length, slice_get, Some, ℕ, List, Bool}
use Rattle.std.proofs.lemmas.List.{length-replicate}
use Rattle.std.proofs.lemmas.Option.{slice_get-get_or}
use Rattle.nemo_plan.specs.Graph.{vertices_of}
use Rattle.nemo_plan.specs.Making.{leads_on, sources_of}
use Rattle.nemo_plan.specs.Stages.{count_stages}
use Rattle.nemo_plan.proofs.Closing.{all_closed, next_closed, no_closed, order_low}
use Rattle.nemo_plan.proofs.ahead.closed.Goals as goal

pub loop-behind-init : goal.loop-behind-init
loop-behind-init c =
    no_closed c.args.index.now c.args.made.now.stages c.args.made.now.order c.requires.making.forward c.requires.making.few c.args.v c.in_ok-table.table.items
    (ap length c.in_ok-table.ensures ∙ length-replicate c.len-count.result false ∙ c.len-count.ensures ∙ c.requires.making.forward.count)

pub leads_on-leads-requires-clause-within : goal.leads_on-leads-requires-clause-within
leads_on-leads-requires-clause-within c =
    let j : ℕ = c.len-count.result - 1 - c.loop-behind.behind in
    let size : c.len-count.result ≡ length c.args.made.now.order = c.len-count.ensures in
    let inside : j < length c.args.made.now.order = omega (arith, c.loop-behind-test.true) in
    order_low c.args.index.now.edges c.args.made.now.stages c.args.made.now.order c.requires.making.forward j _
    (slice_get-get_or c.args.made.now.order j 0 inside ∙ ap (λ (xs : List ℕ). Some (get_or xs j 0)) (sym c.deref.ensures))

pub index_mut-requires : goal.index_mut-requires
index_mut-requires c =
    let j : ℕ = c.len-count.result - 1 - c.loop-behind.behind in
    let size : c.len-count.result ≡ length c.args.made.now.order = c.len-count.ensures in
    let inside : j < length c.args.made.now.order = omega (arith, c.loop-behind-test.true) in
    let low : get_or c.deref.result.now j 0 < count_stages c.args.made.now.stages =
    order_low c.args.index.now.edges c.args.made.now.stages c.args.made.now.order c.requires.making.forward j _
    (slice_get-get_or c.args.made.now.order j 0 inside ∙ ap (λ (xs : List ℕ). Some (get_or xs j 0)) (sym c.deref.ensures)) in
    omega (arith, c.loop-behind.invariant.size, c.loop-behind.table.ok)

pub loop-behind-preserved : goal.loop-behind-preserved
loop-behind-preserved c =
    let j : ℕ = c.len-count.result - 1 - c.loop-behind.behind in
    let m : ℕ = get_or c.deref.result.now j 0 in
    let size : c.len-count.result ≡ length c.args.made.now.order = c.len-count.ensures in
    let less : c.loop-behind.behind < c.len-count.result = c.loop-behind-test.true in
    let count : length c.args.made.now.order ≡ count_stages c.args.made.now.stages = c.requires.making.forward.count in
    let inside : j < length c.args.made.now.order = omega arith in
    let at : slice_get c.args.made.now.order j ≡ Some m = slice_get-get_or c.args.made.now.order j 0 inside ∙ ap (λ (xs : List ℕ). Some (get_or xs j 0)) (sym c.deref.ensures) in
    next_closed c.args.index.now c.args.made.now.stages c.args.made.now.order c.requires.making.forward c.requires.making.few c.args.v c.loop-behind.table.items c.loop-behind.behind j m (omega arith) (omega arith) at
    (order_low c.args.index.now.edges c.args.made.now.stages c.args.made.now.order c.requires.making.forward j m at) c.loop-behind.invariant c.leads_on-leads.result
    (c.leads_on-leads.ensures
    ∙ ap (λ (s : List Bool). leads_on c.args.index.now c.args.made.now.stages s c.as_slice.result.now m (vertices_of c.args.made.now.stages m)) c.requires.sources
    ∙ ap (λ (t : List Bool). leads_on c.args.index.now c.args.made.now.stages (sources_of c.args.index.now c.args.made.now.stages c.args.v) t m (vertices_of c.args.made.now.stages m)) c.as_slice.ensures.value)

pub returns : goal.returns
returns c =
    let size : c.len-count.result ≡ length c.args.made.now.order = c.len-count.ensures in
    let count : length c.args.made.now.order ≡ count_stages c.args.made.now.stages = c.requires.making.forward.count in
    all_closed c.args.index.now c.args.made.now.stages c.args.made.now.order c.requires.making.forward c.requires.making.few c.args.v c.loop-behind.table.items c.loop-behind.behind (omega (arith, c.loop-behind-test.false)) c.loop-behind.invariant
