use Rattle.std.proofs.Common.{◌≡◌, ◌∙◌, ◌<◌, ◌++◌, ◌∷◌, [], ap, sym, subst, length, Some, ℕ, List, Bool}
use Rattle.std.proofs.lemmas.Option.{slice_get_within}
use Rattle.nemo_ir.specs.Along.{below}
use Rattle.nemo_ir.specs.Nodes.{deed_of, kinds_in}
use Rattle.nemo_ir.specs.Valid.{kinds_at}
use Rattle.nemo_plan.specs.Making.{IsLast, closed_to, open_at, sources_of, stays_behind}
use Rattle.nemo_plan.specs.Order.{IsForward, parted}
use Rattle.nemo_plan.specs.Stages.{first_joined, joined_at}
use Rattle.nemo_plan.proofs.Choosing.{first_open_is, joined_free, joined_known, last_forward, last_free, none_open, open_known, some_open, turned_forward}
use Rattle.nemo_plan.proofs.CutLaws.{level_dag}
use Rattle.nemo_plan.proofs.cut.choice.Goals as goal

pub returns-in_default : goal.returns-in_default
returns-in_default c =
    let dag = c.args.index.now in
    let stages = c.args.made.now.stages in
    let making = c.requires.making in
    let ports : c.port_count-ports.result ≡ length (kinds_at c.args.flat.now c.args.u.now) =
    c.port_count-ports.ensures ∙ ap (λ ts. length (kinds_in (deed_of ts c.args.u.now.kind))) (c.as_slice.ensures ∙ ap (λ f. f.transforms) c.flat.view_is) in
    none_open dag stages c.args.made.now.order making.forward making.few (length stages) c.args.u.now.class (below (length (kinds_at c.args.flat.now c.args.u.now)))
    (sym (c.first_open.ensures
    ∙ ap (λ (ss : List ℕ). first_joined (open_at dag ss c.len-v.result c.args.u.now.class []) (below c.port_count-ports.result)) c.as_slice-2.ensures
    ∙ ap (λ w. first_joined (open_at dag stages w c.args.u.now.class []) (below c.port_count-ports.result)) c.len-v.ensures
    ∙ ap (λ n. first_joined (open_at dag stages (length stages) c.args.u.now.class []) (below n)) ports)
    ∙ c.in_default.is)

pub sources-requires-clause-within : goal.sources-requires-clause-within
sources-requires-clause-within c = subst (λ n. n < length c.args.index.now.vertices) (sym c.len-v.ensures) (slice_get_within c.args.index.now.vertices (length c.args.made.now.stages) c.args.u.now c.requires.next)

pub returns-then-is_last : goal.returns-then-is_last
returns-then-is_last c =
    let dag = c.args.index.now in
    let stages = c.args.made.now.stages in
    let order = c.args.made.now.order in
    let making = c.requires.making in
    let s = c.in-Some.first in
    let level = level_dag c.args.flat.now dag c.requires.valid in
    let ports : c.port_count-ports.result ≡ length (kinds_at c.args.flat.now c.args.u.now) =
    c.port_count-ports.ensures ∙ ap (λ ts. length (kinds_in (deed_of ts c.args.u.now.kind))) (c.as_slice.ensures ∙ ap (λ f. f.transforms) c.flat.view_is) in
    let first : first_joined (open_at c.args.index.now c.args.made.now.stages (length c.args.made.now.stages) c.args.u.now.class []) (below (length (kinds_at c.args.flat.now c.args.u.now))) ≡ Some c.in-Some.first =
    sym (c.first_open.ensures
    ∙ ap (λ (ss : List ℕ). first_joined (open_at dag ss c.len-v.result c.args.u.now.class []) (below c.port_count-ports.result)) c.as_slice-2.ensures
    ∙ ap (λ w. first_joined (open_at dag stages w c.args.u.now.class []) (below c.port_count-ports.result)) c.len-v.ensures
    ∙ ap (λ n. first_joined (open_at dag stages (length stages) c.args.u.now.class []) (below n)) ports)
    ∙ c.in-Some.is in
    let sources : c.as_slice-5.result.now ≡ sources_of c.args.index.now c.args.made.now.stages (length c.args.made.now.stages) =
    c.as_slice-5.ensures.value ∙ c.in_ok-sources.ensures ∙ ap (λ (ss : List ℕ). sources_of dag ss c.len-v.result) c.as_slice-3.ensures ∙ ap (sources_of dag stages) c.len-v.ensures in
    let last : IsLast c.args.made.now.order (sources_of c.args.index.now c.args.made.now.stages (length c.args.made.now.stages)) c.in-Some.first =
    subst (λ o. IsLast o (sources_of dag stages (length stages)) s) c.as_slice-4.ensures (subst (λ t. IsLast c.as_slice-4.result.now t s) sources (c.is_last.ensures c.if-is_last.true)) in
    let known = open_known dag stages (length stages) c.args.u.now.class [] (below (length (kinds_at c.args.flat.now c.args.u.now))) s first in (
      some_open dag stages order making.forward making.few (length stages) c.args.u.now.class (below (length (kinds_at c.args.flat.now c.args.u.now))) s first (last_free dag stages order level making.forward making.few s known last),
      last_forward dag stages order level making.forward making.few s known last,
    )

pub first_open-requires-2 : goal.first_open-requires-2
first_open-requires-2 c = subst (λ n. n < length c.args.index.now.vertices) (sym c.len-v.ensures) (slice_get_within c.args.index.now.vertices (length c.args.made.now.stages) c.args.u.now c.requires.next)

pub returns-in-Some-first_open : goal.returns-in-Some-first_open
returns-in-Some-first_open c =
    let dag = c.args.index.now in
    let stages = c.args.made.now.stages in
    let order = c.args.made.now.order in
    let making = c.requires.making in
    let s = c.in-Some-first_open.stage in
    let level = level_dag c.args.flat.now dag c.requires.valid in
    let ports : c.port_count-ports.result ≡ length (kinds_at c.args.flat.now c.args.u.now) =
    c.port_count-ports.ensures ∙ ap (λ ts. length (kinds_in (deed_of ts c.args.u.now.kind))) (c.as_slice.ensures ∙ ap (λ f. f.transforms) c.flat.view_is) in
    let closed : c.in_ok-closed.closed.items ≡ closed_to c.args.index.now c.args.made.now.stages (length c.args.made.now.stages) = c.in_ok-closed.ensures ∙ ap (closed_to dag stages) c.len-v.ensures in
    let sources : c.in_ok-sources.sources.items ≡ sources_of c.args.index.now c.args.made.now.stages (length c.args.made.now.stages) =
    c.in_ok-sources.ensures ∙ ap (λ (ss : List ℕ). sources_of dag ss c.len-v.result) c.as_slice-3.ensures ∙ ap (sources_of dag stages) c.len-v.ensures in
    let chosen : first_joined (joined_at c.args.index.now c.args.made.now.stages (length c.args.made.now.stages) c.args.u.now.class) (below (length (kinds_at c.args.flat.now c.args.u.now))) ≡ Some c.in-Some-first_open.stage =
    sym (c.first_open-2.ensures
    ∙ ap (λ (ss : List ℕ). first_joined (open_at dag ss c.len-v.result c.args.u.now.class c.as_slice-8.result.now) (below c.port_count-ports.result)) c.as_slice-7.ensures
    ∙ ap (λ w. first_joined (open_at dag stages w c.args.u.now.class c.as_slice-8.result.now) (below c.port_count-ports.result)) c.len-v.ensures
    ∙ ap (λ (t : List Bool). first_joined (open_at dag stages (length stages) c.args.u.now.class t) (below c.port_count-ports.result)) (c.as_slice-8.ensures.value ∙ closed)
    ∙ ap (λ n. first_joined (open_at dag stages (length stages) c.args.u.now.class (closed_to dag stages (length stages))) (below n)) ports
    ∙ first_open_is dag stages order making.forward making.few (length stages) c.args.u.now.class (below (length (kinds_at c.args.flat.now c.args.u.now))))
    ∙ c.in-Some-first_open.is in
    let ports_list = below (length (kinds_at c.args.flat.now c.args.u.now)) in
    let known = joined_known dag stages order making.forward making.few c.args.u.now s ports_list chosen in
    let free = joined_free dag stages order making.forward making.few c.args.u.now s ports_list chosen in
    let turned : c.in_ok-turned-in-Some-first_open.field-0 ≡ parted (stays_behind (sources_of c.args.index.now c.args.made.now.stages (length c.args.made.now.stages)) (closed_to c.args.index.now c.args.made.now.stages (length c.args.made.now.stages)) c.in-Some-first_open.stage) c.args.made.now.order =
    c.in_ok-turned-in-Some-first_open.ensures
    ∙ ap (λ (o : List ℕ). parted (stays_behind c.as_slice-in-Some-first_open-2.result.now c.as_slice-in-Some-first_open-3.result.now s) o) c.as_slice-in-Some-first_open.ensures
    ∙ ap (λ (t : List Bool). parted (stays_behind t c.as_slice-in-Some-first_open-3.result.now s) order) (c.as_slice-in-Some-first_open-2.ensures.value ∙ sources)
    ∙ ap (λ (t : List Bool). parted (stays_behind (sources_of dag stages (length stages)) t s) order) (c.as_slice-in-Some-first_open-3.ensures.value ∙ closed) in
    (chosen, subst (λ o. IsForward dag.edges (stages ++ s ∷ []) o) (sym turned) (turned_forward dag stages order level making.forward making.few s known free))

pub returns : goal.returns
returns c =
    let dag = c.args.index.now in
    let stages = c.args.made.now.stages in
    let making = c.requires.making in
    let ports : c.port_count-ports.result ≡ length (kinds_at c.args.flat.now c.args.u.now) =
    c.port_count-ports.ensures ∙ ap (λ ts. length (kinds_in (deed_of ts c.args.u.now.kind))) (c.as_slice.ensures ∙ ap (λ f. f.transforms) c.flat.view_is) in
    let closed : c.in_ok-closed.closed.items ≡ closed_to c.args.index.now c.args.made.now.stages (length c.args.made.now.stages) = c.in_ok-closed.ensures ∙ ap (closed_to dag stages) c.len-v.ensures in
    sym (c.first_open-2.ensures
    ∙ ap (λ (ss : List ℕ). first_joined (open_at dag ss c.len-v.result c.args.u.now.class c.as_slice-8.result.now) (below c.port_count-ports.result)) c.as_slice-7.ensures
    ∙ ap (λ w. first_joined (open_at dag stages w c.args.u.now.class c.as_slice-8.result.now) (below c.port_count-ports.result)) c.len-v.ensures
    ∙ ap (λ (t : List Bool). first_joined (open_at dag stages (length stages) c.args.u.now.class t) (below c.port_count-ports.result)) (c.as_slice-8.ensures.value ∙ closed)
    ∙ ap (λ n. first_joined (open_at dag stages (length stages) c.args.u.now.class (closed_to dag stages (length stages))) (below n)) ports
    ∙ first_open_is dag stages c.args.made.now.order making.forward making.few (length stages) c.args.u.now.class (below (length (kinds_at c.args.flat.now c.args.u.now))))
    ∙ c.in-None.is
