-- The stages that a vertex would close a circle with, found backwards along an order.
use Rattle.std.proofs.Common.{arith, ◌≡◌, ◌∙◌, ap, sym, subst, refl, ℕ, ◌+◌, ◌<◌, ◌≤◌, ◌==◌, ◌&&◌, ◌||◌, not, Bool, true, false, List, filter, get_or, length, map, set, slice_get, Option, Some, None, inl, inr, eq-eqb}
use Rattle.std.proofs.lemmas.Bool.{and_from, cases_eq, cases_lt, eqb-true, ne_eqb, or_cases, or_left, or_right}
use Rattle.std.proofs.lemmas.List.{ext_get_or, get_or-set_other, get_or-set_same, length-set}
use Rattle.std.proofs.lemmas.Option.{slice_get-get_or, slice_get_within}
use Rattle.std.specs.Cmp.{first_so, second_so}
use Rattle.std.specs.List.{list_any}
use Rattle.nemo_value.proofs.MemberLists.{filter_in, in_filter, passes as filter_passes}
use Rattle.nemo_value.specs.Members.{In}
use Rattle.nemo_ir.specs.Along.{below, passes}
use Rattle.nemo_ir.specs.declared.dag.IrDag.{IrDag}
use Rattle.nemo_ir.specs.declared.dag.IrEdge.{IrEdge}
use Rattle.nemo_plan.specs.Graph.{vertices_of}
use Rattle.nemo_plan.specs.Making.{closed_to, is_marked, is_source, leads_by, leads_on, sources_of, would_close}
use Rattle.nemo_plan.specs.Order.{IsForward, place}
use Rattle.nemo_plan.specs.Reach.{Reach, here, on}
use Rattle.nemo_plan.specs.Stages.{comes_round, count_stages, in_edges, is_reached, stage_at}
use Rattle.nemo_ir.proofs.Tables.{at_below, long_below}
use Rattle.nemo_plan.proofs.Lists.{below_item, list_any-some}
use Rattle.nemo_plan.proofs.Memberships.{any_in, at_in, in_at}
use Rattle.nemo_plan.proofs.Orders.{place_reaches, same_place}
use Rattle.nemo_plan.proofs.Prefixes.{count_above}
use Rattle.nemo_plan.proofs.Reaching.{is_stage, joins_at, joins_from, no_circle, reach_is}
use Rattle.nemo_plan.proofs.StageReads.{in_vertices, vertex_in}

same_bool : (a b : Bool) → (a ≡ true → b ≡ true) → (b ≡ true → a ≡ true) → a ≡ b
same_bool true b f g = sym (f refl)
same_bool false true f g = g refl
same_bool false false f g = refl

-- the last stages of the order are right in the table
pub record IsClosedSoFar (dag : IrDag) (stages order : List ℕ) (v : ℕ) (table : List Bool) (done : ℕ) : Type 0 where
  pub size : length table ≡ count_stages stages
  pub right : (t : ℕ) → t < count_stages stages → count_stages stages ≤ place order t + done → get_or table t false ≡ would_close dag stages v t

-- what stands in the order is a stage
pub order_low : (es : List IrEdge) (stages order : List ℕ) → IsForward es stages order → (i m : ℕ) → slice_get order i ≡ Some m → m < count_stages stages
order_low es stages order forward i m e =
    let low : place order m ≤ i = place_reaches order i m e in
    let inside : i < length order = slice_get_within order i m e in
    elim (cases_lt m (count_stages stages)) [ inl l ↦ l | inr far ↦ (let out : place order m ≡ length order = forward.outside m far in absurd (omega arith)) ]

---- steps

module _ (es : List IrEdge) (stages : List ℕ) where
  -- the first edge of a way to another stage
  record FirstStep (m a : ℕ) : Type 0 where
    stage : ℕ
    place : ℕ
    edge : IrEdge
    there : slice_get es place ≡ Some edge
    from : stage_at stages edge.from ≡ Some m
    to : stage_at stages edge.to ≡ Some stage
    differs : stage ≡ m → ⊥
    rest : Reach es stages stage a

  first_step : (m a : ℕ) → Reach es stages m a → (a ≡ m → ⊥) → FirstStep m a
  first_step m a (here u) d = absurd (d refl)
  first_step m a (on u k w i e before there joins) d = elim (cases_eq k u) [
    | inl same ↦
        let ends = joins_at stages k w e joins in
        record { stage = w; place = i; edge = e; there = there; from = ends.from ∙ ap Some same; to = ends.to; differs = d; rest = here w }
    | inr other ↦
        let f = first_step u k before other in
        record { stage = f.stage; place = f.place; edge = f.edge; there = f.there; from = f.from; to = f.to; differs = f.differs; rest = on f.stage k w i e f.rest there joins }
  ]

  pub prepend : (m t a i : ℕ) (e : IrEdge) → slice_get es i ≡ Some e → stage_at stages e.from ≡ Some m → stage_at stages e.to ≡ Some t → Reach es stages t a → Reach es stages m a
  prepend m t a i e there from to (here u) = on m m u i e (here m) there (joins_from stages m u e from to)
  prepend m t a i e there from to (on u k w j f before at joins) = on m k w j f (prepend m u k i e there from to before) at joins

---- closing a circle

module _ (dag : IrDag) (stages order : List ℕ) (forward : IsForward dag.edges stages order) (few : count_stages stages ≤ length stages) (v : ℕ) where
  -- an in-edge comes from another stage that can be reached
  pub record Closes (m : ℕ) : Type 0 where
    pub edge : IrEdge
    pub into : In edge (in_edges dag v)
    pub source : ℕ
    pub from : stage_at stages edge.from ≡ Some source
    pub differs : source ≡ m → ⊥
    pub reach : Reach dag.edges stages m source

  pub does_close : (m : ℕ) → would_close dag stages v m ≡ true → Closes m
  does_close m h =
      let s = list_any-some (comes_round dag stages m) (in_edges dag v) h in
      go s.item (at_in (in_edges dag v) s.place s.item s.is) (stage_at stages s.item.from) refl s.passes
    where
      go : (e : IrEdge) → In e (in_edges dag v) → (o : Option ℕ) → stage_at stages e.from ≡ o → passes (λ a. not (a == m) && is_reached dag.edges stages m a) o ≡ true → Closes m
      go e into None from g = cc
      go e into (Some a) from g = record {
        edge = e;
        into = into;
        source = a;
        from = from;
        differs = λ same. absurd (let other = first_so (not (a == m)) (is_reached dag.edges stages m a) g in let one : not (a == m) ≡ false = ap not (eq-eqb a m same) in cc);
        reach = (reach_is dag.edges stages order forward few m a).0 (second_so (not (a == m)) (is_reached dag.edges stages m a) g);
      }

  pub closes_from : (m : ℕ) → Closes m → would_close dag stages v m ≡ true
  closes_from m c =
      any_in (comes_round dag stages m) (in_edges dag v) c.edge c.into
      (ap (passes (λ a. not (a == m) && is_reached dag.edges stages m a)) c.from
      ∙ and_from (not (c.source == m)) (is_reached dag.edges stages m c.source) (ap not (ne_eqb c.source m c.differs)) ((reach_is dag.edges stages order forward few m c.source).1 c.reach))

  pub record FromStage (a : ℕ) : Type 0 where
    pub edge : IrEdge
    pub into : In edge (in_edges dag v)
    pub from : stage_at stages edge.from ≡ Some a

  pub source_edge : (a : ℕ) → is_source dag stages v a ≡ true → FromStage a
  source_edge a h =
      let s = list_any-some (λ e. passes (λ b. b == a) (stage_at stages e.from)) (in_edges dag v) h in
      record { edge = s.item; into = at_in (in_edges dag v) s.place s.item s.is; from = go (stage_at stages s.item.from) s.passes }
    where
      go : (o : Option ℕ) → passes (λ b. b == a) o ≡ true → o ≡ Some a
      go (Some b) g = ap Some (eqb-true b a g)
      go None g = cc

  pub edge_source : (a : ℕ) (e : IrEdge) → In e (in_edges dag v) → stage_at stages e.from ≡ Some a → is_source dag stages v a ≡ true
  edge_source a e into from = any_in (λ f. passes (λ b. b == a) (stage_at stages f.from)) (in_edges dag v) e into (is_stage (stage_at stages e.from) a from)

  -- what a table says of a stage
  marked_is : (f : ℕ → Bool) (t : ℕ) → t < count_stages stages → is_marked (map f (below (count_stages stages))) t ≡ f t
  marked_is f t l = ap (passes (λ b. b)) (below_item f (count_stages stages) t l)

  pub source_marked : (t : ℕ) → t < count_stages stages → is_marked (sources_of dag stages v) t ≡ is_source dag stages v t
  source_marked t l = marked_is (is_source dag stages v) t l

  pub closed_marked : (t : ℕ) → t < count_stages stages → is_marked (closed_to dag stages v) t ≡ would_close dag stages v t
  closed_marked t l = marked_is (would_close dag stages v) t l

  module _ (closed : List Bool) (m : ℕ) (right : (t : ℕ) → t < count_stages stages → place order m < place order t → is_marked closed t ≡ would_close dag stages v t) where
    sources : List Bool
    sources = sources_of dag stages v

    -- an edge leads on to a stage
    onward : (i t : ℕ) (e : IrEdge) → slice_get dag.edges i ≡ Some e → stage_at stages e.from ≡ Some m → stage_at stages e.to ≡ Some t → (t ≡ m → ⊥) → (is_marked (sources_of dag stages v) t || is_marked closed t) ≡ true → Closes m
    onward i t e there from to d h =
        let known : t < count_stages stages = count_above stages e.to t to in
        elim (or_cases (is_marked (sources_of dag stages v) t) (is_marked closed t) h) [
          | inl one ↦
              let s = source_edge t (sym (source_marked t known) ∙ one) in
              record { edge = s.edge; into = s.into; source = t; from = s.from; differs = d; reach = on m m t i e (here m) there (joins_from stages m t e from to) }
          | inr two ↦
              let less = forward.rises i m t e there from to (λ g. d (sym g)) in
              let c = does_close t (sym (right t known less) ∙ two) in
              let way = prepend dag.edges stages m t c.source i e there from to c.reach in
              record {
                edge = c.edge;
                into = c.into;
                source = c.source;
                from = c.from;
                differs = λ g. d (no_circle dag.edges stages order forward t m (subst (λ k. Reach dag.edges stages t k) g c.reach) (on m m t i e (here m) there (joins_from stages m t e from to)));
                reach = way;
              }
        ]

    by_edge : (w : ℕ) (e : IrEdge) → stage_at stages w ≡ Some m → In e (filter (λ f. f.from == w) dag.edges) → (o : Option ℕ) → stage_at stages e.to ≡ o
        → passes (λ t. not (t == m) && (is_marked (sources_of dag stages v) t || is_marked closed t)) o ≡ true → Closes m
    by_edge w e staged into None to h = cc
    by_edge w e staged into (Some t) to h =
        let place = in_at dag.edges e (in_filter (λ f. f.from == w) e dag.edges into) in
        let from : e.from ≡ w = eqb-true e.from w (filter_passes (λ f. f.from == w) e dag.edges into) in
        onward place.place t e place.is (ap (stage_at stages) from ∙ staged) to
        (λ g. absurd (let other = first_so (not (t == m)) (is_marked (sources_of dag stages v) t || is_marked closed t) h in let one : not (t == m) ≡ false = ap not (eq-eqb t m g) in cc))
        (second_so (not (t == m)) (is_marked (sources_of dag stages v) t || is_marked closed t) h)

    closes_if : leads_on dag stages (sources_of dag stages v) closed m (vertices_of stages m) ≡ true → Closes m
    closes_if h =
        let w = list_any-some (λ u. list_any (leads_by stages (sources_of dag stages v) closed m) (filter (λ e. e.from == u) dag.edges)) (vertices_of stages m) h in
        let e = list_any-some (leads_by stages (sources_of dag stages v) closed m) (filter (λ f. f.from == w.item) dag.edges) w.passes in
        by_edge w.item e.item (vertex_in stages m w.item (at_in (vertices_of stages m) w.place w.item w.is)) (at_in (filter (λ f. f.from == w.item) dag.edges) e.place e.item e.is) (stage_at stages e.item.to) refl e.passes

    -- the stage that the first edge reaches is a source, or closes a circle too
    met : (t : ℕ) → t < count_stages stages → place order m < place order t → (c : Closes m) → Reach dag.edges stages t c.source → (is_marked (sources_of dag stages v) t || is_marked closed t) ≡ true
    met t known less c rest = elim (cases_eq c.source t) [
      | inl same ↦ or_left (is_marked (sources_of dag stages v) t) (is_marked closed t) (source_marked t known ∙ edge_source t c.edge c.into (c.from ∙ ap Some same))
      | inr other ↦
          or_right (is_marked (sources_of dag stages v) t) (is_marked closed t)
          (right t known less ∙ closes_from t (record { edge = c.edge; into = c.into; source = c.source; from = c.from; differs = other; reach = rest }))
    ]

    if_closes : Closes m → leads_on dag stages (sources_of dag stages v) closed m (vertices_of stages m) ≡ true
    if_closes c =
        let f = first_step dag.edges stages m c.source c.reach c.differs in
        let known : f.stage < count_stages stages = count_above stages f.edge.to f.stage f.to in
        let less = forward.rises f.place m f.stage f.edge f.there f.from f.to (λ g. f.differs (sym g)) in
        let hit : leads_by stages (sources_of dag stages v) closed m f.edge ≡ true =
        ap (passes (λ t. not (t == m) && (is_marked (sources_of dag stages v) t || is_marked closed t))) f.to
        ∙ and_from (not (f.stage == m)) (is_marked (sources_of dag stages v) f.stage || is_marked closed f.stage) (ap not (ne_eqb f.stage m f.differs)) (met f.stage known less c f.rest) in
        let edges = filter (λ e. e.from == f.edge.from) dag.edges in
        let into : In f.edge edges = filter_in (λ e. e.from == f.edge.from) f.edge dag.edges (at_in dag.edges f.place f.edge f.there) (eq-eqb f.edge.from f.edge.from refl) in
        any_in (λ u. list_any (leads_by stages (sources_of dag stages v) closed m) (filter (λ e. e.from == u) dag.edges)) (vertices_of stages m) f.edge.from (in_vertices stages m f.edge.from f.from)
        (any_in (leads_by stages (sources_of dag stages v) closed m) edges f.edge into hit)

    pub leads_is : leads_on dag stages (sources_of dag stages v) closed m (vertices_of stages m) ≡ would_close dag stages v m
    leads_is =
        same_bool (leads_on dag stages (sources_of dag stages v) closed m (vertices_of stages m)) (would_close dag stages v m) (λ h. closes_from m (closes_if h)) (λ h. if_closes (does_close m h))

  ---- the table, from the end of the order on

  pub no_closed : (table : List Bool) → length table ≡ count_stages stages → IsClosedSoFar dag stages order v table 0
  no_closed table size = record {
    size = size;
    right = λ t l h. let inside : place order t < length order = forward.inside t l in let n : length order ≡ count_stages stages = forward.count in absurd (omega arith);
  }

  pub next_closed : (table : List Bool) (done j m : ℕ) → done < count_stages stages → j + done + 1 ≡ count_stages stages → slice_get order j ≡ Some m → m < count_stages stages → IsClosedSoFar dag stages order v table done
      → (leads : Bool) → leads ≡ leads_on dag stages (sources_of dag stages v) table m (vertices_of stages m) → IsClosedSoFar dag stages order v (set table m leads) (done + 1)
  next_closed table done j m l at_end at known so leads is = record {
    size = length-set table m leads ∙ so.size;
    right = λ t within h. elim (cases_eq t m) [
      | inl same ↦
          let far : count_stages stages ≤ place order m + (done + 1) = subst (λ k. count_stages stages ≤ place order k + (done + 1)) same h in
          let fits : m < length table = (let n : length table ≡ count_stages stages = so.size in omega arith) in
          let now : would_close dag stages v m ≡ leads =
          sym (is ∙ leads_is table m
          (λ u low less.
          let size : length table ≡ count_stages stages = so.size in
          let inside : u < length table = omega arith in
          ap (passes (λ b. b)) (slice_get-get_or table u false inside) ∙ so.right u low (omega arith))) in
          subst (λ k. get_or (set table m leads) k false ≡ would_close dag stages v k) (sym same) (get_or-set_same table m leads false fits ∙ sym now)
      | inr other ↦
          get_or-set_other table m t leads false other
          ∙ so.right t within (elim (cases_eq (place order t) j) [ inl e ↦ absurd (other (sym (same_place order j t m at e))) | inr away ↦ omega arith ])
    ];
  }

  pub all_closed : (table : List Bool) (done : ℕ) → count_stages stages ≤ done → IsClosedSoFar dag stages order v table done → table ≡ closed_to dag stages v
  all_closed table done l so =
      let size : length (closed_to dag stages v) ≡ count_stages stages = long_below (would_close dag stages v) (count_stages stages) in
      ext_get_or false table (closed_to dag stages v) (so.size ∙ sym size)
      (λ k less. let n : length table ≡ count_stages stages = so.size in let within : k < count_stages stages = omega arith in so.right k within (omega arith) ∙ sym (at_below (would_close dag stages v) (count_stages stages) k false within))
