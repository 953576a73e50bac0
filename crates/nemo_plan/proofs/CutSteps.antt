-- What the stages made so far keep, as one vertex more joins a stage or begins one.
use Rattle.std.proofs.Common.{arith, ◌≡◌, ◌∙◌, ap, sym, subst, refl, ℕ, suc, ◌+◌, ◌<◌, ◌≤◌, Bool, true, cond, List, [], ◌∷◌, ◌++◌, length, length-append, slice_get, Some, inl, inr, eq-eqb}
use Rattle.std.proofs.lemmas.Bool.{cases_Bool, cases_lt, ne_eqb}
use Rattle.std.proofs.lemmas.Option.{slice_get_within}
use Rattle.nemo_base.specs.declared.annotation.Pattern.TheVariants.{OneToOne}
use Rattle.nemo_ir.specs.declared.dag.IrDag.{IrDag}
use Rattle.nemo_ir.specs.declared.dag.IrEdge.{IrEdge}
use Rattle.nemo_ir.specs.declared.dag.IrVertex.{IrVertex}
use Rattle.nemo_plan.specs.Reach.{here, on}
use Rattle.nemo_plan.specs.Stages.{count_stages, is_reached, stage_at}
use Rattle.nemo_ir.proofs.Places.{same_item}
use Rattle.nemo_plan.proofs.Joining.{IsJoined, IsNarrow}
use Rattle.nemo_plan.proofs.Memberships.{StandsAt}
use Rattle.nemo_plan.proofs.Orders.{both_fail, both_pass, inside_parted, one_passes, outside_parted, parted, parted_count, place, place_first, place_second}
use Rattle.nemo_plan.proofs.Prefixes.{count_above, count_begun, count_joined, push_cases, push_new, push_old}
use Rattle.nemo_plan.proofs.Reaching.{IsForward, joins_from, reach_is}

-- what two vertices of a stage have in common
pub record IsAlike (u x : IrVertex) : Type 0 where
  pub class : u.class ≡ x.class
  pub parallelism : u.parallelism ≡ x.parallelism

-- what is used of a valid DAG
pub record IsLevel (dag : IrDag) : Type 0 where
  pub rises : (i : ℕ) (e : IrEdge) → slice_get dag.edges i ≡ Some e → e.from < e.to
  pub level : (i : ℕ) (e : IrEdge) (u w : IrVertex) → slice_get dag.edges i ≡ Some e → slice_get dag.vertices e.to ≡ Some u → slice_get dag.vertices e.from ≡ Some w → e.pattern ≡ OneToOne → w.parallelism ≡ u.parallelism

pub record IsCutSoFar (dag : IrDag) (stages : List ℕ) : Type 0 where
  pub order : List ℕ
  pub forward : IsForward dag.edges stages order
  pub few : count_stages stages ≤ length stages
  pub filled : (s : ℕ) → s < count_stages stages → StandsAt stages s
  pub alike : (v w s : ℕ) (u x : IrVertex) → slice_get dag.vertices v ≡ Some u → slice_get dag.vertices w ≡ Some x → stage_at stages v ≡ Some s → stage_at stages w ≡ Some s → IsAlike u x
  pub narrow : (i s : ℕ) (e : IrEdge) → slice_get dag.edges i ≡ Some e → stage_at stages e.from ≡ Some s → stage_at stages e.to ≡ Some s → IsNarrow e

pub none_so_far : (dag : IrDag) → IsCutSoFar dag []
none_so_far dag = record {
  order = [];
  forward = record { count = refl; inside = λ s l. absurd (omega arith); outside = λ s l. refl; rises = λ i s t e there from to d. cc };
  few = omega arith;
  filled = λ s l. absurd (omega arith);
  alike = λ v w s u x at_v at_w in_v in_w. cc;
  narrow = λ i s e there from to. cc;
}

turned : {u x : IrVertex} → IsAlike u x → IsAlike x u
turned a = record { class = sym a.class; parallelism = sym a.parallelism }

module _ (dag : IrDag) (stages : List ℕ) (level : IsLevel dag) (so : IsCutSoFar dag stages) (u : IrVertex) (next : slice_get dag.vertices (length stages) ≡ Some u) where
  next_is : (v : ℕ) (x : IrVertex) → v ≡ length stages → slice_get dag.vertices v ≡ Some x → u ≡ x
  next_is v x e at_v = same_item u x (sym next ∙ ap (slice_get dag.vertices) (sym e) ∙ at_v)

  -- no edge leads from the new vertex to one that has a stage
  leads_on : (s t i : ℕ) (e : IrEdge) → slice_get dag.edges i ≡ Some e → e.from ≡ length stages → stage_at (stages ++ s ∷ []) e.to ≡ Some t → ⊥
  leads_on s t i e there from to =
      let rise : e.from < e.to = level.rises i e there in
      let inside : e.to < length (stages ++ s ∷ []) = slice_get_within (stages ++ s ∷ []) e.to t to in
      let size : length (stages ++ s ∷ []) ≡ length stages + 1 = length-append stages (s ∷ []) in
      absurd (omega arith)

  longer : (s : ℕ) → suc (length stages) ≡ length (stages ++ s ∷ [])
  longer s = let size : length (stages ++ s ∷ []) ≡ length stages + 1 = length-append stages (s ∷ []) in omega arith

  ---- it joins stage s

  module _ (s : ℕ) (joined : IsJoined dag stages (length stages) u s) where
    abbrev more : List ℕ
    more = stages ++ s ∷ []

    abbrev reached : ℕ → Bool
    reached a = is_reached dag.edges stages s a

    known : s < count_stages stages
    known = count_above stages joined.edge.from s joined.from

    same_count : count_stages more ≡ count_stages stages
    same_count = count_joined stages s known

    within : (a v : ℕ) → stage_at stages v ≡ Some a → place so.order a < length so.order
    within a v e = so.forward.inside a (count_above stages v a e)

    reaches : (a b i : ℕ) (e : IrEdge) → slice_get dag.edges i ≡ Some e → stage_at stages e.from ≡ Some a → stage_at stages e.to ≡ Some b → reached a ≡ true → reached b ≡ true
    reaches a b i e there from to h =
        let is = reach_is dag.edges stages so.order so.forward so.few in
        (is s b).1 (on s a b i e ((is s a).0 h) there (joins_from stages a b e from to))

    itself : reached s ≡ true
    itself = (reach_is dag.edges stages so.order so.forward so.few s s).1 (here s)

    old_rises : (a b i : ℕ) (e : IrEdge) → slice_get dag.edges i ≡ Some e → stage_at stages e.from ≡ Some a → stage_at stages e.to ≡ Some b → (a ≡ b → ⊥) → place (parted reached so.order) a < place (parted reached so.order) b
    old_rises a b i e there from to d =
        let less = so.forward.rises i a b e there from to d in
        elim (cases_Bool (reached a)) [
          | inl one ↦ both_pass reached so.order a b one (reaches a b i e there from to one) less
          | inr none ↦ elim (cases_Bool (reached b)) [
            | inl two ↦ one_passes reached so.order a b none two (within a e.from from)
            | inr neither ↦ both_fail reached so.order a b none neither (within a e.from from) (within b e.to to) less
          ]
        ]

    new_rises : (a b i : ℕ) (e : IrEdge) → slice_get dag.edges i ≡ Some e → stage_at stages e.from ≡ Some a → e.to ≡ length stages → s ≡ b → (a ≡ b → ⊥) → place (parted reached so.order) a < place (parted reached so.order) b
    new_rises a b i e there from to same d =
        one_passes reached so.order a b (joined.no_round i a e there to from (λ g. d (g ∙ same))) (subst (λ k. reached k ≡ true) same itself) (within a e.from from)

    more_rises : (i a b : ℕ) (e : IrEdge) → slice_get dag.edges i ≡ Some e → stage_at more e.from ≡ Some a → stage_at more e.to ≡ Some b → (a ≡ b → ⊥) → place (parted reached so.order) a < place (parted reached so.order) b
    more_rises i a b e there from to d = elim (push_cases stages s e.from a from) [
      | inl old ↦ elim (push_cases stages s e.to b to) [ inl older ↦ old_rises a b i e there old older d | inr new ↦ new_rises a b i e there old new.0 new.1 d ]
      | inr new ↦ absurd (leads_on s b i e there new.0 to)
    ]

    more_forward : IsForward dag.edges more (parted reached so.order)
    more_forward = record {
      count = parted_count reached so.order ∙ so.forward.count ∙ sym same_count;
      inside = λ a l. inside_parted reached so.order a (so.forward.inside a (subst (λ n. a < n) same_count l));
      outside = λ a l. outside_parted reached so.order a (so.forward.outside a (subst (λ n. n ≤ a) same_count l));
      rises = more_rises;
    }

    -- a vertex of the stage is like the new one
    like : (w : ℕ) (x : IrVertex) → slice_get dag.vertices w ≡ Some x → stage_at stages w ≡ Some s → IsAlike x u
    like w x at_w in_w =
        let source = so.alike w joined.edge.from s x joined.source at_w joined.source_at in_w joined.from in
        let to = ap (slice_get dag.vertices) joined.to ∙ next in
        record {
          class = source.class ∙ joined.class;
          parallelism = source.parallelism ∙ level.level joined.place joined.edge u joined.source joined.there to joined.source_at joined.narrow.pattern;
        }

    more_alike : (v w t : ℕ) (y x : IrVertex) → slice_get dag.vertices v ≡ Some y → slice_get dag.vertices w ≡ Some x → stage_at more v ≡ Some t → stage_at more w ≡ Some t → IsAlike y x
    more_alike v w t y x at_v at_w in_v in_w = elim (push_cases stages s v t in_v) [
      | inl old ↦ elim (push_cases stages s w t in_w) [
        | inl older ↦ so.alike v w t y x at_v at_w old older
        | inr new ↦ subst (IsAlike y) (next_is w x new.0 at_w) (like v y at_v (old ∙ ap Some (sym new.1)))
      ]
      | inr new ↦ elim (push_cases stages s w t in_w) [
        | inl older ↦ subst (λ z. IsAlike z x) (next_is v y new.0 at_v) (turned (like w x at_w (older ∙ ap Some (sym new.1))))
        | inr newer ↦ subst (λ z. IsAlike z x) (next_is v y new.0 at_v) (subst (IsAlike u) (next_is w x newer.0 at_w) (record { class = refl; parallelism = refl }))
      ]
    ]

    more_narrow : (i t : ℕ) (e : IrEdge) → slice_get dag.edges i ≡ Some e → stage_at more e.from ≡ Some t → stage_at more e.to ≡ Some t → IsNarrow e
    more_narrow i t e there from to = elim (push_cases stages s e.from t from) [
      | inl old ↦ elim (push_cases stages s e.to t to) [ inl older ↦ so.narrow i t e there old older | inr new ↦ joined.goes_on i e there new.0 (old ∙ ap Some (sym new.1)) ]
      | inr new ↦ absurd (leads_on s t i e there new.0 to)
    ]

    pub join_step : IsCutSoFar dag more
    join_step =
        let up : suc (length stages) ≡ length more = longer s in
        let few : count_stages stages ≤ length stages = so.few in
        let size : count_stages more ≡ count_stages stages = same_count in
        record {
          order = parted reached so.order;
          forward = more_forward;
          few = omega arith;
          filled = λ t l. let f = so.filled t (subst (λ n. t < n) same_count l) in record { place = f.place; is = push_old stages s f.place t f.is };
          alike = more_alike;
          narrow = more_narrow;
        }

  ---- it begins a stage

  abbrev count : ℕ
  count = count_stages stages

  abbrev begun : List ℕ
  begun = stages ++ count ∷ []

  abbrev last : List ℕ
  last = so.order ++ count ∷ []

  last_size : length last ≡ suc (length so.order)
  last_size = let size : length last ≡ length so.order + 1 = length-append so.order (count ∷ []) in omega arith

  last_inside : (a : ℕ) → a < count → place last a ≡ place so.order a
  last_inside a l = place_first so.order (count ∷ []) a (so.forward.inside a l)

  last_one : place last count ≡ length so.order
  last_one =
      let at : place last count ≡ length so.order + place (count ∷ []) count = place_second so.order (count ∷ []) count (so.forward.outside count (omega arith)) in
      let first : place (count ∷ []) count ≡ 0 = ap (λ b. cond b 0 1) (eq-eqb count count refl) in
      omega arith

  last_outside : (a : ℕ) → suc count ≤ a → place last a ≡ length last
  last_outside a l =
      let at : place last a ≡ length so.order + place (count ∷ []) a = place_second so.order (count ∷ []) a (so.forward.outside a (omega arith)) in
      let differs : count ≡ a → ⊥ = λ e. absurd (omega arith) in
      let past : place (count ∷ []) a ≡ 1 = ap (λ b. cond b 0 1) (ne_eqb count a differs) in
      let size : length last ≡ suc (length so.order) = last_size in
      omega arith

  last_inner : (a : ℕ) → a < suc count → place last a < length last
  last_inner a l = elim (cases_lt a count) [
    | inl less ↦
        let at : place last a ≡ place so.order a = last_inside a less in
        let in_order : place so.order a < length so.order = so.forward.inside a less in
        let size : length last ≡ suc (length so.order) = last_size in
        omega arith
    | inr over ↦
        let same : count ≡ a = omega arith in
        let at : place last a ≡ length so.order = subst (λ k. place last k ≡ length so.order) same last_one in
        let size : length last ≡ suc (length so.order) = last_size in
        omega arith
  ]

  old_last : (a b i : ℕ) (e : IrEdge) → slice_get dag.edges i ≡ Some e → stage_at stages e.from ≡ Some a → stage_at stages e.to ≡ Some b → (a ≡ b → ⊥) → place last a < place last b
  old_last a b i e there from to d =
      let one : place last a ≡ place so.order a = last_inside a (count_above stages e.from a from) in
      let two : place last b ≡ place so.order b = last_inside b (count_above stages e.to b to) in
      let less : place so.order a < place so.order b = so.forward.rises i a b e there from to d in
      omega arith

  new_last : (a b v : ℕ) → stage_at stages v ≡ Some a → count ≡ b → place last a < place last b
  new_last a b v from same =
      let low : a < count = count_above stages v a from in
      let one : place last a ≡ place so.order a = last_inside a low in
      let inside : place so.order a < length so.order = so.forward.inside a low in
      let two : place last b ≡ length so.order = subst (λ k. place last k ≡ length so.order) same last_one in
      omega arith

  last_rises : (i a b : ℕ) (e : IrEdge) → slice_get dag.edges i ≡ Some e → stage_at begun e.from ≡ Some a → stage_at begun e.to ≡ Some b → (a ≡ b → ⊥) → place last a < place last b
  last_rises i a b e there from to d = elim (push_cases stages count e.from a from) [
    | inl old ↦ elim (push_cases stages count e.to b to) [ inl older ↦ old_last a b i e there old older d | inr new ↦ new_last a b e.from old new.1 ]
    | inr new ↦ absurd (leads_on count b i e there new.0 to)
  ]

  -- no vertex had this stage
  none_yet : (v t : ℕ) → stage_at stages v ≡ Some t → count ≡ t → ⊥
  none_yet v t e same = let low : t < count = count_above stages v t e in absurd (omega arith)

  begun_alike : (v w t : ℕ) (y x : IrVertex) → slice_get dag.vertices v ≡ Some y → slice_get dag.vertices w ≡ Some x → stage_at begun v ≡ Some t → stage_at begun w ≡ Some t → IsAlike y x
  begun_alike v w t y x at_v at_w in_v in_w = elim (push_cases stages count v t in_v) [
    | inl old ↦ elim (push_cases stages count w t in_w) [ inl older ↦ so.alike v w t y x at_v at_w old older | inr new ↦ absurd (none_yet v t old new.1) ]
    | inr new ↦ elim (push_cases stages count w t in_w) [
      | inl older ↦ absurd (none_yet w t older new.1)
      | inr newer ↦ subst (λ z. IsAlike z x) (next_is v y new.0 at_v) (subst (IsAlike u) (next_is w x newer.0 at_w) (record { class = refl; parallelism = refl }))
    ]
  ]

  begun_narrow : (i t : ℕ) (e : IrEdge) → slice_get dag.edges i ≡ Some e → stage_at begun e.from ≡ Some t → stage_at begun e.to ≡ Some t → IsNarrow e
  begun_narrow i t e there from to = elim (push_cases stages count e.from t from) [
    | inl old ↦ elim (push_cases stages count e.to t to) [ inl older ↦ so.narrow i t e there old older | inr new ↦ absurd (none_yet e.from t old new.1) ]
    | inr new ↦ absurd (leads_on count t i e there new.0 to)
  ]

  begun_filled : (t : ℕ) → t < suc count → StandsAt begun t
  begun_filled t l = elim (cases_lt t count) [
    | inl less ↦ let f = so.filled t less in record { place = f.place; is = push_old stages count f.place t f.is }
    | inr over ↦ let same : count ≡ t = omega arith in record { place = length stages; is = push_new stages count ∙ ap Some same }
  ]

  pub begin_forward : IsForward dag.edges (stages ++ count_stages stages ∷ []) (so.order ++ count_stages stages ∷ [])
  begin_forward =
      let size : count_stages begun ≡ suc count = count_begun stages in
      record {
        count = last_size ∙ ap suc so.forward.count ∙ sym size;
        inside = λ a l. last_inner a (subst (λ n. a < n) size l);
        outside = λ a l. last_outside a (subst (λ n. n ≤ a) size l);
        rises = last_rises;
      }

  pub begin_step : IsCutSoFar dag begun
  begin_step =
      let up : suc (length stages) ≡ length begun = longer count in
      let few : count_stages stages ≤ length stages = so.few in
      let size : count_stages begun ≡ suc count = count_begun stages in
      record {
        order = last;
        forward = begin_forward;
        few = omega arith;
        filled = λ t l. begun_filled t (subst (λ n. t < n) size l);
        alike = begun_alike;
        narrow = begun_narrow;
      }
