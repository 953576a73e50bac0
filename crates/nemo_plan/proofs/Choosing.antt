-- Where the next vertex goes, as the code finds it.
use Rattle.std.proofs.Common.{arith, ◌≡◌, ◌∙◌, ap, sym, subst, refl, ℕ, ◌+◌, ◌<◌, ◌≤◌, ◌==◌, ◌&&◌, ◌||◌, not, Bool, true, false, cond, List, [], ◌∷◌, ◌++◌, length, length-append, slice_get, Option, Some, None, inl, inr, eq-eqb}
use Rattle.std.proofs.lemmas.Bool.{and_from, cases_Bool, cases_lt, eqb-true, false_from_ne_true, ne_eqb, or_cases, or_left, or_right}
use Rattle.std.proofs.lemmas.Option.{cond_some, slice_get_within}
use Rattle.std.specs.Cmp.{first_so}
use Rattle.nemo_base.specs.Places.{or_else}
use Rattle.nemo_base.specs.declared.annotation.Class.{Class}
use Rattle.nemo_value.proofs.MemberLists.{in_filter, passes as filter_passes}
use Rattle.nemo_ir.specs.Nodes.{edge_at}
use Rattle.nemo_ir.specs.declared.dag.IrDag.{IrDag}
use Rattle.nemo_ir.specs.declared.dag.IrEdge.{IrEdge}
use Rattle.nemo_ir.specs.declared.dag.IrVertex.{IrVertex}
use Rattle.nemo_plan.specs.Making.{IsLast, closed_to, is_marked, is_source, may_join, open_at, open_by, sources_of, stays_behind, would_close}
use Rattle.nemo_plan.specs.Order.{IsForward, parted, place}
use Rattle.nemo_plan.specs.Reach.{Reach, here, on}
use Rattle.nemo_plan.specs.Stages.{count_stages, first_joined, joined_at, source_stage, stage_at, taken_by}
use Rattle.nemo_plan.proofs.Closing.{Closes, closed_marked, closes_from, does_close, edge_source, prepend, source_edge, source_marked}
use Rattle.nemo_plan.proofs.CutSteps.{IsLevel}
use Rattle.nemo_plan.proofs.Joining.{IsJoined, first_of, is_in_edge}
use Rattle.nemo_plan.proofs.Memberships.{in_at}
use Rattle.nemo_plan.proofs.Orders.{both_fail, both_pass, inside_parted, one_passes, outside_parted, parted_count}
use Rattle.nemo_plan.proofs.Prefixes.{count_above, count_joined, push_cases}
use Rattle.nemo_plan.proofs.Reaching.{joins_from, no_circle, reach_is, reach_rises}

---- ports

module _ (dag : IrDag) (stages order : List ℕ) (forward : IsForward dag.edges stages order) (few : count_stages stages ≤ length stages) (v : ℕ) (class : Class) where
  -- with the table of the stages that are closed, a port lets the vertex into the stage that it joins
  pub open_is : (port : ℕ) → open_at dag stages v class (closed_to dag stages v) port ≡ joined_at dag stages v class port
  open_is port = go (edge_at dag.edges v port)
    where
      at : (e : IrEdge) (o : Option ℕ) → stage_at stages e.from ≡ o → open_by dag stages v class (closed_to dag stages v) (Some e) o ≡ taken_by dag stages v class (Some e) o
      at e None from = refl
      at e (Some s) from = ap (λ b. cond (may_join dag stages v class s e && not b) (Some s) None) (closed_marked dag stages order forward few v s (count_above stages e.from s from))

      go : (o : Option IrEdge) → open_by dag stages v class (closed_to dag stages v) o (source_stage stages o) ≡ taken_by dag stages v class o (source_stage stages o)
      go None = refl
      go (Some e) = at e (stage_at stages e.from) refl

  pub first_open_is : (ports : List ℕ) → first_joined (open_at dag stages v class (closed_to dag stages v)) ports ≡ first_joined (joined_at dag stages v class) ports
  first_open_is [] = refl
  first_open_is (p ∷ ps) = ap (λ o. or_else o (first_joined (open_at dag stages v class (closed_to dag stages v)) ps)) (open_is p) ∙ ap (or_else (joined_at dag stages v class p)) (first_open_is ps)

  -- without the table it lets the vertex into this stage, or into none
  none_at : (port : ℕ) → open_at dag stages v class [] port ≡ None → joined_at dag stages v class port ≡ None
  none_at port h = go (edge_at dag.edges v port) h
    where
      at : (e : IrEdge) (o : Option ℕ) → open_by dag stages v class [] (Some e) o ≡ None → taken_by dag stages v class (Some e) o ≡ None
      at e None g = refl
      at e (Some s) g = by (may_join dag stages v class s e) g
        where
          by : (b : Bool) → cond (b && true) (Some s) None ≡ None → cond (b && not (would_close dag stages v s)) (Some s) None ≡ None
          by true k = cc
          by false k = refl

      go : (o : Option IrEdge) → open_by dag stages v class [] o (source_stage stages o) ≡ None → taken_by dag stages v class o (source_stage stages o) ≡ None
      go None g = refl
      go (Some e) g = at e (stage_at stages e.from) g

  some_at : (port s : ℕ) → open_at dag stages v class [] port ≡ Some s → would_close dag stages v s ≡ false → joined_at dag stages v class port ≡ Some s
  some_at port s h free = go (edge_at dag.edges v port) h
    where
      at : (e : IrEdge) (o : Option ℕ) → open_by dag stages v class [] (Some e) o ≡ Some s → taken_by dag stages v class (Some e) o ≡ Some s
      at e None g = cc
      at e (Some t) g =
          let both = cond_some (may_join dag stages v class t e && true) t s g in
          let may : may_join dag stages v class t e ≡ true = first_so (may_join dag stages v class t e) true both.0 in
          let apart : would_close dag stages v t ≡ false = ap (would_close dag stages v) both.1 ∙ free in
          ap (λ b. cond (b && not (would_close dag stages v t)) (Some t) None) may ∙ ap (λ b. cond (not b) (Some t) None) apart ∙ ap Some both.1

      go : (o : Option IrEdge) → open_by dag stages v class [] o (source_stage stages o) ≡ Some s → taken_by dag stages v class o (source_stage stages o) ≡ Some s
      go None g = cc
      go (Some e) g = at e (stage_at stages e.from) g

  pub none_open : (ports : List ℕ) → first_joined (open_at dag stages v class []) ports ≡ None → first_joined (joined_at dag stages v class) ports ≡ None
  none_open [] h = refl
  none_open (p ∷ ps) h = go (open_at dag stages v class [] p) refl h (none_open ps)
    where
      go : (o : Option ℕ) → open_at dag stages v class [] p ≡ o → or_else o (first_joined (open_at dag stages v class []) ps) ≡ None
          → (first_joined (open_at dag stages v class []) ps ≡ None → first_joined (joined_at dag stages v class) ps ≡ None) → or_else (joined_at dag stages v class p) (first_joined (joined_at dag stages v class) ps) ≡ None
      go (Some t) e g more = cc
      go None e g more = ap (λ o. or_else o (first_joined (joined_at dag stages v class) ps)) (none_at p e) ∙ more g

  pub some_open : (ports : List ℕ) (s : ℕ) → first_joined (open_at dag stages v class []) ports ≡ Some s → would_close dag stages v s ≡ false → first_joined (joined_at dag stages v class) ports ≡ Some s
  some_open [] s h free = cc
  some_open (p ∷ ps) s h free = go (open_at dag stages v class [] p) refl h (λ g. some_open ps s g free)
    where
      go : (o : Option ℕ) → open_at dag stages v class [] p ≡ o → or_else o (first_joined (open_at dag stages v class []) ps) ≡ Some s
          → (first_joined (open_at dag stages v class []) ps ≡ Some s → first_joined (joined_at dag stages v class) ps ≡ Some s) → or_else (joined_at dag stages v class p) (first_joined (joined_at dag stages v class) ps) ≡ Some s
      go (Some t) e g more = ap (λ o. or_else o (first_joined (joined_at dag stages v class) ps)) (some_at p s (e ∙ g) free)
      go None e g more = ap (λ o. or_else o (first_joined (joined_at dag stages v class) ps)) (none_at p e) ∙ more g

---- the order

module _ (dag : IrDag) (stages order : List ℕ) (level : IsLevel dag) (forward : IsForward dag.edges stages order) (few : count_stages stages ≤ length stages) (s : ℕ) (known : s < count_stages stages) where
  -- an order in which the old edges and those into the stage go forward
  joins_forward : (turned : List ℕ) → length turned ≡ length order → ((a : ℕ) → place order a < length order → place turned a < length turned) → ((a : ℕ) → place order a ≡ length order → place turned a ≡ length turned)
      → ((i a b : ℕ) (e : IrEdge) → slice_get dag.edges i ≡ Some e → stage_at stages e.from ≡ Some a → stage_at stages e.to ≡ Some b → (a ≡ b → ⊥) → place turned a < place turned b)
      → ((a : ℕ) → a < count_stages stages → is_source dag stages (length stages) a ≡ true → (a ≡ s → ⊥) → place turned a < place turned s) → IsForward dag.edges (stages ++ s ∷ []) turned
  joins_forward turned size inside outside old new =
      let same : count_stages (stages ++ s ∷ []) ≡ count_stages stages = count_joined stages s known in
      record {
        count = size ∙ forward.count ∙ sym same;
        inside = λ a l. inside a (forward.inside a (subst (λ n. a < n) same l));
        outside = λ a l. outside a (forward.outside a (subst (λ n. n ≤ a) same l));
        rises = λ i a b e there from to d. elim (push_cases stages s e.from a from) [
          | inl here_from ↦ elim (push_cases stages s e.to b to) [
            | inl here_to ↦ old i a b e there here_from here_to d
            | inr to_new ↦
                subst (λ k. place turned a < place turned k) to_new.1
                (new a (count_above stages e.from a here_from) (edge_source dag stages order forward few (length stages) a e (is_in_edge dag (length stages) i e there to_new.0) here_from) (λ g. d (g ∙ to_new.1)))
          ]
          | inr from_new ↦ absurd (
              let rise : e.from < e.to = level.rises i e there in
              let within : e.to < length (stages ++ s ∷ []) = slice_get_within (stages ++ s ∷ []) e.to b to in
              let sum : length (stages ++ s ∷ []) ≡ length stages + 1 = length-append stages (s ∷ []) in
              let at : e.from ≡ length stages = from_new.0 in
              omega arith)
        ];
      }

  -- where no other source stands behind the stage, it closes no circle, and the order stays
  module _ (last : IsLast order (sources_of dag stages (length stages)) s) where
    before : (a : ℕ) → a < count_stages stages → is_source dag stages (length stages) a ≡ true → (a ≡ s → ⊥) → place order a < place order s
    before a low is d =
        let inside : place order a < length order = forward.inside a low in
        elim (cases_lt (place order a) (place order s)) [
          | inl near ↦ near
          | inr far ↦ (let out : length order ≤ place order a = last a (source_marked dag stages order forward few (length stages) a low ∙ is) d far in absurd (omega arith))
        ]

    pub last_free : would_close dag stages (length stages) s ≡ false
    last_free = false_from_ne_true (would_close dag stages (length stages) s) (λ h.
        let c = does_close dag stages order forward few (length stages) s h in
        let low : c.source < count_stages stages = count_above stages c.edge.from c.source c.from in
        let near : place order c.source < place order s = before c.source low (edge_source dag stages order forward few (length stages) c.source c.edge c.into c.from) c.differs in
        let far : place order s ≤ place order c.source = reach_rises dag.edges stages order forward s c.source c.reach in
        absurd (omega arith))

    pub last_forward : IsForward dag.edges (stages ++ s ∷ []) order
    last_forward = joins_forward order refl (λ a l. l) (λ a l. l) (λ i a b e there from to d. forward.rises i a b e there from to d) before

  -- where the stage closes no circle, those go first that lead to the vertex from elsewhere
  module _ (free : would_close dag stages (length stages) s ≡ false) where
    abbrev behind : ℕ → Bool
    behind m = stays_behind (sources_of dag stages (length stages)) (closed_to dag stages (length stages)) s m

    behind_is : (m : ℕ) → m < count_stages stages → stays_behind (sources_of dag stages (length stages)) (closed_to dag stages (length stages)) s m ≡ not ((is_source dag stages (length stages) m && not (m == s)) || would_close dag stages (length stages) m)
    behind_is m low =
        ap (λ b. not ((b && not (m == s)) || is_marked (closed_to dag stages (length stages)) m)) (source_marked dag stages order forward few (length stages) m low)
        ∙ ap (λ b. not ((is_source dag stages (length stages) m && not (m == s)) || b)) (closed_marked dag stages order forward few (length stages) m low)

    goes_first : (m : ℕ) → m < count_stages stages → ((is_source dag stages (length stages) m && not (m == s)) || would_close dag stages (length stages) m) ≡ true → behind m ≡ false
    goes_first m low h = behind_is m low ∙ ap not h

    closing_first : (m : ℕ) → m < count_stages stages → would_close dag stages (length stages) m ≡ true → behind m ≡ false
    closing_first m low h = goes_first m low (or_right (is_source dag stages (length stages) m && not (m == s)) (would_close dag stages (length stages) m) h)

    source_first : (m : ℕ) → m < count_stages stages → is_source dag stages (length stages) m ≡ true → (m ≡ s → ⊥) → behind m ≡ false
    source_first m low h d =
        goes_first m low
        (or_left (is_source dag stages (length stages) m && not (m == s)) (would_close dag stages (length stages) m)
        (and_from (is_source dag stages (length stages) m) (not (m == s)) h (ap not (ne_eqb m s d))))

    itself : behind s ≡ true
    itself =
        behind_is s known
        ∙ ap (λ b. not ((is_source dag stages (length stages) s && not b) || would_close dag stages (length stages) s)) (eq-eqb s s refl)
        ∙ ap (λ b. not ((is_source dag stages (length stages) s && false) || b)) free ∙ none (is_source dag stages (length stages) s)
      where
        none : (b : Bool) → not ((b && false) || false) ≡ true
        none true = refl
        none false = refl

    -- what leads to a stage that goes first does so too
    also_first : (i a b : ℕ) (e : IrEdge) → slice_get dag.edges i ≡ Some e → stage_at stages e.from ≡ Some a → stage_at stages e.to ≡ Some b → (a ≡ b → ⊥) → behind b ≡ false → behind a ≡ false
    also_first i a b e there from to d h =
        let low : a < count_stages stages = count_above stages e.from a from in
        let high : b < count_stages stages = count_above stages e.to b to in
        let step : Reach dag.edges stages a b = on a a b i e (here a) there (joins_from stages a b e from to) in
        closing_first a low (closes_from dag stages order forward few (length stages) a
        (elim (or_cases (is_source dag stages (length stages) b && not (b == s)) (would_close dag stages (length stages) b) (is_yes _ (sym (behind_is b high) ∙ h))) [
          | inl source ↦ by_source b (first_so (is_source dag stages (length stages) b) (not (b == s)) source) d step
          | inr closes ↦ (
              let c = does_close dag stages order forward few (length stages) b closes in
              record {
                edge = c.edge;
                into = c.into;
                source = c.source;
                from = c.from;
                differs = λ g. d (no_circle dag.edges stages order forward a b step (subst (λ k. Reach dag.edges stages b k) g c.reach));
                reach = prepend dag.edges stages a b c.source i e there from to c.reach;
              })
        ]))
      where
        is_yes : (x : Bool) → not x ≡ false → x ≡ true
        is_yes true g = refl
        is_yes false g = cc

        by_source : (t : ℕ) → is_source dag stages (length stages) t ≡ true → (a ≡ t → ⊥) → Reach dag.edges stages a t → Closes dag stages order forward few (length stages) a
        by_source t is differs way =
            let f = source_edge dag stages order forward few (length stages) t is in
            record { edge = f.edge; into = f.into; source = t; from = f.from; differs = λ g. differs (sym g); reach = way }

    old_turned : (i a b : ℕ) (e : IrEdge) → slice_get dag.edges i ≡ Some e → stage_at stages e.from ≡ Some a → stage_at stages e.to ≡ Some b → (a ≡ b → ⊥) → place (parted behind order) a < place (parted behind order) b
    old_turned i a b e there from to d =
        let less = forward.rises i a b e there from to d in
        let one = forward.inside a (count_above stages e.from a from) in
        let two = forward.inside b (count_above stages e.to b to) in
        elim (cases_Bool (behind b)) [
          | inl later ↦ elim (cases_Bool (behind a)) [ inl stays ↦ both_pass behind order a b stays later less | inr goes ↦ one_passes behind order a b goes later one ]
          | inr first ↦ both_fail behind order a b (also_first i a b e there from to d first) first one two less
        ]

    pub turned_forward : IsForward dag.edges (stages ++ s ∷ []) (parted behind order)
    turned_forward =
        joins_forward (parted behind order) (parted_count behind order) (inside_parted behind order) (outside_parted behind order) old_turned
        (λ a low is d. one_passes behind order a s (source_first a low is d) itself (forward.inside a low))

---- the choice

-- the stage that a vertex joins is there, and closes no circle
module _ (dag : IrDag) (stages order : List ℕ) (forward : IsForward dag.edges stages order) (few : count_stages stages ≤ length stages) (u : IrVertex) (s : ℕ) (ports : List ℕ)
    (joins : first_joined (joined_at dag stages (length stages) u.class) ports ≡ Some s) where
  joined_there : IsJoined dag stages (length stages) u s
  joined_there = first_of dag stages (length stages) u s ports joins

  pub joined_known : s < count_stages stages
  joined_known = let j = joined_there in count_above stages j.edge.from s j.from

  pub joined_free : would_close dag stages (length stages) s ≡ false
  joined_free = false_from_ne_true (would_close dag stages (length stages) s) (λ h.
      let c = does_close dag stages order forward few (length stages) s h in
      let j = joined_there in
      let at = in_at dag.edges c.edge (in_filter (λ e. e.to == length stages) c.edge dag.edges c.into) in
      let to : c.edge.to ≡ length stages = eqb-true c.edge.to (length stages) (filter_passes (λ e. e.to == length stages) c.edge dag.edges c.into) in
      let none = j.no_round at.place c.source c.edge at.is to c.from c.differs in
      let yes_reached = (reach_is dag.edges stages order forward few s c.source).1 c.reach in
      absurd cc)

-- a vertex that may join a stage has an edge from it
pub open_known : (dag : IrDag) (stages : List ℕ) (v : ℕ) (class : Class) (closed : List Bool) (ports : List ℕ) (s : ℕ) → first_joined (open_at dag stages v class closed) ports ≡ Some s → s < count_stages stages
open_known dag stages v class closed [] s h = cc
open_known dag stages v class closed (p ∷ ps) s h = go (open_at dag stages v class closed p) refl h (open_known dag stages v class closed ps s)
  where
    at : (e : IrEdge) (o : Option ℕ) → stage_at stages e.from ≡ o → open_by dag stages v class closed (Some e) o ≡ Some s → s < count_stages stages
    at e None from g = cc
    at e (Some t) from g =
        let both = cond_some (may_join dag stages v class t e && not (is_marked closed t)) t s g in
        count_above stages e.from s (from ∙ ap Some both.1)

    by : (o : Option IrEdge) → open_by dag stages v class closed o (source_stage stages o) ≡ Some s → s < count_stages stages
    by None g = cc
    by (Some e) g = at e (stage_at stages e.from) refl g

    go : (o : Option ℕ) → open_at dag stages v class closed p ≡ o → or_else o (first_joined (open_at dag stages v class closed) ps) ≡ Some s → (first_joined (open_at dag stages v class closed) ps ≡ Some s → s < count_stages stages) → s < count_stages stages
    go (Some t) e g more = by (edge_at dag.edges v p) (e ∙ g)
    go None e g more = more g
