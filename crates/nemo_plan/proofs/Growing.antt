-- The stages made so far, with one vertex more.
use Rattle.std.proofs.Common.{arith, ◌≡◌, ◌∙◌, ap, sym, subst, refl, ℕ, zero, suc, ◌+◌, ◌<◌, ◌≤◌, ◌==◌, ◌≢◌, Bool, false, cond, List, [], ◌∷◌, ◌++◌, append-nil, drop, filter, length, length-append, map, slice_get, Option, Some, None, inl, inr, eq-eqb}
use Rattle.std.proofs.lemmas.Bool.{ne_eqb}
use Rattle.std.proofs.lemmas.List.{drop_all, map-append}
use Rattle.std.proofs.lemmas.List.Elements.{filter-append}
use Rattle.std.proofs.lemmas.Option.{slice_get_within}
use Rattle.nemo_value.specs.Members.{In}
use Rattle.nemo_ir.specs.Along.{along, below, counted, passes}
use Rattle.nemo_ir.specs.Flat.{FlatForm}
use Rattle.nemo_ir.specs.Index.{changed}
use Rattle.nemo_ir.specs.Valid.{Valid}
use Rattle.nemo_ir.specs.declared.dag.IrDag.{IrDag}
use Rattle.nemo_ir.specs.declared.dag.IrEdge.{IrEdge}
use Rattle.nemo_ir.specs.declared.dag.IrVertex.{IrVertex}
use Rattle.nemo_plan.specs.Graph.{vertices_of}
use Rattle.nemo_plan.specs.Making.{IsChoice, IsMaking, IsPut, grown, joined_by_next}
use Rattle.nemo_plan.specs.Order.{IsForward}
use Rattle.nemo_plan.specs.Stages.{count_stages, or_new, stage_at, stage_step, stages_of}
use Rattle.nemo_plan.specs.declared.cut.Making.{Making}
use Rattle.nemo_plan.specs.declared.joins.Choice.{Choice}
use Rattle.nemo_plan.specs.declared.joins.Choice.TheVariants.{Begins, Joins, Turns}
use Rattle.nemo_ir.proofs.Places.{got}
use Rattle.nemo_ir.proofs.Tables.{changed_at, long_below}
use Rattle.nemo_plan.proofs.Choosing.{joined_known}
use Rattle.nemo_plan.proofs.CutLaws.{level_dag, next_stage}
use Rattle.nemo_plan.proofs.CutSteps.{IsCutSoFar, begin_forward, none_so_far}
use Rattle.nemo_plan.proofs.Lists.{filter-none}
use Rattle.nemo_plan.proofs.Memberships.{in_below, map_same}
use Rattle.nemo_plan.proofs.Prefixes.{count_above, count_begun, count_joined, push_new, push_old}

---- the vertices of a stage

counted_more : (k n : ℕ) → counted k (suc n) ≡ counted k n ++ (k + n) ∷ []
counted_more k zero = let e : k ≡ k + 0 = omega arith in ap (λ m. m ∷ []) e
counted_more k (suc n) = let e : suc k + n ≡ k + suc n = omega arith in ap (λ l. k ∷ l) (counted_more (suc k) n) ∙ ap (λ m. k ∷ counted (suc k) n ++ m ∷ []) e

pub below_more : (n : ℕ) → below (suc n) ≡ below n ++ n ∷ []
below_more n = let e : 0 + n ≡ n = omega arith in counted_more 0 n ∙ ap (λ m. below n ++ m ∷ []) e

filter_same : (p q : ℕ → Bool) (xs : List ℕ) → ((x : ℕ) → In x xs → p x ≡ q x) → filter p xs ≡ filter q xs
filter_same p q [] same = refl
filter_same p q (x ∷ xs) same = ap (λ b. cond b (x ∷ filter p xs) (filter p xs)) (same x (inl refl)) ∙ ap (λ r. cond (q x) (x ∷ r) r) (filter_same p q xs (λ y m. same y (inr m)))

module _ (stages : List ℕ) (s : ℕ) where
  abbrev is_of : ℕ → ℕ → Bool
  is_of t v = passes (λ a. a == t) (stage_at (stages ++ s ∷ []) v)

  abbrev was_of : ℕ → ℕ → Bool
  was_of t v = passes (λ a. a == t) (stage_at stages v)

  longer : length (stages ++ s ∷ []) ≡ suc (length stages)
  longer = let sum : length (stages ++ s ∷ []) ≡ length stages + 1 = length-append stages (s ∷ []) in omega arith

  pub vertices_more : (t : ℕ) → vertices_of (stages ++ s ∷ []) t ≡ vertices_of stages t ++ filter (λ v. passes (λ a. a == t) (Some s)) (length stages ∷ [])
  vertices_more t =
      ap (λ n. filter (is_of t) (below n)) longer
      ∙ ap (filter (is_of t)) (below_more (length stages))
      ∙ filter-append (is_of t) (below (length stages)) (length stages ∷ [])
      ∙ ap (λ l. l ++ filter (is_of t) (length stages ∷ []))
      (filter_same (is_of t) (was_of t) (below (length stages))
      (λ v m. let g = got stages v (in_below (length stages) v m) in ap (passes (λ a. a == t)) (push_old stages s v g.0 g.1 ∙ sym g.1)))
      ∙ ap (λ o. vertices_of stages t ++ cond (passes (λ a. a == t) o) (length stages ∷ []) []) (push_new stages s)

  pub others_stay : (t : ℕ) → t ≢ s → vertices_of stages t ≡ vertices_of (stages ++ s ∷ []) t
  others_stay t d = sym (vertices_more t ∙ ap (λ b. vertices_of stages t ++ cond b (length stages ∷ []) []) (ne_eqb s t (λ g. d (sym g))) ∙ append-nil (vertices_of stages t))

  pub one_grows : vertices_of (stages ++ s ∷ []) s ≡ vertices_of stages s ++ length stages ∷ []
  one_grows = vertices_more s ∙ ap (λ b. vertices_of stages s ++ cond b (length stages ∷ []) []) (eq-eqb s s refl)

none_of_new : (stages : List ℕ) → vertices_of stages (count_stages stages) ≡ []
none_of_new stages =
    filter-none (λ v. passes (λ a. a == count_stages stages) (stage_at stages v)) (below (length stages))
    (λ i v e. go v (stage_at stages v) refl)
  where
    go : (v : ℕ) (o : Option ℕ) → stage_at stages v ≡ o → passes (λ a. a == count_stages stages) o ≡ false
    go v None from = refl
    go v (Some a) from = ne_eqb a (count_stages stages) (λ g. let low : a < count_stages stages = count_above stages v a from in absurd (omega arith))

---- one vertex more

module _ (flat : FlatForm) (dag : IrDag) (valid : Valid flat dag) (made more : Making) (is : IsMaking dag made) (u : IrVertex) (next : slice_get dag.vertices (length made.stages) ≡ Some u) (so : IsCutSoFar dag made.stages) where
  pub record IsGrown : Type 0 where
    pub making : IsMaking dag more
    pub stages : more.stages ≡ made.stages ++ stage_step flat dag made.stages u ∷ []

  within_more : (s : ℕ) → more.stages ≡ made.stages ++ s ∷ [] → length more.stages ≤ length dag.vertices
  within_more s e =
      let inside : length made.stages < length dag.vertices = slice_get_within dag.vertices (length made.stages) u next in
      let size : length more.stages ≡ suc (length made.stages) = ap length e ∙ longer made.stages s in
      omega arith

  joined : (s : ℕ) (order : List ℕ) → joined_by_next flat dag made.stages u ≡ Some s → IsForward dag.edges (made.stages ++ s ∷ []) order → grown made s order more → IsGrown
  joined s order chosen forward put =
      let known : s < count_stages made.stages = joined_known dag made.stages made.order is.forward is.few u s _ chosen in
      let same : count_stages (made.stages ++ s ∷ []) ≡ count_stages made.stages = count_joined made.stages s known in
      let few : count_stages made.stages ≤ length made.stages = is.few in
      let size : length (made.stages ++ s ∷ []) ≡ suc (length made.stages) = longer made.stages s in
      let low : count_stages (made.stages ++ s ∷ []) ≤ length (made.stages ++ s ∷ []) = omega arith in
      let stages : more.stages ≡ made.stages ++ s ∷ [] = put.0 in
      record {
        making = record {
          members =
              put.1
              ∙ ap (λ t. changed (λ vs. vs ++ length made.stages ∷ []) t s) is.members
              ∙ changed_at (vertices_of made.stages) (vertices_of (made.stages ++ s ∷ [])) (λ vs. vs ++ length made.stages ∷ []) (count_stages made.stages) s (λ t d. others_stay made.stages s t d) (one_grows made.stages s)
              ∙ ap (λ n. map (vertices_of (made.stages ++ s ∷ [])) (below n)) (sym same) ∙ ap (λ ss. map (vertices_of ss) (below (count_stages ss))) (sym stages);
          forward = subst (λ o. IsForward dag.edges more.stages o) (sym put.2) (subst (λ ss. IsForward dag.edges ss order) (sym stages) forward);
          few = subst (λ ss. count_stages ss ≤ length ss) (sym stages) low;
          within = within_more s stages;
        };
        stages = stages ∙ ap (λ o. made.stages ++ or_new made.stages o ∷ []) (sym chosen);
      }

  begun : joined_by_next flat dag made.stages u ≡ None → IsPut made Begins more → IsGrown
  begun chosen put =
      let count = count_stages made.stages in
      let held : length made.members.items ≡ count_stages made.stages = ap length is.members ∙ long_below (vertices_of made.stages) (count_stages made.stages) in
      let stages : more.stages ≡ made.stages ++ count_stages made.stages ∷ [] = put.0 ∙ ap (λ n. made.stages ++ n ∷ []) held in
      let up : count_stages (made.stages ++ count_stages made.stages ∷ []) ≡ suc (count_stages made.stages) = count_begun made.stages in
      let few : count_stages made.stages ≤ length made.stages = is.few in
      let size : length (made.stages ++ count_stages made.stages ∷ []) ≡ suc (length made.stages) = longer made.stages (count_stages made.stages) in
      let low : count_stages (made.stages ++ count_stages made.stages ∷ []) ≤ length (made.stages ++ count_stages made.stages ∷ []) = omega arith in
      let step = begin_forward dag made.stages (level_dag flat dag valid) (record { order = made.order; forward = is.forward; few = is.few; filled = so.filled; alike = so.alike; narrow = so.narrow }) u next in
      let order : more.order ≡ made.order ++ count_stages made.stages ∷ [] = put.2 ∙ ap (λ n. made.order ++ n ∷ []) held in
      record {
        making = record {
          members =
              put.1
              ∙ ap (λ t. t ++ (length made.stages ∷ []) ∷ []) is.members
              ∙ ap (λ t. t ++ (length made.stages ∷ []) ∷ [])
              (map_same (vertices_of made.stages) (vertices_of (made.stages ++ count_stages made.stages ∷ [])) (below (count_stages made.stages))
              (λ t m. others_stay made.stages (count_stages made.stages) t (λ g. let less : t < count_stages made.stages = in_below (count_stages made.stages) t m in absurd (omega arith))))
              ∙ ap (λ vs. map (vertices_of (made.stages ++ count_stages made.stages ∷ [])) (below (count_stages made.stages)) ++ vs ∷ [])
              (sym (one_grows made.stages (count_stages made.stages) ∙ ap (λ vs. vs ++ length made.stages ∷ []) (none_of_new made.stages)))
              ∙ sym (map-append (vertices_of (made.stages ++ count_stages made.stages ∷ [])) (below (count_stages made.stages)) (count_stages made.stages ∷ []))
              ∙ ap (map (vertices_of (made.stages ++ count_stages made.stages ∷ []))) (sym (below_more (count_stages made.stages)))
              ∙ ap (λ n. map (vertices_of (made.stages ++ count_stages made.stages ∷ [])) (below n)) (sym up) ∙ ap (λ ss. map (vertices_of ss) (below (count_stages ss))) (sym stages);
          forward = subst (λ o. IsForward dag.edges more.stages o) (sym order) (subst (λ ss. IsForward dag.edges ss (made.order ++ count_stages made.stages ∷ [])) (sym stages) step);
          few = subst (λ ss. count_stages ss ≤ length ss) (sym stages) low;
          within = within_more (count_stages made.stages) stages;
        };
        stages = stages ∙ ap (λ o. made.stages ++ or_new made.stages o ∷ []) (sym chosen);
      }

  grow : (choice : Choice) → IsChoice flat dag made u choice → IsPut made choice more → IsGrown
  grow Begins chosen put = begun chosen put
  grow (Joins s) chosen put = joined s made.order chosen.0 chosen.1 put
  grow (Turns s order) chosen put = joined s order chosen.0 chosen.1 put

---- all vertices

-- the first i vertices have their stages, and those that are left get theirs
pub record IsCutUpTo (flat : FlatForm) (dag : IrDag) (i : ℕ) (made : Making) : Type 0 where
  pub making : IsMaking dag made
  pub so : IsCutSoFar dag made.stages
  pub size : length made.stages ≡ i
  pub rest : along (stage_step flat dag) made.stages (drop i dag.vertices) ≡ stages_of flat dag

drop_at : {X : Type 0} (xs : List X) (i : ℕ) (x : X) → slice_get xs i ≡ Some x → drop i xs ≡ x ∷ drop (suc i) xs
drop_at [] i x e = cc
drop_at (y ∷ ys) zero x e = let same : y ≡ x = cc in ap (λ z. z ∷ ys) same
drop_at (y ∷ ys) (suc i) x e = drop_at ys i x e

drop_here : {X : Type 0} (xs : List X) (i : ℕ) (x : X) → slice_get xs i ≡ Some x → drop i xs ≡ x ∷ drop (i + 1) xs
drop_here xs i x e = let up : suc i ≡ i + 1 = omega arith in drop_at xs i x e ∙ ap (λ n. x ∷ drop n xs) up

none_forward : (es : List IrEdge) → IsForward es [] []
none_forward es = record { count = refl; inside = λ s l. absurd (omega arith); outside = λ s l. refl; rises = λ i s t e there from to d. cc }

pub next_up : (flat : FlatForm) (dag : IrDag) → Valid flat dag → (i : ℕ) (made more : Making) (u : IrVertex) → slice_get dag.vertices i ≡ Some u → IsCutUpTo flat dag i made → (choice : Choice)
    → IsChoice flat dag made u choice → IsPut made choice more → IsCutUpTo flat dag (i + 1) more
next_up flat dag valid i made more u at up choice chosen put =
    let next : slice_get dag.vertices (length made.stages) ≡ Some u = ap (slice_get dag.vertices) up.size ∙ at in
    let g = grow flat dag valid made more up.making u next up.so choice chosen put in
    let sum : length (made.stages ++ stage_step flat dag made.stages u ∷ []) ≡ length made.stages + 1 = length-append made.stages (stage_step flat dag made.stages u ∷ []) in
    record {
      making = g.making;
      so = subst (IsCutSoFar dag) (sym g.stages) (next_stage flat dag valid made.stages u next up.so);
      size = ap length g.stages ∙ sum ∙ ap (λ n. n + 1) up.size;
      rest = ap (λ ss. along (stage_step flat dag) ss (drop (i + 1) dag.vertices)) g.stages ∙ sym (ap (along (stage_step flat dag) made.stages) (drop_here dag.vertices i u at)) ∙ up.rest;
    }

-- no vertex has a stage
pub none_up : (flat : FlatForm) (dag : IrDag) (made : Making) → made.stages ≡ [] → made.members.items ≡ [] → made.order ≡ [] → IsCutUpTo flat dag 0 made
none_up flat dag made stages members order =
    let size : length made.stages ≡ 0 = ap length stages in
    let none : count_stages made.stages ≡ 0 = ap count_stages stages in
    record {
      making = record {
        members = members ∙ ap (λ ss. map (vertices_of ss) (below (count_stages ss))) (sym stages);
        forward = subst (λ ss. IsForward dag.edges ss made.order) (sym stages) (subst (λ o. IsForward dag.edges [] o) (sym order) (none_forward dag.edges));
        few = omega arith;
        within = omega arith;
      };
      so = subst (IsCutSoFar dag) (sym stages) (none_so_far dag);
      size = size;
      rest = ap (λ ss. along (stage_step flat dag) ss dag.vertices) stages;
    }

-- all have one
pub all_up : (flat : FlatForm) (dag : IrDag) (i : ℕ) (made : Making) → length dag.vertices ≤ i → IsCutUpTo flat dag i made → made.stages ≡ stages_of flat dag
all_up flat dag i made l up = sym (ap (along (stage_step flat dag) made.stages) (drop_all i dag.vertices l)) ∙ up.rest
