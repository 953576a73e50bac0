-- The ranks of the stages, found along an order in which each stage stands after those that it reads.
use Rattle.std.proofs.Common.{arith, ◌≡◌, ◌∙◌, ap, sym, subst, refl, ℕ, zero, suc, ◌+◌, ◌<◌, ◌≤◌, ◌&&◌, Bool, true, false, cond, List, [], ◌∷◌, get_or, length, map, nat_le, nat_lt, replicate, set, slice_get, slice_index_or, Some, inl, inr}
use Rattle.std.proofs.lemmas.Bool.{cases_eq, ltb-true}
use Rattle.std.proofs.lemmas.List.{ext_get_or, get_or-set_other, get_or-set_same, length-replicate, length-set}
use Rattle.std.proofs.lemmas.Option.{get_or_from_slice_get, slice_get-get_or, slice_get_within}
use Rattle.std.specs.Cmp.{first_so}
use Rattle.nemo_base.specs.declared.graph.Read.{Read}
use Rattle.nemo_value.specs.Members.{In}
use Rattle.nemo_value.proofs.MemberLists.{map_in}
use Rattle.nemo_ir.specs.Along.{below}
use Rattle.nemo_ir.specs.Flat.{FlatForm}
use Rattle.nemo_ir.specs.Valid.{Valid, is_within}
use Rattle.nemo_ir.specs.declared.dag.IrDag.{IrDag}
use Rattle.nemo_plan.specs.Graph.{greatest, of_stage, rank_of, reads_of}
use Rattle.nemo_plan.specs.Order.{IsForward, place}
use Rattle.nemo_plan.specs.Ranking.{rank_over}
use Rattle.nemo_plan.specs.Stages.{count_stages, stage_at, stages_of}
use Rattle.nemo_ir.proofs.Places.{got}
use Rattle.nemo_ir.proofs.PortEdges.{passed}
use Rattle.nemo_ir.proofs.Tables.{at_below, long_below}
use Rattle.nemo_plan.proofs.Closing.{order_low}
use Rattle.nemo_plan.proofs.CutLaws.{stages_length, whole_cut}
use Rattle.nemo_plan.proofs.Memberships.{map_same}
use Rattle.nemo_plan.proofs.Orders.{place_reaches, same_place}
use Rattle.nemo_plan.proofs.Prefixes.{count_above}
use Rattle.nemo_plan.proofs.Ranks.{one_more, rank_is, read_from, read_rises}
use Rattle.nemo_plan.proofs.StageReads.{read_of}

get_or_replicate : (n i : ℕ) → ◌≡◌ {A = ℕ} (get_or (replicate n 0) i 0) 0
get_or_replicate zero i = refl
get_or_replicate (suc n) zero = refl
get_or_replicate (suc n) (suc i) = get_or_replicate n i

-- the ranks of the stages before a place of the order stand in the table, none above its place
pub record IsRankedUpTo (flat : FlatForm) (dag : IrDag) (order : List ℕ) (i : ℕ) (ranks : List ℕ) : Type 0 where
  pub size : length ranks ≡ count_stages (stages_of flat dag)
  pub low : (s n : ℕ) → slice_get ranks s ≡ Some n → n ≤ 4096
  pub right : (s : ℕ) → s < count_stages (stages_of flat dag) → place order s < i → get_or ranks s 0 ≡ rank_of flat dag (stages_of flat dag) s
  pub under : (s : ℕ) → s < count_stages (stages_of flat dag) → place order s < i → rank_of flat dag (stages_of flat dag) s ≤ place order s

module _ (flat : FlatForm) (dag : IrDag) (valid : Valid flat dag) where
  pub few_vertices : length dag.vertices ≤ 4096
  few_vertices = go (length dag.vertices) refl
    where
      go : (n : ℕ) → length dag.vertices ≡ n → n ≤ 4096
      go zero e = omega arith
      go (suc k) e =
          let within : k < length dag.vertices = omega arith in
          let u = got dag.vertices k within in
          let is = passed (is_within k) (slice_get dag.vertices k) u.0 u.1 (valid.v9 k within) in
          let low : k < 4096 = ltb-true k 4096 (first_so (nat_lt k 4096) (nat_le 1 u.0.parallelism) (first_so (nat_lt k 4096 && nat_le 1 u.0.parallelism) (nat_le u.0.parallelism 64) is)) in
          omega arith

  module _ (order : List ℕ) (forward : IsForward dag.edges (stages_of flat dag) order) where
    pub none_ranked : (ranks : List ℕ) → ranks ≡ replicate (count_stages (stages_of flat dag)) 0 → IsRankedUpTo flat dag order 0 ranks
    none_ranked ranks e = record {
      size = ap length e ∙ length-replicate (count_stages (stages_of flat dag)) 0;
      low = λ s n at.
          let inside : s < length ranks = slice_get_within ranks s n at in
          let size : length ranks ≡ count_stages (stages_of flat dag) = ap length e ∙ length-replicate (count_stages (stages_of flat dag)) 0 in
          let is : n ≡ 0 = sym (get_or_from_slice_get ranks s n 0 at) ∙ ap (λ l. get_or l s 0) e ∙ get_or_replicate (count_stages (stages_of flat dag)) s in
          omega arith;
      right = λ s l h. absurd (omega arith);
      under = λ s l h. absurd (omega arith);
    }

    up_to_all : (ns : List ℕ) (k : ℕ) → ((n : ℕ) → In n ns → n ≤ k) → greatest ns ≤ k
    up_to_all [] k f = omega arith
    up_to_all (n ∷ ns) k f = go (nat_le n (greatest ns)) (f n (inl refl)) (up_to_all ns k (λ m h. f m (inr h)))
      where
        go : (b : Bool) → n ≤ k → greatest ns ≤ k → cond b (greatest ns) n ≤ k
        go true l m = m
        go false l m = l

    module _ (i m : ℕ) (ranks : List ℕ) (so : IsRankedUpTo flat dag order i ranks) (at : slice_get order i ≡ Some m) where
      known : m < count_stages (stages_of flat dag)
      known = order_low dag.edges (stages_of flat dag) order forward i m at

      reached : place order m ≤ i
      reached = place_reaches order i m at

      -- a stage that is read stands before
      record IsBefore (r : Read) : Type 0 where
        stage : ℕ
        from : stage_at (stages_of flat dag) r.vertex ≡ Some stage
        known : stage < count_stages (stages_of flat dag)
        less : place order stage < place order m

      before : (r : Read) → In r (reads_of flat dag (stages_of flat dag) m) → IsBefore r
      before r h =
          let is = read_of flat dag (stages_of flat dag) m r h in
          record {
            stage = is.before;
            from = read_from flat dag (stages_of flat dag) order forward m r is;
            known = count_above (stages_of flat dag) is.edge.from is.before is.from;
            less = read_rises flat dag (stages_of flat dag) order forward m r is;
          }

      pub over_is : greatest (map (rank_over (stages_of flat dag) ranks) (reads_of flat dag (stages_of flat dag) m)) ≡ rank_of flat dag (stages_of flat dag) m
      over_is =
          ap greatest (map_same (rank_over (stages_of flat dag) ranks) (one_more flat dag (stages_of flat dag) order forward (rank_of flat dag (stages_of flat dag))) (reads_of flat dag (stages_of flat dag) m)
          (λ r h.
          let b = before r h in
          let less : place order b.stage < place order m = b.less in
          let l : place order m ≤ i = reached in
          ap (λ o. suc (of_stage (λ s. slice_index_or ranks s 0) o)) b.from ∙ ap suc (so.right b.stage b.known (omega arith)) ∙ sym (ap (λ o. suc (of_stage (rank_of flat dag (stages_of flat dag)) o)) b.from)))
          ∙ sym (rank_is flat dag (stages_of flat dag) order forward m known)

      under_is : rank_of flat dag (stages_of flat dag) m ≤ place order m
      under_is =
          subst (λ n. n ≤ place order m) over_is
          (up_to_all (map (rank_over (stages_of flat dag) ranks) (reads_of flat dag (stages_of flat dag) m)) (place order m)
          (λ n h.
          let s = map_in (rank_over (stages_of flat dag) ranks) n (reads_of flat dag (stages_of flat dag) m) h in
          by n s.0 s.1 s.2))
        where
          by : (n : ℕ) (r : Read) → In r (reads_of flat dag (stages_of flat dag) m) → n ≡ rank_over (stages_of flat dag) ranks r → n ≤ place order m
          by n r h e =
              let b = before r h in
              let less : place order b.stage < place order m = b.less in
              let l : place order m ≤ i = reached in
              let is : get_or ranks b.stage 0 ≡ rank_of flat dag (stages_of flat dag) b.stage = so.right b.stage b.known (omega arith) in
              let up : rank_of flat dag (stages_of flat dag) b.stage ≤ place order b.stage = so.under b.stage b.known (omega arith) in
              let n_is : n ≡ suc (get_or ranks b.stage 0) = e ∙ ap (λ o. suc (of_stage (λ s. slice_index_or ranks s 0) o)) b.from in
              omega arith

      pub next_ranked : (rank : ℕ) → rank ≡ rank_of flat dag (stages_of flat dag) m → IsRankedUpTo flat dag order (i + 1) (set ranks m rank)
      next_ranked rank is =
          let size : length ranks ≡ count_stages (stages_of flat dag) = so.size in
          let low : m < count_stages (stages_of flat dag) = known in
          let fits : m < length ranks = omega arith in
          let up : rank_of flat dag (stages_of flat dag) m ≤ place order m = under_is in
          let inside : place order m < length order = forward.inside m known in
          let count : length order ≡ count_stages (stages_of flat dag) = forward.count in
          let few : count_stages (stages_of flat dag) ≤ length (stages_of flat dag) = (whole_cut flat dag valid).few in
          let long : length (stages_of flat dag) ≡ length dag.vertices = stages_length flat dag valid in
          let all : length dag.vertices ≤ 4096 = few_vertices in
          record {
            size = length-set ranks m rank ∙ so.size;
            low = λ s n e. elim (cases_eq s m) [
              | inl same ↦ (
                  let read : get_or (set ranks m rank) s 0 ≡ n = get_or_from_slice_get (set ranks m rank) s n 0 e in
                  let new : get_or (set ranks m rank) s 0 ≡ rank = ap (λ k. get_or (set ranks m rank) k 0) same ∙ get_or-set_same ranks m rank 0 fits in
                  omega arith)
              | inr other ↦ (
                  let inner : s < length (set ranks m rank) = slice_get_within (set ranks m rank) s n e in
                  let kept : length (set ranks m rank) ≡ length ranks = length-set ranks m rank in
                  so.low s n (slice_get-get_or ranks s 0 (omega arith) ∙ ap Some (sym (get_or-set_other ranks m s rank 0 other) ∙ get_or_from_slice_get (set ranks m rank) s n 0 e)))
            ];
            right = λ s l h. elim (cases_eq s m) [
              | inl same ↦ ap (λ k. get_or (set ranks m rank) k 0) same ∙ get_or-set_same ranks m rank 0 fits ∙ is ∙ ap (rank_of flat dag (stages_of flat dag)) (sym same)
              | inr other ↦ get_or-set_other ranks m s rank 0 other ∙ so.right s l (elim (cases_eq (place order s) i) [ inl e ↦ absurd (other (sym (same_place order i s m at e))) | inr away ↦ omega arith ])
            ];
            under = λ s l h. elim (cases_eq s m) [
              | inl same ↦ subst (λ k. rank_of flat dag (stages_of flat dag) k ≤ place order k) (sym same) under_is
              | inr other ↦ so.under s l (elim (cases_eq (place order s) i) [ inl e ↦ absurd (other (sym (same_place order i s m at e))) | inr away ↦ omega arith ])
            ];
          }

    pub all_ranked : (i : ℕ) (ranks : List ℕ) → length order ≤ i → IsRankedUpTo flat dag order i ranks → ranks ≡ map (rank_of flat dag (stages_of flat dag)) (below (count_stages (stages_of flat dag)))
    all_ranked i ranks l so =
        ext_get_or 0 ranks (map (rank_of flat dag (stages_of flat dag)) (below (count_stages (stages_of flat dag)))) (so.size ∙ sym (long_below (rank_of flat dag (stages_of flat dag)) (count_stages (stages_of flat dag))))
        (λ s less.
        let size : length ranks ≡ count_stages (stages_of flat dag) = so.size in
        let within : s < count_stages (stages_of flat dag) = omega arith in
        let inside : place order s < length order = forward.inside s within in
        so.right s within (omega arith) ∙ sym (at_below (rank_of flat dag (stages_of flat dag)) (count_stages (stages_of flat dag)) s 0 within))
