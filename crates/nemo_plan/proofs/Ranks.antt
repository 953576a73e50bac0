-- The rank of a stage is made of the ranks of the stages that it reads.
use Rattle.std.proofs.Common.{arith, ◌≡◌, ◌∙◌, ap, sym, refl, ℕ, zero, suc, ◌<◌, ◌≤◌, Bool, true, false, cond, List, [], ◌∷◌, length, map, nat_le, Some, inl, inr}
use Rattle.std.proofs.lemmas.Bool.{leb-false, leb-true}
use Rattle.nemo_base.specs.declared.graph.Read.{Read}
use Rattle.nemo_value.specs.Members.{In}
use Rattle.nemo_value.proofs.MemberLists.{in_map}
use Rattle.nemo_ir.specs.Flat.{FlatForm}
use Rattle.nemo_ir.specs.declared.dag.IrDag.{IrDag}
use Rattle.nemo_plan.specs.Graph.{greatest, of_stage, rank_in, rank_of, reads_of}
use Rattle.nemo_plan.specs.Rank.{RankLaw}
use Rattle.nemo_plan.specs.Stages.{count_stages, stage_at, stages_of}
use Rattle.nemo_plan.specs.Wiring.{IsReadFrom}
use Rattle.nemo_plan.proofs.CutLaws.{whole_cut}
use Rattle.nemo_plan.proofs.Memberships.{map_same}
use Rattle.nemo_plan.proofs.Orders.{place}
use Rattle.nemo_plan.proofs.Reaching.{IsForward}
use Rattle.nemo_plan.proofs.StageReads.{read_of}

greatest_step : (n m : ℕ) → (n ≤ cond (nat_le n m) m n) × (m ≤ cond (nat_le n m) m n)
greatest_step n m = go (nat_le n m) refl
  where
    go : (b : Bool) → nat_le n m ≡ b → (n ≤ cond b m n) × (m ≤ cond b m n)
    go true h = let l : n ≤ m = leb-true n m h in (l, omega arith)
    go false h = let l : m < n = leb-false n m h in (omega arith, omega arith)

-- no member is greater than the greatest
pub up_to_greatest : (ns : List ℕ) (n : ℕ) → In n ns → n ≤ greatest ns
up_to_greatest [] n m = absurd m
up_to_greatest (k ∷ ks) n (inl e) = let l : k ≤ greatest (k ∷ ks) = (greatest_step k (greatest ks)).0 in omega arith
up_to_greatest (k ∷ ks) n (inr m) =
    let rest : n ≤ greatest ks = up_to_greatest ks n m in
    let l : greatest ks ≤ greatest (k ∷ ks) = (greatest_step k (greatest ks)).1 in
    omega arith

module _ (flat : FlatForm) (dag : IrDag) (stages order : List ℕ) (forward : IsForward dag.edges stages order) where
  abbrev pub one_more : (ℕ → ℕ) → Read → ℕ
  one_more rank r = suc (of_stage rank (stage_at stages r.vertex))

  pub read_rises : (s : ℕ) (r : Read) (is : IsReadFrom dag stages s r) → place order is.before < place order s
  read_rises s r is = forward.rises is.place is.before s is.edge is.there is.from is.to is.differs

  pub read_from : (s : ℕ) (r : Read) (is : IsReadFrom dag stages s r) → stage_at stages r.vertex ≡ Some is.before
  read_from s r is = ap (λ (q : Read). stage_at stages q.vertex) is.is ∙ is.from

  -- one turn more changes nothing once there were more turns than stages before
  settled : (n s : ℕ) → place order s < n → rank_in flat dag stages n s ≡ rank_in flat dag stages (suc n) s
  settled zero s l = absurd (omega arith)
  settled (suc n) s l =
      ap greatest (map_same (one_more (rank_in flat dag stages n)) (one_more (rank_in flat dag stages (suc n))) (reads_of flat dag stages s)
      (λ r m.
      let is = read_of flat dag stages s r m in
      let less : place order is.before < place order s = read_rises s r is in
      let before : rank_in flat dag stages n is.before ≡ rank_in flat dag stages (suc n) is.before = settled n is.before (omega arith) in
      let from = read_from s r is in
      ap (λ o. suc (of_stage (rank_in flat dag stages n) o)) from ∙ ap suc before ∙ sym (ap (λ o. suc (of_stage (rank_in flat dag stages (suc n)) o)) from)))

  pub rank_is : (s : ℕ) → s < count_stages stages → rank_of flat dag stages s ≡ greatest (map (one_more (rank_of flat dag stages)) (reads_of flat dag stages s))
  rank_is s l =
      let inside : place order s < length order = forward.inside s l in
      let size : length order ≡ count_stages stages = forward.count in
      settled (count_stages stages) s (omega arith)

  pub rank_falls : (s other : ℕ) (r : Read) → s < count_stages stages → In r (reads_of flat dag stages s) → stage_at stages r.vertex ≡ Some other → rank_of flat dag stages other < rank_of flat dag stages s
  rank_falls s other r l m from =
      let is : rank_of flat dag stages s ≡ greatest (map (one_more (rank_of flat dag stages)) (reads_of flat dag stages s)) = rank_is s l in
      let most : one_more (rank_of flat dag stages) r ≤ greatest (map (one_more (rank_of flat dag stages)) (reads_of flat dag stages s)) =
      up_to_greatest (map (one_more (rank_of flat dag stages)) (reads_of flat dag stages s)) (one_more (rank_of flat dag stages) r) (in_map (one_more (rank_of flat dag stages)) r (reads_of flat dag stages s) m) in
      let own : one_more (rank_of flat dag stages) r ≡ suc (rank_of flat dag stages other) = ap (λ o. suc (of_stage (rank_of flat dag stages) o)) from in
      omega arith

pub ranked : RankLaw
ranked flat dag fine valid s l =
    let so = whole_cut flat dag valid in
    record {
      rank = rank_is flat dag (stages_of flat dag) so.order so.forward s l;
      falls = λ r other m from. rank_falls flat dag (stages_of flat dag) so.order so.forward s other r l m from;
    }
