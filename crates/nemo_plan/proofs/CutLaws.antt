-- The stages of a valid DAG: what can be reached, and what the cut keeps.
use Rattle.std.proofs.Common.{arith, ◌≡◌, ◌∙◌, ap, sym, subst, ℕ, ◌<◌, ◌==◌, ◌||◌, not, List, [], ◌∷◌, ◌++◌, length, take, slice_get, Some, inl, inr}
use Rattle.std.proofs.lemmas.Bool.{eqb-true}
use Rattle.std.proofs.lemmas.List.{take_all}
use Rattle.std.proofs.lemmas.Option.{slice_get_within}
use Rattle.nemo_base.specs.declared.annotation.Pattern.TheVariants.{OneToOne}
use Rattle.nemo_ir.specs.Along.{passes}
use Rattle.nemo_ir.specs.Flat.{FlatForm}
use Rattle.nemo_ir.specs.Valid.{Valid, is_level, is_one_to_one}
use Rattle.nemo_ir.specs.declared.dag.IrDag.{IrDag}
use Rattle.nemo_ir.specs.declared.dag.IrEdge.{IrEdge}
use Rattle.nemo_ir.specs.declared.dag.IrVertex.{IrVertex}
use Rattle.nemo_plan.specs.Cut.{IsCut, StagesLaw}
use Rattle.nemo_plan.specs.Reach.{ReachLaw}
use Rattle.nemo_plan.specs.Stages.{stage_step, stages_of}
use Rattle.nemo_ir.proofs.Entries.{along_length}
use Rattle.nemo_ir.proofs.Places.{got}
use Rattle.nemo_ir.proofs.PortEdges.{edge_rises, passed}
use Rattle.nemo_plan.proofs.CutSteps.{IsCutSoFar, IsLevel, begin_step, join_step, none_so_far}
use Rattle.nemo_plan.proofs.Joining.{step_cases}
use Rattle.nemo_plan.proofs.Prefixes.{count_above, fronts}
use Rattle.nemo_plan.proofs.Reaching.{no_circle, reach_is}

module _ (flat : FlatForm) (dag : IrDag) (valid : Valid flat dag) where
  level_edge : (i : ℕ) (e : IrEdge) (u w : IrVertex) → slice_get dag.edges i ≡ Some e → slice_get dag.vertices e.to ≡ Some u → slice_get dag.vertices e.from ≡ Some w → e.pattern ≡ OneToOne
      → w.parallelism ≡ u.parallelism
  level_edge i e u w there to from one =
      let level = passed (is_level dag) (slice_get dag.edges i) e there (valid.v7 i (slice_get_within dag.edges i e there)) in
      eqb-true w.parallelism u.parallelism
      (passed (λ x. w.parallelism == x.parallelism) (slice_get dag.vertices e.to) u to
      (passed (λ y. passes (λ x. y.parallelism == x.parallelism) (slice_get dag.vertices e.to)) (slice_get dag.vertices e.from) w from
      (ap (λ p. not (is_one_to_one p) || passes (λ y. passes (λ x. y.parallelism == x.parallelism) (slice_get dag.vertices e.to)) (slice_get dag.vertices e.from)) (sym one) ∙ level)))

  pub level_dag : IsLevel dag
  level_dag = record { rises = λ i e there. (edge_rises flat dag valid i e there).low; level = level_edge }

  pub next_stage : (done : List ℕ) (u : IrVertex) → slice_get dag.vertices (length done) ≡ Some u → IsCutSoFar dag done → IsCutSoFar dag (done ++ stage_step flat dag done u ∷ [])
  next_stage done u at so = elim (step_cases flat dag done u) [
    | inl joined ↦ join_step dag done level_dag so u at (stage_step flat dag done u) joined
    | inr begun ↦ subst (λ s. IsCutSoFar dag (done ++ s ∷ [])) (sym begun) (begin_step dag done level_dag so u at)
  ]

  pub cut_so_far : (n : ℕ) → IsCutSoFar dag (take n (stages_of flat dag))
  cut_so_far n = fronts (stage_step flat dag) (IsCutSoFar dag) dag.vertices next_stage (none_so_far dag) n

  pub stages_length : length (stages_of flat dag) ≡ length dag.vertices
  stages_length = along_length (stage_step flat dag) dag.vertices

  pub whole_cut : IsCutSoFar dag (stages_of flat dag)
  whole_cut = subst (IsCutSoFar dag) (take_all (length (stages_of flat dag)) (stages_of flat dag) (omega arith)) (cut_so_far (length (stages_of flat dag)))

  pub is_cut : IsCut flat dag
  is_cut =
      let so = whole_cut in
      let size : length (stages_of flat dag) ≡ length dag.vertices = stages_length in
      record {
        staged = λ v l. let s = got (stages_of flat dag) v (omega arith) in record { stage = s.0; is = s.1; below = count_above (stages_of flat dag) v s.0 s.1 };
        filled = λ s l.
            let f = so.filled s l in
            let inside : f.place < length (stages_of flat dag) = slice_get_within (stages_of flat dag) f.place s f.is in
            record { vertex = f.place; within = omega arith; is = f.is };
        class = λ v w s u x at_v at_w in_v in_w. (so.alike v w s u x at_v at_w in_v in_w).class;
        parallelism = λ v w s u x at_v at_w in_v in_w. (so.alike v w s u x at_v at_w in_v in_w).parallelism;
        within = λ i s e there from to. let n = so.narrow i s e there from to in (n.pattern, n.flow);
        no_circle = λ s t go back. no_circle dag.edges (stages_of flat dag) so.order so.forward s t go back;
      }

pub reach : ReachLaw
reach flat dag fine valid n s t = let so = cut_so_far flat dag valid n in reach_is dag.edges (take n (stages_of flat dag)) so.order so.forward so.few s t

pub stages : StagesLaw
stages flat dag fine valid = is_cut flat dag valid
