use Rattle.std.proofs.Common.{◌≡◌, ℕ, min, map}
use Rattle.nemo_job.specs.Sites.{port_face, sites_after, standing}
use Rattle.nemo_job.specs.Walks.{Walked}
use Rattle.nemo_job.specs.declared.refusals.Found.{Found}
use Rattle.nemo_job.proofs.Walking.{left_at}
use Rattle.nemo_job.proofs.refusals.+walk.Given as goal

-- what is found after those that are left is what is found after all
abbrev pub invariant-walk_list-loop-place : goal.invariant-walk_list-loop-place
invariant-walk_list-loop-place l = (d : ℕ) → min d 3 ≡ l.depth → (end : Found)
    → Walked (left_at l.carry d l.place l.vertices) l.found end → Walked (sites_after (map port_face l.carry) d (map standing l.vertices)) l.fn.found end
