use Rattle.std.proofs.Common.{rules, tests, ◌≡◌, ◌∙◌, ap, refl, List, [], ◌∷◌, Bool, ◌||◌, map}
use Rattle.std.proofs.lemmas.Iterator.{YieldsList-from_slice}
use Rattle.std.proofs.lemmas.Iterator.Search.{any_from_yields_List}
use Rattle.std.specs.List.{list_any}
use Rattle.nemo_job.specs.Refusals.{is_end}
use Rattle.nemo_job.specs.Sites.{Face, faces, standing}
use Rattle.nemo_job.specs.declared.vertex.JobVertex.{JobVertex}
use Rattle.nemo_job.proofs.site.has_end.Goals as goal

any_face : (p : Face → Bool) (vs : List JobVertex) → list_any (λ v. p (standing v).face) vs ≡ list_any p (faces (map standing vs))
any_face p [] = refl
any_face p (v ∷ vs) = ap (λ b. p (standing v).face || b) (any_face p vs)

pub returns : goal.returns
returns c =
    any_from_yields_List (λ v. is_end (standing v).face.transform) _ _ _ c.any.ensures.ran (YieldsList-from_slice c.args.body.now (cc)) (λ v b q k. search (rules, tests))
    ∙ any_face (λ f. is_end f.transform) c.args.body.now
