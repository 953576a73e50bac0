-- The operations of a job are those of its vertices, in order.
use Rattle.std.proofs.Common.{rules, ◌≡◌, ◌∙◌, sym, refl, ap, ℕ, ◌+◌, List, [], ◌∷◌, ◌++◌, map}
use Rattle.std.proofs.lemmas.List.Elements.{filter_map-append}
use Rattle.std.specs.List.{cons_option, filter_map}
use Rattle.nemo_transform.specs.declared.transform.Transform.{Transform}
use Rattle.nemo_job.specs.Sites.{Face, Site, Working, faces, port_face, sites_after, standing, working}
use Rattle.nemo_job.specs.declared.vertex.JobVertex.{JobVertex}
use Rattle.nemo_job.specs.declared.vertex.Ref.{Ref}
use Rattle.nemo_job.specs.declared.vertex.Work.{Work, the_lemmas}
use Rattle.nemo_job.specs.declared.vertex.Work.TheVariants.{Op, Loop}
use Rattle.nemo_job.proofs.Induction.{Each, each_one}
use Rattle.nemo_job.proofs.Layers.{loop_works, op_works, vertex_stands}
use Rattle.nemo_flat.specs.Flattened.{operation_in, operations}
use Rattle.nemo_flat.specs.Table.{all_operations, vertex_operations, work_operations}

abbrev gathered : List Site → List Transform
gathered ss = filter_map (λ s. operation_in s.doing) ss

-- those of a vertex that does this
abbrev at_work : Working → ℕ → List Transform
at_work w depth = cons_option (operation_in w.doing) (gathered (w.sites depth))

abbrev OfWork : Work → Type 0
OfWork w = (depth : ℕ) → at_work (working w) depth ≡ work_operations w

abbrev OfVertex : JobVertex → Type 0
OfVertex v = (before from : List Face) (depth : ℕ) → gathered ((standing v).sites before from depth) ≡ vertex_operations v

of_body : (body : List JobVertex) → Each OfVertex body → (before : List Face) (depth : ℕ) → gathered (sites_after before depth (map standing body)) ≡ all_operations body
of_body [] h before depth = refl
of_body (v ∷ vs) h before depth =
    filter_map-append (λ s. operation_in s.doing) ((standing v).sites before (faces (map standing (v ∷ vs))) depth) (sites_after (before ++ (standing v).face ∷ []) depth (map standing vs))
    ∙ (λ i. h.0 before (faces (map standing (v ∷ vs))) depth i ++ of_body vs h.1 (before ++ (standing v).face ∷ []) depth i)

op_own : (t : Transform) → work_operations (Op t) ≡ t ∷ []
op_own t = search (rules, the_lemmas)

loop_own : (turns : ℕ) (carry : List (List ℕ)) (body : List JobVertex) (next : List Ref) → work_operations (Loop turns carry body next) ≡ all_operations body
loop_own turns carry body next = search (rules, the_lemmas)

vertex_own : (v : JobVertex) → vertex_operations v ≡ work_operations v.work
vertex_own v = search (rules, the_lemmas)

of_all : (vs : List JobVertex) → Each OfVertex vs
of_all =
    each_one OfWork OfVertex
    (λ t depth. ap (λ w. at_work w depth) (op_works t) ∙ sym (op_own t))
    (λ turns carry body next h depth. ap (λ w. at_work w depth) (loop_works turns carry body next) ∙ of_body body h (map port_face carry) (depth + 1) ∙ sym (loop_own turns carry body next))
    (λ v h before from depth. ap (λ s. gathered (s.sites before from depth)) (vertex_stands v) ∙ h depth ∙ sym (vertex_own v))

pub operations_are : (vs : List JobVertex) → operations vs ≡ all_operations vs
operations_are vs = of_body vs (of_all vs) [] 0
