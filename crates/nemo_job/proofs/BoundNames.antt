-- The names of a job's vertices stand in list order.
use Rattle.std.proofs.Common.{◌≡◌, ◌∙◌, sym, ap, ℕ, List, [], ◌∷◌, ◌++◌, map, append_assoc}
use Rattle.std.proofs.lemmas.List.{append-nil, map-append}
use Rattle.nemo_job.specs.Chain.{names_of}
use Rattle.nemo_job.specs.Unrolled.{Bound, Scope, fed_by, unroll_all, unroll_vertex, unroll_work}
use Rattle.nemo_job.specs.declared.vertex.JobVertex.{JobVertex}
use Rattle.nemo_job.proofs.Layers.{vertex_unrolled}

name_bound : (v : JobVertex) (path : List ℕ) (s : Scope) → map (λ b. b.name) (unroll_vertex v path s).names ≡ map (λ b. b.name) s.names ++ v.name ∷ []
name_bound v path s =
    ap (λ t. map (λ b. b.name) t.names) (vertex_unrolled v path s)
    ∙ map-append (λ (b : Bound). b.name) s.names (record { name = v.name; ports = (unroll_work v.work (path ++ v.name) (fed_by v.inputs s)).ports } ∷ [])

pub names_bound : (vs : List JobVertex) (path : List ℕ) (s : Scope) → map (λ b. b.name) (unroll_all vs path s).names ≡ map (λ b. b.name) s.names ++ names_of vs
names_bound [] path s = sym (append-nil (map (λ b. b.name) s.names))
names_bound (v ∷ vs) path s =
    names_bound vs path (unroll_vertex v path s)
    ∙ ap (λ names. names ++ names_of vs) (name_bound v path s)
    ∙ append_assoc (map (λ b. b.name) s.names) (v.name ∷ []) (names_of vs)
