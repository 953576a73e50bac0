-- What a name finds among entries.
use Rattle.std.proofs.Common.{rules, ◌≡◌, ap, ℕ, List, [], ◌∷◌, ◌++◌, Bool, true, false, ◌||◌, cond, map}
use Rattle.std.specs.List.{list_any}
use Rattle.nemo_value.specs.Texts.{same_text}
use Rattle.nemo_job.specs.Mean.{ByPath, Entry, ports_at, work_mean, vertex_mean, look}
use Rattle.nemo_transform.specs.Brought.{at}
use Rattle.nemo_transform.specs.declared.transform.Transform.{Transform}
use Rattle.nemo_job.specs.declared.vertex.JobVertex.{JobVertex}
use Rattle.nemo_job.specs.declared.vertex.Work.{the_lemmas}
use Rattle.nemo_job.specs.declared.vertex.Work.TheVariants.{Op}

-- the entry of a vertex
pub entry_of : (v : JobVertex) (path : List ℕ) (es : List Entry) → vertex_mean v path es ≡ record { name = v.name; ports = work_mean v.work (path ++ v.name) (map (look es) v.inputs) }
entry_of v path es = search (rules, the_lemmas)

-- an operation has one port
pub op_mean : (t : Transform) (path : List ℕ) (ports : List ByPath) → work_mean (Op t) path ports ≡ at path t ports ∷ []
op_mean t path ports = search (rules, the_lemmas)

abbrev pub has_entry : List Entry → List ℕ → Bool
has_entry es name = list_any (λ e. same_text name e.name) es

-- a name that is new finds the entry that comes last
pub ports_at-new : (es : List Entry) (e : Entry) (name : List ℕ) → list_any (λ d. same_text d.name name) es ≡ false → same_text e.name name ≡ true → ports_at name (es ++ e ∷ []) ≡ e.ports
ports_at-new [] e name fresh is = ap (λ b. cond b e.ports []) is
ports_at-new (d ∷ es) e name fresh is = go (same_text d.name name) fresh (ports_at-new es e name)
  where
    go : (b : Bool) → (b || list_any (λ c. same_text c.name name) es) ≡ false
        → (list_any (λ c. same_text c.name name) es ≡ false → same_text e.name name ≡ true → ports_at name (es ++ e ∷ []) ≡ e.ports)
        → cond b d.ports (ports_at name (es ++ e ∷ [])) ≡ e.ports
    go true h ih = cc
    go false h ih = ih h is
