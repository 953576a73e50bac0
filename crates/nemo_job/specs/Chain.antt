-- Chains: a source, maps and a sink, each fed by the one before it.
use Rattle.std.specs.Prelude.{ℕ, ◌==◌, ◌&&◌, List, [], ◌∷◌, length, map, nat_le, Bool, true, false}
use Rattle.std.specs.List.{list_all}
use Rattle.nemo_value.specs.Texts.{same_text, all_new}
use Rattle.nemo_value.specs.declared.expr.Expr.{Expr}
use Rattle.nemo_value.specs.declared.expr.Expr.TheVariants.{Get, Const}
use Rattle.nemo_transform.specs.Gives.{is_filled}
use Rattle.nemo_transform.specs.declared.transform.Transform.TheVariants.{Source, Map, Sink}
use Rattle.nemo_job.specs.declared.vertex.JobVertex.{JobVertex}
use Rattle.nemo_job.specs.declared.vertex.Ref.{Ref}
use Rattle.nemo_job.specs.declared.vertex.Work.{Work}
use Rattle.nemo_job.specs.declared.vertex.Work.TheVariants.{Op}

-- the first field, or a constant
abbrev pub is_plain : Expr → Bool
is_plain (Get k) = k == 0
is_plain (Const x) = true
is_plain _ = false

abbrev pub is_source : Work → Bool
is_source (Op (Source rows)) = true
is_source _ = false

-- a map of 1 to 16 such expressions
abbrev pub is_map : Work → Bool
is_map (Op (Map out)) = nat_le 1 (length out) && nat_le (length out) 16 && list_all is_plain out
is_map _ = false

abbrev pub does_map : JobVertex → Bool
does_map v = is_map v.work

-- a sink that holds this name
abbrev pub is_end : List ℕ → Work → Bool
is_end name (Op (Sink own)) = same_text own name
is_end name _ = false

-- the one input is port 0 of this name
abbrev pub follows : List ℕ → List Ref → Bool
follows name (r ∷ []) = same_text r.name name && r.port == 0
follows name _ = false

-- maps and then a sink, the first fed by this name and each other one by the one before it
abbrev pub links : List ℕ → List JobVertex → Bool
links name [] = false
links name (v ∷ []) = is_end v.name v.work && follows name v.inputs
links name (v ∷ w ∷ vs) = is_map v.work && follows name v.inputs && links v.name (w ∷ vs)

abbrev pub names_of : List JobVertex → List (List ℕ)
names_of vs = map (λ v. v.name) vs

abbrev pub has_none : {X : Type 0} → List X → Bool
has_none [] = true
has_none (x ∷ xs) = false

-- 2 to 512 vertices: a source without inputs, maps and a sink
abbrev pub is_linked : List JobVertex → Bool
is_linked [] = false
is_linked (v ∷ vs) = nat_le (length vs) 511 && is_source v.work && has_none v.inputs && links v.name vs

-- of different names
abbrev pub is_chain : List JobVertex → Bool
is_chain vs = is_linked vs && all_new [] (names_of vs)

-- each row of a source has a field
abbrev pub rows_filled : Work → Bool
rows_filled (Op (Source rows)) = list_all is_filled rows
rows_filled _ = true

abbrev pub has_fields : JobVertex → Bool
has_fields v = rows_filled v.work

-- a chain, whose rows have fields as all records do
abbrev pub is_built : List JobVertex → Bool
is_built vs = is_chain vs && list_all has_fields vs
