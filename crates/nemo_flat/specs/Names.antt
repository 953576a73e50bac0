-- The names of the vertices of a flat job.
use Rattle.std.specs.Prelude.{ℕ, ◌==◌, ◌||◌, Bool, not, List, map}
use Rattle.std.specs.List.{list_all}
use Rattle.nemo_ir.specs.Flat.{FlatForm}

abbrev pub vertex_names : FlatForm → List (List ℕ)
vertex_names flat = map (λ x. x.name) flat.vertices

-- it holds neither a space nor a newline
abbrev pub is_word : List ℕ → Bool
is_word name = list_all (λ b. not (b == 32 || b == 10)) name
