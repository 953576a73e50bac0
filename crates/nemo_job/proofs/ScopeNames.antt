-- Names in a map and in a list.
use Rattle.std.proofs.Common.{◌≡◌, ◌∙◌, ap, sym, refl, ℕ, ◌+◌, ◌<◌, List, [], ◌∷◌, ◌++◌, Bool, true, false, cond, length, map, take, zip, get_or, Option, Some, None}
use Rattle.std.specs.Prelude.{option_map, slice_get, slice_index_or, unwrap_or}
use Rattle.std.specs.List.{find}
use Rattle.std.specs.Option.{option_flatten, option_or}
use Rattle.std.proofs.lemmas.List.{map_more}
use Rattle.std.proofs.lemmas.List.Folds.{find-append}
use Rattle.std.proofs.lemmas.Option.{unwrap_or-slice_get}
use Rattle.nemo_value.specs.Texts.{same_text}
use Rattle.nemo_job.specs.ByName.{named_in}
use Rattle.nemo_job.specs.NamesBound.{HasNames, first_of_name}
use Rattle.nemo_job.specs.Unrolled.{Bound, Ports, bound, ports_of, source_of}
use Rattle.nemo_job.specs.declared.names.Names.{Names}
use Rattle.nemo_job.specs.declared.vertex.Ref.{Ref}

mapped_or : {X Y : Type 0} (f : X → Y) (a b : Option X) → option_map f (option_or a b) ≡ option_or (option_map f a) (option_map f b)
mapped_or f None b = refl
mapped_or f (Some x) b = refl

-- one name more
first_of_name-more : (q : List ℕ) (bs : List Bound) (b : Bound) → first_of_name q (bs ++ b ∷ []) ≡ option_or (first_of_name q bs) (cond (same_text b.name q) (Some b.ports) None)
first_of_name-more q bs b =
    ap (option_map (λ d. d.ports)) (find-append (λ d. same_text d.name q) bs (b ∷ [])) ∙ mapped_or (λ d. d.ports) (find (λ d. same_text d.name q) bs) (find (λ d. same_text d.name q) (b ∷ []))
    ∙ ap (option_or (first_of_name q bs)) (one (same_text b.name q))
  where
    one : (t : Bool) → option_map (λ d. d.ports) (cond t (Some b) None) ≡ cond t (Some b.ports) None
    one true = refl
    one false = refl

-- one name more in the map
pub has_more : (q : List ℕ) (bs : List Bound) (name : List ℕ) (ports : Ports) (old : Names) (has : Option Ports) → HasNames bs old
    → has ≡ option_or (named_in old.ports q) (cond (same_text name q) (Some ports) None) → has ≡ first_of_name q (bs ++ record { name = name; ports = ports } ∷ [])
has_more q bs name ports old has all put =
    put ∙ ap (λ o. option_or o (cond (same_text name q) (Some ports) None)) (all q) ∙ sym (first_of_name-more q bs (record { name = name; ports = ports }))

pub ports_of-first : (q : List ℕ) (bs : List Bound) → ports_of q bs ≡ unwrap_or (first_of_name q bs) []
ports_of-first q [] = refl
ports_of-first q (b ∷ bs) = go (same_text b.name q) (ports_of-first q bs)
  where
    go : (t : Bool) → ports_of q bs ≡ unwrap_or (first_of_name q bs) [] → cond t b.ports (ports_of q bs) ≡ unwrap_or (option_map (λ d. d.ports) (cond t (Some b) (find (λ d. same_text d.name q) bs))) []
    go true ih = refl
    go false ih = ih

-- one port of a turn under its name
abbrev pub one_bound : Option ℕ × List ℕ → Bound
one_bound e = record { name = e.1; ports = e.0 ∷ [] }

pub bound-zip : (ports : Ports) (carry : List (List ℕ)) → bound ports carry ≡ map one_bound (zip ports carry)
bound-zip [] carry = refl
bound-zip (p ∷ ports) [] = refl
bound-zip (p ∷ ports) (name ∷ carry) = ap (λ bs. record { name = name; ports = p ∷ [] } ∷ bs) (bound-zip ports carry)

-- one port more
pub bound-more : (ports : Ports) (carry : List (List ℕ)) (i : ℕ) (e : Option ℕ × List ℕ) → (i < length (zip ports carry)) × (e ≡ get_or (zip ports carry) i e)
    → map one_bound (take i (zip ports carry)) ++ one_bound e ∷ [] ≡ map one_bound (take (i + 1) (zip ports carry))
bound-more ports carry i e at =
    ap (λ d. map one_bound (take i (zip ports carry)) ++ one_bound d ∷ []) at.1 ∙ sym (map_more one_bound (zip ports carry) i e at.0)

pub flatten_at : (ports : Ports) (i : ℕ) → option_flatten (slice_get ports i) ≡ slice_index_or ports i None
flatten_at ports i = one (slice_get ports i) ∙ unwrap_or-slice_get ports i None
  where
    one : (o : Option (Option ℕ)) → option_flatten o ≡ unwrap_or o None
    one None = refl
    one (Some p) = refl

-- where a reference finds ports
pub source_found : (bs : List Bound) (r : Ref) (names : Names) (ports : Ports) → HasNames bs names → named_in names.ports r.name ≡ Some ports → source_of bs r ≡ slice_index_or ports r.port None
source_found bs r names ports has at = ap (λ ps. slice_index_or ps r.port None) (ports_of-first r.name bs ∙ ap (λ o. unwrap_or o []) (sym (has r.name) ∙ at))

pub source_none : (bs : List Bound) (r : Ref) (names : Names) → HasNames bs names → named_in names.ports r.name ≡ None → source_of bs r ≡ None
source_none bs r names has at = ap (λ ps. slice_index_or ps r.port None) (ports_of-first r.name bs ∙ ap (λ o. unwrap_or o []) (sym (has r.name) ∙ at))
