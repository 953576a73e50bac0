-- A map by names that keeps the first of each.
use Rattle.std.proofs.Common.{◌≡◌, ◌∙◌, refl, sym, ap, ℕ, List, Bool, true, false, cond, Option, Some, None}
use Rattle.std.proofs.lemmas.Map.Text.{hash_map_updates_str}
use Rattle.std.proofs.lemmas.Slice.Eq.{bytes_eq-Decides}
use Rattle.std.specs.Option.{option_or, unwrap_or}
use Rattle.indexmap.specs.IndexMap.{IndexMap, UpdatesBy}
use denote.Ref.{Bor}
use Rattle.nemo_value.specs.Texts.{same_text}
use Rattle.nemo_job.specs.ByName.{named_in}

pub or_none : {X : Type 0} (o : Option X) → option_or o None ≡ o
or_none None = refl
or_none (Some x) = refl

or_first : {X : Type 0} (o : Option X) (x : X) → Some (unwrap_or o x) ≡ option_or o (Some x)
or_first None x = refl
or_first (Some y) x = refl

-- what a name had stays, and else it has x
pub put_first : {V S : Type 0} (old new : IndexMap (Bor (List ℕ)) V S) (name : List ℕ) (x y : V)
    → UpdatesBy (λ a b. same_text a.now b.now) (λ k. same_text name k.now) old new (Some y) → y ≡ unwrap_or (named_in old name) x
    → (q : List ℕ) → named_in new q ≡ option_or (named_in old q) (cond (same_text name q) (Some x) None)
put_first old new name x y updates kept q = hash_map_updates_str name old new (Some y) updates q ∙ go (same_text name q) refl
  where
    go : (b : Bool) → same_text name q ≡ b → cond b (Some y) (named_in old q) ≡ option_or (named_in old q) (cond b (Some x) None)
    go true e = ap Some (kept ∙ ap (λ n. unwrap_or (named_in old n) x) ((bytes_eq-Decides name q).0 e)) ∙ or_first (named_in old q) x
    go false e = sym (or_none (named_in old q))
