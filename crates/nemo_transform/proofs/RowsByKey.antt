-- Rows that are grouped by their key, row by row.
use Rattle.std.proofs.Common.{◌≡◌, ◌∙◌, ℕ, ◌+◌, ◌<◌, List, [], ◌∷◌, ◌++◌, Bool, true, false, cond, Some, refl, sym, ap, subst, length, get_or, take, append-nil, Option, None, map, Vec, Bor, Global}
use Rattle.std.specs.List.{slice_get}
use Rattle.std.specs.Option.{unwrap_or, option_map_or, UnwrapsOrElse}
use Rattle.std.specs.Vec.{vec_len}
use Rattle.std.specs.Prelude.{pos}
use Rattle.std.specs.Cmp.{Equal-is}
use Rattle.std.specs.Ordering.{is_eq}
use Rattle.std.proofs.lemmas.List.{take_more, map-append}
use Rattle.std.proofs.lemmas.List.Elements.{filter-append}
use Rattle.nemo_value.specs.FieldOrder.{field_one}
use Rattle.nemo_value.specs.Order.{field_cmp}
use Rattle.nemo_value.specs.declared.field.Field.{Field}
use Rattle.nemo_value.specs.declared.record.Record.{Record}
use Rattle.nemo_value.specs.declared.field.Field.TheVariants.{Int}
use Rattle.nemo_transform.specs.FirstField.{has_first, key, with_first}
use Rattle.nemo_transform.specs.Gives.{Row}

-- the key of a row is its first field
pub key_is : (x : Row) (k : Field) → slice_get x 0 ≡ Some k → key x ≡ k
key_is x k h = ap (λ o. unwrap_or o (Int (pos 0))) h

-- the rows of a key, after one row more
pub with_first-more : (q k : Field) (x : Row) (rows : List Row) (i : ℕ) → i < length rows → x ≡ get_or rows i x → slice_get x 0 ≡ Some k
    → with_first q (take (i + 1) rows) ≡ cond (is_eq (field_cmp k q)) (with_first k (take i rows) ++ x ∷ []) (with_first q (take i rows))
with_first-more q k x rows i within is at =
    ap (with_first q) (take_more rows i x within ∙ ap (λ y. take i rows ++ y ∷ []) (sym is)) ∙ filter-append (has_first q) (take i rows) (x ∷ []) ∙ go (is_eq (field_cmp k q)) refl
  where
    go : (b : Bool) → is_eq (field_cmp k q) ≡ b → with_first q (take i rows) ++ with_first q (x ∷ []) ≡ cond b (with_first k (take i rows) ++ x ∷ []) (with_first q (take i rows))
    go true e = ap (λ c. with_first q (take i rows) ++ cond c (x ∷ []) []) (ap (λ f. is_eq (field_cmp f q)) (key_is x k at) ∙ e) ∙ ap (λ f. with_first f (take i rows) ++ x ∷ []) (sym (field_one k q ((Equal-is (field_cmp k q)).0 e)))
    go false e = ap (λ c. with_first q (take i rows) ++ cond c (x ∷ []) []) (ap (λ f. is_eq (field_cmp f q)) (key_is x k at) ∙ e) ∙ append-nil (with_first q (take i rows))

-- the rows behind what a look-up gives
abbrev pub rows_behind : Option (Vec (Bor Record) Global) → List Row
rows_behind o = option_map_or (λ g. map (λ r. r.now) g.items) o []

-- the rows in what an entry of the map lends: those that stood there, or none
pub opened : (o was : Option (Vec (Bor Record) Global)) (v : Vec (Bor Record) Global) → o ≡ was → UnwrapsOrElse o (λ x. (x.items ≡ []) × (vec_len x ≡ 0)) v → map (λ r. r.now) v.items ≡ rows_behind was
opened o was v e h = go was (subst (λ p. UnwrapsOrElse p (λ x. (x.items ≡ []) × (vec_len x ≡ 0)) v) e h)
  where
    go : (p : Option (Vec (Bor Record) Global)) → UnwrapsOrElse p (λ x. (x.items ≡ []) × (vec_len x ≡ 0)) v → map (λ r. r.now) v.items ≡ rows_behind p
    go None h = ap (map (λ r. r.now)) h.0
    go (Some u) h = ap (λ x. map (λ r. r.now) x.items) h

-- a map that has the rows so far at each key, after one row more
pub grown : (q k : Field) (x : Row) (rows : List Row) (i : ℕ) (old : Field → Option (Vec (Bor Record) Global)) (now : Option (Vec (Bor Record) Global)) (before after : Vec (Bor Record) Global) (more : Bor Record)
    → i < length rows → x ≡ get_or rows i x → slice_get x 0 ≡ Some k
    → now ≡ cond (is_eq (field_cmp k q)) (Some after) (old q) → after.items ≡ before.items ++ more ∷ [] → more.now ≡ x → map (λ r. r.now) before.items ≡ rows_behind (old k)
    → ((p : Field) → rows_behind (old p) ≡ with_first p (take i rows)) → rows_behind now ≡ with_first q (take (i + 1) rows)
grown q k x rows i old now before after more within is at n a m b h =
    ap rows_behind n ∙ go (is_eq (field_cmp k q)) ∙ sym (with_first-more q k x rows i within is at)
  where
    go : (t : Bool) → rows_behind (cond t (Some after) (old q)) ≡ cond t (with_first k (take i rows) ++ x ∷ []) (with_first q (take i rows))
    go true = ap (map (λ r. r.now)) a ∙ map-append (λ (r : Bor Record). r.now) before.items (more ∷ []) ∙ (λ j. (b ∙ h k) j ++ m j ∷ [])
    go false = h q
