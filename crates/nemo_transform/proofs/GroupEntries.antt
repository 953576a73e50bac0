-- Keys with their groups: the one list of entries whose firsts rise and whose look-ups are right.
use Rattle.std.proofs.Common.{◌≡◌, ◌∙◌, refl, sym, ap, subst, List, [], ◌∷◌, ℕ, Bool, true, false, cond, map, inl, inr, Ordering, Some, Bor}
use Rattle.std.specs.Prelude.{◌⊎◌}
use Rattle.std.specs.BTreeMap.{is_at}
use Rattle.std.specs.Cmp.{Equal-is}
use Rattle.std.specs.Map.{lookup, keys_of}
use Rattle.std.specs.Option.{option_map}
use Rattle.std.specs.Ordering.{is_eq, ordering_reverse}
use Rattle.std.specs.declared.cmp.Ordering.TheVariants.{Less, Equal, Greater}
use Rattle.std.proofs.lemmas.Cmp.{tied_itself}
use Rattle.nemo_value.specs.Order.{field_cmp}
use Rattle.nemo_value.specs.declared.field.Field.{Field}
use Rattle.nemo_value.proofs.AscendingLists.{Rises, before_in, one_rise, rises_ascending, in_ascending}
use Rattle.nemo_value.proofs.Members.{In}
use Rattle.nemo_value.proofs.RecordOrder.{field_strict}
use Rattle.nemo_value.proofs.SortedLists.{IsStrict}
use Rattle.nemo_transform.specs.Folds.{KnownGroup, known_group}
use Rattle.nemo_transform.specs.FirstField.{firsts, has_first, key, with_first}
use Rattle.nemo_transform.specs.Gives.{Row}
use Rattle.nemo_transform.specs.Groups.{made, group_of, at_key, key_of, seen}
use Rattle.nemo_transform.specs.declared.grouping.Group.{Group}
use Rattle.nemo_transform.specs.declared.transform.Folding.{Folding}
use Rattle.nemo_value.proofs.MemberLists.{in_map, map_in, in_filter, passes, filter_in}

-- each of some firsts with what `f` gives of it
abbrev pub with_value : {K X : Type 0} → (K → X) → K → K × X
with_value f k = (k, f k)

all_valued : {K X : Type 0} (f : K → X) (es : List (K × X)) → ((e : K × X) → In e es → e.1 ≡ f e.0) → es ≡ map (with_value f) (keys_of es)
all_valued f [] h = refl
all_valued f (e ∷ es) h = λ i. (e.0, h e (inl refl) i) ∷ all_valued f es (λ d m. h d (inr m)) i

module _ {K X : Type 0} (R : K → K → Ordering) (o : IsStrict R) where
  -- a look-up finds only firsts that are there
  found_in : (k : K) (v : X) (es : List (K × X)) → lookup (is_at (R k)) es ≡ Some v → In k (keys_of es)
  found_in k v [] h = absurd (cc)
  found_in k v (e ∷ es) h = go (R k e.0) refl (found_in k v es) h
    where
      go : (r : Ordering) → R k e.0 ≡ r → (lookup (is_at (R k)) es ≡ Some v → In k (keys_of es)) → cond (is_eq r) (Some e.1) (lookup (is_at (R k)) es) ≡ Some v → (k ≡ e.0) ⊎ In k (keys_of es)
      go Less d ih h = inr (ih h)
      go Equal d ih h = inl (o.one k e.0 d)
      go Greater d ih h = inr (ih h)

  -- and it finds each entry, where the firsts rise
  found : (e : K × X) (es : List (K × X)) → Rises R (keys_of es) → In e es → lookup (is_at (R e.0)) es ≡ Some e.1
  found e [] r m = absurd m
  found e (d ∷ es) r (inl same) =
      ap (λ b. cond b (Some d.1) (lookup (is_at (R e.0)) es)) (ap (λ (p : K × X). is_eq (R e.0 p.0)) (sym same) ∙ ap is_eq (tied_itself o.total e.0))
      ∙ ap (λ (p : K × X). Some p.1) (sym same)
  found e (d ∷ es) r (inr m) =
      let first : R d.0 e.0 ≡ Less = before_in R o d.0 e.0 (keys_of es) r.0 (in_map (λ (p : K × X). p.0) e es m) in
      ap (λ b. cond b (Some d.1) (lookup (is_at (R e.0)) es)) (ap is_eq (o.total.antisymm e.0 d.0 ∙ ap ordering_reverse first)) ∙ found e es r.1 m

has_own_key : (k : Field) (r : Row) → has_first k r ≡ true → key r ≡ k
has_own_key k r h = field_strict.one (key r) k ((Equal-is (field_cmp (key r) k)).0 h)

pub own_key : (r : Row) → has_first (key r) r ≡ true
own_key r = ap is_eq (tied_itself field_strict.total (key r))

module _ (by : Folding) (field : ℕ) where
  abbrev pub grouped : List Row → List (Field × KnownGroup)
  grouped rows = map (with_value (λ k. made by field (with_first k rows))) (firsts rows)

  right : (us : List Row) (g : KnownGroup) → group_of by field us ≡ Some g → g ≡ made by field us
  right [] g h = absurd (cc)
  right (r ∷ us) g h = cc

  first : (us : List Row) (g : KnownGroup) → group_of by field us ≡ Some g → (r : Row) × In r us
  first [] g h = absurd (cc)
  first (r ∷ us) g h = (r, inl refl)

  some : (us : List Row) (r : Row) → In r us → (g : KnownGroup) × (group_of by field us ≡ Some g)
  some [] r m = absurd m
  some (u ∷ us) r m = (made by field (u ∷ us), refl)

  -- entries with rising firsts, whose look-up of each key gives the group of the rows that have it
  pub entries_are : (rows : List Row) (es : List (Field × KnownGroup)) → Rises field_cmp (keys_of es) → ((k : Field) → lookup (is_at (field_cmp k)) es ≡ group_of by field (with_first k rows)) → es ≡ grouped rows
  entries_are rows es r h =
      all_valued f es (λ e m. right (with_first e.0 rows) e.1 (sym (h e.0) ∙ found field_cmp field_strict e es r m))
      ∙ ap (map (with_value f)) (one_rise field_cmp field_strict (keys_of es) (firsts rows) r (rises_ascending field_cmp field_strict (map key rows))
      (record { members = λ k. (there k, returned k) }))
    where
      f : Field → KnownGroup
      f k = made by field (with_first k rows)

      there : (k : Field) → In k (keys_of es) → In k (firsts rows)
      there k m =
          let e = map_in (λ (p : Field × KnownGroup). p.0) k es m in
          let row = first (with_first e.0.0 rows) e.0.1 (sym (h e.0.0) ∙ found field_cmp field_strict e.0 es r e.1) in
          let same : key row.0 ≡ k = has_own_key e.0.0 row.0 (passes (has_first e.0.0) row.0 rows row.1) ∙ sym e.2 in
          (in_ascending field_cmp field_strict (map key rows) k).1 (subst (λ q. In q (map key rows)) same (in_map key row.0 rows (in_filter (has_first e.0.0) row.0 rows row.1)))

      returned : (k : Field) → In k (firsts rows) → In k (keys_of es)
      returned k m =
          let row = map_in key k rows ((in_ascending field_cmp field_strict (map key rows) k).0 m) in
          let g = some (with_first k rows) row.0 (filter_in (has_first k) row.0 rows row.1 (ap (λ q. has_first q row.0) row.2 ∙ own_key row.0)) in
          found_in field_cmp field_strict k g.0 es (h k ∙ g.1)

-- the same entries with borrowed firsts
pub seen_lookup : (k : Field) (es : List (Bor Field × Group)) → lookup (is_at (field_cmp k)) (map seen es) ≡ option_map known_group (lookup (at_key k) es)
seen_lookup k [] = refl
seen_lookup k (e ∷ es) = go (is_eq (field_cmp k e.0.now)) (seen_lookup k es)
  where
    go : (b : Bool) → lookup (is_at (field_cmp k)) (map seen es) ≡ option_map known_group (lookup (at_key k) es)
        → cond b (Some (known_group e.1)) (lookup (is_at (field_cmp k)) (map seen es)) ≡ option_map known_group (cond b (Some e.1) (lookup (at_key k) es))
    go true ih = refl
    go false ih = ih

pub seen_keys : (es : List (Bor Field × Group)) → keys_of (map seen es) ≡ map key_of es
seen_keys [] = refl
seen_keys (e ∷ es) = ap (λ ks. e.0.now ∷ ks) (seen_keys es)
