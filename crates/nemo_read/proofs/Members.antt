-- The members of a value that lost one.
use Rattle.std.proofs.Common.{◌≡◌, ◌∙◌, sym, ap, ℕ, List, String, BTreeMap, Global, Option, Some, None, option_map, cond, bytes_eq, string_cmp, string_bytes, nat_cmp}
use Rattle.std.proofs.lemmas.Bool.{false_from_ne_true}
use Rattle.std.proofs.lemmas.Map.Text.{btree_map_updates_text}
use Rattle.std.proofs.lemmas.Slice.Eq.{bytes_eq-Decides}
use Rattle.std.specs.BTreeMap.{UpdatesBy, get_by_text}
use Rattle.std.specs.Cmp.Lexicographic.{slice_cmp}
use Rattle.serde_json.proofs.Views.{view-lookup, view-Object}
use Rattle.serde_json.specs.Data.{Data, null, boolean, number, string, array, object, Members}
use Rattle.serde_json.specs.Find.{as_object, get, get_member}
use Rattle.serde_json.specs.View.{view, members_view}
use Rattle.serde_json.specs.declared.value.Value.{Value, Object}
use Rattle.nemo_read.specs.Parts.{KeepsOthers}

abbrev pub Map : Type 0
Map = BTreeMap (String Global) Value

in_object : (k : List ℕ) (d : Data) (ms : Members) → Some ms ≡ as_object d → get k d ≡ get_member k ms
in_object k null ms e = cc
in_object k (boolean b) ms e = cc
in_object k (number x) ms e = cc
in_object k (string s) ms e = cc
in_object k (array ds) ms e = cc
in_object k (object ns) ms e = let same : ms ≡ ns = cc in sym (ap (get_member k) same)

-- what is taken out of an object
pub taken : (name : List ℕ) (d : Data) (m : Map) (r : Option Value) → Some (members_view m.entries) ≡ as_object d → r ≡ get_by_text m name → option_map view r ≡ get name d
taken name d m r is e = ap (option_map view) e ∙ view-lookup name m.entries ∙ sym (in_object name d (members_view m.entries) is)

-- the others stay
pub others : (name : List ℕ) (d : Data) (m n : Map) → Some (members_view m.entries) ≡ as_object d → UpdatesBy string_cmp (λ k. slice_cmp nat_cmp name (string_bytes k)) m n None → KeepsOthers name d (view (Object n))
others name d m n is updates k other =
    let same : get_by_text n k ≡ get_by_text m k =
    btree_map_updates_text name m n None updates k ∙ ap (λ b. cond b None (get_by_text m k)) (false_from_ne_true (bytes_eq name k) (λ e. other (sym ((bytes_eq-Decides name k).0 e)))) in
    ap (get k) (view-Object n) ∙ sym (view-lookup k n.entries) ∙ ap (option_map view) same ∙ view-lookup k m.entries ∙ sym (in_object k d (members_view m.entries) is)
