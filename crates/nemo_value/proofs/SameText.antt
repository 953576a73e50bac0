-- Texts that tie have the same bytes.
use Rattle.std.proofs.Common.{◌≡◌, List, ℕ, sym}
use Rattle.std.proofs.lemmas.Map.Text.{is_eq-slice_cmp}
use Rattle.std.specs.Ordering.{is_eq}
use Rattle.nemo_value.specs.Order.{text_cmp}
use Rattle.nemo_value.specs.Texts.{same_text as same}

pub same_text : (s t : List ℕ) → same s t ≡ is_eq (text_cmp s t)
same_text s t = sym (is_eq-slice_cmp s t)
