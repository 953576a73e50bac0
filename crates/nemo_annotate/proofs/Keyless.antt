-- The ports of a union are no Keyed ports.
use Rattle.std.proofs.Common.{◌≡◌, refl, ℕ, zero, suc, false, replicate}
use Rattle.std.specs.List.{list_any}
use Rattle.nemo_transform.specs.Ports.{is_keyed}
use Rattle.nemo_transform.specs.declared.shape.PortKind.TheVariants.{Main}

pub no_keyed : (n : ℕ) → list_any is_keyed (replicate n Main) ≡ false
no_keyed zero = refl
no_keyed (suc n) = no_keyed n
