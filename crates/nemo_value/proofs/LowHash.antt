-- The low byte of a hash depends on low bytes alone.
use Rattle.std.proofs.Common.{◌≡◌, ◌∙◌, ap, ℕ, ◌*◌, ◌/◌, ◌%◌, ◌^◌, ◌<◌, lit<, bit_xor}
use Rattle.std.proofs.lemmas.Nat.{xor_mod, mul-mod, mod-pow-add, mod_low, mod_below}
use Rattle.std.proofs.Math.Nat.{mod-eq_of_lt}
use Rattle.nemo_value.specs.Bucket.{hash_step}

-- 64 bits, and then the low 8
low_of : (n : ℕ) → n % 2 ^ 64 % 2 ^ 8 ≡ n % 2 ^ 8
low_of n = ap (λ m. m % 2 ^ 8) (mod-pow-add n 56 8) ∙ mod_low (n / 2 ^ 8 % 2 ^ 56) 8 (n % 2 ^ 8) (mod_below n (2 ^ 8) (lit< tt))

pub low_step : (hash byte : ℕ) → byte < 256 → hash_step hash byte % 256 ≡ (bit_xor (hash % 256) byte * 179) % 256
low_step hash byte h =
    let mixed = bit_xor hash byte in
    let low : mixed % 2 ^ 8 ≡ bit_xor (hash % 256) byte = xor_mod hash byte 8 ∙ ap (bit_xor (hash % 256)) (mod-eq_of_lt h) in
    low_of (mixed * 1099511628211)
    ∙ mul-mod mixed 1099511628211 256
    ∙ ap (λ m. (m * 179) % 256) low
