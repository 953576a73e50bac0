-- Which transforms are sound.
use Rattle.std.specs.Prelude.{ℕ, ◌&&◌, nat_le, length, Bool, true}
use Rattle.std.specs.List.{list_all}
use Rattle.nemo_transform.specs.declared.transform.Transform.{Transform}
use Rattle.nemo_transform.specs.declared.transform.Transform.TheVariants.{Map, Emit, Union}

-- 1 to 16
abbrev pub is_few : ℕ → Bool
is_few n = nat_le 1 n && nat_le n 16

-- each `out` has 1 to 16 expressions, `outs` has 1 to 16 outputs, and a union has 1 to 16 ports
abbrev pub is_sound : Transform → Bool
is_sound (Map out) = is_few (length out)
is_sound (Emit outs) = is_few (length outs) && list_all (λ o. is_few (length o.out)) outs
is_sound (Union ports) = is_few ports
is_sound _ = true
