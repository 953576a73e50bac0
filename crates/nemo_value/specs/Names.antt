-- Names of vertices.
use Rattle.std.specs.Prelude.{ℕ, ◌==◌, ◌||◌, ◌&&◌, List, Bool, length, nat_le, min, take_while}

-- an ASCII letter, a digit, `_` or `-`
abbrev pub is_name_byte : ℕ → Bool
is_name_byte b = (nat_le 48 b && nat_le b 57) || (nat_le 65 b && nat_le b 90) || (nat_le 97 b && nat_le b 122) || b == 95 || b == 45

-- the first place at which a text can't be a name
abbrev pub name_place : List ℕ → ℕ
name_place s = min (length (take_while is_name_byte s)) 64

-- 1 to 64 bytes that a name may have
abbrev pub is_name : List ℕ → Bool
is_name s = nat_le 1 (length s) && name_place s == length s
