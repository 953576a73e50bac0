-- Expressions of a bounded depth.
use Rattle.std.proofs.Common.{◌≡◌, ap, ℕ, suc, None, option_and_then}
use Rattle.serde_json.specs.Data.{Data}
use Rattle.nemo_read.specs.Exprs.{expr_by, expr_within, shape_of}

-- at depth 0 there is none
pub none_within : (n : ℕ) (d : Data) → n ≡ 0 → expr_within n d ≡ None
unfolding expr_within
none_within n d h = ap (λ m. expr_within m d) h

-- one level, whose operands are one less deep
pub level_within : (n m : ℕ) (d : Data) → n ≡ suc m → expr_within n d ≡ option_and_then (expr_by (expr_within m)) (shape_of d)
unfolding expr_within
level_within n m d h = ap (λ k. expr_within k d) h
