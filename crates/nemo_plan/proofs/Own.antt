-- Numbers that rise and reach all below a bound are the numbers themselves.
use Rattle.std.proofs.Common.{arith, ◌≡◌, ap, refl, ℕ, zero, suc, ◌+◌, ◌<◌, ◌≤◌, inl, inr}
use Rattle.std.proofs.lemmas.Bool.{cases_order}

-- where a number comes from
pub record Origin (f : ℕ → ℕ) (m v : ℕ) : Type 0 where
  pub number : ℕ
  pub within : number < m
  pub is : f number ≡ v

-- f numbers m things from 0 on, in order, by all numbers below n
pub record Counts (f : ℕ → ℕ) (m n : ℕ) : Type 0 where
  pub rises : (i : ℕ) → suc i < m → f i < f (suc i)
  pub within : (i : ℕ) → i < m → f i < n
  pub onto : (v : ℕ) → v < n → Origin f m v

above : (f : ℕ → ℕ) (m n : ℕ) → Counts f m n → (i : ℕ) → i < m → i ≤ f i
above f m n c zero h = omega arith
above f m n c (suc i) h =
    let before : i ≤ f i = above f m n c i (omega arith) in
    let less : f i < f (suc i) = c.rises i h in
    omega arith

more : (f : ℕ → ℕ) (m n : ℕ) → Counts f m n → (i j : ℕ) → i + suc j < m → f i < f (i + suc j)
more f m n c i zero h =
    let up : suc i ≡ i + 1 = omega arith in
    let less : f i < f (suc i) = c.rises i (omega arith) in
    let same : f (suc i) ≡ f (i + 1) = ap f up in
    omega arith
more f m n c i (suc j) h =
    let up : suc (i + suc j) ≡ i + suc (suc j) = omega arith in
    let before : f i < f (i + suc j) = more f m n c i j (omega arith) in
    let less : f (i + suc j) < f (suc (i + suc j)) = c.rises (i + suc j) (omega arith) in
    let same : f (suc (i + suc j)) ≡ f (i + suc (suc j)) = ap f up in
    omega arith

-- a number above another one is some numbers above it
record Apart (i j : ℕ) : Type 0 where
  by : ℕ
  is : j ≡ i + suc by

apart : (i j : ℕ) → i < j → Apart i j
apart i zero h = absurd (omega arith)
apart zero (suc j) h = let e : suc j ≡ 0 + suc j = omega arith in record { by = j; is = e }
apart (suc i) (suc j) h =
    let r = apart i j (omega arith) in
    let d : j ≡ i + suc r.by = r.is in
    let up : suc j ≡ suc i + suc r.by = omega arith in
    record { by = r.by; is = up }

less : (f : ℕ → ℕ) (m n : ℕ) → Counts f m n → (i j : ℕ) → i < j → j < m → f i < f j
less f m n c i j h l =
    let r = apart i j h in
    let is : j ≡ i + suc r.by = r.is in
    let before : f i < f (i + suc r.by) = more f m n c i r.by (omega arith) in
    let same : f j ≡ f (i + suc r.by) = ap f is in
    omega arith

-- a number is at most the one from which it comes
from_above : (f : ℕ → ℕ) (m n : ℕ) → (c : Counts f m n) → (v : ℕ) (h : v < n) → v ≤ (c.onto v h).number
from_above f m n c zero h = omega arith
from_above f m n c (suc v) h =
    let l : v < n = omega arith in
    let before : v ≤ (c.onto v l).number = from_above f m n c v l in
    let o = c.onto (suc v) h in
    let p = c.onto v l in
    let is : f o.number ≡ suc v = o.is in
    let was : f p.number ≡ v = p.is in
    let within : p.number < m = p.within in
    elim (cases_order p.number o.number) [
      | inl e ↦ (let same : f p.number ≡ f o.number = ap f e in absurd (omega arith))
      | inr d ↦ elim d [
        | inl below ↦ omega arith
        | inr over ↦ (let fall : f o.number < f p.number = less f m n c o.number p.number over within in absurd (omega arith))
      ]
    ]

pub own : (f : ℕ → ℕ) (m n : ℕ) → Counts f m n → (i : ℕ) → i < m → f i ≡ i
own f m n c i h =
    let l : f i < n = c.within i h in
    let o = c.onto (f i) l in
    let low : i ≤ f i = above f m n c i h in
    let high : f i ≤ o.number = from_above f m n c (f i) l in
    let is : f o.number ≡ f i = o.is in
    let within : o.number < m = o.within in
    elim (cases_order o.number i) [
      | inl e ↦ omega arith
      | inr d ↦ elim d [
        | inl below ↦ (let fall : f o.number < f i = less f m n c o.number i below h in absurd (omega arith))
        | inr over ↦ (let rise : f i < f o.number = less f m n c i o.number over within in absurd (omega arith))
      ]
    ]

pub same_count : (f : ℕ → ℕ) (m n : ℕ) → Counts f m n → m ≡ n
same_count f zero zero c = refl
same_count f zero (suc n) c = let o = c.onto n (omega arith) in let within : o.number < 0 = o.within in absurd (omega arith)
same_count f (suc m) zero c = let within : f m < 0 = c.within m (omega arith) in absurd (omega arith)
same_count f (suc m) (suc n) c =
    let last : m < suc m = omega arith in
    let end : n < suc n = omega arith in
    let o = c.onto n end in
    let within : o.number < suc m = o.within in
    let low : m ≤ f m = above f (suc m) (suc n) c m last in
    let under : f m < suc n = c.within m last in
    let high : n ≤ o.number = from_above f (suc m) (suc n) c n end in
    omega arith
