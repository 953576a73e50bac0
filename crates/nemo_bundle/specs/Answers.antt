-- What a reader answers, beside want of memory.
use Rattle.std.specs.Prelude.{◌≡◌, ◌^◌, ◌-◌, ℕ, min, Result, Ok, Err}
use Rattle.nemo_bundle.specs.Ends.{number}
use Rattle.nemo_bundle.specs.declared.end.BundleEnd.{BundleEnd}
use Rattle.nemo_bundle.specs.declared.end.BundleEnd.TheVariants.{Refused, NoMemory}
use Rattle.nemo_bundle.specs.declared.end.Code.{Code}
use Rattle.nemo_bundle.specs.declared.end.WalkEnd.{WalkEnd}
use Rattle.nemo_bundle.specs.declared.end.WalkEnd.TheVariants as walk
-- why a value is refused, and where
pub use Rattle.nemo_job.specs.Refusals.{Refusal}

-- a code at a place; one beyond 2^64-1 is given as 2^64-1
abbrev pub refused : Code → ℕ → Refusal
refused code place = record { code = number code; place = min place (2 ^ 64 - 1) }

-- the answer is what the definition gives, or memory ran out
abbrev pub Gives : {X : Type 0} → Result X BundleEnd → Result X Refusal → Type 0
Gives (Ok x) r = r ≡ Ok x
Gives (Err (Refused code place)) r = r ≡ Err (record { code = code; place = place })
Gives (Err NoMemory) r = Unit {0}

-- the answer is what the walk gives, or the number of the first vertex that has not its form, where one beyond 2^64-1 is
-- given as that, or memory ran out
abbrev pub Walks : {X Y : Type 0} → (X → Y) → Result X WalkEnd → Result Y ℕ → Type 0
Walks f (Ok x) r = r ≡ Ok (f x)
Walks f (Err (walk.Malformed place)) r = (i : ℕ) × (r ≡ Err i) × (place ≡ min i (2 ^ 64 - 1))
Walks f (Err walk.NoMemory) r = Unit {0}

-- goes on where there is an answer
abbrev pub on_ok : {X Y E : Type 0} → Result X E → (X → Result Y E) → Result Y E
on_ok (Ok x) f = f x
on_ok (Err e) f = Err e
