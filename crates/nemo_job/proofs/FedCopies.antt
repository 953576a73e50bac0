-- Copies that take what stands before them, and no sink.
use Rattle.std.proofs.Common.{◌≡◌, ◌∙◌, refl, sym, ap, subst, ℕ, zero, suc, ◌<◌, List, [], ◌∷◌, ◌++◌, true, false, length, map, slice_get, unwrap_or, Option, Some, None, ◌⊎◌, inl, inr}
use Rattle.std.proofs.lemmas.Bool.{eqb-true}
use Rattle.std.proofs.lemmas.List.{length-map, length-replicate}
use Rattle.std.proofs.lemmas.Option.{slice_get_within}
use Rattle.nemo_transform.specs.Ports.{kinds_of}
use Rattle.nemo_transform.specs.declared.shape.PortKind.TheVariants.{Main}
use Rattle.nemo_transform.specs.Soundness.{is_few, is_sound}
use Rattle.nemo_transform.specs.declared.transform.Transform.{Transform}
use Rattle.nemo_transform.specs.declared.transform.Transform.TheVariants.{Source, Map, Filter, Emit, Words, Union, Reduce, Distinct, Join, SideJoin, Sink}
use Rattle.nemo_job.specs.Fitting.{fits}
use Rattle.nemo_transform.specs.Sinks.{does_sink}
use Rattle.nemo_job.specs.Refusals.{gives_none, has_ports}
use Rattle.nemo_job.specs.Sites.{Does}
use Rattle.nemo_job.specs.Unrolled.{Copy, Ports}

---- what ports take

-- a place has a copy that is no sink
abbrev pub HasRows : List Copy → ℕ → Type 0
HasRows made p = (c : Copy) × (slice_get made p ≡ Some c) × (does_sink c.transform ≡ false)

abbrev pub Takes : List Copy → Option ℕ → Type 0
Takes made None = ⊥
Takes made (Some p) = HasRows made p

abbrev pub AllTake : List Copy → Ports → Type 0
AllTake made [] = Unit {0}
AllTake made (p ∷ ports) = Takes made p × AllTake made ports

-- each copy keeps its place
pub record Keeps (made more : List Copy) : Type 0 where
  pub same : (p : ℕ) (c : Copy) → slice_get made p ≡ Some c → slice_get more p ≡ Some c

pub keeps_all : (made : List Copy) → Keeps made made
keeps_all made = record { same = λ p c e. e }

pub keeps_twice : (a b c : List Copy) → Keeps a b → Keeps b c → Keeps a c
keeps_twice a b c g h = record { same = λ p d e. h.same p d (g.same p d e) }

pub takes_more : (made more : List Copy) → Keeps made more → (p : Option ℕ) → Takes made p → Takes more p
takes_more made more g None t = t
takes_more made more g (Some p) t = (t.0, g.same p t.0 t.1, t.2)

pub all_take_more : (made more : List Copy) → Keeps made more → (ports : Ports) → AllTake made ports → AllTake more ports
all_take_more made more g [] t = tt
all_take_more made more g (p ∷ ports) t = (takes_more made more g p t.0, all_take_more made more g ports t.1)

---- copies

-- the copy of a place takes copies before it that are no sinks, one for each port, and is sound
pub record IsFed (made : List Copy) (i : ℕ) (c : Copy) : Type 0 where
  pub lower : (k j : ℕ) → slice_get c.inputs k ≡ Some j → j < i
  pub rows : (k j : ℕ) → slice_get c.inputs k ≡ Some j → HasRows made j
  pub ports : length c.inputs ≡ length (kinds_of c.transform)
  pub sound : is_sound c.transform ≡ true

pub record AllFed (made : List Copy) : Type 0 where
  pub each : (i : ℕ) (c : Copy) → slice_get made i ≡ Some c → IsFed made i c

fed_more : (made more : List Copy) → Keeps made more → (i : ℕ) (c : Copy) → IsFed made i c → IsFed more i c
fed_more made more g i c h = record {
  lower = h.lower;
  rows = λ k j e. takes_more made more g (Some j) (h.rows k j e);
  ports = h.ports;
  sound = h.sound;
}

kept : (xs : List Copy) (y : Copy) (i : ℕ) (x : Copy) → slice_get xs i ≡ Some x → slice_get (xs ++ y ∷ []) i ≡ Some x
kept [] y i x e = cc
kept (z ∷ xs) y zero x e = e
kept (z ∷ xs) y (suc i) x e = kept xs y i x e

pub keeps_one : (made : List Copy) (c : Copy) → Keeps made (made ++ c ∷ [])
keeps_one made c = record { same = kept made c }

pub at_end : (xs : List Copy) (y : Copy) → slice_get (xs ++ y ∷ []) (length xs) ≡ Some y
at_end [] y = refl
at_end (x ∷ xs) y = at_end xs y

-- a copy is one of those before, or the last
at_or_end : (xs : List Copy) (y : Copy) (i : ℕ) (x : Copy) → slice_get (xs ++ y ∷ []) i ≡ Some x → (slice_get xs i ≡ Some x) ⊎ ((length xs ≡ i) × (y ≡ x))
at_or_end [] y zero x e = inr (refl, cc)
at_or_end [] y (suc i) x e = cc
at_or_end (z ∷ xs) y zero x e = inl e
at_or_end (z ∷ xs) y (suc i) x e = elim (at_or_end xs y i x e) [ inl a ↦ inl a | inr b ↦ inr (ap suc b.0, b.1) ]

pub fed_one : (made : List Copy) (c : Copy) → AllFed made → IsFed made (length made) c → AllFed (made ++ c ∷ [])
fed_one made c all h = record { each = each }
  where
    each : (i : ℕ) (d : Copy) → slice_get (made ++ c ∷ []) i ≡ Some d → IsFed (made ++ c ∷ []) i d
    each i d e = elim (at_or_end made c i d e) [
      | inl a ↦ fed_more made (made ++ c ∷ []) (keeps_one made c) i d (all.each i d a)
      | inr b ↦ fed_more made (made ++ c ∷ []) (keeps_one made c) i d (subst (λ n. IsFed made n d) b.0 (subst (IsFed made (length made)) b.1 h))
    ]

---- one copy

abbrev pub places : Ports → ℕ → List ℕ
places ports own = map (λ p. unwrap_or p own) ports

-- what a copy takes on ports that all take
pub places_take : (made : List Copy) (ports : Ports) (own k j : ℕ) → AllTake made ports → slice_get (places ports own) k ≡ Some j → HasRows made j
places_take made [] own k j t e = cc
places_take made (None ∷ ports) own k j t e = absurd t.0
places_take made (Some p ∷ ports) own zero j t e = let is : p ≡ j = cc in subst (HasRows made) is t.0
places_take made (Some p ∷ ports) own (suc k) j t e = places_take made ports own k j t.1 e

ports_fed : (name : List ℕ) (inputs : ℕ) (t : Transform) → fits name inputs t ≡ true → has_ports inputs (Does t) ≡ true → inputs ≡ length (kinds_of t)
ports_fed name inputs (Union ports) h f = sym (eqb-true ports inputs h) ∙ sym (length-replicate ports Main)
ports_fed name inputs (Source rows) h f = eqb-true inputs 0 f
ports_fed name inputs (Map out) h f = eqb-true inputs 1 f
ports_fed name inputs (Filter c) h f = eqb-true inputs 1 f
ports_fed name inputs (Emit outs) h f = eqb-true inputs 1 f
ports_fed name inputs (Words field) h f = eqb-true inputs 1 f
ports_fed name inputs (Reduce by field) h f = eqb-true inputs 1 f
ports_fed name inputs Distinct h f = eqb-true inputs 1 f
ports_fed name inputs Join h f = eqb-true inputs 2 f
ports_fed name inputs SideJoin h f = eqb-true inputs 2 f
ports_fed name inputs (Sink own) h f = eqb-true inputs 1 f

work_sound : (name : List ℕ) (inputs : ℕ) (t : Transform) → fits name inputs t ≡ true → has_ports inputs (Does t) ≡ true → is_sound t ≡ true
work_sound name inputs (Union ports) h f = subst (λ n. is_few n ≡ true) (sym (eqb-true ports inputs h)) f
work_sound name inputs (Sink own) h f = refl
work_sound name inputs t h f = h

-- an operation on ports that all take
pub copy_fed : (made : List Copy) (name path : List ℕ) (number : ℕ) (t : Transform) (ports : Ports)
    → fits name (length ports) t ≡ true → has_ports (length ports) (Does t) ≡ true → AllTake made ports
    → IsFed made (length made) (record { path = path; number = number; transform = t; inputs = places ports (length made) })
copy_fed made name path number t ports fit fed takes = record {
  lower = λ k j e. let there = places_take made ports (length made) k j takes e in slice_get_within made j there.0 there.1;
  rows = λ k j e. places_take made ports (length made) k j takes e;
  ports = length-map ports (λ p. unwrap_or p (length made)) ∙ ports_fed name (length ports) t fit fed;
  sound = work_sound name (length ports) t fit fed;
}

-- an operation that gives rows is no sink
pub no_sink : (t : Transform) → gives_none (Some t) ≡ false → does_sink t ≡ false
no_sink (Sink name) h = h
no_sink _ h = refl
