-- The names of a scope and the faces that references see: a reference that is known takes a copy that is no sink.
use Rattle.std.proofs.Common.{arith, ◌≡◌, ◌∙◌, refl, sym, subst, ℕ, zero, suc, ◌<◌, List, [], ◌∷◌, ◌++◌, Bool, true, false, ◌&&◌, ◌||◌, not, cond, length, map, Some, None, nat_lt, true≢false}
use Rattle.std.specs.Prelude.{slice_index_or}
use Rattle.std.proofs.lemmas.Bool.{ltb-true, not-true, or_parts}
use Rattle.std.specs.Cmp.{first_so, second_so}
use Rattle.std.specs.List.{list_all, list_any}
use Rattle.nemo_value.specs.Texts.{same_text}
use Rattle.nemo_job.specs.Refusals.{face_named, gives_none, has_name, has_port, is_known}
use Rattle.nemo_job.specs.Sites.{Face, port_face}
use Rattle.nemo_job.specs.Unrolled.{Bound, Copy, Ports, bound, ports_of, source_of}
use Rattle.nemo_job.specs.declared.vertex.Ref.{Ref}
use Rattle.nemo_job.proofs.FedCopies.{AllTake, Keeps, Takes, all_take_more}

---- references

has_one : (port : ℕ) (r : Ref) (from : List Face) → has_port port (face_named r.name from) ≡ true → list_any (has_name r.name) from ≡ true
has_one port r [] h = h
has_one port r (f ∷ from) h = go (has_name r.name f) h (has_one port r from)
  where
    go : (b : Bool) → has_port port (cond b (Some f) (face_named r.name from)) ≡ true → (has_port port (face_named r.name from) ≡ true → list_any (has_name r.name) from ≡ true)
        → (b || list_any (has_name r.name) from) ≡ true
    go true h ih = refl
    go false h ih = ih h

-- something later has the name, and nothing before
abbrev pub is_ahead : List Face → List Face → Ref → Bool
is_ahead before from r = not (list_any (has_name r.name) before) && list_any (has_name r.name) from

-- what is known, and isn't of something later, is known before
known_before : (before from : List Face) (r : Ref) → is_known (before ++ from) r ≡ true → is_ahead before from r ≡ false → is_known before r ≡ true
known_before [] from r known back = absurd (true≢false (sym (has_one r.port r from known) ∙ back))
known_before (f ∷ before) from r known back = go (has_name r.name f) known back (known_before before from r)
  where
    go : (b : Bool) → has_port r.port (cond b (Some f) (face_named r.name (before ++ from))) ≡ true
        → (not (b || list_any (has_name r.name) before) && list_any (has_name r.name) from) ≡ false
        → (is_known (before ++ from) r ≡ true → is_ahead before from r ≡ false → is_known before r ≡ true)
        → has_port r.port (cond b (Some f) (face_named r.name before)) ≡ true
    go true known back ih = known
    go false known back ih = ih known back

pub all_known_before : (before from : List Face) (refs : List Ref)
    → list_all (is_known (before ++ from)) refs ≡ true
    → list_any (is_ahead before from) refs ≡ false → list_all (is_known before) refs ≡ true
all_known_before before from [] known back = refl
all_known_before before from (r ∷ refs) known back =
    let parts = or_parts (is_ahead before from r) (list_any (is_ahead before from) refs) back in
    let here = known_before before from r (first_so (is_known (before ++ from) r) (list_all (is_known (before ++ from)) refs) known) parts.0 in
    (λ i. here i && list_all (is_known before) refs)
    ∙ all_known_before before from refs (second_so (is_known (before ++ from) r) (list_all (is_known (before ++ from)) refs) known) parts.1

---- names and faces

-- the name of a face, with its ports, which all take unless the face is that of a sink
pub record Shows (made : List Copy) (b : Bound) (f : Face) : Type 0 where
  pub name : b.name ≡ f.name
  pub size : length b.ports ≡ f.ports
  pub takes : gives_none f.transform ≡ false → AllTake made b.ports

abbrev pub Stands : List Copy → List Bound → List Face → Type 0
Stands made [] [] = Unit {0}
Stands made (b ∷ names) (f ∷ fs) = Shows made b f × Stands made names fs
Stands made _ _ = ⊥

-- one name more, on more copies
pub stands_more : (made more : List Copy) → Keeps made more → (names : List Bound) (fs : List Face) (b : Bound) (f : Face)
    → Stands made names fs → Shows more b f → Stands more (names ++ b ∷ []) (fs ++ f ∷ [])
stands_more made more g [] [] b f h one = (one, tt)
stands_more made more g (c ∷ names) (e ∷ fs) b f h one = (
  record {
    name = h.0.name;
    size = h.0.size;
    takes = λ rows. all_take_more made more g c.ports (h.0.takes rows);
  },
  stands_more made more g names fs b f h.1 one,
)
stands_more made more g [] (e ∷ fs) b f h one = absurd h
stands_more made more g (c ∷ names) [] b f h one = absurd h

-- the ports of a turn
pub ports_stand : (made : List Copy) (ports : Ports) (carry : List (List ℕ))
    → length ports ≡ length carry → AllTake made ports → Stands made (bound ports carry) (map port_face carry)
ports_stand made [] [] same t = tt
ports_stand made [] (name ∷ carry) same t = cc
ports_stand made (p ∷ ports) [] same t = cc
ports_stand made (p ∷ ports) (name ∷ carry) same t =
    let rest : length ports ≡ length carry = omega arith in
    (record { name = refl; size = refl; takes = λ rows. (t.0, tt) }, ports_stand made ports carry rest t.1)

takes_at : (made : List Copy) (ports : Ports) (port : ℕ) → port < length ports → AllTake made ports → Takes made (slice_index_or ports port None)
takes_at made [] port low t = absurd (omega arith)
takes_at made (p ∷ ports) zero low t = t.0
takes_at made (p ∷ ports) (suc port) low t = let rest : port < length ports = omega arith in takes_at made ports port rest t.1

-- a reference that is known takes
pub known_takes : (made : List Copy) (names : List Bound) (fs : List Face) (r : Ref) → Stands made names fs → is_known fs r ≡ true → Takes made (source_of names r)
known_takes made [] [] r h known = cc
known_takes made [] (f ∷ fs) r h known = absurd h
known_takes made (b ∷ names) [] r h known = absurd h
known_takes made (b ∷ names) (f ∷ fs) r h known =
    subst (λ name. Takes made (slice_index_or (cond (same_text name r.name) b.ports (ports_of r.name names)) r.port None)) (sym h.0.name)
    (go (same_text f.name r.name) known (known_takes made names fs r h.1))
  where
    here : has_port r.port (Some f) ≡ true → Takes made (slice_index_or b.ports r.port None)
    here known =
        let low : r.port < f.ports = ltb-true r.port f.ports (second_so (not (gives_none f.transform)) (nat_lt r.port f.ports) known) in
        let rows : gives_none f.transform ≡ false = not-true (gives_none f.transform) (first_so (not (gives_none f.transform)) (nat_lt r.port f.ports) known) in
        takes_at made b.ports r.port (subst (λ n. r.port < n) (sym h.0.size) low) (h.0.takes rows)

    go : (c : Bool) → has_port r.port (cond c (Some f) (face_named r.name fs)) ≡ true → (is_known fs r ≡ true → Takes made (source_of names r))
        → Takes made (slice_index_or (cond c b.ports (ports_of r.name names)) r.port None)
    go true known ih = here known
    go false known ih = ih known

pub all_known_take : (made : List Copy) (names : List Bound) (fs : List Face) (refs : List Ref)
    → Stands made names fs → list_all (is_known fs) refs ≡ true → AllTake made (map (source_of names) refs)
all_known_take made names fs [] h known = tt
all_known_take made names fs (r ∷ refs) h known =
    let rest = list_all (is_known fs) refs in
    (known_takes made names fs r h (first_so (is_known fs r) rest known), all_known_take made names fs refs h (second_so (is_known fs r) rest known))
