-- What a walk over the sites of a job notes, and how names are looked up on it.
use Rattle.std.specs.Prelude.{◌≡◌, ℕ, ◌+◌, ◌-◌, ◌^◌, ◌&&◌, ◌||◌, min, nat_le, nat_lt, Bool, true, false, not, if◌then◌else◌, List, [], ◌∷◌, ◌++◌, length, map, Option, Some, None, option_map}
use Rattle.std.specs.List.{list_all, list_any}
use Rattle.std.specs.Option.{option_or}
use denote.Ref.{Bor}
use Rattle.indexmap.specs.IndexMap.{IndexMap}
use Rattle.nemo_value.specs.Names.{is_name}
use Rattle.nemo_value.specs.Texts.{same_text, all_new}
use Rattle.nemo_job.specs.ByName.{named_in}
use Rattle.nemo_job.specs.Refusals.{Refusal, number, found, gives_none, is_bad_loop, is_double, is_forward, is_good, is_misfed, is_next_known, has_ports, names_unknown}
use Rattle.nemo_job.specs.Sites.{Doing, Does, Loops, Face, Site, faces, port_face, standing, working}
use Rattle.nemo_job.specs.declared.refusals.Code.{Code}
use Rattle.nemo_job.specs.declared.refusals.Found.{Found}
use Rattle.nemo_job.specs.declared.scope.Named.{Named}
use Rattle.nemo_job.specs.declared.site.Fails.{Fails}
use Rattle.nemo_job.specs.declared.vertex.JobVertex.{JobVertex}
use Rattle.nemo_job.specs.declared.vertex.Ref.{Ref}

---- names

abbrev pub named_at : ℕ → Face → Named
named_at i f = record { position = i; ports = f.ports; is_sink = gives_none f.transform }

-- the first of a name, counted from i
abbrev pub first_named : List ℕ → ℕ → List Face → Option Named
first_named name i [] = None
first_named name i (f ∷ fs) = if same_text f.name name then Some (named_at i f) else first_named name (i + 1) fs

-- the map has the first of each name
abbrev pub HasFaces : {S : Type 0} → List Face → IndexMap (Bor (List ℕ)) Named S → Type 0
HasFaces fs scope = (q : List ℕ) → named_in scope q ≡ first_named q 0 fs

-- what the list of a body, or of the job, has for references
abbrev pub seen : List (List ℕ) → List JobVertex → List Face
seen carry vs = map port_face carry ++ faces (map standing vs)

-- the one that is there gives rows at this port
abbrev pub gives : ℕ → Option Named → Bool
gives port (Some n) = not n.is_sink && nat_lt port n.ports
gives port None = false

abbrev pub is_before : ℕ → Option Named → Bool
is_before i (Some n) = nat_lt n.position i
is_before i None = false

abbrev pub is_from : ℕ → Option Named → Bool
is_from i (Some n) = nat_le i n.position
is_from i None = false

abbrev pub is_known_in : {S : Type 0} → IndexMap (Bor (List ℕ)) Named S → Ref → Bool
is_known_in scope r = gives r.port (named_in scope r.name)

abbrev pub is_any_from : {S : Type 0} → IndexMap (Bor (List ℕ)) Named S → ℕ → List Ref → Bool
is_any_from scope i rs = list_any (λ r. is_from i (named_in scope r.name)) rs

---- one site

-- the codes that fail at a site
abbrev pub fails : Site → Fails
fails s = record { double = is_double s; unknown = names_unknown s; forward = is_forward s; misfed = is_misfed s; bad_loop = is_bad_loop s }

-- what fails at a vertex by the map of its list
abbrev pub outer : {S : Type 0} → IndexMap (Bor (List ℕ)) Named S → ℕ → ℕ → JobVertex → Fails
outer scope i depth v = record {
  double = is_before i (named_in scope v.name);
  unknown = not (list_all (is_known_in scope) v.inputs);
  forward = is_any_from scope i v.inputs;
  misfed = not (has_ports (length v.inputs) (working v.work).doing);
  bad_loop = not (is_good depth (working v.work).doing);
}

-- that with what fails inside
abbrev pub with_inner : Bool → Bool → Fails → Fails
with_inner differ known f = record { double = f.double || not differ; unknown = f.unknown || not known; forward = f.forward; misfed = f.misfed; bad_loop = f.bad_loop }

abbrev pub with_body : Doing → Fails → Fails
with_body (Does t) f = f
with_body (Loops turns carry body next) f = with_inner (all_new [] carry) (is_next_known (Loops turns carry body next)) f

---- a walk

abbrev pub first_of : Option ℕ → Bool → ℕ → Option ℕ
first_of noted so here = option_or noted (if so then Some here else None)

-- a site with these failures comes next
abbrev pub note : Fails → Found → Found
note f old = record {
  count = min (old.count + 1) (2 ^ 64 - 1);
  double = first_of old.double f.double old.count;
  unknown = first_of old.unknown f.unknown old.count;
  forward = first_of old.forward f.forward old.count;
  misfed = first_of old.misfed f.misfed old.count;
  bad_loop = first_of old.bad_loop f.bad_loop old.count;
}

-- these sites come next
abbrev pub walk : List Site → Found → Found
walk [] old = old
walk (s ∷ ss) old = walk ss (note (fails s) old)

-- after these sites, which all have names, this is found
pub record Walked (ss : List Site) (old new : Found) : Type 0 where
  pub found : new ≡ walk ss old
  pub named : list_all (λ s. is_name s.name) ss ≡ true

-- the same for sites that are told by the number of loops around, of which more than 3 are taken for 3
abbrev pub WalkedAt : ℕ → (ℕ → List Site) → Found → Found → Type 0
WalkedAt depth ss old new = (d : ℕ) → min d 3 ≡ depth → Walked (ss d) old new

abbrev pub nothing : Found
nothing = record { count = 0; double = None; unknown = None; forward = None; misfed = None; bad_loop = None }

-- a code at a place that was noted
abbrev pub at_place : Code → Option ℕ → Option Refusal
at_place code place = option_map (λ p. record { code = number code; place = p }) place

-- a place that was noted is that of the first refusal of a code
abbrev pub IsFirst : (Site → Bool) → List Site → Option ℕ → Type 0
IsFirst P ss place = (code : Code) → at_place code place ≡ found code P ss
