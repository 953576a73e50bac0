-- A launch is allowed exactly where its task is ready and its slot fits.
use Rattle.std.proofs.Common.{◌≡◌, ◌∙◌, ap, refl, ℕ, List, [], ◌∷◌, map, length, slice_get, true, Option, None}
use Rattle.std.specs.Prelude.{◌↔◌, ◌&&◌, ◌==◌, nat_lt, is_some}
use Rattle.std.specs.List.{flat_map, list_all}
use Rattle.std.proofs.lemmas.Bool.{and_from, and_parts, eqb-true, lt-ltb, ltb-true}
use Rattle.std.proofs.lemmas.List.Folds.{list_all-append}
use Rattle.nemo_base.specs.Places.{passes}
use Rattle.nemo_base.specs.declared.graph.Read.{Read}
use Rattle.nemo_base.specs.declared.graph.TaskGraph.{TaskGraph}
use Rattle.nemo_base.specs.declared.id.TaskId.{TaskId}
use Rattle.nemo_base.specs.declared.settings.Settings.{Settings}
use Rattle.nemo_core.specs.Laws.{MayLaunch, NamesRightly, ReadyLaw, next_launch}
use Rattle.nemo_core.specs.State.{State, all_held, blocks_read, holder, is_needed, read_held, read_in, reads_held, reads_of, task_at}
use Rattle.nemo_core.specs.Step.{all_decided, are_holders, fits, is_going, is_idle, refusal}
use Rattle.nemo_core.specs.declared.event.Event.TheVariants.{Launch}
use Rattle.nemo_core.specs.declared.event.HeldBy.{HeldBy}
use Rattle.nemo_core.proofs.Allowed.{going_is, met, unless}
use Rattle.nemo_core.proofs.Holders.{right_name}

---- the conditions, one by one

pub record IsLaunch (g : TaskGraph) (k : Settings) (s : State) (t : TaskId) (slot : ℕ) : Type 0 where
  pub going : is_going s.outcome ≡ true
  pub known : is_some (task_at s t) ≡ true
  pub there : nat_lt slot (length s.incs) ≡ true
  pub needed : is_needed g s t ≡ true
  pub idle : passes is_idle (task_at s t) ≡ true
  pub reads : reads_held g s t ≡ true
  pub class : passes (λ row. fits k slot row.class) (slice_get g.stages t.stage) ≡ true
  pub losses : passes (λ row. nat_lt row.losses k.loss_bound) (task_at s t) ≡ true
  pub decided : all_decided g s t.stage ≡ true

-- a launch with this number and these names
pub record IsAllowed (g : TaskGraph) (k : Settings) (s : State) (attempt : ℕ) (t : TaskId) (slot : ℕ) (reads : List ℕ) : Type 0 where
  pub launch : IsLaunch g k s t slot
  pub named : ((attempt == s.launches) && are_holders (blocks_read g s t) reads) ≡ true

pub launch_allowed : (g : TaskGraph) (k : Settings) (s : State) (attempt : ℕ) (t : TaskId) (slot : ℕ) (reads : List ℕ) → refusal g k s (Launch attempt t slot reads) ≡ None → IsAllowed g k s attempt t slot reads
launch_allowed g k s attempt t slot reads h =
    let a = met _ _ _ h in
    let b = met _ _ _ a.1 in
    let c = met _ _ _ b.1 in
    let d = met _ _ _ c.1 in
    let e = met _ _ _ d.1 in
    let f = met _ _ _ e.1 in
    let m = met _ _ _ f.1 in
    let n = met _ _ _ m.1 in
    let o = met _ _ _ n.1 in
    let p = met _ _ _ o.1 in
    record {
      launch = record { going = a.0; known = b.0; there = c.0; needed = d.0; idle = e.0; reads = f.0; class = m.0; losses = n.0; decided = o.0 };
      named = p.0;
    }

pub allow_launch : (g : TaskGraph) (k : Settings) (s : State) (attempt : ℕ) (t : TaskId) (slot : ℕ) (reads : List ℕ) → IsAllowed g k s attempt t slot reads → refusal g k s (Launch attempt t slot reads) ≡ None
allow_launch g k s attempt t slot reads a =
    let l = a.launch in
    unless _ _ _ l.going (unless _ _ _ l.known (unless _ _ _ l.there (unless _ _ _ l.needed (unless _ _ _ l.idle (unless _ _ _ l.reads
    (unless _ _ _ l.class (unless _ _ _ l.losses (unless _ _ _ l.decided (unless _ _ _ a.named refl)))))))))

---- readiness

to_may : (g : TaskGraph) (k : Settings) (s : State) (t : TaskId) (slot : ℕ) → IsLaunch g k s t slot → MayLaunch g k s t slot
to_may g k s t slot l = record {
  going = going_is s.outcome l.going;
  ready = and_from _ _ (and_from _ _ (and_from _ _ (and_from _ _ (and_from _ _ l.known l.needed) l.idle) l.reads) l.losses) l.decided;
  there = ltb-true slot (length s.incs) l.there;
  class = l.class;
}

pub from_may : (g : TaskGraph) (k : Settings) (s : State) (t : TaskId) (slot : ℕ) → MayLaunch g k s t slot → IsLaunch g k s t slot
from_may g k s t slot m =
    let a = and_parts (is_some (task_at s t) && is_needed g s t && passes is_idle (task_at s t) && reads_held g s t && passes (λ row. nat_lt row.losses k.loss_bound) (task_at s t)) (all_decided g s t.stage) m.ready in
    let b = and_parts (is_some (task_at s t) && is_needed g s t && passes is_idle (task_at s t) && reads_held g s t) (passes (λ row. nat_lt row.losses k.loss_bound) (task_at s t)) a.0 in
    let c = and_parts (is_some (task_at s t) && is_needed g s t && passes is_idle (task_at s t)) (reads_held g s t) b.0 in
    let d = and_parts (is_some (task_at s t) && is_needed g s t) (passes is_idle (task_at s t)) c.0 in
    let e = and_parts (is_some (task_at s t)) (is_needed g s t) d.0 in
    record {
      going = ap is_going m.going;
      known = e.0;
      there = lt-ltb slot (length s.incs) m.there;
      needed = e.1;
      idle = d.1;
      reads = c.1;
      class = m.class;
      losses = b.1;
      decided = a.1;
    }

---- names

holders_named : (bs : List (Option HeldBy)) (names : List ℕ) → are_holders bs names ≡ true → names ≡ map holder bs
holders_named [] [] h = refl
holders_named [] (n ∷ ns) h = cc
holders_named (b ∷ bs) [] h = cc
holders_named (b ∷ bs) (n ∷ ns) h =
    let p = and_parts (n == holder b) (are_holders bs ns) h in
    ap (λ m. m ∷ ns) (eqb-true n (holder b) p.0) ∙ ap (λ ms. holder b ∷ ms) (holders_named bs ns p.1)

all_read : (blocks : List (List (Option HeldBy))) (i : ℕ) (reads : List Read) → list_all (read_held blocks i) reads ≡ true → all_held (flat_map (read_in blocks i) reads) ≡ true
all_read blocks i [] h = refl
all_read blocks i (r ∷ reads) h =
    let p = and_parts (read_held blocks i r) (list_all (read_held blocks i) reads) h in
    list_all-append is_some (read_in blocks i r) (flat_map (read_in blocks i) reads) ∙ and_from _ _ p.0 (all_read blocks i reads p.1)

---- the law

pub launch_iff : (g : TaskGraph) (k : Settings) (s : State) (t : TaskId) (slot : ℕ) → (refusal g k s (next_launch g s t slot) ≡ None) ↔ MayLaunch g k s t slot
launch_iff g k s t slot = (
  λ h. to_may g k s t slot (launch_allowed g k s s.launches t slot (map holder (blocks_read g s t)) h).launch,
  λ m. allow_launch g k s s.launches t slot (map holder (blocks_read g s t)) (record { launch = from_may g k s t slot m; named = right_name s.launches (blocks_read g s t) }),
)

pub launch_only : (g : TaskGraph) (k : Settings) (s : State) (attempt : ℕ) (t : TaskId) (slot : ℕ) (reads : List ℕ)
    → refusal g k s (Launch attempt t slot reads) ≡ None → NamesRightly g s attempt t reads × MayLaunch g k s t slot
launch_only g k s attempt t slot reads h =
    let a = launch_allowed g k s attempt t slot reads h in
    let p = and_parts (attempt == s.launches) (are_holders (blocks_read g s t) reads) a.named in (
      record {
        number = eqb-true attempt s.launches p.0;
        names = holders_named (blocks_read g s t) reads p.1;
        held = all_read s.blocks t.index (reads_of g t.stage) a.launch.reads;
      },
      to_may g k s t slot a.launch,
    )

pub ready : ReadyLaw
ready = record { allowed = launch_iff; only = launch_only }
