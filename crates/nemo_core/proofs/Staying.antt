-- No step takes a block of a sink, and a drop alone takes one from a reserved slot.
use Rattle.std.proofs.Common.{arith, ◌≡◌, ◌∙◌, ap, sym, refl, ℕ, ◌<◌, ◌≤◌, Bool, true, false, Option, Some, None, slice_get, ◌⊎◌, inl, inr}
use Rattle.std.specs.Prelude.{is_some, not, ◌&&◌, ◌==◌, if◌then◌else◌}
use Rattle.std.proofs.lemmas.Bool.{and_parts, both_ways, eqb-true, leb-true, not-true, or_left}
use Rattle.nemo_base.specs.Needed.{is_master, is_read_by, is_sink, needed}
use Rattle.nemo_base.specs.Places.{passes}
use Rattle.nemo_base.specs.declared.annotation.Class.{Class}
use Rattle.nemo_base.specs.declared.graph.Home.{Home}
use Rattle.nemo_base.specs.declared.graph.Home.TheVariants.{Master, Pushed, Local}
use Rattle.nemo_base.specs.declared.graph.TaskGraph.{TaskGraph}
use Rattle.nemo_base.specs.declared.id.BlockId.{BlockId}
use Rattle.nemo_base.specs.declared.settings.Settings.{Settings}
use Rattle.nemo_base.proofs.Finding.{passing, same_item}
use Rattle.nemo_base.proofs.NeededTasks.{need_stays}
use Rattle.nemo_base.specs.Sound.{is_sound}
use Rattle.nemo_core.specs.Kept.{AreHome, IsHome, may_lie}
use Rattle.nemo_core.specs.Laws.{takes}
use Rattle.nemo_core.specs.State.{State, held_at, is_gone, is_wanted}
use Rattle.nemo_core.specs.Step.{after, conditions, lies_on, refusal}
use Rattle.nemo_core.specs.declared.event.Event.{Event}
use Rattle.nemo_core.specs.declared.event.Event.TheVariants.{Launch, Commit, Repeat, GiveBack, Evict, Repartition, Ignored, Decide, Fault, Spent, Starved, Drop, Finish}
use Rattle.nemo_core.specs.declared.event.HeldBy.{HeldBy}
use Rattle.nemo_core.proofs.Allowed.{are_met}
use Rattle.nemo_core.proofs.Blocks.{held_dropped, held_step}

-- the event takes nothing
stays : (g : TaskGraph) (k : Settings) (s : State) (e : Event) (v i : ℕ) (h : HeldBy) → held_at s v i ≡ Some h → takes e v i h ≡ false → held_at (after g k s e) v i ≡ Some h
stays g k s e v i h held none = held_step g k s e v i h held ∙ ap (λ b. if b then None else Some h) none

---- what an eviction and a drop ask for

pub evict_transient : (g : TaskGraph) (k : Settings) (s : State) (slot : ℕ) → refusal g k s (Evict slot) ≡ None → k.reserved ≤ slot
evict_transient g k s slot h = leb-true k.reserved slot (are_met (conditions g k s (Evict slot)) h).1.1.0

pub drop_unwanted : (g : TaskGraph) (k : Settings) (s : State) (block : BlockId) → refusal g k s (Drop block) ≡ None → is_wanted g s block.vertex block.task ≡ false
drop_unwanted g k s block h = not-true (is_wanted g s block.vertex block.task) (are_met (conditions g k s (Drop block)) h).1.1.1.1.0

---- sinks

master_is : (home : Home) → is_master home ≡ true → home ≡ Master
master_is Master e = refl
master_is Pushed e = cc
master_is Local e = cc

on_no_slot : (k : Settings) (class : Class) (slot : Option ℕ) (n : ℕ) → may_lie k class Master slot ≡ true → passes (λ m. m == n) slot ≡ false
on_no_slot k class None n h = refl
on_no_slot k class (Some m) n h = cc

-- a block of a sink lies on no slot
sink_lies : (g : TaskGraph) (k : Settings) (v i : ℕ) (h : HeldBy) (n : ℕ) → IsHome g k v i h → is_sink g v ≡ true → lies_on n h ≡ false
sink_lies g k v i h n home sink =
    let p = passing (λ row. is_master row.home) (slice_get g.vertices v) sink in
    let same : p.item ≡ home.vertex = same_item p.item home.vertex (sym p.there ∙ home.named) in
    let master : home.vertex.home ≡ Master = ap (λ row. row.home) (sym same) ∙ master_is p.item.home p.ok in
    on_no_slot k home.stage.class h.slot n (ap (λ m. may_lie k home.stage.class m h.slot) (sym master) ∙ home.lies)

sink_wanted : (g : TaskGraph) (s : State) (v i : ℕ) → is_sink g v ≡ true → is_wanted g s v i ≡ true
sink_wanted g s v i sink = or_left (is_sink g v) (is_read_by g (needed g (is_gone s)) v i) sink

unless_dropped : (g : TaskGraph) (k : Settings) (s : State) (block : BlockId) (v i : ℕ) → refusal g k s (Drop block) ≡ None → is_sink g v ≡ true → (b : Bool) → ((v == block.vertex) && (i == block.task)) ≡ b → b ≡ false
unless_dropped g k s block v i none sink true e =
    let p = and_parts (v == block.vertex) (i == block.task) e in
    let same : v ≡ block.vertex = eqb-true v block.vertex p.0 in
    absurd (both_ways (is_wanted g s block.vertex block.task) (drop_unwanted g k s block none) (sink_wanted g s block.vertex block.task (ap (is_sink g) (sym same) ∙ sink)))
unless_dropped g k s block v i none sink false e = refl

sink_kept : (g : TaskGraph) (k : Settings) (s : State) (e : Event) (v i : ℕ) (h : HeldBy) → IsHome g k v i h → refusal g k s e ≡ None → is_sink g v ≡ true → takes e v i h ≡ false
sink_kept g k s (Launch attempt task slot reads) v i h home none sink = refl
sink_kept g k s (Commit attempt) v i h home none sink = refl
sink_kept g k s (Repeat attempt) v i h home none sink = refl
sink_kept g k s (GiveBack attempt) v i h home none sink = refl
sink_kept g k s (Evict slot) v i h home none sink = sink_lies g k v i h slot home sink
sink_kept g k s (Repartition vertex cuts) v i h home none sink = refl
sink_kept g k s (Ignored vertex cuts) v i h home none sink = refl
sink_kept g k s (Decide vertex cuts) v i h home none sink = refl
sink_kept g k s (Fault attempt vertex kind rec) v i h home none sink = refl
sink_kept g k s (Spent task) v i h home none sink = refl
sink_kept g k s Starved v i h home none sink = refl
sink_kept g k s (Drop block) v i h home none sink = unless_dropped g k s block v i none sink ((v == block.vertex) && (i == block.task)) refl
sink_kept g k s Finish v i h home none sink = refl

pub sink_stays : (g : TaskGraph) (k : Settings) (s : State) (e : Event) (v i : ℕ) (h : HeldBy) → AreHome g k s → refusal g k s e ≡ None → held_at s v i ≡ Some h → is_sink g v ≡ true
    → held_at (after g k s e) v i ≡ Some h
sink_stays g k s e v i h home none held sink = stays g k s e v i h held (sink_kept g k s e v i h (home v i h held) none sink)

---- reserved slots

off_slot : (slot n : ℕ) (h : HeldBy) → h.slot ≡ Some n → n < slot → (b : Bool) → lies_on slot h ≡ b → b ≡ false
off_slot slot n h on less true e =
    let same : n ≡ slot = eqb-true n slot (ap (passes (λ m. m == slot)) (sym on) ∙ e) in
    absurd (omega (arith, same, less))
off_slot slot n h on less false e = refl

dropped : (g : TaskGraph) (k : Settings) (s : State) (w t v i : ℕ) (h : HeldBy) → held_at s v i ≡ Some h → (b : Bool) → ((v == w) && (i == t)) ≡ b
    → (held_at (after g k s (Drop (record { vertex = w; task = t }))) v i ≡ Some h) ⊎ (Drop (record { vertex = w; task = t }) ≡ Drop (record { vertex = v; task = i }))
dropped g k s w t v i h held true e =
    let p = and_parts (v == w) (i == t) e in
    inr (ap (λ n. Drop (record { vertex = n; task = t })) (sym (eqb-true v w p.0)) ∙ ap (λ n. Drop (record { vertex = v; task = n })) (sym (eqb-true i t p.1)))
dropped g k s w t v i h held false e = inl (stays g k s (Drop (record { vertex = w; task = t })) v i h held e)

pub reserved_stays : (g : TaskGraph) (k : Settings) (s : State) (e : Event) (v i : ℕ) (h : HeldBy) (n : ℕ) → refusal g k s e ≡ None → held_at s v i ≡ Some h → h.slot ≡ Some n → n < k.reserved
    → (held_at (after g k s e) v i ≡ Some h) ⊎ (e ≡ Drop (record { vertex = v; task = i }))
reserved_stays g k s (Launch attempt task slot reads) v i h n none held on less = inl held
reserved_stays g k s (Commit attempt) v i h n none held on less = inl (stays g k s (Commit attempt) v i h held refl)
reserved_stays g k s (Repeat attempt) v i h n none held on less = inl held
reserved_stays g k s (GiveBack attempt) v i h n none held on less = inl held
reserved_stays g k s (Evict slot) v i h n none held on less =
    let high : k.reserved ≤ slot = evict_transient g k s slot none in
    inl (stays g k s (Evict slot) v i h held (off_slot slot n h on (omega (arith, less, high)) (lies_on slot h) refl))
reserved_stays g k s (Repartition vertex cuts) v i h n none held on less = inl held
reserved_stays g k s (Ignored vertex cuts) v i h n none held on less = inl held
reserved_stays g k s (Decide vertex cuts) v i h n none held on less = inl held
reserved_stays g k s (Fault attempt vertex kind rec) v i h n none held on less = inl held
reserved_stays g k s (Spent task) v i h n none held on less = inl held
reserved_stays g k s Starved v i h n none held on less = inl held
reserved_stays g k s (Drop block) v i h n none held on less = dropped g k s block.vertex block.task v i h held ((v == block.vertex) && (i == block.task)) refl
reserved_stays g k s Finish v i h n none held on less = inl held

---- need after a drop

gone_more : (b : Bool) (o : Option HeldBy) → not (is_some o) ≡ true → not (is_some (if b then None else o)) ≡ true
gone_more true o h = refl
gone_more false o h = h

gone_other : (b : Bool) (o : Option HeldBy) → not (is_some (if b then None else o)) ≡ true → (b ≡ true → ⊥) → not (is_some o) ≡ true
gone_other true o h never = absurd (never refl)
gone_other false o h never = h

pub drop_needs : (g : TaskGraph) (k : Settings) (s : State) (block : BlockId) → is_sound g ≡ true → refusal g k s (Drop block) ≡ None
    → (n i : ℕ) → (needed g (is_gone (after g k s (Drop block))) n i ≡ needed g (is_gone s) n i) × (is_wanted g (after g k s (Drop block)) n i ≡ is_wanted g s n i)
drop_needs g k s block sound none =
    need_stays g (is_gone s) (is_gone (after g k s (Drop block))) sound
    (λ v i lost. ap (λ o. not (is_some o)) (held_dropped g k s (Drop block) block.vertex block.task v i refl) ∙ gone_more ((v == block.vertex) && (i == block.task)) (held_at s v i) lost)
    (λ v i lost want. gone_other ((v == block.vertex) && (i == block.task)) (held_at s v i)
    (ap (λ o. not (is_some o)) (sym (held_dropped g k s (Drop block) block.vertex block.task v i refl)) ∙ lost)
    (λ here. let p = and_parts (v == block.vertex) (i == block.task) here in
    both_ways (is_wanted g s block.vertex block.task) (drop_unwanted g k s block none)
    (ap (λ n. is_wanted g s n block.task) (sym (eqb-true v block.vertex p.0)) ∙ ap (λ n. is_wanted g s v n) (sym (eqb-true i block.task p.1)) ∙ want)))
