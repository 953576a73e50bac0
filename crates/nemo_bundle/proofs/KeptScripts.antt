-- The lines that are read are a script of the settings.
use Rattle.std.proofs.Common.{◌≡◌, refl, subst, ℕ, ◌+◌, ◌≤◌, ◌&&◌, nat_le, nat_lt, if◌then◌else◌, List, Option, Some, None, option_map, option_and_then, IfSome, Bool, true, false, Result, Ok, Err, IfOk, codes}
use Rattle.std.proofs.lemmas.Bool.{leb-true, ltb-true}
use Rattle.std.specs.Cmp.{first_so, second_so}
use Rattle.serde_json.specs.Data.{Items, no_items, item}
use Rattle.serde_json.specs.Find.{as_array, as_str}
use Rattle.nemo_base.specs.Script.{IsAction, IsScript, IsScriptFrom, IsTransient}
use Rattle.nemo_base.specs.Settings.{SettingsForm}
use Rattle.nemo_base.specs.declared.script.Action.{Action}
use Rattle.nemo_base.specs.declared.script.Action.TheVariants.{Evict}
use Rattle.nemo_base.specs.declared.script.ScriptLine.{ScriptLine}
use Rattle.nemo_read.specs.Parts.{is_word, number_of, ranged, tested}
use Rattle.nemo_bundle.specs.Answers.{Walks}
use Rattle.nemo_bundle.specs.Choices.{cluster_of}
use Rattle.nemo_bundle.specs.Entries.{put_first}
use Rattle.nemo_bundle.specs.Scripts.{at_of, cuts_of, evict_of, is_transient, line_from, line_of, line_with, lines_from, repartition_with}
use Rattle.nemo_bundle.specs.declared.end.WalkEnd.{WalkEnd}

module _ (k : SettingsForm) where
  transient_slot : (slot : ℕ) → is_transient (cluster_of k) slot ≡ true → IsTransient k slot
  transient_slot slot h =
      let above = nat_le k.reserved slot in
      let below = nat_lt slot (k.reserved + k.transient) in
      (leb-true k.reserved slot (first_so above below h), ltb-true slot (k.reserved + k.transient) (second_so above below h))

  slot_kept : (slot : ℕ) (b : Bool) → is_transient (cluster_of k) slot ≡ b → IfSome (option_map Evict (if b then Some slot else None)) (IsAction k)
  slot_kept slot true h = transient_slot slot h
  slot_kept slot false h = tt

  evict_kept : (slot : Option ℕ) → IfSome (option_map Evict (tested (is_transient (cluster_of k)) slot)) (IsAction k)
  evict_kept (Some slot) = slot_kept slot (is_transient (cluster_of k) slot) refl
  evict_kept None = tt

  repartition_kept : (vertex : Option ℕ) (cuts : Option (List ℕ)) → IfSome (repartition_with vertex cuts) (IsAction k)
  repartition_kept (Some vertex) (Some cuts) = tt
  repartition_kept (Some vertex) None = tt
  repartition_kept None cuts = tt

  -- whether what a line does is kept
  abbrev does : ScriptLine → Type 0
  does line = IsAction k line.action

  worded_kept : (b : Bool) (at : Option ℕ) (action : Option Action) → IfSome action (IsAction k) → IfSome (if b then line_with at action else None) does
  worded_kept true (Some at) (Some action) h = h
  worded_kept true (Some at) None h = tt
  worded_kept true None action h = tt
  worded_kept false at action h = tt

  items_kept : (ds : Items) → IfSome (line_from (cluster_of k) ds) does
  items_kept no_items = tt
  items_kept (item a no_items) = tt
  items_kept (item a (item b no_items)) = tt
  items_kept (item at (item word (item slot no_items))) =
      worded_kept (is_word (codes "evict") (as_str word)) (ranged 0 1000000 at) (evict_of (cluster_of k) slot) (evict_kept (number_of slot))
  items_kept (item at (item word (item vertex (item cuts no_items)))) =
      worded_kept (is_word (codes "repartition") (as_str word)) (ranged 0 1000000 at) (repartition_with (number_of vertex) (cuts_of cuts)) (repartition_kept (number_of vertex) (cuts_of cuts))
  items_kept (item a (item b (item c (item d (item e ds))))) = tt

  -- a line that is tested comes no earlier than the one before it
  abbrev follows : ℕ → ScriptLine → Type 0
  follows before line = (before ≤ line.at) × does line

  line_follows : (i before : ℕ) (line : ScriptLine) (b : Bool) → (nat_lt i 4096 && nat_le before line.at) ≡ b → does line → IfSome (if b then Some line else None) (follows before)
  line_follows i before line true h kept = (leb-true before line.at (second_so (nat_lt i 4096) (nat_le before line.at) h), kept)
  line_follows i before line false h kept = tt

  tested_follows : (i before : ℕ) (line : Option ScriptLine) → IfSome line does → IfSome (tested (λ l. nat_lt i 4096 && nat_le before l.at) line) (follows before)
  tested_follows i before (Some line) h = line_follows i before line (nat_lt i 4096 && nat_le before line.at) refl h
  tested_follows i before None h = tt

  array_kept : (ds : Option Items) → IfSome (option_and_then (line_from (cluster_of k)) ds) does
  array_kept (Some ds) = items_kept ds
  array_kept None = tt

  -- lines that are there go on from a number of commits as a script does
  abbrev GoOn : ℕ → Result (List ScriptLine) ℕ → Type 0
  GoOn before (Ok lines) = IsScriptFrom k before lines
  GoOn before (Err place) = Unit {0}

  first_goes_on : (i before : ℕ) (line : Option ScriptLine) (others : Result (List ScriptLine) ℕ) → IfSome line (follows before) → GoOn (at_of before line) others
      → GoOn before (put_first i line others)
  first_goes_on i before (Some line) (Ok lines) h others = (h.0, h.1, others)
  first_goes_on i before (Some line) (Err place) h others = tt
  first_goes_on i before None others h more = tt

  lines_go_on : (i before : ℕ) (ds : Items) → GoOn before (lines_from (cluster_of k) i before ds)
  lines_go_on i before no_items = tt
  lines_go_on i before (item d ds) =
      let line = line_of (cluster_of k) i before d in
      first_goes_on i before line (lines_from (cluster_of k) (i + 1) (at_of before line) ds) (tested_follows i before (option_and_then (line_from (cluster_of k)) (as_array d)) (array_kept (as_array d)))
      (lines_go_on (i + 1) (at_of before line) ds)

-- what the items give, where it is read, is a script
pub lines_kept : (k : SettingsForm) (ds : Items) (r : Result (List ScriptLine) WalkEnd) → Walks {X = List ScriptLine} (λ lines. lines) r (lines_from (cluster_of k) 0 0 ds) → IfOk r (λ lines. IsScript k lines)
lines_kept k ds (Ok lines) h = subst (GoOn k 0) h (lines_go_on k 0 0 ds)
lines_kept k ds (Err e) h = tt
