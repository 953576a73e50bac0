-- The state of each run keeps what the start has and each step hands on.
use Rattle.std.proofs.Common.{arith, subst, ◌≡◌, ℕ, suc, ◌+◌, List, [], ◌∷◌, length, None}
use Rattle.nemo_base.specs.declared.graph.TaskGraph.{TaskGraph}
use Rattle.nemo_base.specs.declared.settings.Settings.{Settings}
use Rattle.nemo_core.specs.Kept.{IsKept}
use Rattle.nemo_core.specs.Laws.{StatesLaw, StayingLaw}
use Rattle.nemo_core.specs.Run.{Reaches}
use Rattle.nemo_core.specs.State.{State, start}
use Rattle.nemo_core.specs.Step.{after, refusal}
use Rattle.nemo_core.specs.declared.event.Event.{Event}
use Rattle.nemo_core.proofs.Blocks.{held_step}
use Rattle.nemo_core.proofs.KeptBlocks.{home_step, made_step, none_held, present_step}
use Rattle.nemo_core.proofs.KeptEnds.{counted_start, counted_step}
use Rattle.nemo_core.proofs.KeptTables.{cuts_start, cuts_step, tables_start, tables_step}
use Rattle.nemo_core.proofs.KeptTasks.{first_start, first_step, placed_start, placed_step, rest_start, rest_step, single_start, single_step}
use Rattle.nemo_core.proofs.Staying.{drop_needs, reserved_stays, sink_stays}

pub kept_start : (g : TaskGraph) (k : Settings) → IsKept g k 0 (start g k)
kept_start g k = record {
  tables = tables_start g k;
  cuts = cuts_start g k;
  single = single_start g k;
  placed = placed_start g k;
  first = λ range. first_start g k;
  made = λ v i h held. absurd (none_held g k v i h held);
  present = λ range v i h n held on_it. absurd (none_held g k v i h held);
  home = λ range v i h held. absurd (none_held g k v i h held);
  counted = counted_start g k;
  rest = rest_start g k;
}

pub kept_step : (g : TaskGraph) (k : Settings) (taken : ℕ) (s : State) (e : Event) → refusal g k s e ≡ None → IsKept g k taken s → IsKept g k (taken + 1) (after g k s e)
kept_step g k taken s e none kept = record {
  tables = tables_step g k s e kept.tables;
  cuts = λ sound. cuts_step g k s e none (kept.cuts sound);
  single = single_step g k s e none kept.single;
  placed = placed_step g k s e none kept.placed;
  first = λ range. first_step g k s e none (kept.first range);
  made = made_step g k s e kept.single kept.made;
  present = λ range. present_step g k s e range (kept.first range) kept.placed (kept.present range);
  home = λ range. home_step g k s e range kept.tables kept.placed (kept.home range);
  counted = counted_step g k s e taken none kept.counted;
  rest = rest_step g k s e none;
}

pub kept_along : (g : TaskGraph) (k : Settings) (taken : ℕ) (s : State) (log : List Event) (t : State) → IsKept g k taken s → Reaches g k s log t → IsKept g k (taken + length log) t
kept_along g k taken s [] t kept is =
    let all : taken ≡ taken + 0 = omega arith in
    subst (λ n. IsKept g k n t) all (subst (λ x. IsKept g k taken x) is kept)
kept_along g k taken s (e ∷ es) t kept r =
    let all : taken + 1 + length es ≡ taken + suc (length es) = omega arith in
    subst (λ n. IsKept g k n t) all (kept_along g k (taken + 1) (after g k s e) es t (kept_step g k taken s e r.0 kept) r.1)

pub states : StatesLaw
states g k log s has =
    let all : 0 + length log ≡ length log = omega arith in
    subst (λ n. IsKept g k n s) all (kept_along g k 0 (start g k) log s (kept_start g k) has)

pub staying : StayingLaw
staying = record {
  held = held_step;
  sink = λ g k log s e v i h range has. sink_stays g k s e v i h ((states g k log s has).home range);
  reserved = reserved_stays;
  drop = drop_needs;
}
