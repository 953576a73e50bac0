use Rattle.std.proofs.Common.{◌≡◌, ◌*◌, ◌+◌, ◌-◌, drop}
use Rattle.std.specs.Prelude.{◌&&◌}
use Rattle.std.specs.List.{list_any}
use Rattle.nemo_value.specs.Counted.{below, counted}
use Rattle.nemo_base.specs.Needed.{needed_in, is_wanted_by, needs_read}
use Rattle.nemo_base.specs.Places.{any_at}
use Rattle.nemo_core.specs.State.{gone_in}
use Rattle.nemo_core.proofs.needed.Gaps.+needed.Given as goal

-- a turn goes round these seven functions

abbrev pub decreases-needed_in : goal.decreases-needed_in
decreases-needed_in l = l.turns * 7

abbrev pub decreases-any_needed : goal.decreases-any_needed
decreases-any_needed l = l.turns * 7 + 1

abbrev pub decreases-read_needs : goal.decreases-read_needs
decreases-read_needs l = l.turns * 7 + 2

abbrev pub decreases-stage_reads : goal.decreases-stage_reads
decreases-stage_reads l = l.turns * 7 + 3

abbrev pub decreases-is_read_by : goal.decreases-is_read_by
decreases-is_read_by l = l.turns * 7 + 4

abbrev pub decreases-is_wanted_by : goal.decreases-is_wanted_by
decreases-is_wanted_by l = l.turns * 7 + 5

abbrev pub decreases-any_wanted : goal.decreases-any_wanted
decreases-any_wanted l = l.turns * 7 + 6

-- whether one of those that are left passes is whether one of all does

abbrev pub invariant-any_needed-loop-i : goal.invariant-any_needed-loop-i
invariant-any_needed-loop-i l = list_any (needed_in l.self.graph.now (gone_in l.self.blocks.now) l.turns l.stage) (counted l.i (l.count - l.i)) ≡ list_any (needed_in l.self.graph.now (gone_in l.self.blocks.now) l.turns l.stage) (below l.count)

abbrev pub invariant-is_read_by-loop-stage : goal.invariant-is_read_by-loop-stage
invariant-is_read_by-loop-stage l =
    any_at (λ stage row. list_any (needs_read (needed_in l.self.graph.now (gone_in l.self.blocks.now) l.turns stage) row l.vertex l.i) row.reads) l.stage (drop l.stage l.row-items)
    ≡ any_at (λ stage row. list_any (needs_read (needed_in l.self.graph.now (gone_in l.self.blocks.now) l.turns stage) row l.vertex l.i) row.reads) 0 l.row-items

abbrev pub invariant-any_wanted-loop-v : goal.invariant-any_wanted-loop-v
invariant-any_wanted-loop-v l =
    list_any (λ v. gone_in l.self.blocks.now v l.i && is_wanted_by l.self.graph.now (needed_in l.self.graph.now (gone_in l.self.blocks.now) l.turns) v l.i) (drop l.v-index l.vertices)
    ≡ list_any (λ v. gone_in l.self.blocks.now v l.i && is_wanted_by l.self.graph.now (needed_in l.self.graph.now (gone_in l.self.blocks.now) l.turns) v l.i) l.vertices

abbrev pub invariant-stage_reads-loop-read : goal.invariant-stage_reads-loop-read
invariant-stage_reads-loop-read l =
    list_any (needs_read (needed_in l.self.graph.now (gone_in l.self.blocks.now) l.turns l.stage) l.row l.vertex l.i) (drop l.read-index l.read-items)
    ≡ list_any (needs_read (needed_in l.self.graph.now (gone_in l.self.blocks.now) l.turns l.stage) l.row l.vertex l.i) l.read-items
