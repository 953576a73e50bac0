use Rattle.std.proofs.Common.{◌∙◌, ap, sym, ◌==◌, ◌%◌, ◌+◌, eq-eqb, ne_eqb}
use Rattle.nemo_replay.proofs.Slots.{slot_reserved, slot_transient}
use Rattle.nemo_replay.proofs.turn.slot_of.Goals as goal

pub returns-then-settings-eq0 : goal.returns-then-settings-eq0
returns-then-settings-eq0 c = ap (λ k. c.args.launches % k.reserved) c.settings.view_is ∙ slot_reserved c.args.settings c.args.launches c.keeps.ensures (ap (λ k. k.transient == 0) (sym c.settings.view_is) ∙ eq-eqb c.settings.inside.transient 0 c.if-settings-eq0.true)

pub returns-else-settings-eq0 : goal.returns-else-settings-eq0
returns-else-settings-eq0 c = ap (λ k. k.reserved + c.args.launches % k.transient) c.settings.view_is ∙ slot_transient c.args.settings c.args.launches c.keeps.ensures (ap (λ k. k.transient == 0) (sym c.settings.view_is) ∙ ne_eqb c.settings.inside.transient 0 c.if-settings-eq0.false)
