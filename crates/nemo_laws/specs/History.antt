-- The answer is right: what holds of every legal log that ends.
use Rattle.std.specs.Prelude.{◌≡◌, ℕ, List, [], ◌∷◌, ◌++◌}
use Rattle.nemo_base.specs.Settings.{SettingsForm}
use Rattle.nemo_value.specs.Members.{In}
use Rattle.nemo_value.specs.declared.expr.Kind.{Kind}
use Rattle.nemo_transform.specs.Gives.{Row}
use Rattle.nemo_ir.specs.Flat.{IsFlat}
use Rattle.nemo_ir.specs.Meaning.{flat_arisen, flat_faults, flat_rows}
use Rattle.nemo_ir.specs.Valid.{Valid}
use Rattle.nemo_core.specs.declared.event.Event.{Event}
use Rattle.nemo_core.specs.declared.event.Event.TheVariants.{Fault, Finish}
use Rattle.nemo_plan.specs.Form.{PlanForm}
use Rattle.nemo_laws.specs.Legal.{Legal}
use Rattle.nemo_laws.specs.Written.{FromCommits, written}

-- each sink block is from one commit, what is written is what the flat job gives its sinks, and no fault of the job reaches one
pub record IsAnswer (p : PlanForm) (k : SettingsForm) (log : List Event) : Type 0 where
  pub commits : FromCommits p k log
  pub rows : written p k log ≡ flat_rows p.flat
  pub faultless : flat_faults p.flat ≡ []

pub record HistoryLaw : Type 0 where
  -- a legal log that ends in Finish has the answer
  pub done : (p : PlanForm) (k : SettingsForm) (before : List Event) → IsFlat p.flat → Valid p.flat p.dag
      → Legal p k (before ++ Finish ∷ []) → IsAnswer p k (before ++ Finish ∷ [])
  -- the fault of one that ends in a fault is a fault of the flat job that reaches a sink, named as it names it
  pub fault : (p : PlanForm) (k : SettingsForm) (before : List Event) (a x : ℕ) (kind : Kind) (rec : Row) → IsFlat p.flat → Valid p.flat p.dag
      → Legal p k (before ++ Fault a x kind rec ∷ []) → In (record { vertex = x; kind = kind; rec = rec }) (flat_arisen p.flat)
