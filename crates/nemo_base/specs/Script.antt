-- What a script must be.
use Rattle.std.specs.Prelude.{ℕ, ◌+◌, ◌<◌, ◌≤◌, List, [], ◌∷◌}
use Rattle.nemo_base.specs.Settings.{SettingsForm}
use Rattle.nemo_base.specs.declared.script.Action.{Action}
use Rattle.nemo_base.specs.declared.script.Action.TheVariants.{Evict, Repartition}
use Rattle.nemo_base.specs.declared.script.ScriptLine.{ScriptLine}

-- the transient slots follow the reserved ones
abbrev pub IsTransient : SettingsForm → ℕ → Type 0
IsTransient k slot = (k.reserved ≤ slot) × (slot < k.reserved + k.transient)

-- only a transient slot is evicted
abbrev pub IsAction : SettingsForm → Action → Type 0
IsAction k (Evict slot) = IsTransient k slot
IsAction k (Repartition vertex cuts) = Unit {0}

-- lines that come at this number of commits or later, in the order in which they stand
abbrev pub IsScriptFrom : SettingsForm → ℕ → List ScriptLine → Type 0
IsScriptFrom k at [] = Unit {0}
IsScriptFrom k at (line ∷ lines) = (at ≤ line.at) × IsAction k line.action × IsScriptFrom k line.at lines

-- the numbers of commits never fall, and the slots that are evicted are transient ones of the settings
abbrev pub IsScript : SettingsForm → List ScriptLine → Type 0
IsScript k lines = IsScriptFrom k 0 lines
