-- Which transforms are sinks.
use Rattle.std.specs.Prelude.{ℕ, List, Bool, true, false, Option, Some, None}
use Rattle.nemo_transform.specs.declared.transform.Transform.{Transform}
use Rattle.nemo_transform.specs.declared.transform.Transform.TheVariants.{Sink}

abbrev pub does_sink : Transform → Bool
does_sink (Sink name) = true
does_sink _ = false

-- the name of a sink
abbrev pub sink_in : Transform → Option (List ℕ)
sink_in (Sink name) = Some name
sink_in _ = None
