-- The ports of a transform.
use Rattle.std.specs.Prelude.{ℕ, List, [], ◌∷◌, Bool, true, false, replicate}
use Rattle.nemo_value.specs.Key.{first_key}
pub use Rattle.nemo_transform.specs.declared.shape.PortKind.{PortKind}
pub use Rattle.nemo_transform.specs.declared.shape.PortKind.TheVariants.{Main, Keyed, Side}
use Rattle.nemo_transform.specs.declared.transform.Transform.{Transform}
use Rattle.nemo_transform.specs.declared.transform.Transform.TheVariants.{Source, Map, Filter, Emit, Words, Union, Reduce, Distinct, Join, SideJoin, Sink}

abbrev pub kinds_of : Transform → List PortKind
kinds_of (Source rows) = []
kinds_of (Map out) = Main ∷ []
kinds_of (Filter cond) = Main ∷ []
kinds_of (Emit outs) = Main ∷ []
kinds_of (Words field) = Main ∷ []
kinds_of (Union ports) = replicate ports Main
kinds_of (Reduce by field) = Keyed ∷ []
kinds_of Distinct = Keyed ∷ []
kinds_of Join = Keyed ∷ Keyed ∷ []
kinds_of SideJoin = Main ∷ Side ∷ []
kinds_of (Sink name) = Main ∷ []

-- the key list of each port
abbrev pub key_list : Transform → ℕ → List ℕ
key_list t port = first_key

abbrev pub is_main : PortKind → Bool
is_main Main = true
is_main Keyed = false
is_main Side = false

abbrev pub is_keyed : PortKind → Bool
is_keyed Main = false
is_keyed Keyed = true
is_keyed Side = false

abbrev pub is_side : PortKind → Bool
is_side Main = false
is_side Keyed = false
is_side Side = true
