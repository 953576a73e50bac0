-- Flat jobs of transforms whose ports are all Main.
use Rattle.std.specs.Prelude.{◌≡◌, Bool, true}
use Rattle.std.specs.List.{list_all}
use Rattle.nemo_transform.specs.Ports.{is_main, kinds_of}
use Rattle.nemo_transform.specs.declared.transform.Transform.{Transform}
use Rattle.nemo_ir.specs.Along.{passes}
use Rattle.nemo_ir.specs.Flat.{FlatForm, transform_of}

abbrev pub takes_main : Transform → Bool
takes_main t = list_all is_main (kinds_of t)

-- no vertex has a Keyed or a Side port
abbrev pub HasMainPorts : FlatForm → Type 0
HasMainPorts flat = list_all (λ x. passes takes_main (transform_of flat x)) flat.vertices ≡ true
