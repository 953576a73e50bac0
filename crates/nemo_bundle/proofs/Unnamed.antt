-- Where no DAG is proposed, no vertex is named.
use Rattle.std.proofs.Common.{◌≡◌, refl, List, None, codes}
use Rattle.serde_json.specs.Data.{Data}
use Rattle.serde_json.specs.Find.{get}
use Rattle.nemo_ir.specs.declared.flat.FlatVertex.{FlatVertex}
use Rattle.nemo_bundle.specs.Read.{members_of}

pub no_dag : (d : Data) (these those : List FlatVertex) → get (codes "dag") d ≡ None → members_of d these ≡ members_of d those
no_dag d these those h = rw h refl
