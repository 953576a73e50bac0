-- The ports of a chain are all Main.
use Rattle.std.proofs.Common.{arith, ◌≡◌, ◌∙◌, ap, sym, subst, ℕ, ◌<◌, List, [], ◌∷◌, length, true, ◌&&◌}
use Rattle.std.proofs.lemmas.Option.{slice_get_within}
use Rattle.std.specs.Cmp.{first_so, second_so}
use Rattle.std.specs.List.{list_all}
use Rattle.nemo_transform.specs.declared.transform.Transform.TheVariants.{Source, Map, Sink}
use Rattle.nemo_ir.specs.Along.{passes}
use Rattle.nemo_ir.specs.Flat.{transform_of}
use Rattle.nemo_ir.proofs.Places.{got, list_all-whole}
use Rattle.nemo_job.specs.Chain.{follows, is_built, is_end, is_map, links, names_of}
use Rattle.nemo_job.specs.declared.vertex.JobVertex.{JobVertex}
use Rattle.nemo_job.proofs.ChainMean.{parts}
use Rattle.nemo_flat.specs.Flat.{copy_at, flat_of}
use Rattle.nemo_flat.proofs.ChainFlat.{chain_is, end_op, map_op, row_of, source_op, table, table_more}
use Rattle.nemo_ir.proofs.Places.{list_all-at}
use Rattle.nemo_policy.specs.Main.{HasMainPorts, takes_main}

rest_main : (name : List ℕ) (rest : List JobVertex) → links name rest ≡ true → list_all takes_main (table rest) ≡ true
rest_main name [] h = cc
rest_main name (v ∷ []) h =
    let op = end_op v.name v.work (first_so (is_end v.name v.work) (follows name v.inputs) h) in
    ap (list_all takes_main) (table_more v [] (Sink op.0) op.1)
rest_main name (v ∷ w ∷ vs) h =
    let first : (is_map v.work && follows name v.inputs) ≡ true = first_so (is_map v.work && follows name v.inputs) (links v.name (w ∷ vs)) h in
    let op = map_op v.work (first_so (is_map v.work) (follows name v.inputs) first) in
    ap (list_all takes_main) (table_more v (w ∷ vs) (Map op.0) op.1)
    ∙ rest_main v.name (w ∷ vs) (second_so (is_map v.work && follows name v.inputs) (links v.name (w ∷ vs)) h)

table_main : (vs : List JobVertex) → is_built vs ≡ true → list_all takes_main (table vs) ≡ true
table_main [] h = cc
table_main (s ∷ rest) h =
    let p = parts s rest h in
    let op = source_op s.work p.source in
    ap (list_all takes_main) (table_more s rest (Source op.0) op.1) ∙ rest_main s.name rest p.linked

pub chain_main : (vs : List JobVertex) → is_built vs ≡ true → HasMainPorts (flat_of vs)
chain_main vs h =
    let c = chain_is vs h in
    let ts = table vs in
    let size : length (names_of vs) ≡ length ts = c.size in
    subst HasMainPorts (sym c.flat)
    (list_all-whole (λ x. passes takes_main (transform_of (row_of ts (names_of vs)) x)) copy_at (names_of vs)
    (λ i n e.
    let within : i < length (names_of vs) = slice_get_within (names_of vs) i n e in
    let t = got ts i (omega arith) in
    ap (passes takes_main) t.1 ∙ list_all-at takes_main ts i t.0 t.1 (table_main vs h)))
