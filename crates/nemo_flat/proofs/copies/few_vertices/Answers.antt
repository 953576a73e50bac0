use Rattle.std.proofs.Common.{◌≡◌, ◌∙◌, sym, ap, subst, map}
use Rattle.nemo_job.specs.Nodes.{copy_of}
use Rattle.nemo_job.specs.Unrolled.{unrolled}
use Rattle.nemo_job.proofs.CopiesPlaced.{unrolled_placed}
use Rattle.nemo_job.proofs.ShortPaths.{short_path}
use Rattle.nemo_flat.specs.Keeping.{IsKeepable}
use Rattle.nemo_flat.proofs.FlatForms.{few_keepable}
use Rattle.nemo_flat.proofs.copies.few_vertices.Goals as goal

pub kept_vertices-requires : goal.kept_vertices-requires
kept_vertices-requires c =
    let vs = c.args.vertices.now in
    let is : map copy_of c.as_slice.result.now ≡ unrolled vs = ap (map copy_of) c.as_slice.ensures.value ∙ c.in_ok-nodes.ensures in
    subst IsKeepable (sym is) (few_keepable vs c.requires.few (unrolled_placed vs c.requires.job) (short_path vs c.requires.job))
