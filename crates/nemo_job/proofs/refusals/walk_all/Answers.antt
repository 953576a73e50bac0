use Rattle.std.proofs.Common.{refl}
use Rattle.nemo_job.specs.Refusals.{is_bad_loop, is_double, is_forward, is_misfed, names_unknown}
use Rattle.nemo_job.proofs.Walking.{is_first, ok_more}
use Rattle.nemo_job.proofs.refusals.walk_all.Goals as goal

pub returns-clause-double : goal.returns-clause-double
returns-clause-double c =
    ok_more c.walk_list.result _ _
    (λ found w. is_first is_double (λ f. f.double) (λ s f. refl) c.args.vertices.now c.new.result found c.new.ensures refl w)
    c.walk_list.ensures

pub returns-clause-unknown : goal.returns-clause-unknown
returns-clause-unknown c =
    ok_more c.walk_list.result _ _
    (λ found w. is_first names_unknown (λ f. f.unknown) (λ s f. refl) c.args.vertices.now c.new.result found c.new.ensures refl w)
    c.walk_list.ensures

pub returns-clause-forward : goal.returns-clause-forward
returns-clause-forward c =
    ok_more c.walk_list.result _ _
    (λ found w. is_first is_forward (λ f. f.forward) (λ s f. refl) c.args.vertices.now c.new.result found c.new.ensures refl w)
    c.walk_list.ensures

pub returns-clause-misfed : goal.returns-clause-misfed
returns-clause-misfed c =
    ok_more c.walk_list.result _ _
    (λ found w. is_first is_misfed (λ f. f.misfed) (λ s f. refl) c.args.vertices.now c.new.result found c.new.ensures refl w)
    c.walk_list.ensures

pub returns-clause-bad_loop : goal.returns-clause-bad_loop
returns-clause-bad_loop c =
    ok_more c.walk_list.result _ _
    (λ found w. is_first is_bad_loop (λ f. f.bad_loop) (λ s f. refl) c.args.vertices.now c.new.result found c.new.ensures refl w)
    c.walk_list.ensures
