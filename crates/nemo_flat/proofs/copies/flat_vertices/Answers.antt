use Rattle.std.proofs.Common.{arith, ◌≤◌}
use Rattle.nemo_flat.specs.Counts.{copies}
use Rattle.nemo_flat.proofs.ChainCopies.{chain_few}
use Rattle.nemo_flat.proofs.copies.flat_vertices.Goals as goal

pub returns-in_err-check_copies-clause-chain_end : goal.returns-in_err-check_copies-clause-chain_end
returns-in_err-check_copies-clause-chain_end c = λ built.
    let few : copies c.args.job.now ≤ 512 = chain_few c.args.job.now built in
    let many : 513 ≤ copies c.args.job.now = c.in_err-check_copies.ensures.end.0 in
    absurd (omega arith)
