use Rattle.std.proofs.Common.{arith}
use Rattle.nemo_core.specs.State.{read_in}
use Rattle.nemo_core.proofs.Holders.{named_short, named_other, named_more}
use Rattle.nemo_core.proofs.refusal.are_named.Goals as goal

pub returns-then-names-at : goal.returns-then-names-at
returns-then-names-at c =
    named_short (read_in c.args.blocks.now c.args.i) c.args.reads.now c.loop-read.read-index _ c.args.names.now c.loop-read.at c.read_count-count.result _ c.loop-read-test.true c.read_count-count.ensures c.loop-read.invariant.so_far c.if-names-at.true

pub returns-then-not-are_read_holders : goal.returns-then-not-are_read_holders
returns-then-not-are_read_holders c =
    named_other (read_in c.args.blocks.now c.args.i) c.args.reads.now c.loop-read.read-index _ c.args.names.now c.loop-read.at c.read_count-count.result c.part.result.now c.are_read_holders.result _ c.loop-read-test.true c.read_count-count.ensures c.loop-read.invariant.so_far c.part.ensures c.are_read_holders.ensures c.if-not-are_read_holders.true

pub loop-read-preserved : goal.loop-read-preserved
loop-read-preserved c = record {
  so_far = named_more (read_in c.args.blocks.now c.args.i) c.args.reads.now c.loop-read.read-index _ c.args.names.now c.loop-read.at c.read_count-count.result c.part.result.now c.are_read_holders.result _ c.loop-read-test.true c.read_count-count.ensures c.loop-read.invariant.so_far c.part.ensures c.are_read_holders.ensures c.if-not-are_read_holders.false;
  within = omega (arith, c.if-names-at.false, c.loop-read.invariant.within);
}
