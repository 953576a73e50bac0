use Rattle.nemo_laws.proofs.Dropping.{drops_reach}
use Rattle.nemo_laws.proofs.Due.{lines}
use Rattle.nemo_laws.proofs.Evictions.{losses_few}
use Rattle.nemo_laws.proofs.Holding.{begin_allowed, commit_reaches, empty_hold}
use Rattle.nemo_laws.proofs.Logs.{launch_needed, legal_state}
use Rattle.nemo_laws.proofs.Scripted.{rounds}
use Rattle.nemo_laws.proofs.holds.hold_laws.Goals as goal

pub returns : goal.returns
returns c = record {
  empty = empty_hold;
  state = legal_state;
  needed = launch_needed;
  rounds = rounds;
  lines = lines;
  drops = drops_reach;
  begin = begin_allowed;
  commit = commit_reaches;
  losses = losses_few;
}
