use Rattle.nemo_laws.proofs.Alone.{alone}
use Rattle.nemo_laws.proofs.SoloCounts.{run_launches}
use Rattle.nemo_laws.proofs.SoloHolds.{run_holds}
use Rattle.nemo_laws.proofs.SoloLegal.{run_legal}
use Rattle.nemo_laws.proofs.SoloSame.{run_same}
use Rattle.nemo_laws.proofs.solo.solo_laws.Goals as goal

pub returns : goal.returns
returns c = record {
  alone = alone;
  legal = λ p k script log fine valid is run. run_legal p k script fine valid is log run;
  holds = λ p k script log fine valid is run. run_holds p k script fine valid is log run;
  launches = λ p k script log fine valid is run. run_launches p k script fine valid is log run;
  same = λ p k script a b fine valid is x y. run_same p k script fine valid is a b x y;
}
