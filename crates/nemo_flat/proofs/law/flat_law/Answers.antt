use Rattle.std.proofs.Common.{◌∙◌, sym}
use Rattle.nemo_flat.proofs.ChainCopies.{chain_flattened}
use Rattle.nemo_flat.proofs.ChainValue.{keeps_faults, keeps_none}
use Rattle.nemo_flat.proofs.Flattening.{same_faults, same_reached, same_rows}
use Rattle.nemo_flat.proofs.KeptNames.{names_differ, names_words}
use Rattle.nemo_flat.proofs.law.flat_law.Goals as goal

pub returns-clause-reached : goal.returns-clause-reached
returns-clause-reached c = same_reached

pub returns-clause-rows : goal.returns-clause-rows
returns-clause-rows c = same_rows

pub returns-clause-faults : goal.returns-clause-faults
returns-clause-faults c = same_faults

pub returns-clause-differ : goal.returns-clause-differ
returns-clause-differ c = names_differ

pub returns-clause-words : goal.returns-clause-words
returns-clause-words c = names_words

pub returns-clause-chain : goal.returns-clause-chain
returns-clause-chain c = chain_flattened

pub returns-clause-faultless : goal.returns-clause-faultless
returns-clause-faultless c = λ vs h. sym (keeps_faults vs h) ∙ keeps_none vs h
