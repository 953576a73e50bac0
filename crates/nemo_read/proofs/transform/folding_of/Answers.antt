use Rattle.nemo_read.proofs.FoldingWords.{folding_found}
use Rattle.nemo_read.proofs.transform.folding_of.Goals as goal

pub returns : goal.returns
returns c = folding_found c.args.word.now c.from_word.result c.from_word.ensures
