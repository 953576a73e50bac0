use Rattle.std.proofs.Common.{◌∙◌, ◌++◌, ap, lit<}
use Rattle.std.proofs.lemmas.Iterator.Splits.{YieldsList-from_str_split}
use Rattle.std.proofs.lemmas.Iterator.Consumers.{YieldsList-at, YieldsList-end}
use Rattle.nemo_transform.proofs.WordPieces.{word_rows, split_is_pieces}
use Rattle.nemo_transform.proofs.rowwise.add_words.Goals as goal

pub returns : goal.returns
returns c =
    let made = c.split-piece-items.ensures in
    let splits = YieldsList-at c.into_iter-piece-iterator.ensures.into_iter_gives (YieldsList-from_str_split 32 c.args.text.now (lit< tt) (made.text ∙ c.as_str.ensures.text) made.has_more made.pattern) in
    let all = YieldsList-end splits c.loop-piece.yielded _ c.loop-piece.yielded_by _ _ c.in-None.is c.next.ensures.steps in
    c.loop-piece.invariant ∙ ap (λ words. c.args.given.now ++ word_rows words) (all.0 ∙ split_is_pieces c.args.text.now)
