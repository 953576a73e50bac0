use Rattle.std.proofs.Common.{◌≡◌, ◌++◌, map}
use Rattle.nemo_transform.proofs.WordPieces.{word_rows}
use Rattle.nemo_transform.proofs.rowwise.add_words.Given as goal

-- the filled pieces so far, each as a row, behind the rows that were there
abbrev pub invariant-loop-piece : goal.invariant-loop-piece
invariant-loop-piece l = l.given ≡ l.initial.given ++ word_rows (map (λ piece. piece.now) l.yielded)
