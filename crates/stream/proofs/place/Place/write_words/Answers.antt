use native.Mathlib.Omega.{arith}
use Rattle.stream.proofs.Writes.{words_one, words_done}
use Rattle.stream.proofs.place.Place.write_words.Goals as goal

pub loop-word-preserved : goal.loop-word-preserved
loop-word-preserved c =
    let w = c.loop-word in
    λ b h. w.invariant b (words_one c.args.words.now w.word-index _ _ b (omega arith) c.write.ensures h)

pub returns : goal.returns
returns c =
    let w = c.loop-word in
    w.invariant _ (words_done c.args.words.now w.word-index _ (omega arith))
