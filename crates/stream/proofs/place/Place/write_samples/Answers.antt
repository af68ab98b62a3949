use native.Mathlib.Omega.{arith}
use Rattle.stream.proofs.Writes.{samples_one, samples_done}
use Rattle.stream.proofs.place.Place.write_samples.Goals as goal

pub loop-sample-preserved : goal.loop-sample-preserved
loop-sample-preserved c =
    let w = c.loop-sample in
    λ b h. w.invariant b (samples_one c.args.samples.now w.sample-index _ _ b (omega arith) (rw c.to_word.ensures at c.write.ensures) h)

pub returns : goal.returns
returns c =
    let w = c.loop-sample in
    w.invariant _ (samples_done c.args.samples.now w.sample-index _ (omega arith))
