-- `magnetron::content::lay` meets its contract: blocks have written the samples before the loop, whose invariant is `Resumed`, of the content as a signal. What is put is read out of the list that the loop
-- writes, and is clear of what it writes. Assumes nothing.
use Rattle.magnetron.specs.Inside.Content.{content_of, AllClear}
use Rattle.magnetron.proofs.Blocks.{Resumed}
use Rattle.magnetron.proofs.content.lay.Given as goal

abbrev pub invariant-loop-i : goal.invariant-loop-i
invariant-loop-i l = Resumed (λ d. AllClear l.content d l.other l.target) (λ d. content_of l.content d l.other) l.target l.initial.own l.done l.own l.i
