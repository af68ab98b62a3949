use Rattle.std.proofs.Common.{sym, ◌∙◌, ◌≡◌, arith}
use Rattle.words.proofs.writer.Pouring.{pour_done, pour_one}
use Rattle.words.proofs.writer.pour.Goals as goal

pub returns-in_default : goal.returns-in_default
returns-in_default c =
    let w = c.loop-next in
    let word = c.to_word in
    rw c.in_default.is
    at (pour_one w.bytes w.at c.args.samples.now w.next c.loop-next-test.true
    word.result word.ensures c.put.result c.put.new.bytes c.put.ensures)
    ∙ w.invariant.1

pub loop-next-preserved : goal.loop-next-preserved
loop-next-preserved c =
    let w = c.loop-next in
    let word = c.to_word in (
      c.put.auto.bytes ∙ w.invariant.0,
      rw c.in-Some.is
          at (pour_one w.bytes w.at c.args.samples.now w.next c.loop-next-test.true
          word.result word.ensures c.put.result c.put.new.bytes c.put.ensures)
          ∙ w.invariant.1,
      λ _. omega arith,
    )

pub returns : goal.returns
returns c =
    let w = c.loop-next in
    let last : c.max.result ≡ w.next = grind arith in
    rw last (sym (pour_done w.bytes w.at c.args.samples.now w.next (omega arith)) ∙ w.invariant.1)
