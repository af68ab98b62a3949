use Rattle.std.proofs.Common.{sym, ◌∙◌, length-set, ◌≡◌, ◌<◌, length, arith}
use Rattle.words.proofs.reader.Fill.{fill_more, fill_short, fill_done}
use Rattle.words.proofs.reader.Cursor.fill.Goals as goal

pub returns-in_default : goal.returns-in_default
returns-in_default c =
    let w = c.loop-next in
    sym (fill_short c.args.bytes.now w.cursor w.samples w.next _ (sym c.take.ensures ∙ c.in_default.is)) ∙ w.invariant.1

pub loop-next-preserved : goal.loop-next-preserved
loop-next-preserved c =
    let w = c.loop-next in
    let within : w.next < length w.samples = omega (arith, w.invariant.0) in (
      rw length-set w.invariant.0,
      fill_more c.args.bytes.now w.cursor w.samples w.next c.in-Some.word c.in-Some.rest c.from_word.result
          within
          (sym c.take.ensures ∙ c.in-Some.is)
          c.from_word.ensures ∙ w.invariant.1,
      λ _. grind (arith, length-set),
    )

pub returns : goal.returns
returns c =
    let w = c.loop-next in
    let last : c.max.result ≡ w.next = grind arith in
    rw last (sym (fill_done c.args.bytes.now w.cursor w.samples w.next (omega arith)) ∙ w.invariant.1)
