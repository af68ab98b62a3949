use Rattle.std.proofs.Common.{◌≡◌, ◌*◌, ◌/◌, length, drop, refl, ◌∙◌, arith}
use Rattle.std.specs.Simd.{first_chunks}
use lib.Ieee.{neg, of_bits}
use Rattle.numbers.specs.Zeros.{is_plus_zero}
use Rattle.numbers.specs.Inside.{all_minus_zero}
use Rattle.numbers.proofs.zeros.Scan.{eight_step}
use Rattle.numbers.proofs.zeros.all_plus_zero.Goals as goal

pub loop-eight-init : goal.loop-eight-init
unfolding all_minus_zero is_plus_zero neg of_bits
loop-eight-init c = refl

pub loop-eight-preserved : goal.loop-eight-preserved
loop-eight-preserved c =
    let s = c.args.s.now in
    let i = c.loop-eight.eight-index in
    let chunks : c.as_chunks.result.0.now ≡ first_chunks 8 (length s / 8) s = c.as_chunks.ensures.front in
    eight_step (length s / 8) i s _ _ _ (omega arith) (rw chunks at c.less_samples-next.ensures) ∙ c.loop-eight.invariant

pub returns : goal.returns
returns c =
    let s = c.args.s.now in
    let i = c.loop-eight.eight-index in
    let all : i ≡ length s / 8 = omega arith in
    let behind : c.as_chunks.result.1.now ≡ drop (i * 8) s = rw all c.as_chunks.ensures.back in
    c.all_minus_zero.ensures ∙ c.less_samples.ensures ∙ rw behind c.loop-eight.invariant
