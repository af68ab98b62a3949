-- The laws of strings.
--     guide_fits        the delay of a waveguide stays within its ring
--     string-length, string_stays   a sample leaves the ring's length, and a string in its ring
--     no_ring           no ring is that long: nothing to delay by
-- Assumes nothing.
use Rattle.std.proofs.Common.{◌≡◌, ℕ, ◌+◌, ◌<◌, ◌≤◌, length, mod-lt, arith, length-set}
use borrow.Author.Tests.{lt-leb}
use lib.Ieee.{Float}
use Rattle.util.specs.DelayLine.{delay_at, in_ring}
use Rattle.util.specs.Comb.{comb}
use Rattle.util.proofs.Delay.{delay-there, delay-below}
use Rattle.microwave.specs.declared.waveguide.Reflectance.{Reflectance}
use Rattle.microwave.specs.declared.waveguide.Guide.{Guide}
use Rattle.microwave.specs.Waveguide.{guide_of, Strung, InRing, string_step, string_next}

pub no_ring : (n : ℕ) (f : Float) → 32768 < n → delay_at 0 f ≡ delay_at n f
unfolding delay_at in_ring
no_ring n f h = simp (lt-leb n 32768 h)

pub guide_fits : (reflectance : Reflectance) (size : ℕ) (frequency cutoff feedback w : Float) → size ≤ 32767
    → (guide_of reflectance size frequency cutoff feedback w).delay.whole < size + 1
unfolding guide_of
guide_fits reflectance size frequency cutoff feedback w h =
    rw (delay-there (size + 1) _ (omega arith) (omega arith)) (delay-below (size + 1) _ (omega arith) (omega arith))

module _ (k : Guide) (s : Strung) (x : Float) where
  pub string-length : length (string_next k s x).ring ≡ length s.ring
  unfolding string_step comb
  string-length = simp length-set

  pub string_stays : InRing k s → InRing k (string_next k s x)
  unfolding string_step comb
  string_stays h = record {
    position = simp length-set (mod-lt _ (omega (arith, h.position)));
    short = simp length-set h.short;
    delay = simp length-set h.delay;
  }
