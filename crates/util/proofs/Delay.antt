-- The delay at any fraction f of a ring with 1 to 32,768 slots.
--     delay_made     worked out in steps, it is the definition's
--     delay-there    it is what `delay_at` answers
--     delay-below    it stays within the ring
--     delay-tapped   a read by it is a read at the fraction, sample and answer: a window that works it out once reads each sample so
-- Assumes nothing.
use Rattle.std.proofs.Common.{◌≡◌, ℕ, ◌-◌, ◌<◌, ◌≤◌, true, List, length, pos, sym, refl, arith, lt-ltb, le-leb}
use lib.Ieee.{Float, binary64, mul, of_int}
use Rattle.numbers.specs.Constants.{zero64, one64}
use Rattle.numbers.specs.Small.{held_of}
use Rattle.numbers.specs.Ceil.{ceil_of, up_of, rounded_up_of}
use Rattle.numbers.specs.declared.ceil.Up.{Up}
use Rattle.numbers.proofs.Offset.{offset_is, offset_le}
use Rattle.util.specs.declared.reach.Reach.{Reach}
use Rattle.util.specs.Reach.{reach_of}
use Rattle.util.specs.declared.delay_line.Cursor.{Cursor}
use Rattle.util.specs.declared.delay_line.Read.TheVariants.{Fract}
use Rattle.util.specs.DelayLine.{offset_of, delay_of, delayed_by, delay_at, in_ring, answered, tapped}
use Rattle.util.specs.Interaction.{step}
use Rattle.util.proofs.Ring.{within}

module _ (slots : ℕ) (f : Float) (small : slots ≤ 32768) where
  rounds_up : up_of (offset_of slots f) ≡ ceil_of (offset_of slots f)
  rounds_up = offset_is (slots - 1) f (omega arith)

  pub delay_made : {last held : Float} {up : Up} {reach : Reach}
      → last ≡ of_int binary64 (pos (slots - 1)) → held ≡ held_of f zero64 one64 → up ≡ rounded_up_of (mul binary64 last held) → reach ≡ reach_of f
      → record { whole = up.whole; rest = up.gap; reach = reach } ≡ delay_of slots f
  unfolding delay_of
  delay_made p q r t = rw (r, p, q, t, rounds_up)

  pub delay-there : 0 < slots → delay_at slots f ≡ delay_of slots f
  unfolding delay_at in_ring
  delay-there h = simp (le-leb slots 32768 small, lt-ltb 0 slots h)

  pub delay-below : 0 < slots → (delay_of slots f).whole < slots
  unfolding delay_of
  delay-below h = rw (← rounds_up) (omega (arith, offset_le (slots - 1) f (omega arith)))

pub delay-tapped : (f : Float) (c : Cursor) (ring : List Float) → in_ring c.position (length ring) ≡ true
    → tapped (Fract f) c ring ≡ answered (delay_at (length ring) f).reach (step c (delayed_by (delay_at (length ring) f) ring c.position))
unfolding tapped
delay-tapped f c ring e =
    let t = within c.position (length ring) (sym e) refl in
    rw (e, delay-there (length ring) f t.small (omega (arith, t.below))) (unfold delay_of in refl)
