-- The loop that writes a signal where a target says, a sample each time round, whatever works the signal out: its invariant, and its steps.
--     Writing          after i samples: the pool with the first i written
--     writing_start    before the first sample
--     after            what lies behind the samples written is what it was at first
--     in_reach, kept   each sample of a source lies in reach, and is what it was at first
--     room, reach, as_at_first    of sample i: there is room for it in the pool, and it lies in reach and is read as it was at first
--     writing_more     sample i is written, of a y that is the signal's
--     writing_end      once i is the number of samples
-- Assumes nothing.
use mathlib.Core.Path.{◌≡◌, refl, ap, ◌∙◌}
use mathlib.Core.Logic.{⊎_elim}
use mathlib.Core.List.{List}
use Prim.Native.Nat.{ℕ, ◌+◌, ◌<◌, ◌≤◌}
use native.Mathlib.Nat.{le_antisymm}
use native.Mathlib.Numerals.{add-one-le}
use native.Mathlib.Omega.{arith}
use lib.ListN.{length, get_or, length-set}
use lib.Ieee.{Float, nan}
use Rattle.magnetron.specs.Signals.{window}
use Rattle.magnetron.specs.Inside.Source.{signal_of, InReach}
use Rattle.magnetron.specs.Inside.Target.{LiesIn, ClearOf, sampled, mixed_in, written}
use Rattle.magnetron.specs.declared.source.Source.{Source}
use Rattle.magnetron.specs.declared.source.Source.TheVariants.{Zeros, Own, Other}
use Rattle.magnetron.specs.declared.output.Target.{Target}
use Rattle.magnetron.proofs.Windows.{window_none, window-next, read_after, read_before}

pub record Writing (own : List Float) (target : Target) (x : ℕ → Float) (l : List Float) (i : ℕ) : Type 0 where
  pub fits : LiesIn target own
  pub upto : i ≤ target.samples
  pub long : length l ≡ length own
  pub done : l ≡ window own target.base i (mixed_in own target x)

module _ {own : List Float} {target : Target} {x : ℕ → Float} where
  pub writing_start : LiesIn target own → Writing own target x own 0
  writing_start fits = record { fits = fits; upto = omega arith; long = refl; done = window_none own target.base (mixed_in own target x) }

  module _ {l : List Float} {i : ℕ} (w : Writing own target x l i) where
    pub writing_end : target.samples ≤ i → l ≡ written own target x
    writing_end h = w.done ∙ ap (λ (k : ℕ). window own target.base k (mixed_in own target x)) (le_antisymm w.upto h)

    pub after : (k : ℕ) → target.base + i ≤ k → get_or l k nan ≡ get_or own k nan
    after k a = read_after own target.base (mixed_in own target x) i l k nan (omega (arith, w.fits)) a w.done

    pub in_reach : (source : Source) (other : List Float) → ClearOf source own other target → (k : ℕ) → k < target.samples → InReach source (length l) (length other) k
    in_reach Zeros other clear k h = tt
    in_reach (Own at) other clear k h = omega (arith, w.long)
    in_reach (Other at) other clear k h = omega arith

    pub kept : (source : Source) (other : List Float) → ClearOf source own other target → (k : ℕ) → k < target.samples → signal_of source l other k ≡ signal_of source own other k
    kept Zeros other clear k h = refl
    kept (Own at) other clear k h =
        ⊎_elim
        (λ (b : at + target.samples ≤ target.base). read_before own target.base (mixed_in own target x) i l (at + k) nan (omega (arith, w.fits)) (omega arith) w.done)
        (λ (a : target.base + target.samples ≤ at). after (at + k) (omega (arith, w.upto)))
        clear.1
    kept (Other at) other clear k h = refl

    module _ (h : i < target.samples) where
      pub room : target.base + i < length l
      room = omega (arith, w.fits, w.long)

      pub reach : (source : Source) (other : List Float) → ClearOf source own other target → InReach source (length l) (length other) i
      reach source other clear = in_reach source other clear i h

      pub as_at_first : (source : Source) (other : List Float) → ClearOf source own other target → {y : Float} → y ≡ signal_of source l other i → y ≡ signal_of source own other i
      as_at_first source other clear e = e ∙ kept source other clear i h

      pub writing_more : {y : Float} {l' : List Float} → y ≡ x i → l' ≡ sampled l target i y → Writing own target x l' (i + 1)
      writing_more {y} ey el =
          let old : get_or l (target.base + i) nan ≡ get_or own (target.base + i) nan = after (target.base + i) (omega arith) in
          record {
            fits = w.fits;
            upto = add-one-le h;
            long = ap length el ∙ length-set l (target.base + i) _ ∙ w.long;
            done = el ∙ window-next own target.base (mixed_in own target x) i l _ (omega (arith, w.fits)) w.done (rw (old, ey));
          }
