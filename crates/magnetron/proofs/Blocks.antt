-- Blocks: several samples of a window at once, in an array.
--     Filled           the loop that fills an array with a signal, after k samples: filled_start, filled_more
--     window_ext       a window of signals that agree on its n samples
--     window_block     i samples of a window, and then n more, are i + n samples of it
--     block_room, block_reach, block_kept, writing_block    the steps of `Writing` for the n samples from i on
--     writing_resumed  the samples that blocks have written, as a loop knows them that goes on sample by sample
--     Resumed          what such a loop keeps: it knows of its own start alone, so that this is said of any pool d that was written so far
-- Assumes nothing.
use mathlib.Core.Path.{◌≡◌, refl, sym, ap, ap₂, ◌∙◌}
use mathlib.Core.List.{List}
use Prim.Native.Nat.{ℕ, zero, suc, ◌+◌, ◌<◌, ◌≤◌}
use native.Mathlib.Numerals.{add-one, add-one-le}
use native.Mathlib.Omega.{arith}
use lib.ListN.{length, get_or, take, set, length-append, length-drop, length-set}
use lib.Seq.{length-take-le, take-suc-set}
use lib.Ieee.{Float, nan}
use Rattle.magnetron.specs.Signals.{tab, window}
use Rattle.magnetron.specs.Inside.Mix.{mix_of}
use Rattle.magnetron.specs.Inside.Source.{signal_of, InReach}
use Rattle.magnetron.specs.Inside.Target.{LiesIn, ClearOf, mixed_in, block_written, WrittenTo}
use Rattle.magnetron.specs.declared.source.Source.{Source}
use Rattle.magnetron.specs.declared.output.Target.{Target}
use Rattle.magnetron.proofs.Windows.{tab-length, tab-at, tab_ext, window_none, window_more}
use Rattle.magnetron.proofs.Writing.{Writing, after, in_reach, kept}

pub record Filled (n : ℕ) (g : ℕ → Float) (l : List Float) (k : ℕ) : Type 0 where
  pub upto : k ≤ n
  pub long : length l ≡ n
  pub done : take k l ≡ tab k g

module _ {n : ℕ} {g : ℕ → Float} {l : List Float} where
  pub filled_start : length l ≡ n → Filled n g l 0
  unfolding tab
  filled_start e = record { upto = omega arith; long = e; done = refl }

  module _ {k : ℕ} (f : Filled n g l k) where
    pub filled_more : k < n → {v : Float} → v ≡ g k → Filled n g (set l k v) (k + 1)
    unfolding tab
    filled_more h {v} e = record {
      upto = add-one-le h;
      long = length-set l k v ∙ f.long;
      done = rw add-one (take-suc-set l k v (omega (arith, f.long)) ∙ rw (f.done, e));
    }

module _ {A : Type 0} where
  window-length : (d : List A) (base n : ℕ) (g : ℕ → A) → base + n ≤ length d → length (window d base n g) ≡ length d
  unfolding window
  window-length d base n g fits = rw (length-append, length-append, tab-length, length-take-le base d (omega arith), length-drop) (omega arith)

  pub window_ext : (d : List A) (base n : ℕ) (g h : ℕ → A) → ((k : ℕ) → k < n → g k ≡ h k) → window d base n g ≡ window d base n h
  unfolding window
  window_ext d base n g h e = rw (tab_ext n g h e)

  window_block : (d : List A) (base i n : ℕ) (g : ℕ → A) (l : List A) → length l ≡ length d → base + i + n ≤ length d → l ≡ window d base i g
      → window l (base + i) n (λ k. g (i + k)) ≡ window d base (i + n) g
  window_block d base i zero g l long fits p = sym (window_none l (base + i) _) ∙ p ∙ ap (λ (m : ℕ). window d base m g) (omega arith)
  window_block d base i (suc n) g l long fits p =
      let far : base + i + n ≡ base + (i + n) = omega arith in
      ap (λ (m : ℕ). window l (base + i) m (λ k. g (i + k))) (sym (add-one n))
      ∙ sym (window_more l (base + i) n (λ k. g (i + k)) (omega (arith, long)))
      ∙ ap₂ (λ (a : List A) (m : ℕ). set a m (g (i + n))) (window_block d base i n g l long (omega arith) p) far
      ∙ window_more d base (i + n) g (omega arith)
      ∙ ap (λ (m : ℕ). window d base m g) (omega arith)

module _ {own : List Float} {target : Target} {x : ℕ → Float} {l : List Float} {i : ℕ} (w : Writing own target x l i) (n : ℕ) (h : i + n ≤ target.samples) where
  pub block_room : target.base + i + n ≤ length l
  block_room = omega (arith, w.fits, w.long)

  pub block_reach : (source : Source) (other : List Float) → ClearOf source own other target → (k : ℕ) → k < n → (i + n ≤ length l) × InReach source (length l) (length other) (i + k)
  block_reach source other clear k lt = (omega (arith, block_room), in_reach w source other clear (i + k) (omega arith))

  pub block_kept : (source : Source) (other : List Float) → ClearOf source own other target → {z : List Float} → z ≡ tab n (λ k. signal_of source l other (i + k))
      → (k : ℕ) → k < n → get_or z k nan ≡ signal_of source own other (i + k)
  block_kept source other clear e k lt = rw e (tab-at n _ k nan lt) ∙ kept w source other clear (i + k) (omega arith)

  pub writing_block : (z : List Float) {l' : List Float} → ((k : ℕ) → k < n → get_or z k nan ≡ x (i + k)) → l' ≡ block_written l target i n (λ k. get_or z k nan) → Writing own target x l' (i + n)
  writing_block z {l'} e el =
      let g : ℕ → Float = mixed_in own target x in
      let old : (k : ℕ) → get_or l (target.base + i + k) nan ≡ get_or own (target.base + (i + k)) nan =
      λ k. after w (target.base + i + k) (omega arith) ∙ ap (λ (j : ℕ). get_or own j nan) (omega arith) in
      record {
        fits = w.fits;
        upto = h;
        long = ap length el ∙ window-length l (target.base + i) n _ block_room ∙ w.long;
        done = el ∙ window_ext l (target.base + i) n _ (λ k. g (i + k)) (λ k lt. ap₂ (mix_of target.stale target.level) (old k) (e k lt))
            ∙ window_block own target.base i n g l w.long (omega (arith, w.fits)) w.done;
      }

pub writing_resumed : {own : List Float} {target : Target} {x : ℕ → Float} {l : List Float} {i : ℕ} → LiesIn target own → WrittenTo own target x i l → Writing own target x l i
writing_resumed {own} {target} {x} {l} {i} fits p =
    record { fits = fits; upto = p.0; long = ap length p.1 ∙ window-length own target.base i (mixed_in own target x) (omega (arith, p.0, fits)); done = p.1 }

abbrev pub Resumed : (List Float → Type 0) → (List Float → ℕ → Float) → Target → List Float → ℕ → List Float → ℕ → Type 0
Resumed clear x target own₀ i₀ own i = (d : List Float) → clear d → Writing d target (x d) own₀ i₀ → Writing d target (x d) own i
