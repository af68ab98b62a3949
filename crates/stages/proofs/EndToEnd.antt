-- Rings end to end: what check 4 tells of one stage, tests of the first n stages, and where a ring ends.
--     fine-at                  a ring that check 4 lets pass keeps its bound
--     there-at                 a stage among those that are there
--     all_none, all_more, all_at, all_fails     a test of the first n stages
--     sum_step                 a ring ends where the next one begins, or before
--     starts_at                where the list of all starts has a ring's
--     Summed, summed_start, summed_more, rings_fit     loops that add up the rings' lengths
--     part_put                 a part that was lent comes back in its place
-- Assumes nothing.
use Rattle.std.proofs.Common.{◌≡◌, get_or-take, ℕ, zero, suc, ◌+◌, ◌-◌, ◌*◌, ◌<◌, ◌≤◌, Bool, true, false, ◌&&◌, leb, List, ◌++◌, length, get_or, take, drop, sym, refl, ap, ◌∙◌, ap₂, ⊎_elim, append_assoc, le_of_suc-le-suc, le_antisymm, eq-or-lt_of_le, add-one, arith, leb-true}
use mathlib.Core.Bool.{and-false}
use lib.ListN.{get_or-append}
use lib.Seq.{sets, sets-eq}
use lib.Ieee.{Float}
use borrow.Rule.Slice.PartMut.{put_mid, Post-is}
use Rattle.answers.proofs.Tests.{and_left, and_right}
use Rattle.magnetron.specs.Signals.{tab, window}
use Rattle.magnetron.proofs.Windows.{tab-length, tab-at}
use Rattle.stages.specs.declared.kind.Kind.{Kind}
use Rattle.stages.specs.declared.kind.Kind.TheVariants.{Pass, Pow3, Clip, Filter, Oscillator, ModOscillator, Waveguide, RingModulator, Pan}
use Rattle.stages.specs.declared.patch.Patch.{Patch}
use Rattle.stages.specs.declared.stage.Stage.{Stage}
use Rattle.stages.specs.declared.state.State.{State}
use Rattle.stages.specs.Stage.{ring_len, ring_fine}
use Rattle.stages.specs.Rings.{no_stage, no_state, stage_in, len_in, ring_at, fine_in, sum_to, all_to, rings_ok}
use Rattle.stages.specs.Inside.{starts_of}

fine_len : (kind : Kind) (s : State) → ring_fine kind s ≡ true → ring_len kind ≤ 32768
fine_len (Pass a) s e = omega arith
fine_len (Pow3 a) s e = omega arith
fine_len (Clip a limit) s e = omega arith
fine_len (Filter a f) s e = omega arith
fine_len (Oscillator o) s e = omega arith
fine_len (ModOscillator a o m) s e = omega arith
fine_len (Waveguide a g) s e = omega (arith, leb-true g.buffer_size 32767 (and_left _ _ e))
fine_len (RingModulator a b) s e = omega arith
fine_len (Pan a gain right) s e = omega arith

pub fine-at : (patch : Patch) (states : List State) (k : ℕ) → fine_in patch states k ≡ true → len_in patch k ≤ 32768
fine-at patch states k e = fine_len (stage_in patch k).kind (get_or states k no_state) e

-- a stage that is there, among those that are
pub there-at : (patch : Patch) {l : List Stage} → l ≡ take patch.count patch.stages → length l ≡ patch.count → (k : ℕ) → k < length l → get_or l k no_stage ≡ stage_in patch k
there-at patch {l} e n k h =
    let below : k < patch.count = omega arith in
    ap (λ (m : List Stage). get_or m k no_stage) e ∙ get_or-take patch.count patch.stages k no_stage below

module _ (f : ℕ → Bool) where
  pub all_none : all_to 0 f ≡ true
  unfolding all_to
  all_none = refl

  pub all_more : (n : ℕ) → all_to n f ≡ true → f n ≡ true → all_to (n + 1) f ≡ true
  unfolding all_to
  all_more n a e = rw add-one (ap₂ ◌&&◌ a e)

  pub all_at : (n : ℕ) → all_to n f ≡ true → (k : ℕ) → k < n → f k ≡ true
  unfolding all_to
  all_at zero a k h = absurd (omega arith)
  all_at (suc n) a k h =
      ⊎_elim
      (λ (q : k ≡ n). ap f q ∙ and_right (all_to n f) (f n) a)
      (λ (l : k < n). all_at n (and_left (all_to n f) (f n) a) k l)
      (eq-or-lt_of_le (le_of_suc-le-suc h))

  pub all_fails : (n k : ℕ) → k < n → f k ≡ false → all_to n f ≡ false
  unfolding all_to
  all_fails zero k h e = absurd (omega arith)
  all_fails (suc n) k h e =
      ⊎_elim
      (λ (q : k ≡ n). ap (λ (t : Bool). all_to n f && t) (ap f (sym q) ∙ e) ∙ and-false (all_to n f))
      (λ (l : k < n). ap (λ (t : Bool). t && f n) (all_fails n k l e))
      (eq-or-lt_of_le (le_of_suc-le-suc h))

module _ (f : ℕ → ℕ) where
  pub sum_step : (i j : ℕ) → i < j → sum_to i f + f i ≤ sum_to j f
  unfolding sum_to
  sum_step i zero h = absurd (omega arith)
  sum_step i (suc j) h =
      ⊎_elim
      (λ (q : i ≡ j). rw q (omega arith))
      (λ (l : i < j). omega (arith, sum_step i j l))
      (eq-or-lt_of_le (le_of_suc-le-suc h))

  -- the first k of n lengths add up to `end`, and stay within their bounds
  pub record Summed (n k end : ℕ) : Type 0 where
    pub upto : k ≤ n
    pub sum : end ≡ sum_to k f
    pub small : end ≤ k * 32768

  pub summed_start : (n : ℕ) → Summed n 0 0
  unfolding sum_to
  summed_start n = record { upto = omega arith; sum = refl; small = omega arith }

  pub summed_more : (n k end len : ℕ) → Summed n k end → k < n → len ≡ f k → f k ≤ 32768 → Summed n (k + 1) (end + len)
  unfolding sum_to
  summed_more n k end len s h e b = record { upto = omega arith; sum = rw (add-one, s.sum, e) refl; small = omega arith }

-- a ring's start, in the list of all of them
pub starts_at : (patch : Patch) (k : ℕ) → k < patch.count → get_or (starts_of patch) k 0 ≡ ring_at patch k
unfolding window
starts_at patch k h = get_or-append (tab patch.count (ring_at patch)) _ 0 k (rw tab-length h) ∙ tab-at patch.count (ring_at patch) k 0 h

pub rings_fit : (patch : Patch) (states : List State) (room k end : ℕ) → Summed (len_in patch) patch.count k end → all_to k (fine_in patch states) ≡ true → patch.count ≤ k
    → leb end room ≡ rings_ok patch states room
unfolding rings_ok
rings_fit patch states room k end s e h =
    let q : k ≡ patch.count = le_antisymm s.upto h in
    rw (sym q, e, s.sum) refl

pub part_put : (l v : List Float) (a e : ℕ) → a ≤ e → e ≤ length l → length v ≡ e - a → put_mid a (e - a) l v ≡ sets l a v
part_put l v a e h g q =
    let long : e ≡ a + length v = omega arith in
    ap (λ (r : List Float). take a l ++ (v ++ r)) (Post-is a e l h ∙ ap (λ (m : ℕ). drop m l) long)
    ∙ sym (append_assoc (take a l) v (drop (a + length v) l))
    ∙ sym (sets-eq v l a (omega arith))
