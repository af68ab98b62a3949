-- What a fractional read answers, and what it reads, where a number is given that was not held to 0..1.
--     within_unheld    the number is within exactly where it is read as it is: -0.0, 0 and 1 among them
--     held_once        held twice is held once
--     same_sample      so that to hold the number before it is given changes no sample
-- Assumes nothing.
use Rattle.std.proofs.Common.{◌≡◌, ℕ, Bool, true, false, ◌≢◌, ◌↔◌, List, sym, refl, ap, ◌∙◌, true≢false, arith}
use lib.Ieee.{Float, of_bits, lt, is_nan}
use Rattle.numbers.specs.Constants.{zero64, one64}
use Rattle.numbers.specs.Small.{max_of, min_of, held_of}
use Rattle.util.specs.declared.reach.Reach.TheVariants.{Within}
use Rattle.util.specs.Reach.{reach_of, number_of}
use Rattle.util.specs.DelayLine.{delay_of, delayed_by, delayed_fract}

abbrev held : Float → Float
held f = held_of f zero64 one64

-- a number and what it is held to: itself where it is within; else 0 or 1, which it is not and which are held to themselves
data Judged (f : Float) : Type 0 where
  as_it_is : reach_of f ≡ Within → held f ≡ f → Judged f
  moved : (x : Float) → number_of (reach_of f) ≢ 0 → held f ≡ x → x ≢ f → held x ≡ x → Judged f

judged : (f : Float) → Judged f
unfolding reach_of max_of min_of
judged f = go (is_nan f) (lt f zero64) (lt one64 f) refl refl refl
  where
    go : (not-a-number below above : Bool) → is_nan f ≡ not-a-number → lt f zero64 ≡ below → lt one64 f ≡ above → Judged f
    go true below above n b a = moved zero64 (simp n (λ e. omega (arith, e))) (simp n (unfold is_nan lt of_bits in refl)) (λ q. true≢false (sym n ∙ ap is_nan (sym q) ∙ (unfold is_nan of_bits in refl))) (unfold is_nan lt of_bits in refl)
    go false true above n b a = moved zero64 (simp (n, b) (λ e. omega (arith, e))) (simp (n, b) (unfold is_nan lt of_bits in refl)) (λ q. true≢false (sym b ∙ ap (λ (y : Float). lt y zero64) (sym q) ∙ (unfold lt of_bits in refl))) (unfold is_nan lt of_bits in refl)
    go false false true n b a = moved one64 (simp (n, b, a) (λ e. omega (arith, e))) (simp (n, b, a)) (λ q. true≢false (sym a ∙ ap (lt one64) (sym q) ∙ (unfold lt of_bits in refl))) (unfold is_nan lt of_bits in refl)
    go false false false n b a = as_it_is (simp (n, b, a)) (simp (n, b, a))

pub within_unheld : (f : Float) → (reach_of f ≡ Within) ↔ (held f ≡ f)
within_unheld f = go (judged f)
  where
    go : Judged f → (reach_of f ≡ Within) ↔ (held f ≡ f)
    go (as_it_is w h) = (λ e. h, λ e. w)
    go (moved x n h d k) = (λ e. absurd (n (ap number_of e)), λ e. absurd (d (sym h ∙ e)))

pub held_once : (f : Float) → held (held f) ≡ held f
held_once f = go (judged f)
  where
    go : Judged f → held (held f) ≡ held f
    go (as_it_is w h) = ap held h
    go (moved x n h d k) = ap held h ∙ k ∙ sym h

pub same_sample : (f : Float) (ring : List Float) (position : ℕ) → delayed_fract (held f) ring position ≡ delayed_fract f ring position
unfolding delayed_by delay_of
same_sample f ring position = rw (held_once f)
