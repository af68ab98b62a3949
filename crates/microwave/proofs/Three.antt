-- The premises of `Cookbook.antt` can be met: 0, 1 and 2 modulo 3 are a field in which two is not zero, and has a Q that is not 1. Each law is computed for all of
-- them at once. Assumes nothing.
use Rattle.std.proofs.Common.{◌≡◌, ℕ, ◌≢◌, refl, ap, arith}
use Rattle.microwave.specs.Arithmetic.{Arithmetic, Field}
use Rattle.microwave.specs.Biquads.{Kind, BandPass, alpha_of, coefficients_of, at_turns}
use Rattle.microwave.specs.Cookbook.{Circle, other_band_pass, cookbook, sine_of_turns, cosine_of_turns}
use Rattle.microwave.proofs.Cookbook.{agrees, no_other}

pub data Three : Type 0 where
  zero₃ : Three
  one₃ : Three
  two₃ : Three

abbrev plus : Three → Three → Three
plus zero₃ y = y
plus one₃ zero₃ = one₃
plus one₃ one₃ = two₃
plus one₃ two₃ = zero₃
plus two₃ zero₃ = two₃
plus two₃ one₃ = zero₃
plus two₃ two₃ = one₃

abbrev minus : Three → Three
minus zero₃ = zero₃
minus one₃ = two₃
minus two₃ = one₃

abbrev times : Three → Three → Three
times zero₃ y = zero₃
times one₃ y = y
times two₃ y = minus y

-- each number but zero is its own inverse, so a quotient is a product
abbrev pub three : Arithmetic
three = record {
  Number = Three;
  𝟎 = zero₃;
  𝟏 = one₃;
  𝟐 = two₃;
  ◌⊕◌ = plus;
  ◌⊖◌ = λ x y. plus x (minus y);
  ◌⊗◌ = times;
  ◌⊘◌ = times;
  negated = minus;
}

-- ---- a function at all three, and what that tells of each
abbrev all : {B : Type 0} → (Three → B) → B × B × B
all f = (f zero₃, f one₃, f two₃)

each : {B : Type 0} (f g : Three → B) → all f ≡ all g → (x : Three) → f x ≡ g x
each f g e zero₃ = ap (λ t. t.0) e
each f g e one₃ = ap (λ t. t.1) e
each f g e two₃ = ap (λ t. t.2) e

each2 : {B : Type 0} (f g : Three → Three → B) → all (λ x. all (f x)) ≡ all (λ x. all (g x)) → (x y : Three) → f x y ≡ g x y
each2 f g e x = each (f x) (g x) (each (λ x. all (f x)) (λ x. all (g x)) e x)

each3 : {B : Type 0} (f g : Three → Three → Three → B) → all (λ x. all (λ y. all (f x y))) ≡ all (λ x. all (λ y. all (g x y))) → (x y z : Three) → f x y z ≡ g x y z
each3 f g e x = each2 (f x) (g x) (each (λ x. all (λ y. all (f x y))) (λ x. all (λ y. all (g x y))) e x)

divided : (x y : Three) → (y ≡ zero₃ → ⊥) → times (times x y) y ≡ x
divided x zero₃ nonzero = absurd (nonzero refl)
divided x one₃ nonzero = each (λ x. times (times x one₃) one₃) (λ x. x) refl x
divided x two₃ nonzero = each (λ x. times (times x two₃) two₃) (λ x. x) refl x

pub three_is_a_field : Field three
three_is_a_field = record {
  ⊕-assoc = each3 (λ x y z. plus (plus x y) z) (λ x y z. plus x (plus y z)) refl;
  ⊕-comm = each2 plus (λ x y. plus y x) refl;
  ⊕-zero = each (λ x. plus x zero₃) (λ x. x) refl;
  ⊕-negated = each (λ x. plus x (minus x)) (λ x. zero₃) refl;
  ⊗-assoc = each3 (λ x y z. times (times x y) z) (λ x y z. times x (times y z)) refl;
  ⊗-comm = each2 times (λ x y. times y x) refl;
  ⊗-one = each (λ x. times x one₃) (λ x. x) refl;
  ⊕-⊗ = each3 (λ x y z. times (plus x y) z) (λ x y z. plus (times x z) (times y z)) refl;
  ⊘-⊗ = divided;
  two_is = refl;
  ⊖-is = λ x y. refl;
}

two_nonzero : two₃ ≡ zero₃ → ⊥
two_nonzero e = let z : ◌≡◌ {A = ℕ} 0 1 = cc in omega arith

one_nonzero : one₃ ≡ zero₃ → ⊥
one_nonzero e = let z : ◌≡◌ {A = ℕ} 0 1 = cc in omega arith

pub agrees_in_three : (c : Circle three) (f0 : Three) (k : Kind) → at_turns three (sine_of_turns three c) (cosine_of_turns three c) k (times f0 (times one₃ one₃)) one₃ ≡ cookbook three c k f0 one₃ one₃
agrees_in_three c f0 = agrees three_is_a_field two_nonzero one₃ one_nonzero c f0 one₃ one_nonzero

two_is_not_one : two₃ ≡ one₃ → ⊥
two_is_not_one e = let z : ◌≡◌ {A = ℕ} 0 1 = cc in omega arith

pub no_other_in_three : (cos : Three) → coefficients_of three BandPass cos (alpha_of three one₃ two₃) two₃ ≢ other_band_pass three one₃ cos two₃
no_other_in_three cos = no_other three_is_a_field two_nonzero two₃ two_nonzero one₃ cos two_is_not_one one_nonzero
