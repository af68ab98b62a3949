-- The operations that formulas are written in. In f64 each operation rounds once: so the contracts have it. The biquads' formulas are written once, over any arithmetic,
-- and read a second time in a field, where nothing rounds: so the theorems on the Cookbook have it. Assumes nothing.
use Rattle.std.specs.Prelude.{◌≡◌, ◌≢◌, Float}
use Rattle.std.specs.Float.{binary64}
use Rattle.std.specs.Float.Ieee.{add, sub, mul, div, neg}
use Rattle.numbers.specs.Constants.{zero64, one64, two64}

pub record Arithmetic : Type 1 where
  infixl 65 ◌⊕◌ ◌⊖◌
  infixl 70 ◌⊗◌ ◌⊘◌
  pub Number : Type 0
  pub 𝟎 : Number
  pub 𝟏 : Number
  pub 𝟐 : Number
  pub ◌⊕◌ : Number → Number → Number
  pub ◌⊖◌ : Number → Number → Number
  pub ◌⊗◌ : Number → Number → Number
  pub ◌⊘◌ : Number → Number → Number
  pub negated : Number → Number

abbrev pub f64_arithmetic : Arithmetic
f64_arithmetic = record {
  Number = Float;
  𝟎 = zero64;
  𝟏 = one64;
  𝟐 = two64;
  ◌⊕◌ = add binary64;
  ◌⊖◌ = sub binary64;
  ◌⊗◌ = mul binary64;
  ◌⊘◌ = div binary64;
  negated = neg;
}

module _ (A : Arithmetic) where
  open A use {Number, 𝟎, 𝟏, 𝟐, ◌⊕◌, ◌⊖◌, ◌⊗◌, ◌⊘◌, negated}

  -- The laws of a field. The quotient by zero is left open: no law speaks of it.
  pub record Field : Type 0 where
    pub ⊕-assoc : (x y z : Number) → (x ⊕ y) ⊕ z ≡ x ⊕ (y ⊕ z)
    pub ⊕-comm : (x y : Number) → x ⊕ y ≡ y ⊕ x
    pub ⊕-zero : (x : Number) → x ⊕ 𝟎 ≡ x
    pub ⊕-negated : (x : Number) → x ⊕ negated x ≡ 𝟎
    pub ⊗-assoc : (x y z : Number) → (x ⊗ y) ⊗ z ≡ x ⊗ (y ⊗ z)
    pub ⊗-comm : (x y : Number) → x ⊗ y ≡ y ⊗ x
    pub ⊗-one : (x : Number) → x ⊗ 𝟏 ≡ x
    pub ⊕-⊗ : (x y z : Number) → (x ⊕ y) ⊗ z ≡ x ⊗ z ⊕ y ⊗ z
    pub ⊘-⊗ : (x y : Number) → (y ≢ 𝟎) → x ⊘ y ⊗ y ≡ x
    pub two_is : 𝟐 ≡ 𝟏 ⊕ 𝟏
    pub ⊖-is : (x y : Number) → x ⊖ y ≡ x ⊕ negated y
