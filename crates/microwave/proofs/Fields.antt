-- What follows from the laws of a field: sums, differences, multiples and quotients are divided part by part. Assumes nothing.
use Rattle.std.proofs.Common.{◌≡◌}
use Rattle.microwave.specs.Arithmetic.{Arithmetic, Field}

module _ {A : Arithmetic} (F : Field A) where
  open A use {Number, 𝟎, 𝟏, ◌⊕◌, ◌⊖◌, ◌⊗◌, ◌⊘◌, negated}
  open F use {⊕-assoc, ⊕-comm, ⊕-zero, ⊕-negated, ⊗-assoc, ⊗-comm, ⊗-one, ⊕-⊗, ⊘-⊗, ⊖-is}

  -- what is added on both sides is taken off
  ⊕-cancel : (x y z : Number) → x ⊕ z ≡ y ⊕ z → x ≡ y
  ⊕-cancel x y z e = cc (⊕-zero x, ⊕-zero y, ⊕-negated z, ⊕-assoc x z (negated z), ⊕-assoc y z (negated z))

  pub negated_twice : (x : Number) → negated (negated x) ≡ x
  negated_twice x = ⊕-cancel _ _ (negated x) (cc (⊕-comm (negated (negated x)) (negated x), ⊕-negated (negated x), ⊕-negated x))

  zero_⊗ : (x : Number) → 𝟎 ⊗ x ≡ 𝟎
  zero_⊗ x =
      ⊕-cancel _ _ (𝟎 ⊗ x) (cc (⊕-⊗ 𝟎 𝟎 x, ⊕-zero 𝟎, ⊕-comm 𝟎 (𝟎 ⊗ x), ⊕-zero (𝟎 ⊗ x)))

  pub negated_⊗ : (x y : Number) → negated x ⊗ y ≡ negated (x ⊗ y)
  negated_⊗ x y =
      ⊕-cancel _ _ (x ⊗ y)
      (cc (⊕-⊗ (negated x) x y, ⊕-comm (negated x) x, ⊕-negated x, zero_⊗ y, ⊕-comm (negated (x ⊗ y)) (x ⊗ y), ⊕-negated (x ⊗ y)))

  module _ (a : Number) (nonzero : a ≡ 𝟎 → ⊥) where
    -- what both sides are multiplied by is divided off, where it is not zero
    pub ⊗-cancel : (x y : Number) → x ⊗ a ≡ y ⊗ a → x ≡ y
    ⊗-cancel x y e =
        cc (⊗-one x, ⊗-one y, ⊗-assoc x a (𝟏 ⊘ a), ⊗-assoc y a (𝟏 ⊘ a), ⊗-comm a (𝟏 ⊘ a), ⊘-⊗ 𝟏 a nonzero)

    pub ⊕-⊘ : (x y : Number) → (x ⊕ y) ⊘ a ≡ x ⊘ a ⊕ y ⊘ a
    ⊕-⊘ x y = ⊗-cancel _ _ (simp (⊕-⊗, ⊘-⊗))

    pub negated_⊘ : (x : Number) → negated x ⊘ a ≡ negated (x ⊘ a)
    negated_⊘ x = ⊗-cancel _ _ (cc (⊘-⊗ (negated x) a nonzero, ⊘-⊗ x a nonzero, negated_⊗ (x ⊘ a) a))

    pub ⊖-⊘ : (x y : Number) → (x ⊖ y) ⊘ a ≡ x ⊘ a ⊖ y ⊘ a
    ⊖-⊘ x y = simp (⊖-is, ⊕-⊘, negated_⊘)

    pub ⊗-⊘ : (b x : Number) → b ⊗ x ⊘ a ≡ b ⊘ a ⊗ x
    ⊗-⊘ b x =
        ⊗-cancel _ _
        (cc (⊘-⊗ (b ⊗ x) a nonzero, ⊘-⊗ b a nonzero, ⊗-assoc (b ⊘ a) x a, ⊗-comm x a, ⊗-assoc (b ⊘ a) a x))

  pub times-over : (a : Number) → (a ≡ 𝟎 → ⊥) → (x : Number) → x ⊗ (𝟏 ⊘ a) ≡ x ⊘ a
  times-over a nonzero x = cc (⊗-⊘ a nonzero 𝟏 x, ⊗-comm 𝟏 x, ⊗-one x, ⊗-comm x (𝟏 ⊘ a))

  ⊗-nonzero : (a b : Number) → (a ≡ 𝟎 → ⊥) → (b ≡ 𝟎 → ⊥) → a ⊗ b ≡ 𝟎 → ⊥
  ⊗-nonzero a b a-nonzero b-nonzero e =
      b-nonzero
      (cc (⊗-one b, ⊗-comm b 𝟏, ⊘-⊗ 𝟏 a a-nonzero, ⊗-assoc (𝟏 ⊘ a) a b, ⊗-comm (𝟏 ⊘ a) 𝟎, zero_⊗ (𝟏 ⊘ a)))

  pub ⊘-⊘ : (x a b : Number) → (a ≡ 𝟎 → ⊥) → (b ≡ 𝟎 → ⊥) → x ⊘ a ⊘ b ≡ x ⊘ (a ⊗ b)
  ⊘-⊘ x a b a-nonzero b-nonzero =
      let nonzero : a ⊗ b ≡ 𝟎 → ⊥ = ⊗-nonzero a b a-nonzero b-nonzero in
      ⊗-cancel (a ⊗ b) nonzero _ _
      (cc (⊘-⊗ x (a ⊗ b) nonzero, ⊗-comm a b, ⊗-assoc (x ⊘ a ⊘ b) b a, ⊘-⊗ (x ⊘ a) b b-nonzero, ⊘-⊗ x a a-nonzero))
