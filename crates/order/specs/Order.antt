-- Orders: lists in which each member stands once. Over any alphabet A: stage numbers, or pairs of a stage and a sample's index.
-- What a reader must believe of "the same members", "each once", "in the same sequence" and a run along an order is here, and nothing else.
-- Assumes nothing.
use Rattle.std.specs.Prelude.{◌≡◌, ◌⊎◌, ◌↔◌, Bool, true, List, [], ◌∷◌}

module _ {A : Type 0} where
  -- a is a member of the list
  abbrev pub Among : A → List A → Type 0
  Among a [] = ⊥
  Among a (x ∷ xs) = (a ≡ x) ⊎ Among a xs

  -- no member stands twice
  abbrev pub Once : List A → Type 0
  Once [] = Unit {0}
  Once (x ∷ xs) = (¬ Among x xs) × Once xs

  -- a stands somewhere before b
  abbrev pub Before : A → A → List A → Type 0
  Before a b [] = ⊥
  Before a b (x ∷ xs) = ((a ≡ x) × Among b xs) ⊎ Before a b xs

  -- two orders of the same members, each once, in which every two that `tied` names stand in the same sequence
  pub record SameOrder (tied : A → A → Bool) (xs ys : List A) : Type 0 where
    pub once_left : Once xs
    pub once_right : Once ys
    pub members : (a : A) → Among a xs ↔ Among a ys
    pub sequence : (a b : A) → tied a b ≡ true → Before a b xs ↔ Before a b ys

  -- a fold along the order: what a run does, step after step
  abbrev pub runs : {S : Type 0} → (A → S → S) → List A → S → S
  runs step [] s = s
  runs step (x ∷ xs) s = runs step xs (step x s)
