-- The trace law: two orders of the same members, each once, in which every two dependent members stand in the same sequence,
-- end in the same state. For any alphabet, any state, any step; independent steps are asked to commute, and that only
-- for two different members of the orders and at states that keep an invariant.
--
-- The proof goes by the first order. Its head x stands somewhere in the second, and what stands before x there is
-- independent of x; x is pulled to the front over it (`pull`), and both orders go on without x (`without`).
-- Assumes nothing.
use mathlib.Core.Path.{◌≡◌, refl, sym, ap, ◌∙◌, subst}
use mathlib.Core.Logic.{inl, inr, ◌≢◌}
use mathlib.Core.Bool.{Bool, true, false}
use mathlib.Core.List.{List, [], ◌∷◌}
use Rattle.order.specs.Order.{Among, Once, Before, SameOrder, runs}

module _ {A : Type 0} where
  -- ---- members and places

  pub among_cast : {a b : A} (l : List A) → a ≡ b → Among b l → Among a l
  among_cast l e h = subst (λ (x : A). Among x l) (sym e) h

  pub before_first : (a b : A) (l : List A) → Before a b l → Among a l
  before_first a b [] h = h
  before_first a b (x ∷ xs) (inl h) = inl h.0
  before_first a b (x ∷ xs) (inr h) = inr (before_first a b xs h)

  pub before_second : (a b : A) (l : List A) → Before a b l → Among b l
  before_second a b [] h = h
  before_second a b (x ∷ xs) (inl h) = inr h.1
  before_second a b (x ∷ xs) (inr h) = inr (before_second a b xs h)

  -- where each stands once, no two stand each before the other, and none before itself
  pub before_asym : (a b : A) (l : List A) → Once l → Before a b l → Before b a l → ⊥
  before_asym a b [] o h k = h
  before_asym a b (x ∷ xs) o (inl h) (inl k) = o.0 (among_cast xs (sym k.0) h.1)
  before_asym a b (x ∷ xs) o (inl h) (inr k) = o.0 (among_cast xs (sym h.0) (before_second b a xs k))
  before_asym a b (x ∷ xs) o (inr h) (inl k) = o.0 (among_cast xs (sym k.0) (before_second a b xs h))
  before_asym a b (x ∷ xs) o (inr h) (inr k) = before_asym a b xs o.1 h k

  pub before_differ : (a b : A) (l : List A) → Once l → Before a b l → a ≢ b
  before_differ a b l o h e =
      let twice : Before b b l = subst (λ (x : A). Before x b l) e h in
      before_asym b b l o twice twice

  -- ---- the list without a member, whose place is given

  pub without : (x : A) (l : List A) → Among x l → List A
  without x [] h = []
  without x (y ∷ ys) (inl e) = ys
  without x (y ∷ ys) (inr h) = y ∷ without x ys h

  pub without_sub : (x b : A) (l : List A) (m : Among x l) → Among b (without x l m) → Among b l
  unfolding without
  without_sub x b [] m h = h
  without_sub x b (y ∷ ys) (inl e) h = inr h
  without_sub x b (y ∷ ys) (inr m) (inl h) = inl h
  without_sub x b (y ∷ ys) (inr m) (inr h) = inr (without_sub x b ys m h)

  pub without_keeps : (x b : A) (l : List A) (m : Among x l) → b ≢ x → Among b l → Among b (without x l m)
  unfolding without
  without_keeps x b [] m d h = h
  without_keeps x b (y ∷ ys) (inl e) d (inl h) = absurd (d (h ∙ sym e))
  without_keeps x b (y ∷ ys) (inl e) d (inr h) = h
  without_keeps x b (y ∷ ys) (inr m) d (inl h) = inl h
  without_keeps x b (y ∷ ys) (inr m) d (inr h) = inr (without_keeps x b ys m d h)

  pub without_gone : (x : A) (l : List A) (m : Among x l) → Once l → ¬ Among x (without x l m)
  unfolding without
  without_gone x [] m o h = h
  without_gone x (y ∷ ys) (inl e) o h = o.0 (among_cast ys (sym e) h)
  without_gone x (y ∷ ys) (inr m) o (inl h) = o.0 (among_cast ys (sym h) m)
  without_gone x (y ∷ ys) (inr m) o (inr h) = without_gone x ys m o.1 h

  pub without_once : (x : A) (l : List A) (m : Among x l) → Once l → Once (without x l m)
  unfolding without
  without_once x [] m o = o
  without_once x (y ∷ ys) (inl e) o = o.1
  without_once x (y ∷ ys) (inr m) o = (λ h. o.0 (without_sub x y ys m h), without_once x ys m o.1)

  pub without_before : (x a b : A) (l : List A) (m : Among x l) → a ≢ x → b ≢ x → Before a b l → Before a b (without x l m)
  unfolding without
  without_before x a b [] m da db h = h
  without_before x a b (y ∷ ys) (inl e) da db (inl h) = absurd (da (h.0 ∙ sym e))
  without_before x a b (y ∷ ys) (inl e) da db (inr h) = h
  without_before x a b (y ∷ ys) (inr m) da db (inl h) = inl (h.0, without_keeps x b ys m db h.1)
  without_before x a b (y ∷ ys) (inr m) da db (inr h) = inr (without_before x a b ys m da db h)

module _ {A S : Type 0} (step : A → S → S) (Inv : S → Type 0) (keep : (a : A) (s : S) → Inv s → Inv (step a s)) where
  -- x is pulled to the front over all that stands before it, if it commutes with each of them
  pub pull : (x : A) (l : List A) (m : Among x l) → ((b : A) → Before b x l → (s : S) → Inv s → step x (step b s) ≡ step b (step x s))
      → (s : S) → Inv s → runs step l s ≡ runs step (without x l m) (step x s)
  unfolding without
  pull x [] m h s i = absurd m
  pull x (y ∷ ys) (inl e) h s i = ap (λ (a : A). runs step ys (step a s)) (sym e)
  pull x (y ∷ ys) (inr m) h s i =
      pull x ys m (λ b k. h b (inr k)) (step y s) (keep y s i)
      ∙ ap (λ (t : S). runs step (without x ys m) t) (h y (inl (refl, m)) s i)

  module _ (tied : A → A → Bool) (Ok : A → Type 0)
      (commute : (a b : A) → Ok a → Ok b → a ≢ b → tied a b ≡ false → (s : S) → Inv s → step a (step b s) ≡ step b (step a s)) where
    -- the law, from the halves that the proof uses
    pub trace_half : (xs ys : List A) → Once xs → Once ys
        → ((a : A) → Among a xs → Among a ys) → ((a : A) → Among a ys → Among a xs)
        → ((a b : A) → tied a b ≡ true → Before a b xs → Before a b ys)
        → ((a : A) → Among a xs → Ok a)
        → (s : S) → Inv s → runs step xs s ≡ runs step ys s
    trace_half [] [] ox oy to from seq ok s i = refl
    trace_half [] (y ∷ ys) ox oy to from seq ok s i = absurd (from y (inl refl))
    trace_half (x ∷ xs) ys ox oy to from seq ok s i =
        trace_half xs (without x ys m) ox.1 (without_once x ys m oy) to' from' seq' (λ a h. ok a (inr h)) (step x s) (keep x s i)
        ∙ sym (pull x ys m apart s i)
      where
        m : Among x ys
        m = to x (inl refl)

        differ : (a : A) → Among a xs → a ≢ x
        differ a h e = ox.0 (among_cast xs (sym e) h)

        tail_of : (a : A) → a ≢ x → Among a (x ∷ xs) → Among a xs
        tail_of a d (inl e) = absurd (d e)
        tail_of a d (inr h) = h

        to' : (a : A) → Among a xs → Among a (without x ys m)
        to' a h = without_keeps x a ys m (differ a h) (to a (inr h))

        from' : (a : A) → Among a (without x ys m) → Among a xs
        from' a h = tail_of a (λ e. without_gone x ys m oy (among_cast (without x ys m) (sym e) h)) (from a (without_sub x a ys m h))

        seq' : (a b : A) → tied a b ≡ true → Before a b xs → Before a b (without x ys m)
        seq' a b d h = without_before x a b ys m (differ a (before_first a b xs h)) (differ b (before_second a b xs h)) (seq a b d (inr h))

        -- what stands before x in the second order stands behind it in the first, so it does not depend on x
        apart : (b : A) → Before b x ys → (t : S) → Inv t → step x (step b t) ≡ step b (step x t)
        apart b k t j = go (tied x b) refl
          where
            db : b ≢ x
            db = before_differ b x ys oy k

            hb : Among b xs
            hb = tail_of b db (from b (before_first b x ys k))

            go : (v : Bool) → tied x b ≡ v → step x (step b t) ≡ step b (step x t)
            go true e = absurd (before_asym b x ys oy k (seq x b e (inl (refl, hb))))
            go false e = commute x b (ok x (inl refl)) (ok b (inr hb)) (λ e'. db (sym e')) e t j

    -- THE TRACE LAW
    pub trace : (xs ys : List A) → SameOrder tied xs ys → ((a : A) → Among a xs → Ok a) → (s : S) → Inv s → runs step xs s ≡ runs step ys s
    trace xs ys h ok s i =
        trace_half xs ys h.once_left h.once_right (λ a. (h.members a).0) (λ a. (h.members a).1) (λ a b d. (h.sequence a b d).0) ok s i
