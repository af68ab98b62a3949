-- What follows from the trace law at other states: a fold that commutes everywhere (lengths, tests of each member, the
-- greatest activity), and the verdict of the checks along an order.
-- Assumes nothing.
use mathlib.Core.Path.{◌≡◌, refl, sym, ap, ◌∙◌}
use mathlib.Core.Logic.{◌≢◌}
use mathlib.Core.Bool.{Bool, true, false, ◌&&◌, and_assoc, and_comm}
use mathlib.Core.List.{List, [], ◌∷◌}
use mathlib.Core.Option.{Option, none, some}
use Rattle.order.specs.Order.{Among, SameOrder, runs}
use Rattle.order.specs.Checks.{first, passed, verdict}
use Rattle.order.proofs.Trace.{trace}

-- ---- a step that commutes with every step: the order plays no part

module _ {A S : Type 0} (step : A → S → S) (swap : (a b : A) (s : S) → step a (step b s) ≡ step b (step a s)) where
  pub shuffle : (tied : A → A → Bool) (xs ys : List A) → SameOrder tied xs ys → (s : S) → runs step xs s ≡ runs step ys s
  shuffle tied xs ys h s =
      trace step (λ (t : S). Unit {0}) (λ a t u. tt) tied (λ (a : A). Unit {0}) (λ a b oa ob d e t u. swap a b t) xs ys h (λ a m. tt) s tt

-- ---- the verdict

pub passed_first : {R : Type 0} (o p : Option R) → passed (first o p) ≡ (passed o && passed p)
passed_first none p = refl
passed_first (some r) p = refl

and_swap : (a b c : Bool) → ((a && b) && c) ≡ ((a && c) && b)
and_swap a b c = and_assoc a b c ∙ ap (λ (x : Bool). a && x) (and_comm b c) ∙ sym (and_assoc a c b)

-- the checks as a machine: whether all passed so far, and what they know
record Look (M : Type 0) : Type 0 where
  ok : Bool
  knows : M

module _ {A M R : Type 0} (fault : A → M → Option R) (turn : A → M → M) where
  look : A → Look M → Look M
  look a l = record { ok = l.ok && passed (fault a l.knows); knows = turn a l.knows }

  look_verdict : (xs : List A) (l : Look M) → (runs look xs l).ok ≡ (l.ok && passed (verdict fault turn xs l.knows))
  unfolding look
  look_verdict [] l = sym (and_comm l.ok true)
  look_verdict (x ∷ xs) l =
      look_verdict xs (look x l)
      ∙ and_assoc l.ok (passed (fault x l.knows)) (passed (verdict fault turn xs (turn x l.knows)))
      ∙ ap (λ (b : Bool). l.ok && b) (sym (passed_first (fault x l.knows) (verdict fault turn xs (turn x l.knows))))

  -- if independent members do not see each other's turns, both orders pass or neither does
  module _ (tied : A → A → Bool) (even : (a b : A) → tied a b ≡ tied b a) (Ok : A → Type 0)
      (blind : (a b : A) → Ok a → Ok b → a ≢ b → tied a b ≡ false → (m : M) → fault a (turn b m) ≡ fault a m)
      (swap : (a b : A) → Ok a → Ok b → a ≢ b → tied a b ≡ false → (m : M) → turn a (turn b m) ≡ turn b (turn a m)) where
    look_swap : (a b : A) → Ok a → Ok b → a ≢ b → tied a b ≡ false → (l : Look M) → look a (look b l) ≡ look b (look a l)
    unfolding look
    look_swap a b oa ob d e l = λ i. record { ok = oks i; knows = swap a b oa ob d e m i }
      where
        m : M
        m = l.knows

        left : ((l.ok && passed (fault b m)) && passed (fault a (turn b m))) ≡ ((l.ok && passed (fault b m)) && passed (fault a m))
        left = ap (λ (o : Option R). (l.ok && passed (fault b m)) && passed o) (blind a b oa ob d e m)

        right : ((l.ok && passed (fault a m)) && passed (fault b m)) ≡ ((l.ok && passed (fault a m)) && passed (fault b (turn a m)))
        right = ap (λ (o : Option R). (l.ok && passed (fault a m)) && passed o) (sym (blind b a ob oa (λ p. d (sym p)) (even b a ∙ e) m))

        oks : ((l.ok && passed (fault b m)) && passed (fault a (turn b m))) ≡ ((l.ok && passed (fault a m)) && passed (fault b (turn a m)))
        oks = left ∙ and_swap l.ok (passed (fault b m)) (passed (fault a m)) ∙ right

    pub same_verdict : (xs ys : List A) → SameOrder tied xs ys → ((a : A) → Among a xs → Ok a) → (m : M)
        → passed (verdict fault turn xs m) ≡ passed (verdict fault turn ys m)
    same_verdict xs ys h ok m =
        sym (look_verdict xs start) ∙ ap (λ (l : Look M). l.ok) ends ∙ look_verdict ys start
      where
        start : Look M
        start = record { ok = true; knows = m }

        ends : runs look xs start ≡ runs look ys start
        ends =
            trace look (λ (l : Look M). Unit {0}) (λ a l u. tt) tied Ok (λ a b oa ob d e l u. look_swap a b oa ob d e l) xs ys h ok start tt
