-- Buffers and stale marks as stores by `BufferIndex`, each with the same two laws: what is put at one place is not seen at another
-- (`_other`), and two puts at different places change places (`_swap`). Then what the tests of names deny: `differ`, `meets_none`.
-- Assumes nothing.
use mathlib.Core.Path.{◌≡◌, refl, sym, ap, ◌∙◌}
use mathlib.Core.Logic.{◌≢◌, inl, inr}
use mathlib.Core.Bool.{Bool, true, false, true≢false}
use mathlib.Core.List.{List, [], ◌∷◌}
use Prim.Native.Nat.{ℕ, ◌≤◌}
use lib.Seq.{get_or-set_other, set_comm}
use borrow.Author.Tests.{eq-eqb}
use Rattle.order.specs.Order.{Among}
use Rattle.answers.proofs.Tests.{or_false_left, or_false_right}
use Rattle.magnetron.specs.Buffers.{same_buffer, hits, meets, Shape, Bank, Banks, Line, capacity_at, line_of, with_line, line_at, with_line_at, stale_at, cleared}
use Rattle.magnetron.specs.declared.buffer.Marks.{Marks}
use Rattle.magnetron.specs.declared.buffer.BufferIndex.{BufferIndex}
use Rattle.magnetron.specs.declared.buffer.BufferIndex.TheVariants.{Internal, External}
use Rattle.magnetron.proofs.Parts.{read_apart, store_apart, buffers_apart}

-- ---- one pool

module _ (capacity n : ℕ) (fits : n ≤ capacity) where
  line_other : (i j : ℕ) (l : Line) (p : Bank) → i ≢ j → line_of capacity n i (with_line capacity n j l p) ≡ line_of capacity n i p
  unfolding line_of with_line
  line_other i j l p d = λ t. record {
    stale = get_or-set_other p.stale j i l.stale false d t;
    samples = read_apart p.samples l.samples n _ n _ (buffers_apart i j n capacity fits d) t;
  }

  line_swap : (i j : ℕ) (u v : Line) (p : Bank) → i ≢ j → with_line capacity n i u (with_line capacity n j v p) ≡ with_line capacity n j v (with_line capacity n i u p)
  unfolding with_line
  line_swap i j u v p d = λ t. record {
    samples = store_apart p.samples u.samples v.samples n _ n _ (buffers_apart i j n capacity fits d) t;
    stale = set_comm p.stale j i v.stale u.stale (λ e. d (sym e)) t;
  }

-- ---- both pools

module _ (h : Shape) (fits : (b : BufferIndex) → h.window ≤ capacity_at h b) where
  pub line_at_other : (b c : BufferIndex) (l : Line) (p : Banks) → b ≢ c → line_at h b (with_line_at h c l p) ≡ line_at h b p
  unfolding line_at with_line_at
  line_at_other (Internal i) (Internal j) l p d = line_other h.internal h.window (fits (Internal i)) i j l p.internal (λ e. d (ap Internal e))
  line_at_other (Internal i) (External j) l p d = refl
  line_at_other (External i) (Internal j) l p d = refl
  line_at_other (External i) (External j) l p d = line_other h.external h.window (fits (External i)) i j l p.external (λ e. d (ap External e))

  pub line_at_swap : (b c : BufferIndex) (u v : Line) (p : Banks) → b ≢ c → with_line_at h b u (with_line_at h c v p) ≡ with_line_at h c v (with_line_at h b u p)
  unfolding with_line_at
  line_at_swap (Internal i) (Internal j) u v p d =
      ap (λ (q : Bank). record { internal = q; external = p.external }) (line_swap h.internal h.window (fits (Internal i)) i j u v p.internal (λ e. d (ap Internal e)))
  line_at_swap (Internal i) (External j) u v p d = refl
  line_at_swap (External i) (Internal j) u v p d = refl
  line_at_swap (External i) (External j) u v p d =
      ap (λ (q : Bank). record { internal = p.internal; external = q }) (line_swap h.external h.window (fits (External i)) i j u v p.external (λ e. d (ap External e)))

-- ---- marks

pub mark_other : (b c : BufferIndex) (m : Marks) → b ≢ c → stale_at b (cleared c m) ≡ stale_at b m
unfolding stale_at cleared
mark_other (Internal i) (Internal j) m d = get_or-set_other m.internal j i false false (λ e. d (ap Internal e))
mark_other (Internal i) (External j) m d = refl
mark_other (External i) (Internal j) m d = refl
mark_other (External i) (External j) m d = get_or-set_other m.external j i false false (λ e. d (ap External e))

pub mark_swap : (b c : BufferIndex) (m : Marks) → b ≢ c → cleared b (cleared c m) ≡ cleared c (cleared b m)
unfolding cleared
mark_swap (Internal i) (Internal j) m d = ap (λ (l : List Bool). record { internal = l; external = m.external }) (set_comm m.internal j i false false (λ e. d (ap Internal (sym e))))
mark_swap (Internal i) (External j) m d = refl
mark_swap (External i) (Internal j) m d = refl
mark_swap (External i) (External j) m d = ap (λ (l : List Bool). record { internal = m.internal; external = l }) (set_comm m.external j i false false (λ e. d (ap External (sym e))))

-- ---- the tests: what `meets` denies

pub same_buffer_refl : (b : BufferIndex) → same_buffer b b ≡ true
same_buffer_refl (Internal k) = eq-eqb k k refl
same_buffer_refl (External k) = eq-eqb k k refl

pub differ : (b c : BufferIndex) → same_buffer b c ≡ false → b ≢ c
differ b c h e = true≢false (sym (same_buffer_refl b) ∙ ap (same_buffer b) e ∙ h)

pub hits_none : (b : BufferIndex) (cs : List BufferIndex) → hits b cs ≡ false → (c : BufferIndex) → Among c cs → b ≢ c
hits_none b [] h c m = absurd m
hits_none b (x ∷ cs) h c (inl e) = λ p. differ b x (or_false_left (same_buffer b x) (hits b cs) h) (p ∙ e)
hits_none b (x ∷ cs) h c (inr m) = hits_none b cs (or_false_right (same_buffer b x) (hits b cs) h) c m

pub meets_none : (bs cs : List BufferIndex) → meets bs cs ≡ false → (b c : BufferIndex) → Among b bs → Among c cs → b ≢ c
meets_none [] cs h b c m k = absurd m
meets_none (x ∷ bs) cs h b c (inl e) k = λ p. hits_none x cs (or_false_left (hits x cs) (meets bs cs) h) c k (sym e ∙ p)
meets_none (x ∷ bs) cs h b c (inr m) k = meets_none bs cs (or_false_right (hits x cs) (meets bs cs) h) b c m k
