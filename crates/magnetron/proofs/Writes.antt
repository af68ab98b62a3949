-- Writes: what a write to one buffer leaves of another, and two writes to different buffers in either sequence. Folds of such steps.
-- Assumes nothing.
use mathlib.Core.Path.{◌≡◌, refl, sym, ap, ap₂, ◌∙◌}
use mathlib.Core.Logic.{◌≢◌, inl, inr}
use mathlib.Core.List.{List, [], ◌∷◌, map}
use Prim.Native.Nat.{◌≤◌}
use lib.Ieee.{Float}
use Rattle.order.specs.Order.{Among, runs}
use Rattle.magnetron.specs.Buffers.{Shape, Banks, Line, capacity_at, line_at, with_line_at, laid, Write, write, pairs}
use Rattle.magnetron.specs.declared.buffer.BufferIndex.{BufferIndex}
use Rattle.magnetron.proofs.Stores.{line_at_other, line_at_swap}

-- ---- folds that change places, and folds that are not seen

module _ {X M : Type 0} (f : X → M → M) where
  pub past : (g : M → M) (xs : List X) → ((x : X) → Among x xs → (m : M) → f x (g m) ≡ g (f x m)) → (m : M) → runs f xs (g m) ≡ g (runs f xs m)
  past g [] h m = refl
  past g (x ∷ xs) h m = ap (runs f xs) (h x (inl refl) m) ∙ past g xs (λ y k. h y (inr k)) (f x m)

  pub unseen : {Y : Type 0} (look : M → Y) (xs : List X) → ((x : X) → Among x xs → (m : M) → look (f x m) ≡ look m) → (m : M) → look (runs f xs m) ≡ look m
  unseen look [] h m = refl
  unseen look (x ∷ xs) h m = unseen look xs (λ y k. h y (inr k)) (f x m) ∙ h x (inl refl) m

pub folds_swap : {X M : Type 0} (f : X → M → M) (xs ys : List X)
    → ((x y : X) → Among x xs → Among y ys → (m : M) → f x (f y m) ≡ f y (f x m))
    → (m : M) → runs f xs (runs f ys m) ≡ runs f ys (runs f xs m)
folds_swap {X} {M} f xs ys h m = past f (runs f ys) xs (λ x k n. sym (past f (f x) ys (λ y l o. sym (h x y k l o)) n)) m

pub map_same : {X Y : Type 0} (f g : X → Y) (l : List X) → ((x : X) → Among x l → f x ≡ g x) → map f l ≡ map g l
map_same f g [] h = refl
map_same f g (x ∷ xs) h = ap₂ (λ y ys. y ∷ ys) (h x (inl refl)) (map_same f g xs (λ z k. h z (inr k)))

-- ---- writes

pub pairs-to : (w : Write) (bs : List BufferIndex) (vs : List (List Float)) → Among w (pairs bs vs) → Among w.to bs
pairs-to w [] vs m = m
pairs-to w (b ∷ bs) [] (inl e) = inl (ap (λ (u : Write). u.to) e)
pairs-to w (b ∷ bs) [] (inr m) = inr (pairs-to w bs [] m)
pairs-to w (b ∷ bs) (v ∷ vs) (inl e) = inl (ap (λ (u : Write). u.to) e)
pairs-to w (b ∷ bs) (v ∷ vs) (inr m) = inr (pairs-to w bs vs m)

module _ (h : Shape) (fits : (b : BufferIndex) → h.window ≤ capacity_at h b) where
  pub write_other : (b : BufferIndex) (u : Write) (p : Banks) → b ≢ u.to → line_at h b (write h u p) ≡ line_at h b p
  unfolding write
  write_other b u p d = line_at_other h fits b u.to (laid (line_at h u.to p) u.values) p d

  pub write_swap : (u v : Write) (p : Banks) → u.to ≢ v.to → write h u (write h v p) ≡ write h v (write h u p)
  unfolding write
  write_swap u v p d =
      ap (λ (l : Line). with_line_at h u.to (laid l u.values) (with_line_at h v.to y p)) (line_at_other h fits u.to v.to y p d)
      ∙ line_at_swap h fits u.to v.to x y p d
      ∙ ap (λ (l : Line). with_line_at h v.to (laid l v.values) (with_line_at h u.to x p)) (sym (line_at_other h fits v.to u.to x p (λ e. d (sym e))))
    where
      x : Line
      x = laid (line_at h u.to p) u.values

      y : Line
      y = laid (line_at h v.to p) v.values
