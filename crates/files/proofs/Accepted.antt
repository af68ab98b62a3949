-- Of every file: one that is accepted was read to its last byte; a refusal has one of six numbers, and its offset lies in the file or at its end;
-- and what is refused for what is left over is accepted when it is cut there. Assumes nothing.
use mathlib.Core.Path.{◌≡◌, refl, sym, ap, ◌∙◌}
use mathlib.Core.Bool.{Bool, true, false, cond}
use mathlib.Core.List.{List}
use Prim.Native.Nat.{ℕ, ◌≤◌, zero-le}
use native.Mathlib.Nat.{le_refl, le_antisymm}
use native.Mathlib.Omega.{arith}
use lib.Dec.{leb, eqb}
use lib.ListN.{length, take}
use lib.Seq.{length-take-le}
use borrow.Author.Tests.{leb-true, le-leb}
use Rattle.flat.specs.declared.stage.FlatStage.{FlatStage}
use Rattle.flat.specs.declared.patch.FlatPatch.{FlatPatch}
use Rattle.files.specs.Reader.{Part, said, refused, Reader, followed, ◌>>=◌, judged}
use Rattle.files.specs.File.{number, stages, end, patch_from, file, answered, read_of, ReadPatch}
use Rattle.files.proofs.Following.{passed}
use Rattle.files.proofs.Steady.{Sound, Steady, fault, steady_then, steady_judged, steady_number, steady_stages}

-- all but the end
headed : Reader (List FlatStage)
headed = do
  version ← judged 21 (λ value. eqb value 1) number
  count ← judged 25 (λ value. leb value 32) number
  stages count

steady_headed : Steady 0 headed
unfolding headed
steady_headed =
    steady_then 0 _ _ (steady_judged 0 21 _ number (fault 21 (omega arith) (omega arith) (λ e. absurd (omega (arith, e)))) steady_number) λ version.
    steady_then 0 _ _ (steady_judged 0 25 _ number (fault 25 (omega arith) (omega arith) (λ e. absurd (omega (arith, e)))) steady_number) λ count.
    steady_stages count

-- the end
abbrev ends : ℕ → List FlatStage → ℕ → Part FlatPatch
ends size ts at = cond (leb size at) (said (patch_from ts) at) (refused 24 at)

ends_by : (ts : List FlatStage) (at : ℕ) (all : Bool)
    → cond all (said (patch_from ts) at) (refused 24 at) ≡ followed {A = Unit} (cond all (said _ at) (refused 24 at)) (λ _ after. said (patch_from ts) after)
unfolding followed
ends_by ts at true = refl
ends_by ts at false = refl

same_next : {A B : Type 0} (part : Part A) (one other : A → ℕ → Part B) → ((a : A) (at : ℕ) → one a at ≡ other a at) → followed part one ≡ followed part other
unfolding followed
same_next (said a at) one other e = e a at
same_next (refused number offset) one other e = refl

file_ends : (bytes : List ℕ) → followed (headed bytes 0) (ends (length bytes)) ≡ file bytes 0
unfolding headed file end ◌>>=◌
file_ends bytes =
    passed (judged 21 (λ value. eqb value 1) number bytes 0) _ _ _ λ version at.
    passed (judged 25 (λ value. leb value 32) number bytes at) _ _ _ λ count after.
    same_next (stages count bytes after) _ _ λ ts last. ends_by ts last (leb (length bytes) last)

-- ---- by what was read before the end

module _ (size : ℕ) where
  abbrev told_at_end : Part (List FlatStage) → ReadPatch
  told_at_end part = answered (followed part (ends size))

  offset_by : (m : ℕ) (part cut : Part (List FlatStage)) → Sound 0 size m part cut → (told_at_end part).offset ≤ size
  unfolding Sound followed answered
  offset_by m (said ts at) cut (from, to, same) = by (leb size at)
    where
      by : (all : Bool) → (answered (cond all (said (patch_from ts) at) (refused 24 at))).offset ≤ size
      by true = omega arith
      by false = to
  offset_by m (refused n offset) cut (f, to) = to

  number_by : (m : ℕ) (part cut : Part (List FlatStage)) → Sound 0 size m part cut → ((told_at_end part).number ≡ 0 → ⊥)
      → (20 ≤ (told_at_end part).number) × ((told_at_end part).number ≤ 25)
  unfolding Sound followed answered
  number_by m (said ts at) cut (from, to, same) = by (leb size at)
    where
      by : (all : Bool) → ((answered (cond all (said (patch_from ts) at) (refused 24 at))).number ≡ 0 → ⊥)
          → (20 ≤ (answered (cond all (said (patch_from ts) at) (refused 24 at))).number)
          × ((answered (cond all (said (patch_from ts) at) (refused 24 at))).number ≤ 25)
      by true some = absurd (some refl)
      by false some = (omega arith, omega arith)
  number_by m (refused n offset) cut (f, to) = λ some. (f.least, f.most)

  whole_by : (m : ℕ) (part cut : Part (List FlatStage)) → Sound 0 size m part cut → (told_at_end part).number ≡ 0
      → followed part (ends size) ≡ said (told_at_end part).patch size
  unfolding Sound followed answered
  whole_by m (said ts at) cut (from, to, same) = by (leb size at) refl
    where
      by : (all : Bool) → leb size at ≡ all → (answered (cond all (said (patch_from ts) at) (refused 24 at))).number ≡ 0
          → cond all (said (patch_from ts) at) (refused 24 at) ≡ said (answered (cond all (said (patch_from ts) at) (refused 24 at))).patch size
      by true e h = ap (said (patch_from ts)) (le_antisymm to (leb-true _ _ e))
      by false e h = absurd (omega (arith, h))
  whole_by m (refused n offset) cut (f, to) = λ h. absurd (omega (arith, f.least, h))

-- ---- the theorems

module _ (bytes : List ℕ) where
  sound : (m : ℕ) → m ≤ length bytes → Sound 0 (length bytes) m (headed bytes 0) (headed (take m bytes) 0)
  sound m h = steady_headed bytes 0 m (le_refl 0) zero-le h

  -- the offset of a refusal lies in the file or at its end; of a patch it is 0
  pub offset_inside : (read_of bytes).offset ≤ length bytes
  offset_inside = rw⁻¹ (file_ends bytes) (offset_by (length bytes) (length bytes) _ _ (sound (length bytes) (le_refl _)))

  -- its number is one of 20 to 25
  pub refusal_number : ((read_of bytes).number ≡ 0 → ⊥) → (20 ≤ (read_of bytes).number) × ((read_of bytes).number ≤ 25)
  refusal_number = rw⁻¹ (file_ends bytes) (number_by (length bytes) (length bytes) _ _ (sound (length bytes) (le_refl _)))

  -- a file that is accepted was read to its last byte
  pub accepted-whole : (read_of bytes).number ≡ 0 → file bytes 0 ≡ said (read_of bytes).patch (length bytes)
  accepted-whole = rw⁻¹ (file_ends bytes) (whole_by (length bytes) (length bytes) _ _ (sound (length bytes) (le_refl _)))

  -- cut where the stages end
  cut_here : (ts : List FlatStage) (at : ℕ) → at ≤ length bytes → headed (take at bytes) 0 ≡ said ts at → (read_of (take at bytes)).number ≡ 0
  unfolding followed answered
  cut_here ts at h e =
      let all : leb (length (take at bytes)) at ≡ true = ap (λ (n : ℕ). leb n at) (length-take-le at bytes h) ∙ le-leb at at (le_refl at) in
      ap (λ (p : Part FlatPatch). (answered p).number)
      (sym (file_ends (take at bytes))
      ∙ ap (λ (p : Part (List FlatStage)). followed p (ends (length (take at bytes)))) e
      ∙ ap (λ (b : Bool). cond b (said (patch_from ts) at) (refused 24 at)) all)

  cut_by : (part : Part (List FlatStage)) → ((m : ℕ) → m ≤ length bytes → Sound 0 (length bytes) m part (headed (take m bytes) 0))
      → (told_at_end (length bytes) part).number ≡ 24 → (read_of (take (told_at_end (length bytes) part).offset bytes)).number ≡ 0
  unfolding Sound followed answered
  cut_by (said ts at) s =
      let to : at ≤ length bytes = (s (length bytes) (le_refl _)).1 in
      by (leb (length bytes) at) (cut_here ts at to ((s at to).2 (le_refl at)))
    where
      by : (all : Bool) → (read_of (take at bytes)).number ≡ 0 → (answered (cond all (said (patch_from ts) at) (refused 24 at))).number ≡ 24
          → (read_of (take (answered (cond all (said (patch_from ts) at) (refused 24 at))).offset bytes)).number ≡ 0
      by true cut h = absurd (omega (arith, h))
      by false cut h = cut
  cut_by (refused n offset) s = λ h. absurd ((s (length bytes) (le_refl _)).0.inside h)

  -- what is refused for what is left over is accepted when cut there
  pub cut_accepted : (read_of bytes).number ≡ 24 → (read_of (take (read_of bytes).offset bytes)).number ≡ 0
  cut_accepted = rw⁻¹ (file_ends bytes) (cut_by (headed bytes 0) sound)
