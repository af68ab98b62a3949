-- The loop that reads a file's stages, a stage each time round: its invariant and its steps. Assumes nothing.
use mathlib.Core.Path.{◌≡◌, refl, sym, ap, ap₂, ◌∙◌}
use mathlib.Core.List.{List, [], ◌∷◌, ◌++◌, append-nil, append_assoc}
use Prim.Native.Nat.{ℕ, suc, ◌+◌, ◌-◌, ◌<◌, ◌≤◌}
use native.Mathlib.Nat.{le_antisymm}
use native.Mathlib.Numerals.{add-one}
use native.Mathlib.Omega.{arith}
use lib.ListN.{length, take, drop, set, replicate, length-set, take-append-drop}
use lib.Seq.{length-take-le, take-suc-set, drop-set-lt, drop-drop}
use Rattle.flat.specs.Patch.{no_flat}
use Rattle.flat.specs.declared.stage.FlatStage.{FlatStage}
use Rattle.flat.specs.declared.patch.FlatPatch.{FlatPatch}
use Rattle.files.specs.Reader.{Part, said, refused, Reader, saying, followed, ◌>>=◌}
use Rattle.files.specs.File.{stage, stages, patch_from}
use Rattle.files.specs.Inside.{patch_of_stages}
use Rattle.files.proofs.Following.{passed}

-- ---- parts in a row

-- the stages that were read, and those that are still to come
abbrev rest : List FlatStage → ℕ → Reader (List FlatStage)
rest read n = stages n >>= λ ts. saying (read ++ ts)

said_again : (part : Part (List FlatStage)) → part ≡ followed part (λ ts at. said ts at)
unfolding followed
said_again (said ts at) = refl
said_again (refused number offset) = refl

module _ (bytes : List ℕ) where
  -- before the first stage
  rest_all : (at n : ℕ) → stages n bytes at ≡ rest [] n bytes at
  unfolding ◌>>=◌
  rest_all at n = said_again (stages n bytes at)

  -- a stage more
  rest_more : (at after : ℕ) (read : List FlatStage) (n : ℕ) (t : FlatStage) → said t after ≡ stage bytes at
      → rest read (suc n) bytes at ≡ rest (read ++ (t ∷ [])) n bytes after
  unfolding stages followed ◌>>=◌
  rest_more at after read n t e =
      rw (← e) (passed (stages n bytes after) _ _ _ (λ ts at. ap (λ (l : List FlatStage). said l at) (sym (append_assoc read (t ∷ []) ts))))

  -- a stage that is refused
  rest_stop : (at number offset : ℕ) (read : List FlatStage) (n : ℕ) → refused number offset ≡ stage bytes at
      → rest read (suc n) bytes at ≡ refused number offset
  unfolding stages followed ◌>>=◌
  rest_stop at number offset read n e = rw (← e) refl

  -- no stage more
  rest_none : (at : ℕ) (read : List FlatStage) → rest read 0 bytes at ≡ said read at
  unfolding stages followed ◌>>=◌
  rest_none at read = ap (λ (l : List FlatStage). said l at) (append-nil read)

-- ---- the loop

-- after k of the stages
pub record Staging (bytes : List ℕ) (count start : ℕ) (patch : FlatPatch) (at k : ℕ) : Type 0 where
  pub upto : k ≤ count
  pub few : count ≤ 32
  pub counted : patch.count ≡ count
  pub long : length patch.stages ≡ 32
  pub blank : drop k patch.stages ≡ replicate (32 - k) no_flat
  pub read : stages count bytes start ≡ rest (take k patch.stages) (count - k) bytes at

module _ (bytes : List ℕ) (count start : ℕ) where
  pub staging_start : (patch : FlatPatch) → count ≤ 32 → patch.count ≡ count → patch.stages ≡ replicate 32 no_flat → Staging bytes count start patch start 0
  staging_start patch few e f =
      record { upto = omega arith; few = few; counted = e; long = ap length f; blank = f; read = rest_all bytes start count ∙ ap (λ (n : ℕ). rest [] n bytes start) (omega arith) }

  -- what follows the stages
  as_patch : (part : Part (List FlatStage)) → stages count bytes start ≡ part → patch_of_stages count bytes start ≡ followed part (λ ts at. said (patch_from ts) at)
  unfolding patch_of_stages ◌>>=◌
  as_patch part e = ap (λ (p : Part (List FlatStage)). followed p (λ ts at. said (patch_from ts) at)) e

  module _ (patch : FlatPatch) (at k : ℕ) (w : Staging bytes count start patch at k) where
    -- a stage less is blank
    blank_left : k < count → drop (k + 1) patch.stages ≡ replicate (32 - (k + 1)) no_flat
    blank_left h =
        let left : 32 - k ≡ suc (32 - (k + 1)) = omega (arith, h, w.few) in
        sym (drop-drop 1 k patch.stages) ∙ ap (drop 1) (w.blank ∙ ap (λ (n : ℕ). replicate n no_flat) left)

    one_left : k < count → stages count bytes start ≡ rest (take k patch.stages) (suc (count - (k + 1))) bytes at
    one_left h =
        let left : count - k ≡ suc (count - (k + 1)) = omega arith in
        w.read ∙ ap (λ (n : ℕ). rest (take k patch.stages) n bytes at) left

    pub staging_more : (t : FlatStage) (after : ℕ) → k < count → said t after ≡ stage bytes at
        → Staging bytes count start (record { count = patch.count; stages = set patch.stages k t }) after (k + 1)
    staging_more t after h e =
        let some : k < length patch.stages = omega (arith, h, w.few, w.long) in
        record {
          upto = omega (arith, h);
          few = w.few;
          counted = w.counted;
          long = length-set patch.stages k t ∙ w.long;
          blank = drop-set-lt (k + 1) patch.stages k t (omega arith) ∙ blank_left h;
          read =
              one_left h
              ∙ rest_more bytes at after (take k patch.stages) (count - (k + 1)) t e
              ∙ ap (λ (l : List FlatStage). rest l (count - (k + 1)) bytes after)
              (sym (ap (λ (n : ℕ). take n (set patch.stages k t)) (add-one k) ∙ take-suc-set patch.stages k t some));
        }

    -- a stage that is refused
    pub staging_stop : (number offset : ℕ) → k < count → refused number offset ≡ stage bytes at → refused number offset ≡ patch_of_stages count bytes start
    unfolding followed
    staging_stop number offset h e = sym (as_patch _ (one_left h ∙ rest_stop bytes at number offset (take k patch.stages) (count - (k + 1)) e))

    -- no stage is left
    pub staging_end : count ≤ k → said patch at ≡ patch_of_stages count bytes start
    unfolding followed
    staging_end h =
        let all : k ≡ count = le_antisymm w.upto h in
        let none : count - k ≡ 0 = omega (arith, h) in
        let size : length (take count patch.stages) ≡ count = length-take-le count patch.stages (omega (arith, w.few, w.long)) in
        let whole : patch ≡ patch_from (take count patch.stages) =
        ap₂ (λ (n : ℕ) (l : List FlatStage). record { count = n; stages = l })
        (w.counted ∙ sym size)
        (sym (take-append-drop count patch.stages)
        ∙ ap (λ (l : List FlatStage). take count patch.stages ++ l)
        (ap (λ (n : ℕ). drop n patch.stages) (sym all) ∙ w.blank ∙ ap (λ (n : ℕ). replicate (32 - n) no_flat) (all ∙ sym size))) in
        ap (λ (p : FlatPatch). said p at) whole
        ∙ sym (as_patch _ (w.read ∙ ap₂ (λ (i n : ℕ). rest (take i patch.stages) n bytes at) all none ∙ rest_none bytes at (take count patch.stages)))
