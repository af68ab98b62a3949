-- The loop that names a patch's stages, a stage each time round: its invariant and its steps. Assumes nothing.
use mathlib.Core.Path.{◌≡◌, refl, sym, ap, ap₂, ◌∙◌}
use mathlib.Core.Bool.{Bool, true, false, cond}
use mathlib.Core.List.{List}
use Prim.Native.Nat.{ℕ, suc, ◌+◌, ◌-◌, ◌<◌, ◌≤◌}
use native.Mathlib.Nat.{le_antisymm}
use native.Mathlib.Numerals.{add-one}
use native.Mathlib.Omega.{arith}
use lib.Dec.{eqb}
use lib.ListN.{set, replicate}
use borrow.Author.Tests.{eq-eqb, ne_eqb}
use Rattle.magnetron.specs.Signals.{window}
use Rattle.magnetron.proofs.Windows.{window_none, window-next}
use Rattle.stages.specs.declared.stage.Stage.{Stage}
use Rattle.stages.specs.declared.patch.Patch.{Patch}
use Rattle.std.specs.Prelude.{Option, None, Some, Ok, Err}
use Rattle.flat.specs.declared.patch.FlatPatch.{FlatPatch}
use Rattle.flat.specs.declared.patch.Unknown.{Unknown}
use Rattle.flat.specs.Patch.{blank_stage, stage_or, known, name_at, looked_at, unknown_from, unknown_of, named_count, patch_of, named_patch_of}

abbrev pub none : List Stage
none = replicate 32 blank_stage

abbrev pub stage_at : FlatPatch → ℕ → Stage
stage_at f k = stage_or (name_at f k)

-- after k of the stages that are looked at
pub record Naming (f : FlatPatch) (looked : ℕ) (p : Patch) (k : ℕ) : Type 0 where
  pub upto : k ≤ looked
  pub few : looked ≤ 32
  pub count : p.count ≡ f.count
  pub named : p.stages ≡ window none 0 k (stage_at f)
  pub rest : unknown_from f (looked - k) k ≡ unknown_from f looked 0

same_patch : {p q : Patch} → p.count ≡ q.count → p.stages ≡ q.stages → p ≡ q
same_patch e h = ap₂ (λ (count : ℕ) (stages : List Stage). record { count = count; stages = stages }) e h

abbrev unknown : Patch → ℕ → Unknown
unknown p k = record { stage = k; before = p }

module _ (f : FlatPatch) (looked : ℕ) where
  pub naming_start : (p : Patch) → looked ≤ 32 → p.count ≡ f.count → p.stages ≡ none → Naming f looked p 0
  naming_start p few e q = record { upto = omega arith; few = few; count = e; named = q ∙ window_none none 0 (stage_at f); rest = ap (λ (n : ℕ). unknown_from f n 0) (omega arith) }

  -- where some are left, the first of them
  left : (k : ℕ) → k < looked → unknown_from f (looked - k) k ≡ cond (known (name_at f k)) (unknown_from f (looked - (k + 1)) (k + 1)) k
  unfolding unknown_from
  left k h =
      let more : looked - k ≡ suc (looked - (k + 1)) = omega arith in
      rw (more, add-one) refl

  pub naming_more : (p : Patch) (k : ℕ) (name : Option Stage) (t : Stage) → k < looked → Naming f looked p k → name ≡ name_at f k → name ≡ Some t
      → Naming f looked (record { count = p.count; stages = set p.stages k t }) (k + 1)
  unfolding known stage_or
  naming_more p k name t h w e q =
      let here : name_at f k ≡ Some t = sym e ∙ q in
      record {
        upto = omega arith;
        few = w.few;
        count = w.count;
        named = ap (λ (i : ℕ). set p.stages i t) (omega arith) ∙ window-next none 0 (stage_at f) k p.stages t (omega arith) w.named (ap stage_or (sym here));
        rest = sym (left k h ∙ ap (λ (n : Option Stage). cond (known n) (unknown_from f (looked - (k + 1)) (k + 1)) k) here) ∙ w.rest;
      }

  -- a stage that is not known
  naming_stop : (p : Patch) (k : ℕ) (name : Option Stage) → k < looked → Naming f looked p k → name ≡ name_at f k → name ≡ None → k ≡ unknown_from f looked 0
  unfolding known
  naming_stop p k name h w e q =
      sym (left k h ∙ ap (λ (n : Option Stage). cond (known n) (unknown_from f (looked - (k + 1)) (k + 1)) k) (sym e ∙ q)) ∙ w.rest

  -- no stage is left
  naming_end : (p : Patch) (k : ℕ) → looked ≤ k → Naming f looked p k → 32 ≡ unknown_from f looked 0
  unfolding unknown_from
  naming_end p k h w =
      let all : looked - k ≡ 0 = omega arith in
      ap (λ (n : ℕ). unknown_from f n k) (sym all) ∙ w.rest

  module _ (all : looked ≡ looked_at f.count) where
    -- the patch of the first k, where all that are named are these
    upto_named : (p : Patch) (k : ℕ) → Naming f looked p k → k ≡ named_count f → p ≡ patch_of f
    unfolding patch_of
    upto_named p k w e = same_patch w.count (w.named ∙ ap (λ (n : ℕ). window none 0 n (stage_at f)) e)

    -- what is answered at a stage that is not known
    pub read_stopped : (p : Patch) (k : ℕ) (name : Option Stage) → k < looked → Naming f looked p k → name ≡ name_at f k → name ≡ None
        → Err (unknown p k) ≡ named_patch_of f
    unfolding unknown_of
    read_stopped p k name h w e q =
        let here : k ≡ unknown_from f looked 0 = naming_stop p k name h w e q in
        let first : k ≡ unknown_of f = here ∙ ap (λ (n : ℕ). unknown_from f n 0) all in
        let some : eqb (unknown_of f) 32 ≡ false = ne_eqb (unknown_of f) 32 (λ (g : unknown_of f ≡ 32). absurd (omega (arith, h, first, g, w.few))) in
        let last : k ≡ named_count f = first ∙ sym (ap (λ (b : Bool). cond b (looked_at f.count) (unknown_of f)) some) in
        rw (some, upto_named p k w last, first)

    -- what is answered after the last one
    pub read_all : (p : Patch) (k : ℕ) → looked ≤ k → Naming f looked p k → Ok p ≡ named_patch_of f
    unfolding unknown_of
    read_all p k h w =
        let end : 32 ≡ unknown_of f = naming_end p k h w ∙ ap (λ (n : ℕ). unknown_from f n 0) all in
        let none_unknown : eqb (unknown_of f) 32 ≡ true = eq-eqb (unknown_of f) 32 (sym end) in
        let last : k ≡ named_count f = le_antisymm w.upto h ∙ all ∙ sym (ap (λ (b : Bool). cond b (looked_at f.count) (unknown_of f)) none_unknown) in
        rw (none_unknown, upto_named p k w last)
