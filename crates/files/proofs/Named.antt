-- A patch that was read has at most 32 stages, and the numbers of each name a stage: whatever else is wrong with it is for the run to judge.
-- Assumes nothing.
use mathlib.Core.Path.{◌≡◌, refl, ap, ◌∙◌}
use mathlib.Core.Bool.{Bool, true, false, cond}
use mathlib.Core.List.{List, [], ◌∷◌}
use Prim.Native.Nat.{ℕ, zero, suc, ◌+◌, ◌-◌, ◌<◌, ◌≤◌}
use native.Mathlib.Omega.{arith}
use lib.Dec.{ltb, leb, eqb}
use lib.ListN.{length, get_or, replicate, get_or-append}
use borrow.Author.Tests.{ltb-true, ltb-false, eqb-true, eqb-false, leb-true, le-leb}
use Rattle.flat.specs.Form.{kind_count, form_of}
use Rattle.flat.specs.Stage.{chosen_of, marked_of, named_by, named_of}
use Rattle.flat.specs.Patch.{no_parameter, no_flat, known, name_at, unknown_from, unknown_of}
use Rattle.flat.specs.declared.form.Form.{Form}
use Rattle.flat.specs.declared.stage.FlatStage.{FlatStage}
use Rattle.flat.specs.declared.patch.FlatPatch.{FlatPatch}
use Rattle.files.specs.Reader.{Part, said, refused, Reader, saying, followed, ◌>>=◌, judged, if_there}
use Rattle.files.specs.File.{number, one_of, choice, parameter, choices, parameters, stage_from, parts, stage, stages, patch_from, file, answered, read_of}
use Rattle.files.specs.declared.stage.Choices.{Choices}
use Rattle.files.specs.declared.stage.Wires.{Wires}
use Rattle.files.specs.declared.stage.Parameters.{Parameters}

-- ---- what a part says, where it says anything

unfoldable Says : {A : Type 0} → (A → Type 0) → Part A → Type 0
Says P (said a at) = P a
Says P (refused n offset) = Unit

abbrev Saying : {A : Type 0} → (A → Type 0) → Reader A → Type 0
Saying P part = (bytes : List ℕ) (at : ℕ) → Says P (part bytes at)

says_followed : {A B : Type 0} (P : A → Type 0) (Q : B → Type 0) (part : Part A) (next : A → ℕ → Part B) → Says P part
    → ((a : A) (at : ℕ) → P a → Says Q (next a at)) → Says Q (followed part next)
unfolding Says followed
says_followed P Q (said a at) next p h = h a at p
says_followed P Q (refused n offset) next p h = p

says_then : {A B : Type 0} (P : A → Type 0) (Q : B → Type 0) (part : Reader A) (next : A → Reader B) → Saying P part → ((a : A) → P a → Saying Q (next a))
    → Saying Q (part >>= next)
unfolding ◌>>=◌
says_then P Q part next s t bytes at = says_followed P Q (part bytes at) _ (s bytes at) (λ a after p. t a p bytes after)

says_saying : {A : Type 0} (P : A → Type 0) (a : A) → P a → Saying P (saying a)
unfolding Says
says_saying P a p bytes at = p

-- of any part nothing need be known
abbrev Any : {A : Type 0} → A → Type 0
Any a = Unit

any_said : {A : Type 0} (part : Part A) → Says Any part
unfolding Says
any_said (said a at) = _
any_said (refused n offset) = _

says_any : {A : Type 0} (part : Reader A) → Saying Any part
says_any part bytes at = any_said (part bytes at)

-- what is judged is good
good_said : {A : Type 0} (good : A → Bool) (a : A) (n at after : ℕ) → Says (λ b. good b ≡ true) (cond (good a) (said a after) (refused n at))
unfolding Says
good_said good a n at after = by (good a) refl
  where
    by : (b : Bool) → good a ≡ b → Says (λ b. good b ≡ true) (cond b (said a after) (refused n at))
    by true e = e
    by false e = _

says_judged : {A : Type 0} (n : ℕ) (good : A → Bool) (part : Reader A) → Saying (λ a. good a ≡ true) (judged n good part)
unfolding judged
says_judged n good part bytes at = says_followed Any _ (part bytes at) _ (any_said (part bytes at)) (λ a after _. good_said good a n at after)

-- ---- choices and marks

says_choice : (limit : ℕ) → Saying (λ value. chosen_of limit value ≡ true) (choice limit)
unfolding choice Says
says_choice limit bytes at = by (ltb 0 limit) (eqb limit 0) refl refl
  where
    by : (there none : Bool) → ltb 0 limit ≡ there → eqb limit 0 ≡ none
        → Says (λ value. cond none true (ltb value limit) ≡ true) (if_there there 0 (one_of limit) bytes at)
    by true true e f = absurd (omega (arith, ltb-true 0 limit e, eqb-true limit 0 f))
    by true false e f = says_judged 22 (λ value. ltb value limit) number bytes at
    by false true e f = refl
    by false false e f = absurd (eqb-false limit 0 f (omega (arith, ltb-false 0 limit e)))

says_parameter : Saying (λ p. ltb p.mark 4 ≡ true) parameter
unfolding parameter
says_parameter =
    says_then (λ mark. ltb mark 4 ≡ true) _ (one_of 4) _ (says_judged 22 _ number) λ mark is.
    says_then Any _ _ _ (says_any _) λ bits _.
    says_then Any _ _ _ (says_any _) λ slot _.
    says_saying _ _ is

says_parameter_if : (there : Bool) → Saying (λ p. marked_of there p ≡ true) (if_there there no_parameter parameter)
unfolding Says
says_parameter_if true = says_parameter
says_parameter_if false = λ bytes at. refl

-- ---- a stage

module _ (form : Form) where
  abbrev ChoicesKnown : Choices → Type 0
  ChoicesKnown c = (chosen_of form.choices c.choice ≡ true) × (chosen_of form.modulations c.modulation ≡ true)

  says_choices : Saying ChoicesKnown (choices form)
  unfolding choices
  says_choices =
      says_then _ _ _ _ (says_choice form.choices) λ chosen one.
      says_then _ _ _ _ (says_choice form.modulations) λ modulation two.
      says_then Any _ _ _ (says_any _) λ size _.
      says_saying ChoicesKnown _ (one, two)

  abbrev MarksKnown : Parameters → Type 0
  MarksKnown p =
      (ltb p.out_level.mark 4 ≡ true)
      × (marked_of (ltb 0 form.parameters) p.first ≡ true)
      × (marked_of (ltb 1 form.parameters) p.second ≡ true)
      × (marked_of (ltb 2 form.parameters) p.third ≡ true)

  says_parameters : Saying MarksKnown (parameters form)
  unfolding parameters
  says_parameters =
      says_then _ _ _ _ says_parameter λ level one.
      says_then _ _ _ _ (says_parameter_if (ltb 0 form.parameters)) λ first two.
      says_then _ _ _ _ (says_parameter_if (ltb 1 form.parameters)) λ second three.
      says_then _ _ _ _ (says_parameter_if (ltb 2 form.parameters)) λ third four.
      says_saying MarksKnown _ (one, two, three, four)

-- its numbers name a stage
abbrev IsNamed : FlatStage → Type 0
IsNamed t = known (named_of t) ≡ true

all_known : (kind : ℕ) (c : Choices) (w : Wires) (p : Parameters) → ltb kind kind_count ≡ true → ChoicesKnown (form_of kind) c → MarksKnown (form_of kind) p
    → IsNamed (stage_from kind c w p)
unfolding named_of named_by known
all_known kind c w p e (f, g) (h, i, j, k) = rw (e, f, g, h, i, j, k) refl

says_stage : Saying IsNamed stage
unfolding stage parts
says_stage =
    says_then (λ kind. ltb kind kind_count ≡ true) _ _ _ (says_judged 22 _ number) λ kind one.
    says_then (ChoicesKnown (form_of kind)) _ _ _ (says_choices (form_of kind)) λ c two.
    says_then Any _ _ _ (says_any _) λ w _.
    says_then (MarksKnown (form_of kind)) _ _ _ (says_parameters (form_of kind)) λ p three.
    says_saying IsNamed _ (all_known kind c w p one two three)

-- ---- a patch

abbrev AllNamed : List FlatStage → Type 0
AllNamed [] = Unit
AllNamed (t ∷ ts) = IsNamed t × AllNamed ts

says_stages : (n : ℕ) → Saying (λ ts. (length ts ≡ n) × AllNamed ts) (stages n)
unfolding stages
says_stages zero = says_saying _ [] (refl, _)
says_stages (suc n) =
    says_then IsNamed _ stage _ says_stage λ first one.
    says_then (λ ts. (length ts ≡ n) × AllNamed ts) _ (stages n) _ (says_stages n) λ rest two.
    says_saying _ _ (ap suc two.0, (one, two.1))

named-at : (ts : List FlatStage) (k : ℕ) → AllNamed ts → k < length ts → IsNamed (get_or ts k no_flat)
named-at [] k all h = absurd (omega (arith, h))
named-at (t ∷ ts) zero (one, all) h = one
named-at (t ∷ ts) (suc k) (one, all) h = named-at ts k all (omega (arith, h))

-- where n stages from k on are named, none is unknown
none_unknown : (f : FlatPatch) (n k : ℕ) → ((i : ℕ) → i < k + n → known (name_at f i) ≡ true) → unknown_from f n k ≡ 32
unfolding unknown_from
none_unknown f zero k h = refl
none_unknown f (suc n) k h = rw (h k (omega arith)) (none_unknown f n (suc k) (λ i less. h i (omega (arith, less))))

abbrev Runnable : FlatPatch → Type 0
Runnable f = (f.count ≤ 32) × (unknown_of f ≡ 32)

runnable : (ts : List FlatStage) → length ts ≤ 32 → AllNamed ts → Runnable (patch_from ts)
unfolding unknown_of
runnable ts few all = (
  few,
  rw (le-leb (length ts) 32 few)
      (none_unknown (patch_from ts) (length ts) 0 λ i less.
      let here : i < length ts = omega (arith, less) in
      ap (λ (t : FlatStage). known (named_of t)) (get_or-append ts (replicate (32 - length ts) no_flat) no_flat i here) ∙ named-at ts i all here),
)

says_file : Saying Runnable file
unfolding file
says_file =
    says_then Any _ _ _ (says_any _) λ version _.
    says_then (λ count. leb count 32 ≡ true) _ _ _ (says_judged 25 _ number) λ count few.
    says_then (λ ts. (length ts ≡ count) × AllNamed ts) _ _ _ (says_stages count) λ ts two.
    says_then Any _ _ _ (says_any _) λ _ _.
    says_saying Runnable _ (runnable ts (omega (arith, two.0, leb-true count 32 few)) two.1)

-- ---- the theorem

answered_runnable : (part : Part FlatPatch) → Says Runnable part → Runnable (answered part).patch
unfolding Says answered
answered_runnable (said patch at) r = r
answered_runnable (refused n offset) r = runnable [] (omega arith) _

-- at most 32 stages, and no stage of which `flat` says that its numbers name none: of any file, accepted or not
pub read_runnable : (bytes : List ℕ) → ((read_of bytes).patch.count ≤ 32) × (unknown_of (read_of bytes).patch ≡ 32)
read_runnable bytes = answered_runnable (file bytes 0) (says_file bytes 0)
