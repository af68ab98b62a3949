-- What holds of every part of a file: it is read forward and inside the file, its refusals lie in the file, and what it says it says of a file
-- that was cut behind it too. Assumes nothing.
use mathlib.Core.Path.{◌≡◌, refl, ap, ◌∙◌}
use mathlib.Core.Bool.{Bool, true, false, cond}
use mathlib.Core.List.{List, [], ◌∷◌}
use Prim.Native.Nat.{ℕ, zero, suc, ◌+◌, ◌*◌, ◌%◌, ◌≤◌}
use native.Mathlib.Nat.{le_refl, le_trans}
use native.Mathlib.Omega.{arith}
use lib.Dec.{ltb, leb, eqb}
use lib.ListN.{length, take, drop, get_or}
use lib.Seq.{length-take-le, get_or-take, take-take}
use borrow.Author.Tests.{ltb-true, leb-true, lt-ltb, le-leb}
use Rattle.words.specs.Word.{word_of}
use Rattle.flat.specs.Form.{kind_count, form_of}
use Rattle.flat.specs.Patch.{no_parameter}
use Rattle.flat.specs.declared.form.Form.{Form}
use Rattle.files.specs.Reader.{Part, said, refused, Reader, saying, followed, ◌>>=◌, judged, if_there}
use Rattle.files.specs.File.{byte_of, groups, number, one_of, choice, eight, parameter, choices, wires, parameters, parts, stage, stages}

-- a refusal's number, while what comes before the end is read
pub record Fault (number : ℕ) : Type 0 where
  pub least : 20 ≤ number
  pub most : number ≤ 25
  pub inside : number ≡ 24 → ⊥

-- a part that begins at an offset of a file of some length, and the same part of the file cut to m bytes
unfoldable pub Sound : {A : Type 0} → ℕ → ℕ → ℕ → Part A → Part A → Type 0
Sound at length m (said a next) cut = (at ≤ next) × (next ≤ length) × (next ≤ m → cut ≡ said a next)
Sound at length m (refused number offset) cut = Fault number × (offset ≤ length)

-- wherever it begins, from `low` on
abbrev pub Steady : {A : Type 0} → ℕ → Reader A → Type 0
Steady low part =
    (bytes : List ℕ) (at m : ℕ) → low ≤ at → at ≤ length bytes → m ≤ length bytes → Sound at (length bytes) m (part bytes at) (part (take m bytes) at)

-- ---- parts in a row

module _ (length m : ℕ) where
  -- what was begun earlier, and cut to the same
  widened : {A : Type 0} (at begin : ℕ) (part cut whole : Part A) → begin ≤ at → Sound at length m part cut → (at ≤ m → whole ≡ cut) → Sound begin length m part whole
  unfolding Sound
  widened at begin (said a next) cut whole h (from, to, same) e = (le_trans h from, to, λ (k : next ≤ m). e (le_trans from k) ∙ same k)
  widened at begin (refused number offset) cut whole h s e = s

  sound-followed : {A B : Type 0} (at : ℕ) (part cut : Part A) (next next-cut : A → ℕ → Part B) → Sound at length m part cut
      → ((a : A) (after : ℕ) → at ≤ after → after ≤ length → Sound after length m (next a after) (next-cut a after))
      → Sound at length m (followed part next) (followed cut next-cut)
  unfolding Sound followed
  sound-followed at (said a after) cut next next-cut (from, to, same) h =
      widened after at (next a after) (next-cut a after) (followed cut next-cut) from (h a after from to) (λ (k : after ≤ m). ap (λ p. followed p next-cut) (same k))
  sound-followed at (refused number offset) cut next next-cut s h = s

pub steady_saying : {A : Type 0} (low : ℕ) (a : A) → Steady low (saying a)
unfolding Sound
steady_saying low a bytes at m h k l = (le_refl at, k, λ _. refl)

pub steady_then : {A B : Type 0} (low : ℕ) (part : Reader A) (next : A → Reader B) → Steady low part → ((a : A) → Steady low (next a)) → Steady low (part >>= next)
unfolding ◌>>=◌
steady_then low part next s t bytes at m h k l =
    sound-followed (length bytes) m at (part bytes at) (part (take m bytes) at) _ _ (s bytes at m h k l)
    (λ a after from to. t a bytes after m (le_trans h from) to l)

-- ---- a part that is judged, and one that is not there

judgement : {A : Type 0} (length at after m number : ℕ) (a : A) (good : Bool) → at ≤ after → after ≤ length → Fault number
    → Sound after length m (cond good (said a after) (refused number at)) (cond good (said a after) (refused number at))
unfolding Sound
judgement length at after m number a true from to fault = (le_refl after, to, λ _. refl)
judgement length at after m number a false from to fault = (fault, le_trans from to)

pub steady_judged : {A : Type 0} (low number : ℕ) (good : A → Bool) (part : Reader A) → Fault number → Steady low part → Steady low (judged number good part)
unfolding judged
steady_judged low number good part fault s bytes at m h k l =
    sound-followed (length bytes) m at (part bytes at) (part (take m bytes) at) _ _ (s bytes at m h k l)
    (λ a after from to. judgement (length bytes) at after m number a (good a) from to fault)

steady_there : {A : Type 0} (low : ℕ) (there : Bool) (none : A) (part : Reader A) → Steady low part → Steady low (if_there there none part)
steady_there low true none part s = s
steady_there low false none part s = steady_saying low none

-- ---- bytes

-- all but 24, which is of the end alone
pub fault : (number : ℕ) → 20 ≤ number → number ≤ 25 → (number ≡ 24 → ⊥) → Fault number
fault number least most inside = record { least = least; most = most; inside = inside }

fault_20 : Fault 20
fault_20 = fault 20 (omega arith) (omega arith) (λ e. absurd (omega (arith, e)))

steady_byte : (start : ℕ) → Steady start (byte_of start)
unfolding Sound byte_of
steady_byte start bytes at m h k l = by (ltb at (length bytes)) refl
  where
    by : (b : Bool) → ltb at (length bytes) ≡ b
        → Sound at (length bytes) m (cond b (said (get_or bytes at 0) (at + 1)) (refused 20 start)) (byte_of start (take m bytes) at)
    by true e = (
      omega arith,
      omega (arith, ltb-true at (length bytes) e),
      λ (n : at + 1 ≤ m). rw (length-take-le m bytes l, lt-ltb at m (omega (arith, n)), get_or-take m bytes at 0 (omega (arith, n))) refl,
    )
    by false e = (fault_20, omega (arith, h, k))

-- eight bytes stay where the cut is behind them
eight_cut : (at m : ℕ) (bytes : List ℕ) → at + 8 ≤ m → take 8 (drop at (take m bytes)) ≡ take 8 (drop at bytes)
eight_cut zero m bytes h = take-take 8 m bytes (omega (arith, h))
eight_cut (suc at) zero bytes h = absurd (omega (arith, h))
eight_cut (suc at) (suc m) [] h = refl
eight_cut (suc at) (suc m) (b ∷ bytes) h = eight_cut at m bytes (omega (arith, h))

steady_eight : Steady 0 eight
unfolding Sound eight
steady_eight bytes at m h k l = by (leb (at + 8) (length bytes)) refl
  where
    by : (b : Bool) → leb (at + 8) (length bytes) ≡ b
        → Sound at (length bytes) m (cond b (said (word_of (take 8 (drop at bytes))) (at + 8)) (refused 20 at)) (eight (take m bytes) at)
    by true e = (
      omega arith,
      leb-true _ _ e,
      λ (n : at + 8 ≤ m). rw (length-take-le m bytes l, le-leb (at + 8) m n, eight_cut at m bytes n) refl,
    )
    by false e = (fault_20, k)

-- ---- the parts of a file

fault_23 : Fault 23
fault_23 = fault 23 (omega arith) (omega arith) (λ e. absurd (omega (arith, e)))

steady_groups : (start n : ℕ) → Steady start (groups start n)
unfolding Sound groups
steady_groups start zero = λ bytes at m h k l. (fault_23, le_trans h k)
steady_groups start (suc n) =
    steady_then start (byte_of start) _ (steady_byte start) λ byte.
    steady_then start _ _ (steady_there start (leb 128 byte) 0 (groups start n) (steady_groups start n)) λ higher.
    steady_saying start (byte % 128 + 128 * higher)

pub steady_number : Steady 0 number
unfolding number
steady_number bytes at m h k l = steady_judged at 23 _ (groups at 5) fault_23 (steady_groups at 5) bytes at m (le_refl at) k l

steady_one : (limit : ℕ) → Steady 0 (one_of limit)
steady_one limit = steady_judged 0 22 _ number (fault 22 (omega arith) (omega arith) (λ e. absurd (omega (arith, e)))) steady_number

steady_choice : (limit : ℕ) → Steady 0 (choice limit)
unfolding choice
steady_choice limit = steady_there 0 (ltb 0 limit) 0 (one_of limit) (steady_one limit)

steady_parameter : Steady 0 parameter
unfolding parameter
steady_parameter =
    steady_then 0 (one_of 4) _ (steady_one 4) λ mark.
    steady_then 0 _ _ (steady_there 0 (eqb mark 1) 0 eight steady_eight) λ bits.
    steady_then 0 _ _ (steady_there 0 (eqb mark 2) 0 number steady_number) λ slot.
    steady_saying 0 _

module _ (form : Form) where
  steady_number_if : (there : Bool) → Steady 0 (if_there there 0 number)
  steady_number_if there = steady_there 0 there 0 number steady_number

  steady_parameter_if : (there : Bool) → Steady 0 (if_there there no_parameter parameter)
  steady_parameter_if there = steady_there 0 there no_parameter parameter steady_parameter

  steady_choices : Steady 0 (choices form)
  unfolding choices
  steady_choices =
      steady_then 0 _ _ (steady_choice form.choices) λ chosen.
      steady_then 0 _ _ (steady_choice form.modulations) λ modulation.
      steady_then 0 _ _ (steady_number_if (ltb 0 form.sizes)) λ size.
      steady_saying 0 _

  steady_wires : Steady 0 (wires form)
  unfolding wires
  steady_wires =
      steady_then 0 _ _ (steady_number_if (ltb 0 form.inputs)) λ first.
      steady_then 0 _ _ (steady_number_if (ltb 1 form.inputs)) λ second.
      steady_then 0 _ _ steady_number λ output.
      steady_then 0 _ _ (steady_number_if (ltb 1 form.outputs)) λ right.
      steady_saying 0 _

  steady_parameters : Steady 0 (parameters form)
  unfolding parameters
  steady_parameters =
      steady_then 0 _ _ steady_parameter λ level.
      steady_then 0 _ _ (steady_parameter_if (ltb 0 form.parameters)) λ first.
      steady_then 0 _ _ (steady_parameter_if (ltb 1 form.parameters)) λ second.
      steady_then 0 _ _ (steady_parameter_if (ltb 2 form.parameters)) λ third.
      steady_saying 0 _

steady_stage : Steady 0 stage
unfolding stage parts
steady_stage =
    steady_then 0 _ _ (steady_one kind_count) λ kind.
    steady_then 0 _ _ (steady_choices (form_of kind)) λ c.
    steady_then 0 _ _ (steady_wires (form_of kind)) λ w.
    steady_then 0 _ _ (steady_parameters (form_of kind)) λ p.
    steady_saying 0 _

pub steady_stages : (n : ℕ) → Steady 0 (stages n)
unfolding stages
steady_stages zero = steady_saying 0 []
steady_stages (suc n) =
    steady_then 0 stage _ steady_stage λ first.
    steady_then 0 (stages n) _ (steady_stages n) λ rest.
    steady_saying 0 (first ∷ rest)
