-- A look-up is reported by 6 exactly where 01 has it: "a parameter's slot is past the lent values, or a required parameter is absent". Assumes nothing.
use Rattle.std.proofs.Common.{◌≡◌, ℕ, ◌≤◌, ◌↔◌, List, length, Option, Some, None, slice_get, inl, inr, refl, arith}
use Rattle.std.proofs.lemmas.Option.{slice_get_past, slice_get_cases}
use lib.Ieee.{Float}
use Rattle.microwave.specs.Parameter.{number_in, reported, Refused, slot_past, required_absent}
use Rattle.microwave.specs.declared.parameter.Parameter.{Parameter}
use Rattle.microwave.specs.declared.parameter.Parameter.TheVariants.{Fixed, Slot, WindowSeconds, Absent}

left_over : (f : Option Float) → (reported f).number ≡ 6 → f ≡ None
left_over (Some x) e = absurd (omega arith)
left_over None e = refl

module _ (values : List Float) (seconds : Float) where
  past : (i : ℕ) → slice_get values i ≡ None → length values ≤ i
  past i e = elim (slice_get_cases values i).1 [ inl h ↦ absurd (cc (e, h.2)) | inr h ↦ h.0 ]

  refused : {p : Parameter} {absent : Option Float} → Refused values p absent → (reported (number_in p absent values seconds)).number ≡ 6
  refused (slot_past h) = rw (slice_get_past values _ h)
  refused required_absent = refl

  where_refused : (p : Parameter) (absent : Option Float) → (reported (number_in p absent values seconds)).number ≡ 6 → Refused values p absent
  where_refused (Fixed x) absent e = absurd (omega arith)
  where_refused (Slot i) absent e = slot_past (past i (left_over (slice_get values i) e))
  where_refused WindowSeconds absent e = absurd (omega arith)
  where_refused Absent (Some x) e = absurd (omega arith)
  where_refused Absent None e = required_absent

  pub refused_exactly : (p : Parameter) (absent : Option Float) → (reported (number_in p absent values seconds)).number ≡ 6 ↔ Refused values p absent
  refused_exactly p absent = (where_refused p absent, refused)
