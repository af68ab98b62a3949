-- An input that comes in pieces: to what came before, in whole samples, the next piece is added, and that is the whole of both; so a program that
-- adds piece after piece up to the first refusal tells what the whole input gives, wherever it was cut between samples. Assumes nothing.
use mathlib.Core.Path.{◌≡◌, refl, sym, ap, ◌∙◌}
use mathlib.Core.Bool.{Bool, true, false, cond}
use mathlib.Core.List.{List, [], ◌∷◌, ◌++◌}
use Prim.Native.Nat.{ℕ, zero, suc, ◌+◌, ◌*◌, ◌/◌, ◌%◌, ◌<◌, ◌≤◌}
use native.Mathlib.Nat.{zero-add, suc-add}
use native.Mathlib.Omega.{arith}
use borrow.Author.Tests.{leb-true, eqb-true}
use lib.Dec.{eqb, leb}
use lib.ListN.{length, drop, length-append, length-drop}
use lib.Seq.{take-append-le, drop-append-le}
use Rattle.report.specs.Report.{Added, no_samples, after, most, fullest, has_room, refused_by, accepted}
use Rattle.report.specs.Bytes.{first_samples, samples_of, added_bytes_of}
use Rattle.report.specs.declared.report.Report.{Report}
use Rattle.report.proofs.Step.{after_joined}
use Rattle.report.proofs.Room.{up_to, room_is_samples}

-- the same number, and where nothing is refused the same report
pub record Same (a b : Added) : Type 0 where
  pub number : a.number ≡ b.number
  pub report : a.number ≡ 0 → a ≡ b

first_joined : (n m : ℕ) (before next : List ℕ) → length before ≡ 8 * n
    → first_samples (n + m) (before ++ next) ≡ first_samples n before ++ first_samples m next
unfolding first_samples
first_joined zero m [] next h = rw zero-add
first_joined zero m (b ∷ before) next h = absurd (omega arith)
first_joined (suc n) m before next h =
    let l : 8 ≤ length before = omega arith in
    let d : length (drop 8 before) ≡ 8 * n = rw length-drop (omega arith) in
    rw (suc-add, take-append-le 8 before next, drop-append-le 8 before next, first_joined n m (drop 8 before) next d)

samples-length : (n : ℕ) (bytes : List ℕ) → length (first_samples n bytes) ≡ n
unfolding first_samples
samples-length zero bytes = refl
samples-length (suc n) bytes = ap suc (samples-length n (drop 8 bytes))

judged : (room whole : Bool) (a r s : Report)
    → Same
    (cond room (cond whole (accepted a) (refused_by 34 r)) (refused_by 30 r))
    (cond room (cond whole (accepted a) (refused_by 34 s)) (refused_by 30 s))
judged true true a r s = record { number = refl; report = λ e. refl }
judged true false a r s = record { number = refl; report = λ e. absurd (omega arith) }
judged false whole a r s = record { number = refl; report = λ e. absurd (omega arith) }

pub whole_input : (before next : List ℕ) → length before % 8 ≡ 0
    → Same (added_bytes_of (after no_samples (samples_of before)) next) (added_bytes_of no_samples (before ++ next))
unfolding added_bytes_of fullest
whole_input before next h =
    let came = length before / 8 in
    let more = length next / 8 in
    let room : fullest (after no_samples (samples_of before)) ≡ came = room_is_samples (samples_of before) ∙ samples-length came before in
    let n : (length before + length next) / 8 ≡ came + more = omega arith in
    let rest : (length before + length next) % 8 ≡ length next % 8 = omega arith in
    let all = after_joined no_samples (samples_of before) (samples_of next) ∙ ap (after no_samples) (sym (first_joined came more before next (omega arith))) in
    rw
    (room, all, length-append, n, rest, zero-add)
    (judged
    (leb (came + more) most)
    (eqb (length next % 8) 0)
    (after no_samples (first_samples (came + more) (before ++ next)))
    (after no_samples (samples_of before))
    no_samples)

-- what was accepted had room, and was of whole samples
was_accepted : (room whole : Bool) (a r : Report) → (cond room (cond whole (accepted a) (refused_by 34 r)) (refused_by 30 r)).number ≡ 0
    → (room ≡ true) × (whole ≡ true)
was_accepted true true a r e = (refl, refl)
was_accepted true false a r e = absurd (omega arith)
was_accepted false whole a r e = absurd (omega arith)

-- a piece that is accepted adds samples, and never more than there may be: a program that goes on while its pieces are accepted ends
pub accepted_grows : (r : Report) (bytes : List ℕ) (a : Added) → a ≡ added_bytes_of r bytes → a.number ≡ 0 → 0 < length bytes
    → (r.samples < a.report.samples) × (a.report.samples ≤ most)
unfolding added_bytes_of after
accepted_grows r bytes a is e more =
    let was = was_accepted (has_room r (length bytes / 8)) (eqb (length bytes % 8) 0) (after r (samples_of bytes)) r (sym (ap (λ (b : Added). b.number) is) ∙ e) in
    let room : fullest r + length bytes / 8 ≤ most = leb-true _ _ was.0 in
    let whole : length bytes % 8 ≡ 0 = eqb-true _ _ was.1 in
    let n = samples-length (length bytes / 8) bytes in
    let u = up_to r in
    (simp (is, was.0, was.1, n) (omega arith), simp (is, was.0, was.1, n) (omega arith))
