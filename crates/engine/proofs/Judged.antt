-- All checks: the verdict that the code hands on, and what it tells that they passed.
--     entry_stops, entry_goes     checks 1 to 4, then the stages along the order
--     judged-passed, judged-refused     what the verdict tells of the checks
--     passed_all                  what the stages may rely on
-- Assumes nothing.
use mathlib.Core.Path.{◌≡◌, refl, sym, ap, ◌∙◌}
use mathlib.Core.Bool.{true, true≢false, false≢true}
use mathlib.Core.List.{List}
use mathlib.Core.Option.{Option, none, some}
use Prim.Native.Nat.{ℕ}
use lib.Ieee.{Float}
use Rattle.std.specs.Prelude.{None, Ok, Err, Result, ⊤, is_ok}
use Rattle.order.specs.Checks.{first, passed, verdict}
use Rattle.answers.specs.Refusal.{verdict_of}
use Rattle.answers.specs.declared.refusal.Reason.{Reason}
use Rattle.answers.specs.declared.refusal.Refusal.{Refusal}
use Rattle.answers.proofs.Verdicts.{first-passed, accepted}
use Rattle.magnetron.specs.Buffers.{marks_of}
use Rattle.engine.specs.Run.{Plan, World, named, entry, fault, turned, judged}
use Rattle.engine.specs.Inside.{returned, Passed}
use Rattle.engine.proofs.Faults.{named_go, passed-named}
use Rattle.engine.proofs.Entries.{entry-told}

stops : (o : Option Reason) (q : Option Refusal) {r : Refusal} → Err r ≡ verdict_of o → Err r ≡ returned (first (named None o) q)
unfolding verdict_of
stops none q e = absurd (false≢true (ap is_ok e))
stops (some r) q e = e

passed-returned : (o : Option Refusal) → Ok tt ≡ returned o → passed o ≡ true
passed-returned none e = refl
passed-returned (some r) e = absurd (true≢false (ap is_ok e))

refused-returned : (o : Option Refusal) {r : Refusal} → Err r ≡ returned o → o ≡ some r
refused-returned none e = absurd (false≢true (ap is_ok e))
refused-returned (some r) e = cc

module _ (P : Plan) (zeros : List Float) (ks : List ℕ) (w : World) where
  pub entry_stops : {r : Refusal} → Err r ≡ verdict_of (entry P zeros ks w) → Err r ≡ returned (judged P zeros ks w)
  unfolding judged
  entry_stops e = stops (entry P zeros ks w) _ e

  module _ (e : Ok tt ≡ verdict_of (entry P zeros ks w)) where
    pub entry-passed : passed (entry P zeros ks w) ≡ true
    entry-passed = accepted (entry P zeros ks w) (sym e)

    pub entry_goes : {u : Result ⊤ Refusal} → u ≡ returned (verdict (fault P) (turned P) ks (marks_of w.banks)) → u ≡ returned (judged P zeros ks w)
    unfolding judged
    entry_goes f = f ∙ ap returned (sym (named_go None (entry P zeros ks w) _ entry-passed))

  pub judged-passed : Ok tt ≡ returned (judged P zeros ks w) → passed (judged P zeros ks w) ≡ true
  judged-passed = passed-returned (judged P zeros ks w)

  pub judged-refused : {r : Refusal} → Err r ≡ returned (judged P zeros ks w) → judged P zeros ks w ≡ some r
  judged-refused = refused-returned (judged P zeros ks w)

  pub passed_all : passed (judged P zeros ks w) ≡ true → Passed P ks w
  unfolding judged
  passed_all e =
      let r = first-passed (named None (entry P zeros ks w)) _ e in
      record { admitted = entry-told P zeros ks w (sym (passed-named None (entry P zeros ks w)) ∙ r.0); sound = r.1 }
