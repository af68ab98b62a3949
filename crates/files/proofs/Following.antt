-- How what the code reads, one part after another up to the first fault, is what the definition reads. Assumes nothing.
use Rattle.std.proofs.Common.{◌≡◌, refl, ℕ, Bool, true, false, List, Bor, Result, Ok, Err}
use Rattle.std.specs.Bool.{⊤}
use Rattle.std.specs.Result.{IsErrAnd}
use Rattle.files.specs.Reader.{Part, said, refused, Reader, followed, ◌>>=◌, judged}
use Rattle.files.specs.Fault.{fault_number, unless}
use Rattle.files.specs.Inside.{told}
use Rattle.files.specs.declared.fault.Fault.{Fault}
use Rattle.files.specs.declared.fault.FaultReason.{FaultReason}

-- a part, what comes next, and what comes after that
pub passed : {A B C : Type 0} (part : Part A) (next : A → ℕ → Part B) (then-on : B → ℕ → Part C) (both : A → ℕ → Part C)
    → ((a : A) (at : ℕ) → followed (next a at) then-on ≡ both a at) → followed (followed part next) then-on ≡ followed part both
unfolding followed
passed (said a at) next then-on both e = e a at
passed (refused number offset) next then-on both e = refl

module _ {A B : Type 0} (part : Reader A) (next : A → Reader B) where
  -- one part and then the next: what a part told, be it said or refused, and what follows it
  pub then : (bytes : List ℕ) (at after : ℕ) (r : Result A Fault) (answer : Part B) → told r after ≡ part bytes at
      → answer ≡ followed (told r after) (λ a at. next a bytes at) → answer ≡ (part >>= next) bytes at
  unfolding ◌>>=◌
  then bytes at after r answer e g = rw (← e) g

  -- a part that said something, and from where it was read to, in the same bytes, the next one
  pub onward : (bytes same : Bor (List ℕ)) (at after : ℕ) (a : A) (answer : Part B) → said a after ≡ part bytes.now at → same ≡ bytes
      → answer ≡ next a same.now after → answer ≡ (part >>= next) bytes.now at
  unfolding followed
  onward bytes same at after a answer e f g = then bytes.now at after (Ok a) answer e (rw (← f) g)

  -- a part that was refused, and no next one
  pub stop : (bytes : List ℕ) (at : ℕ) (f : Fault) → refused (fault_number f.reason) f.offset ≡ part bytes at
      → refused (fault_number f.reason) f.offset ≡ (part >>= next) bytes at
  unfolding followed
  stop bytes at f e = then bytes at at (Err f) _ e refl

-- what a fault tells that was handed on
pub handed : {A : Type 0} (r : Result A Fault) (f : Fault) (at : ℕ) → IsErrAnd r (λ e. e ≡ f) → told r at ≡ refused (fault_number f.reason) f.offset
handed (Ok a) f at h = absurd h
handed (Err e) f at h = rw h refl

-- ---- a part that is judged

module _ {A : Type 0} (number : ℕ) (good : A → Bool) (part : Reader A) (bytes : List ℕ) (at : ℕ) where
  pub judged_good : (a : A) (after : ℕ) → said a after ≡ part bytes at → good a ≡ true → said a after ≡ judged number good part bytes at
  unfolding followed judged
  judged_good a after e g = rw (← e, g) refl

  pub judged_bad : (a : A) (after : ℕ) → said a after ≡ part bytes at → good a ≡ false → refused number at ≡ judged number good part bytes at
  unfolding followed judged
  judged_bad a after e g = rw (← e, g) refl

  pub judged_stop : (n offset : ℕ) → refused n offset ≡ part bytes at → refused n offset ≡ judged number good part bytes at
  unfolding followed judged
  judged_stop n offset e = rw (← e) refl

-- what a test answered
pub test_passed : (passed : Bool) (reason : FaultReason) (offset : ℕ) (u : ⊤) → Ok u ≡ unless passed reason offset → passed ≡ true
test_passed true reason offset u e = refl
test_passed false reason offset u e = cc e

pub test_failed : (passed : Bool) (reason : FaultReason) (offset : ℕ) (f : Fault) → Err f ≡ unless passed reason offset
    → (passed ≡ false) × (f ≡ record { reason = reason; offset = offset })
test_failed true reason offset f e = cc e
test_failed false reason offset f e = (refl, cc e)
