-- Each public contract of `report` determines what a call answers, and the report that it leaves. `Reads.Post`, which Rattle makes of a function's
-- `ensures`, is the contract itself: no copy of it is written here. Assumes nothing.
use mathlib.Core.Path.{◌≡◌, refl, sym, ap, ◌∙◌}
use mathlib.Core.Bool.{cond}
use Prim.Native.Nat.{ℕ}
use lib.Dec.{eqb}
use Rattle.std.specs.Prelude.{Result, Ok, Err}
use Rattle.numbers.specs.Outcome.{Outcome, Determined, Answer, outcome, by_definition}
use Rattle.report.specs.Report.{Added, told}
use Rattle.report.specs.declared.report.Report.{Report}
use Rattle.report.specs.declared.refused.Refused.{Refused}
use Rattle.report.specs.declared.refused.Refused.TheVariants.{TooManySamples, CutSample}
use Rattle.report.proofs.refused.U64FromRefused.from.Reads as from
use Rattle.report.proofs.report.Report.new.Reads as new-report
use Rattle.report.proofs.report.Report.add.Reads as add
use Rattle.report.proofs.report.Report.add_bytes.Reads as add-bytes

-- what a call answered, by its number
answer_of : ℕ → Result Unit Refused
answer_of n = cond (eqb n 0) (Ok tt) (cond (eqb n 30) (Err TooManySamples) (Err CutSample))

seen_of : Added → Outcome (Result Unit Refused) Report
seen_of a = outcome (answer_of a.number) a.report

told_whole : (answer : Result Unit Refused) (r : Report) → seen_of (told answer r) ≡ outcome answer r
unfolding told seen_of answer_of
told_whole (Ok done) r = refl
told_whole (Err TooManySamples) r = refl
told_whole (Err CutSample) r = refl

told_determined : {K A S : Type 0} {now : S → Report} {f : K → A → Added}
    → Determined (λ (answer : Result Unit Refused) (s : S). outcome answer (now s)) (λ (κs : K) (a : A) (answer : Result Unit Refused) (s : S). told answer (now s) ≡ f κs a)
told_determined {now = now} =
    record { equal = λ κs a r r' s s' p q. sym (told_whole r (now s)) ∙ ap seen_of (p ∙ sym q) ∙ told_whole r' (now s') }

pub report_determined : Answer from.Post × Answer new-report.Post × Determined (λ r s. outcome r s.0.now) add.Post × Determined (λ r s. outcome r s.0.now) add-bytes.Post
report_determined = (by_definition, by_definition, told_determined, told_determined)
