-- A machine that steps one part of what a stage keeps, through that part: ONE law for every kind of memory.
--     Part             a part of a larger state, with its three laws
--     part_state, part_sees     the whole steps as its part does, and shows the part's state
--     lifted           a window of the part's machine is a window of the stage's
--     plain_stepped, gain-stepped     a machine that keeps nothing
--     phases, one_pole_lem, biquad, string     the parts of a stage's own
-- Assumes nothing.
use Rattle.std.proofs.Common.{◌≡◌, ℕ, zero, suc, List, sym, refl, ap, ◌∙◌}
use lib.Ieee.{Float}
use Rattle.magnetron.specs.Signals.{state_at}
use Rattle.magnetron.specs.Inside.Source.{signal_of}
use Rattle.magnetron.specs.Inside.Target.{written}
use Rattle.magnetron.specs.declared.output.Target.{Target}
use Rattle.microwave.specs.Plain.{shaped_of, gained}
use Rattle.microwave.specs.Waveguide.{Strung}
use Rattle.microwave.specs.Inside.{Windowed}
use Rattle.microwave.specs.declared.oscillator.Phases.{Phases}
use Rattle.microwave.specs.declared.filter.OnePoleMemory.{OnePoleMemory}
use Rattle.microwave.specs.declared.filter.Biquad.{Biquad}
use Rattle.microwave.specs.declared.plain.Shape.{Shape}
use Rattle.stages.specs.declared.machine.Machine.{Machine}
use Rattle.stages.specs.declared.machine.Machine.TheVariants as machine
use Rattle.stages.specs.declared.machine.Sources.{Sources}
use Rattle.stages.specs.Stage.{Own, own, with_phases, with_one_pole, with_biquad, strung_of, with_strung, Hears, next_of, out_of}
use Rattle.stages.specs.Inside.{hearing, Stepped}

pub record Part (S T : Type 0) : Type 0 where
  pub get : S → T
  pub put : S → T → S
  pub get_put : (s : S) (t : T) → get (put s t) ≡ t
  pub put_put : (s : S) (t u : T) → put (put s t) u ≡ put s u
  pub put_get : (s : S) → put s (get s) ≡ s

module _ {S T X Y : Type 0} (p : Part S T) (look : X → Y) (next : T → Y → T) where
  -- one step of the whole
  abbrev pub through : S → X → S
  through s x = p.put s (next (p.get s) (look x))

  module _ (s : S) (x : ℕ → X) where
    abbrev seen : ℕ → T
    seen n = state_at next (p.get s) (λ i. look (x i)) n

    pub part_state : (n : ℕ) → state_at through s x n ≡ p.put s (seen n)
    unfolding state_at
    part_state zero = sym (p.put_get s)
    part_state (suc n) =
        ap (λ (u : S). through u (x n)) (part_state n)
        ∙ p.put_put s (seen n) _
        ∙ ap (λ (t : T). p.put s (next t (look (x n)))) (p.get_put s (seen n))

    part_sees : (n : ℕ) → p.get (state_at through s x n) ≡ seen n
    part_sees n = ap p.get (part_state n) ∙ p.get_put s (seen n)

module _ {T : Type 0} (p : Part Own T) (a : Sources) (other : List Float) where
  abbrev first : Hears → Float
  first x = x.first

  pub lifted : {next : T → Float → T} {out : T → Float → Float} {m : Machine} {o : Own} {own own' : List Float} {target : Target} {t : T}
      → next_of m ≡ through p first next → out_of m ≡ (λ s x. out (p.get s) (first x))
      → Windowed next out (p.get o) (signal_of a.first own other) own target t own' → Stepped m o (hearing a own other) own target (p.put o t) own'
  lifted {next} {out} {m} {o} {own} {own'} {target} en eo h =
      record {
        kept = rw en (ap (p.put o) h.state ∙ sym (part_state p first next o (hearing a own other) target.samples));
        samples = rw (en, eo) (h.samples ∙ ap (written own target) (λ j i. out (sym (part_sees p first next o (hearing a own other) i) j) (signal_of a.first own other i)));
      }

abbrev pub phases : Part Own Phases
phases = record { get = λ o. o.state.oscillator; put = λ o t. own (with_phases o.state t) o.ring; get_put = λ o t. refl; put_put = λ o t u. refl; put_get = λ o. refl }

abbrev pub one_pole_lem : Part Own OnePoleMemory
one_pole_lem = record { get = λ o. o.state.one_pole; put = λ o t. own (with_one_pole o.state t) o.ring; get_put = λ o t. refl; put_put = λ o t u. refl; put_get = λ o. refl }

abbrev pub biquad : Part Own Biquad
biquad = record { get = λ o. o.state.biquad; put = λ o t. own (with_biquad o.state t) o.ring; get_put = λ o t. refl; put_put = λ o t u. refl; put_get = λ o. refl }

abbrev pub string : Part Own Strung
string = record { get = strung_of; put = with_strung; get_put = λ o t. refl; put_put = λ o t u. refl; put_get = λ o. refl }

-- ---- a machine that keeps nothing

stays : {S X : Type 0} (s : S) (x : ℕ → X) (n : ℕ) → s ≡ state_at (λ s x. s) s x n
unfolding state_at
stays s x zero = refl
stays s x (suc n) = stays s x n

pub plain_stepped : (a : Sources) (other : List Float) {k : Shape} {o : Own} {own own' : List Float} {target : Target}
    → own' ≡ written own target (λ i. shaped_of k (signal_of a.first own other i) (signal_of a.second own other i))
    → Stepped (machine.Plain k) o (hearing a own other) own target o own'
plain_stepped a other {k} {o} {own} {own'} {target} e = record { kept = stays o (hearing a own other) target.samples; samples = e }

pub gain-stepped : (a : Sources) (other : List Float) {gain : Float} {o : Own} {own own' : List Float} {target : Target}
    → own' ≡ written own target (λ i. gained gain (signal_of a.first own other i))
    → Stepped (machine.Gain gain) o (hearing a own other) own target o own'
gain-stepped a other {gain} {o} {own} {own'} {target} e = record { kept = stays o (hearing a own other) target.samples; samples = e }
