-- The loop over a window of a machine with one input: its invariant and its steps. Over magnetron's loop law.
--     Looped           after i samples
--     looped_start     before the first sample
--     looped_more      the machine steps on what is read, and what it answers is written
--     looped_end       once i is the number of samples
--     windowed_alone   what a loop leaves of a machine that has no ring is said of its memory alone
-- Assumes nothing.
use Rattle.std.proofs.Common.{◌≡◌, ℕ, zero, suc, ◌+◌, ◌<◌, ◌≤◌, List, refl, ap, ◌∙◌, le_antisymm, add-one}
use lib.Ieee.{Float}
use Rattle.magnetron.specs.Signals.{state_at, machine}
use Rattle.magnetron.specs.Inside.Source.{signal_of}
use Rattle.magnetron.specs.Inside.Target.{LiesIn, ClearOf, sampled}
use Rattle.magnetron.specs.declared.source.Source.{Source}
use Rattle.magnetron.specs.declared.output.Target.{Target}
use Rattle.magnetron.specs.Inside.Mix.{mix_of, from}
use Rattle.magnetron.proofs.Blocks.{window_ext}
use Rattle.magnetron.proofs.Writing.{Writing, writing_start, as_at_first, writing_more, writing_end}
use Rattle.util.specs.declared.step.Step.{Step}
use Rattle.microwave.specs.Running.{Running, running, ringless, next_by, out_by}
use Rattle.microwave.specs.Inside.{Windowed}

pub record Looped {S : Type 0} (next : S → Float → S) (out : S → Float → Float) (s₀ : S) (own other : List Float) (input : Source) (target : Target)
    (l : List Float) (s : S) (i : ℕ) : Type 0 where
  pub clear : ClearOf input own other target
  pub writes : Writing own target (machine next out s₀ (signal_of input own other)) l i
  pub state : s ≡ state_at next s₀ (signal_of input own other) i

module _ {S : Type 0} {next : S → Float → S} {out : S → Float → Float} {s₀ : S} {own other : List Float} {input : Source} {target : Target} where
  pub looped_start : LiesIn target own → ClearOf input own other target → Looped next out s₀ own other input target own s₀ 0
  unfolding state_at
  looped_start fits clear = record { clear = clear; writes = writing_start fits; state = refl }

  module _ {l : List Float} {s : S} {i : ℕ} (t : Looped next out s₀ own other input target l s i) where
    pub looped_more : i < target.samples → {y z : Float} {s' : S} {l' : List Float} → y ≡ signal_of input l other i → s' ≡ next s y → z ≡ out s y → l' ≡ sampled l target i z
        → Looped next out s₀ own other input target l' s' (i + 1)
    unfolding state_at
    looped_more h {y} ey es ez el =
        let x : y ≡ signal_of input own other i = as_at_first t.writes h input other t.clear ey in
        record {
          clear = t.clear;
          writes = writing_more t.writes h (ez ∙ rw (t.state, x)) el;
          state = es ∙ rw (t.state, x, add-one);
        }

    pub looped_end : target.samples ≤ i → Windowed next out s₀ (signal_of input own other) own target s l
    looped_end h = record {
      state = t.state ∙ ap (λ (k : ℕ). state_at next s₀ (signal_of input own other) k) (le_antisymm t.writes.upto h);
      samples = writing_end t.writes h;
    }

-- a machine that has no ring, by itself
module _ {M : Type 0} (f : M → Float → Step M) (m : M) (r : List Float) (x : ℕ → Float) where
  state_alone : (i : ℕ) → state_at (next_by (ringless f)) (running m r) x i ≡ running (state_at (next_by f) m x i) r
  unfolding state_at
  state_alone zero = refl
  state_alone (suc i) = ap (λ (s : Running M). next_by (ringless f) s (x i)) (state_alone i)

  pub windowed_alone : {own : List Float} {target : Target} {m' : M} {r' own' : List Float}
      → Windowed (next_by (ringless f)) (out_by (ringless f)) (running m r) x own target (running m' r') own'
      → Windowed (next_by f) (out_by f) m x own target m' own'
  windowed_alone {own} {target} w = record {
    state = ap (λ (s : Running M). s.memory) (w.state ∙ state_alone target.samples);
    samples = w.samples ∙ window_ext own target.base target.samples _ _
        (λ i h. ap (λ (s : Running M). mix_of target.stale target.level (from own target.base i) (out_by (ringless f) s (x i))) (state_alone i));
  }
