-- The words of the loops over a window, which the crate above calls: what a loop leaves of the pool that it writes and of its state, in the words
-- that magnetron has for loops. No other public contract says them. Definitions only. Assumes nothing.
use Rattle.std.specs.Prelude.{◌≡◌, ℕ, List, Float}
use Rattle.magnetron.specs.Signals.{state_at, machine}
use Rattle.magnetron.specs.Inside.Target.{written}
use Rattle.magnetron.specs.declared.output.Target.{Target}

-- what a window leaves of a machine that steps from s₀ on the signal x: the state r, and the pool `own'`
pub record Windowed {S : Type 0} (next : S → Float → S) (out : S → Float → Float) (s₀ : S) (x : ℕ → Float) (own : List Float) (target : Target) (r : S) (own' : List Float) : Type 0 where
  pub state : r ≡ state_at next s₀ x target.samples
  pub samples : own' ≡ written own target (machine next out s₀ x)
