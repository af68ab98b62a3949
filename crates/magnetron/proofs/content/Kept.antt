-- What a single write puts, in the loop that writes: each sample lies in reach, and is what it was at first. Assumes nothing.
use mathlib.Core.Path.{◌≡◌, ap₂}
use mathlib.Core.List.{List}
use Prim.Native.Nat.{ℕ, ◌<◌}
use lib.ListN.{length}
use lib.Ieee.{Float, binary64, mul}
use Rattle.magnetron.specs.Inside.Content.{content_of, AllInReach, AllClear}
use Rattle.magnetron.specs.declared.output.Target.{Target}
use Rattle.magnetron.specs.declared.content.Content.{Content}
use Rattle.magnetron.specs.declared.content.Content.TheVariants.{Copy, Product}
use Rattle.magnetron.proofs.Writing.{Writing, in_reach, kept}

module _ {own : List Float} {target : Target} {x : ℕ → Float} {l : List Float} {i : ℕ} (w : Writing own target x l i) (k : ℕ) (h : k < target.samples) where
  pub content_reach : (content : Content) (other : List Float) → AllClear content own other target → AllInReach content (length l) (length other) k
  content_reach (Copy a) other clear = in_reach w a other clear k h
  content_reach (Product a b) other clear = (in_reach w a other clear.0 k h, in_reach w b other clear.1 k h)

  pub content_kept : (content : Content) (other : List Float) → AllClear content own other target → content_of content l other k ≡ content_of content own other k
  content_kept (Copy a) other clear = kept w a other clear k h
  content_kept (Product a b) other clear = ap₂ (mul binary64) (kept w a other clear.0 k h) (kept w b other clear.1 k h)
