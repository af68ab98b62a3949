-- What a single write puts, as a signal: a source's samples, or the product of two sources. Assumes nothing.
use Rattle.std.specs.Prelude.{List, ℕ, Float}
use Rattle.magnetron.specs.Inside.Mix.{times}
use Rattle.magnetron.specs.Inside.Source.{signal_of, InReach}
use Rattle.magnetron.specs.Inside.Target.{ClearOf}
use Rattle.magnetron.specs.declared.output.Target.{Target}
use Rattle.magnetron.specs.declared.content.Content.{Content}
use Rattle.magnetron.specs.declared.content.Content.TheVariants.{Copy, Product}

abbrev pub content_of : Content → List Float → List Float → ℕ → Float
content_of (Copy a) own other = signal_of a own other
content_of (Product a b) own other = times (signal_of a own other) (signal_of b own other)

abbrev pub AllInReach : Content → ℕ → ℕ → ℕ → Type 0
AllInReach (Copy a) own others i = InReach a own others i
AllInReach (Product a b) own others i = InReach a own others i × InReach b own others i

abbrev pub AllClear : Content → List Float → List Float → Target → Type 0
AllClear (Copy a) own other target = ClearOf a own other target
AllClear (Product a b) own other target = ClearOf a own other target × ClearOf b own other target
