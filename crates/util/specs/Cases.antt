-- The sorts of listed cases that a ring and its parts decide, and what each means over the definitions. The table is that of the crate `laws`.
-- Assumes nothing.
use Rattle.std.specs.Prelude.{◌≡◌, ℕ, List, [], ◌∷◌, replicate, Float}
use Rattle.numbers.specs.Constants.{zero64}
use Rattle.util.specs.declared.reach.Reach.TheVariants.{Within}
use Rattle.util.specs.declared.delay_line.Cursor.{Cursor}
use Rattle.util.specs.declared.delay_line.Read.TheVariants.{Whole, Fract}
use Rattle.util.specs.declared.interaction.AnyInteraction.TheVariants.{Gain}
use Rattle.util.specs.declared.comb_filter.Comb.{Comb}
use Rattle.util.specs.declared.interaction.AnyInteraction.{AnyInteraction}
use Rattle.util.specs.declared.all_pass.AllPassDelay.{AllPassDelay}
use Rattle.util.specs.DelayLine.{answered, tapped}
use Rattle.util.specs.declared.step.Step.{Step}
use Rattle.util.specs.Interaction.{step, any_interaction}
use Rattle.util.specs.Comb.{combed}
use Rattle.util.specs.AllPass.{passed}

pub data Case : Type 0 where
  -- a ring is read at a position and a fraction, which is within: the sample
  ring_read : List Float → ℕ → Float → Float → Case
  -- an all-pass over a silent ring of that length, with that feedback, at the whole delay: inputs, and what it answers
  all_pass_run : ℕ → Float → List Float → List Float → Case
  -- a comb over a silent ring of that length, with a response and a limit that are gains, at the whole delay: inputs, and what it answers
  comb_run : ℕ → Float → Float → List Float → List Float → Case

abbrev pub at : ℕ → Cursor
at position = record { position = position }

-- a filter with the ring that it was lent
pub record Lent (F : Type 0) : Type 0 where
  pub filter : F
  pub ring : List Float

abbrev all_pass_step : Lent AllPassDelay → Float → Step (Lent AllPassDelay)
all_pass_step s x =
    let o = passed Whole s.filter s.ring x in
    step (record { filter = o.result.next; ring = o.contents }) o.result.sample

abbrev comb_step : Lent (Comb AnyInteraction AnyInteraction) → Float → Step (Lent (Comb AnyInteraction AnyInteraction))
comb_step s x =
    let o = combed any_interaction any_interaction Whole s.filter s.ring x in
    step (record { filter = o.result.next; ring = o.contents }) o.result.sample

-- what is answered to each of a list of inputs, in turn
unfoldable pub answers : {S : Type 0} → (S → Float → Step S) → S → List Float → List Float
answers next s [] = []
answers next s (x ∷ xs) =
    let t = next s x in
    t.sample ∷ answers next t.next xs

unfoldable pub Holds : Case → Type 0
Holds (ring_read ring position f sample) = tapped (Fract f) (at position) ring ≡ answered Within (step (at position) sample)
Holds (all_pass_run n g xs ys) = answers all_pass_step (record { filter = record { cursor = at 0; feedback = g }; ring = replicate n zero64 }) xs ≡ ys
Holds (comb_run n response limit xs ys) =
    answers comb_step (record { filter = record { cursor = at 0; response = Gain response; limit = Gain limit }; ring = replicate n zero64 }) xs ≡ ys
