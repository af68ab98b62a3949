-- PAN, as document 02 has it, read off the definition of a run for any plan, state of the pools and stage.
--     pan_writes      "It writes (s times left, s times right), each times its level or 1.0": left and then right, from one hearing
--     pan_either      right and then left is the same, where they are two buffers
--     pan_stale       a stale input is zeros to both, though the left output, written first, may be that input
--     pan_louder      "Its activity is the greater of the two."
-- Each write stores or adds by its own output's mark: that is what `write` of magnetron says. Assumes nothing.
use mathlib.Core.Path.{◌≡◌, refl, sym, ◌∙◌}
use mathlib.Core.Logic.{◌≢◌}
use mathlib.Core.Bool.{true}
use mathlib.Core.List.{List, zip_with}
use Prim.Native.Nat.{ℕ, ◌≤◌}
use lib.ListN.{get_or, replicate}
use lib.Ieee.{Float, nan, binary64, mul}
use Rattle.numbers.specs.Constants.{zero64}
use Rattle.answers.specs.Activity.{greater_of}
use Rattle.answers.specs.declared.activity.StageActivity.{StageActivity}
use Rattle.magnetron.specs.Signals.{tab}
use Rattle.magnetron.specs.Buffers.{Banks, Write, capacity_at, line_at, heard, write, activity_of}
use Rattle.magnetron.specs.declared.buffer.BufferIndex.{BufferIndex}
use Rattle.magnetron.proofs.Bridge.{map-tab}
use Rattle.magnetron.proofs.Writes.{write_swap}
use Rattle.microwave.specs.Parameter.{number_for, numbers_of, required, of_pair}
use Rattle.microwave.specs.declared.parameter.Ask.{Ask}
use Rattle.microwave.specs.declared.parameter.Parameter.{Parameter}
use Rattle.stages.specs.declared.kind.Kind.TheVariants.{Pan}
use Rattle.stages.specs.declared.kind.Side.{Side}
use Rattle.engine.specs.Run.{Plan, World, stage_at, shape_in, put_played, staged, louder}

module _ (P : Plan) (k : ℕ) (input left : BufferIndex) (level gain : Parameter) (right : Side)
    (pan : stage_at P k ≡ record { kind = Pan input gain right; output = left; out_level = level }) where
  -- the number that answers an ask in this run
  abbrev number : Ask → Float
  number ask = number_for ask P.values P.window.render_window_secs

  -- (s times gain) times level, of each sample that is heard
  abbrev panned : Ask → Ask → Banks → List Float
  panned gain level b =
      tab P.window.buffer_len (λ i. mul binary64 (mul binary64 (get_or (heard P.window.buffer_len (line_at (shape_in P) input b)) i nan) (number gain)) (number level))

  abbrev left_write : Banks → Write
  left_write b = record { to = left; values = panned (required gain) (of_pair level right.out_level) b }

  abbrev right_write : Banks → Write
  right_write b = record { to = right.output; values = panned (required right.gain) (of_pair right.out_level level) b }

  pub pan_writes : (w : World) → (staged P k w).banks ≡ write (shape_in P) (right_write w.banks) (write (shape_in P) (left_write w.banks) w.banks)
  unfolding staged put_played numbers_of zip_with
  pan_writes w = rw pan (rw (map-tab, map-tab) refl)

  pub pan_either : ((b : BufferIndex) → (shape_in P).window ≤ capacity_at (shape_in P) b) → left ≢ right.output
      → (w : World) → (staged P k w).banks ≡ write (shape_in P) (left_write w.banks) (write (shape_in P) (right_write w.banks) w.banks)
  pan_either fits differ w = pan_writes w ∙ write_swap (shape_in P) fits (right_write w.banks) (left_write w.banks) w.banks (λ e. differ (sym e))

  pub pan_stale : (b : Banks) → (line_at (shape_in P) input b).stale ≡ true → (gain level : Ask)
      → panned gain level b ≡ tab P.window.buffer_len (λ i. mul binary64 (mul binary64 (get_or (replicate P.window.buffer_len zero64) i nan) (number gain)) (number level))
  unfolding heard
  pan_stale b e gain level = rw e refl

  pub pan_louder : (a : StageActivity) → louder P k a ≡ greater_of (greater_of a (activity_of left)) (activity_of right.output)
  unfolding louder
  pan_louder a = rw pan refl
