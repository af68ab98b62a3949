-- "a run changes only its own kind's part" of a stage's state record: of any run, accepted or refused, and any stage, ordered or not.
-- What a kind's part is, `specs/Families.antt` says. Assumes nothing.
use mathlib.Core.Path.{◌≡◌, refl, ◌∙◌}
use mathlib.Core.List.{List, [], ◌∷◌}
use mathlib.Core.Option.{Option, none, some}
use Prim.Native.Nat.{ℕ, zero, suc}
use lib.ListN.{get_or}
use lib.Ieee.{Float}
use Rattle.order.specs.Order.{runs}
use Rattle.answers.specs.declared.refusal.Refusal.{Refusal}
use Rattle.magnetron.specs.Signals.{state_at}
use Rattle.microwave.specs.Filter.{FilterType, machine_of, with_numbers}
use Rattle.microwave.specs.declared.filter.Filter.TheVariants as filter
use Rattle.microwave.specs.declared.parameter.Numbers.{Numbers}
use Rattle.stages.specs.declared.machine.Machine.{Machine}
use Rattle.stages.specs.declared.machine.Machine.TheVariants as machine
use Rattle.stages.specs.declared.window.RenderWindow.{RenderWindow}
use Rattle.stages.specs.declared.kind.Kind.{Kind}
use Rattle.stages.specs.declared.kind.Kind.TheVariants.{Pass, Pow3, Clip, Filter, Oscillator, ModOscillator, Waveguide, RingModulator, Pan}
use Rattle.stages.specs.declared.state.State.{State}
use Rattle.stages.specs.Stage.{Own, own, filter_machine, settled, entered, Hears, next_of}
use Rattle.stages.specs.Rings.{no_state, stage_in}
use Rattle.engine.specs.Run.{Given, Plan, World, stage_at, own_of, played_at, put_played, staged, judged, ended, rendered, after_by, plan_of, world_of, run_of}
use Rattle.engine.proofs.Along.{set_at_or}
use Rattle.laws.specs.Families.{Family, no_memory, phases, one_pole_family, biquad, string, filter_family, family_of, AlikeBut}

alike : (f : Family) (s : State) → AlikeBut f s s
alike no_memory s = refl
alike phases s = (refl, refl, refl)
alike one_pole_family s = (refl, refl, refl)
alike biquad s = (refl, refl, refl)
alike string s = (refl, refl, refl)

then : (f : Family) (s t u : State) → AlikeBut f s t → AlikeBut f t u → AlikeBut f s u
then no_memory s t u a b = a ∙ b
then phases s t u (a, b, c) (d, e, f) = (a ∙ d, b ∙ e, c ∙ f)
then one_pole_family s t u (a, b, c) (d, e, f) = (a ∙ d, b ∙ e, c ∙ f)
then biquad s t u (a, b, c) (d, e, f) = (a ∙ d, b ∙ e, c ∙ f)
then string s t u (a, b, c) (d, e, f) = (a ∙ d, b ∙ e, c ∙ f)

-- ---- a machine along a window

abbrev machine_family : Machine → Family
machine_family (machine.Plain k) = no_memory
machine_family (machine.Oscillator k) = phases
machine_family (machine.OnePole k) = one_pole_family
machine_family (machine.Biquad k) = biquad
machine_family (machine.Waveguide k) = string
machine_family (machine.Gain gain) = no_memory

next_part : (m : Machine) (o : Own) (x : Hears) → AlikeBut (machine_family m) o.state (next_of m o x).state
next_part (machine.Plain k) o x = refl
next_part (machine.Oscillator k) o x = (refl, refl, refl)
next_part (machine.OnePole k) o x = (refl, refl, refl)
next_part (machine.Biquad k) o x = (refl, refl, refl)
next_part (machine.Waveguide k) o x = (refl, refl, refl)
next_part (machine.Gain gain) o x = refl

window_part : (m : Machine) (o : Own) (x : ℕ → Hears) (n : ℕ) → AlikeBut (machine_family m) o.state (state_at (next_of m) o x n).state
unfolding state_at
window_part m o x zero = alike (machine_family m) o.state
window_part m o x (suc n) = then (machine_family m) _ _ _ (window_part m o x n) (next_part m (state_at (next_of m) o x n) (x n))

-- ---- a kind's machine is of its family

filter_family_lem : (f : FilterType) (a b w : Float) → machine_family (filter_machine (machine_of (with_numbers f a b) w)) ≡ filter_family f
unfolding machine_of
filter_family_lem (filter.LowPass cutoff) a b w = refl
filter_family_lem (filter.LowPass2 resonance quality) a b w = refl
filter_family_lem (filter.HighPass cutoff) a b w = refl
filter_family_lem (filter.HighPass2 resonance quality) a b w = refl
filter_family_lem (filter.BandPass center quality) a b w = refl
filter_family_lem (filter.Notch center quality) a b w = refl
filter_family_lem (filter.AllPass corner quality) a b w = refl

kind_family : (k : Kind) (q : Numbers) (window : RenderWindow) (s : State) → machine_family (settled k q window s) ≡ family_of k
kind_family (Pass a) q window s = refl
kind_family (Pow3 a) q window s = refl
kind_family (Clip a limit) q window s = refl
kind_family (Filter a f) q window s = filter_family_lem f q.first q.second window.sample_width_secs
kind_family (Oscillator o) q window s = refl
kind_family (ModOscillator a o m) q window s = refl
kind_family (Waveguide a g) q window s = refl
kind_family (RingModulator a b) q window s = refl
kind_family (Pan a gain right) q window s = refl

entered_part : (k : Kind) (q : Numbers) (s : State) → AlikeBut (family_of k) s (entered k q s)
entered_part (Pass a) q s = refl
entered_part (Pow3 a) q s = refl
entered_part (Clip a limit) q s = refl
entered_part (Filter a f) q s = alike (filter_family f) s
entered_part (Oscillator o) q s = (refl, refl, refl)
entered_part (ModOscillator a o m) q s = (refl, refl, refl)
entered_part (Waveguide a g) q s = (refl, refl, refl)
entered_part (RingModulator a b) q s = refl
entered_part (Pan a gain right) q s = refl

stage_part : (k : Kind) (q : Numbers) (window : RenderWindow) (s : State) (ring : List Float) (x : ℕ → Hears) (n : ℕ)
    → AlikeBut (family_of k) s (state_at (next_of (settled k q window s)) (own (entered k q s) ring) x n).state
stage_part k q window s ring x n =
    then (family_of k) _ _ _ (entered_part k q s) (rw kind_family at (window_part (settled k q window s) (own (entered k q s) ring) x n))

-- ---- along an order

module _ (P : Plan) where
  abbrev state_of : ℕ → World → State
  state_of k w = get_or w.states k no_state

  staged_part : (j k : ℕ) (w : World) → AlikeBut (family_of (stage_at P j).kind) (state_of j w) (state_of j (staged P k w))
  unfolding staged put_played own_of
  staged_part j k w =
      set_at_or (λ (i : ℕ) (s : State). AlikeBut (family_of (stage_at P i).kind) (state_of i w) s) w.states k j (played_at P k w).kept.state no_state
      (λ e. rw e (stage_part (stage_at P k).kind _ P.window (state_of k w) _ _ _)) (alike (family_of (stage_at P j).kind) (state_of j w))

  order_part : (j : ℕ) (ks : List ℕ) (w : World) → AlikeBut (family_of (stage_at P j).kind) (state_of j w) (state_of j (runs (staged P) ks w))
  order_part j [] w = alike (family_of (stage_at P j).kind) (state_of j w)
  order_part j (k ∷ ks) w = then (family_of (stage_at P j).kind) _ _ _ (staged_part j k w) (order_part j ks (staged P k w))

-- ---- a run

module _ (g : Given) (order : List ℕ) where
  abbrev family : ℕ → Family
  family k = family_of (stage_in g.patch k).kind

  pub own_part : (k : ℕ) → AlikeBut (family k) (get_or g.states.stages k no_state) (get_or (run_of g order).ran.states.stages k no_state)
  unfolding run_of rendered
  own_part k = go (judged (plan_of g) g.zeros order (world_of g))
    where
      go : (o : Option Refusal) → AlikeBut (family k) (get_or g.states.stages k no_state) (get_or (after_by (plan_of g) (world_of g) (ended (plan_of g) order (world_of g) o)).ran.states.stages k no_state)
      go none = unfold ended after_by in order_part (plan_of g) k order (world_of g)
      go (some v) = unfold ended after_by in alike (family k) (get_or g.states.stages k no_state)
