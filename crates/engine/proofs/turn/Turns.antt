-- A stage whose checks passed: its buffers lie where its loops look, its inputs clear of its outputs, its ring holds its string, and what its
-- machines leave is what the definition says.
--     output_small, inputs-placed, lies, clears     where the buffers of one output lie
--     wrote                           what a machine leaves of one output, in the definition's words
--     own_wired, playable, begun      the stage's own output
--     second_wired, second-done       a second one, once that is written
--     one-done                        a stage that has no second one
-- Assumes nothing.
use mathlib.Core.Path.{◌≡◌, refl, sym, ap, ap₂, subst, ◌∙◌}
use mathlib.Core.Logic.{◌≢◌, inl, inr}
use mathlib.Core.Bool.{Bool, true, not}
use mathlib.Core.List.{List, [], ◌∷◌, ◌++◌, map, zip_with}
use Prim.Native.Nat.{ℕ, ◌+◌, ◌<◌, ◌≤◌}
use lib.ListN.{length}
use lib.Ieee.{Float}
use borrow.Author.Tests.{not-true}
use Rattle.std.specs.Prelude.{Option, None, Some}
use Rattle.numbers.specs.Constants.{zero64}
use Rattle.order.specs.Order.{Among, runs}
use Rattle.answers.proofs.Tests.{and_left}
use Rattle.magnetron.specs.Buffers.{pick, Banks, Shape, stale_at, cleared, write, pairs, hits}
use Rattle.magnetron.specs.Pools.{base_of, shape_of, banks_of, sided}
use Rattle.magnetron.specs.Checks.{has_buffer, none_twice}
use Rattle.magnetron.specs.Inside.Source.{source_of, Clear}
use Rattle.magnetron.specs.Inside.Room.{Held}
use Rattle.magnetron.specs.Inside.Target.{written}
use Rattle.magnetron.specs.Single.{levelled}
use Rattle.magnetron.specs.Signals.{state_at, machine as machine_of}
use Rattle.magnetron.specs.declared.buffer.Marks.{Marks}
use Rattle.magnetron.specs.declared.buffer.BufferIndex.{BufferIndex}
use Rattle.magnetron.specs.declared.buffer.BufferIndex.TheVariants.{External, Internal}
use Rattle.magnetron.specs.declared.source.Source.{Source}
use Rattle.magnetron.specs.declared.source.Source.TheVariants.{Zeros}
use Rattle.magnetron.specs.declared.pool.Pools.{Pools}
use Rattle.magnetron.proofs.Windows.{tab_ext}
use Rattle.magnetron.proofs.Bridge.{state_at_same, machine_same}
use Rattle.magnetron.proofs.Told.{all_there_lem, base_small, ApartFrom, apart_from, place-own, clear_source, heard-at, write-own}
use Rattle.magnetron.proofs.Stores.{mark_other, hits_none}
use Rattle.magnetron.proofs.Writes.{map_same}
use Rattle.magnetron.proofs.Second.{heard_again}
use Rattle.microwave.specs.Parameter.{required, of_pair, number_for, ask_at, numbers_of}
use Rattle.microwave.specs.declared.parameter.Parameter.{Parameter}
use Rattle.microwave.specs.declared.parameter.Parameter.TheVariants.{Absent}
use Rattle.microwave.specs.declared.parameter.Numbers.{Numbers}
use Rattle.microwave.specs.declared.parameter.Ask.{Ask}
use Rattle.stages.specs.declared.kind.Kind.{Kind}
use Rattle.stages.specs.declared.kind.Kind.TheVariants.{Pass, Pow3, Clip, Filter, Oscillator, ModOscillator, Waveguide, RingModulator, Pan}
use Rattle.stages.specs.declared.kind.Side.{Side}
use Rattle.stages.specs.declared.stage.Stage.{Stage}
use Rattle.stages.specs.declared.window.RenderWindow.{RenderWindow}
use Rattle.stages.specs.declared.machine.Machine.{Machine}
use Rattle.stages.specs.declared.machine.Machine.TheVariants as machine
use Rattle.stages.specs.declared.machine.Sources.{Sources}
use Rattle.stages.specs.Stage.{inputs_of, second_of, outputs_by, outputs_of, levels_by, Own, settled, machines_by, asks_of, next_of, out_of}
use Rattle.stages.specs.Inside.{hearing, Playable, Stepped}
use Rattle.stages.proofs.Lens.{gain-stepped}
use Rattle.stages.proofs.Positions.{strings_fit}
use Rattle.engine.specs.Run.{hears, sounded, heard_of}
use Rattle.engine.specs.Inside.{Placed, sources_of, target_of, numbers_in, level_at, start_in, first_of, second_in, Wired, Ready, Begun, Turned}
use Rattle.engine.proofs.Faults.{Sound, sound}
use Rattle.engine.proofs.Along.{held-sided, held_whole}

among-append : {A : Type 0} (a : A) (xs ys : List A) → Among a xs → Among a (xs ++ ys)
among-append a [] ys m = elim m [ ]
among-append a (x ∷ xs) ys (inl e) = inl e
among-append a (x ∷ xs) ys (inr m) = inr (among-append a xs ys m)

among-after : {A : Type 0} (a : A) (xs ys : List A) → Among a ys → Among a (xs ++ ys)
among-after a [] ys m = m
among-after a (x ∷ xs) ys m = inr (among-after a xs ys m)

-- ---- the inputs

-- what holds of each input's place, and of zeros, holds of both places
module _ (C : Source → Type 0) (z : C Zeros) (p : Pools) (m : Marks) (o : BufferIndex) where
  both : (l : List BufferIndex) → ((b : BufferIndex) → Among b l → C (source_of p m b o)) → C (sources_of p m o l).first × C (sources_of p m o l).second
  both [] h = (z, z)
  both (a ∷ []) h = (h a (inl refl), z)
  both (a ∷ b ∷ l) h = (h a (inl refl), h b (inr (inl refl)))

module _ (p : Pools) (m : Marks) (o : BufferIndex) (own other : List Float) (n : ℕ) (held : Held p (pick o (length own) (length other)) (pick o (length other) (length own)) n) where
  -- what the loop hears is what is heard
  heard_same : (l : List BufferIndex) → ((b : BufferIndex) → Among b l → has_buffer p b ≡ true) → (i : ℕ) → i < n
      → hearing (sources_of p m o l) own other i ≡ hears (heard_of p n l (sided o own other m)) i
  heard_same [] h i lt = refl
  heard_same (a ∷ []) h i lt = λ j. record { first = sym (heard-at p m o own other n held a i (h a (inl refl)) lt) j; second = zero64 }
  heard_same (a ∷ b ∷ l) h i lt = λ j. record {
    first = sym (heard-at p m o own other n held a i (h a (inl refl)) lt) j;
    second = sym (heard-at p m o own other n held b i (h b (inr (inl refl))) lt) j;
  }

-- ---- one output

module _ {p : Pools} {w : RenderWindow} {t : Stage} {m : Marks} {output : BufferIndex} {own other : List Float} (r : Wired p w t m output own other) where
  output_there : has_buffer p output ≡ true
  output_there = all_there_lem p (inputs_of t.kind ++ outputs_of t) r.there output (among-after output (inputs_of t.kind) (outputs_of t) r.among)

  input_there : (b : BufferIndex) → Among b (inputs_of t.kind) → has_buffer p b ≡ true
  input_there b k = all_there_lem p (inputs_of t.kind ++ outputs_of t) r.there b (among-append b (inputs_of t.kind) (outputs_of t) k)

  pub output_small : base_of p output ≤ 65536
  output_small = base_small p _ _ _ r.held output output_there

  pub inputs-placed : Placed p (inputs_of t.kind)
  inputs-placed = record { each = λ b k. base_small p _ _ _ r.held b (input_there b k) }

  abbrev inputs : Sources
  inputs = sources_of p m output (inputs_of t.kind)

  pub lies : base_of p output + w.buffer_len ≤ length own
  lies = place-own p m output own other _ r.held output_there

  apart : (b : BufferIndex) → Among b (inputs_of t.kind) → ApartFrom m w.buffer_len output b
  apart b k = apart_from m _ (inputs_of t.kind) (outputs_of t) output b r.among k r.clear

  pub clears : Clear inputs.first (length own) (length other) (base_of p output) w.buffer_len × Clear inputs.second (length own) (length other) (base_of p output) w.buffer_len
  clears =
      both (λ (a : Source). Clear a (length own) (length other) (base_of p output) w.buffer_len) tt p m output (inputs_of t.kind)
      (λ b k. clear_source p m output own other _ r.held b (input_there b k) (apart b k))

  abbrev heard_here : List (List Float)
  heard_here = heard_of p w.buffer_len (inputs_of t.kind) (sided output own other m)

  -- what is written, by any marks that have the output's as it was
  pub wrote : (level : Float) (k : Machine) (start : Own) (m' : Marks) → stale_at output m' ≡ stale_at output m → {o' : Own} {own' : List Float}
      → Stepped k start (hearing inputs own other) own (target_of p m w.buffer_len output level) o' own'
      → (o' ≡ state_at (next_of k) start (hears heard_here) w.buffer_len)
      × (sided output own' other (cleared output m') ≡ write (shape_of p w.buffer_len) (record { to = output; values = sounded w.buffer_len start heard_here level k }) (sided output own other m'))
  wrote level k start m' e {o'} {own'} s =
      let same = heard_same p m output own other w.buffer_len r.held (inputs_of t.kind) input_there in
      let signal : ℕ → Float = machine_of (next_of k) (out_of k) start (hearing inputs own other) in (
        s.kept ∙ state_at_same (next_of k) start _ _ _ same,
        ap (λ (l : List Float). sided output l other (cleared output m')) (s.samples ∙ ap (λ (b : Bool). written own (record { base = base_of p output; samples = w.buffer_len; stale = b; level = level }) signal) (sym e))
            ∙ sym (write-own p m' output own other _ r.held level signal output_there)
            ∙ ap (λ (l : List Float). write (shape_of p w.buffer_len) (record { to = output; values = levelled level l }) (sided output own other m'))
            (tab_ext _ _ _ (machine_same (next_of k) start _ _ (out_of k) _ same)),
      )

-- ---- the stage's own output

-- it is the first of all
first_output : (s : Option Side) (output : BufferIndex) → Among output (outputs_by s output)
first_output None output = inl refl
first_output (Some side) output = inl refl

module _ {p : Pools} {w : RenderWindow} {values : List Float} {t : Stage} {m : Marks} {o : Own} {own other : List Float}
    (r : Ready p w values t m o own other) where
  told : Sound p w values t m
  told = sound p w values t m r.sound

  pub own_wired : Wired p w t m t.output own other
  own_wired = record { held = r.held; there = told.is_there_lem; clear = told.is_clear; among = first_output (second_of t.kind) t.output }

  abbrev pub machine_here : Machine
  machine_here = settled t.kind (numbers_in values w t) w o.state

  pub playable : Playable machine_here (start_in values w t o) own other (sources_of p m t.output (inputs_of t.kind)) (target_of p m w.buffer_len t.output (level_at values w t 0))
  playable = record {
    lies = lies own_wired;
    first = (clears own_wired).0;
    second = (clears own_wired).1;
    ring = strings_fit t.kind (numbers_in values w t) w o r.fine r.long;
  }

  pub begun : (o' : Own) (own' : List Float)
      → Stepped machine_here (start_in values w t o) (hearing (sources_of p m t.output (inputs_of t.kind)) own other) own (target_of p m w.buffer_len t.output (level_at values w t 0)) o' own'
      → Begun p w values t o (sided t.output own other m) o' (sided t.output own' other (cleared t.output m))
  begun o' own' s =
      let done = wrote own_wired (level_at values w t 0) machine_here (start_in values w t o) m refl s in
      record { kept = done.0; banks = done.1 }

-- ---- the pool that the output's kind picks

module _ {p : Pools} {w : RenderWindow} {values : List Float} {t : Stage} {o : Own} {b : BufferIndex} (q : t.output ≡ b) where
  pub ready_at : (internal external : List Float) {m : Marks} → Ready p w values t m o (pick t.output internal external) (pick t.output external internal)
      → Ready p w values t m o (pick b internal external) (pick b external internal)
  ready_at internal external {m} = subst (λ (c : BufferIndex). Ready p w values t m o (pick c internal external) (pick c external internal)) q

  pub begun_at : (own own' other : List Float) {m m' : Marks} {o' : Own} → Begun p w values t o (sided t.output own other m) o' (sided t.output own' other m')
      → Begun p w values t o (sided b own other m) o' (sided b own' other m')
  begun_at own own' other {m} {m'} {o'} = subst (λ (c : BufferIndex). Begun p w values t o (sided c own other m) o' (sided c own' other m')) q

-- ---- a second output, once the stage's own is written

sided-both : (b : BufferIndex) (internal external : List Float) (m : Marks) → sided b (pick b internal external) (pick b external internal) m ≡ banks_of internal external m
sided-both (External k) internal external m = refl
sided-both (Internal k) internal external m = refl

-- the writes of a stage, by its second output
module _ (h : Shape) (sound : Float → Machine → List Float) (number : Ask → Float) (output : BufferIndex) (level : Parameter) (m : Machine) (q : Numbers) (b : Banks) where
  abbrev writes : Option Side → Banks
  writes s = runs (write h) (pairs (outputs_by s output) (zip_with sound (map number (levels_by s level)) (machines_by s m q))) b

  abbrev first-write : Option Side → Banks
  first-write s = write h (record { to = output; values = sound (number (ask_at (levels_by s level) 0)) m }) b

  one-write : (s : Option Side) → None ≡ s → first-write s ≡ writes s
  unfolding zip_with
  one-write s e = rw (sym e) refl

  two_writes : (s : Option Side) (side : Side) → Some side ≡ s
      → write h (record { to = side.output; values = sound (number (of_pair side.out_level level)) (machine.Gain q.second) }) (first-write s) ≡ writes s
  unfolding zip_with
  two_writes s side e = rw (sym e) refl

-- and its outputs
second_output_lem : (s : Option Side) (side : Side) (output : BufferIndex) → Some side ≡ s → Among side.output (outputs_by s output)
second_output_lem s side output e = rw (sym e) (inr (inl refl))

second_differs : (s : Option Side) (side : Side) (output : BufferIndex) → Some side ≡ s → none_twice (outputs_by s output) ≡ true → side.output ≢ output
second_differs s side output e d q = hits_none output (side.output ∷ []) (not-true _ (and_left (not (hits output (side.output ∷ []))) true (rw (sym e) at d))) side.output (inl refl) (sym q)

-- its gain is the second parameter that the stage asks for
abbrev gain_of : Option Side → Parameter
gain_of None = Absent
gain_of (Some side) = side.gain

not_nothing : (side : Side) → Some side ≡ None → ⊥
not_nothing side q = cc

second-gain : (kind : Kind) (side : Side) → Some side ≡ second_of kind → (values : List Float) (seconds : Float)
    → number_for (required side.gain) values seconds ≡ (numbers_of (asks_of kind) values seconds).second
unfolding numbers_of
second-gain (Pass a) side q values seconds = absurd (not_nothing side q)
second-gain (Pow3 a) side q values seconds = absurd (not_nothing side q)
second-gain (Clip a limit) side q values seconds = absurd (not_nothing side q)
second-gain (Filter a f) side q values seconds = absurd (not_nothing side q)
second-gain (Oscillator k) side q values seconds = absurd (not_nothing side q)
second-gain (ModOscillator a k m) side q values seconds = absurd (not_nothing side q)
second-gain (Waveguide a g) side q values seconds = absurd (not_nothing side q)
second-gain (RingModulator a b) side q values seconds = absurd (not_nothing side q)
second-gain (Pan a gain right) side q values seconds = ap (λ (s : Option Side). number_for (required (gain_of s)) values seconds) q

module _ (p : Pools) (w : RenderWindow) (values : List Float) (t : Stage) (m : Marks) (o : Own) (internal external : List Float) where
  abbrev before : Banks
  before = banks_of internal external m

  abbrev shape : Shape
  shape = shape_of p w.buffer_len

  abbrev second : Option Side
  second = second_of t.kind

  abbrev sounds : Float → Machine → List Float
  sounds = sounded w.buffer_len (start_in values w t o) (heard_of p w.buffer_len (inputs_of t.kind) before)

  abbrev number : Ask → Float
  number ask = number_for ask values w.render_window_secs

  abbrev all_cleared : Marks
  all_cleared = runs cleared (outputs_of t) m

  module _ {o' : Own} {internal' external' : List Float} (first : Begun p w values t o before o' (banks_of internal' external' (cleared t.output m))) where
    pub one-done : None ≡ second → Turned p w values t o before o' (banks_of internal' external' all_cleared)
    one-done q = record {
      kept = first.kept;
      banks =
          ap (λ (s : Option Side). banks_of internal' external' (runs cleared (outputs_by s t.output) m)) (sym q)
          ∙ first.banks
          ∙ one-write shape sounds number t.output t.out_level (settled t.kind (numbers_in values w t) w o.state) (numbers_in values w t) before second q;
    }

    module _ (r : Ready p w values t m o (pick t.output internal external) (pick t.output external internal))
        (same-internal : length internal' ≡ length internal) (same-external : length external' ≡ length external) {side : Side} (q : Some side ≡ second) where
      held_here : Held p (length internal) (length external) w.buffer_len
      held_here = held_whole p t.output internal external _ r.held

      wired : Wired p w t m side.output (pick side.output internal' external') (pick side.output external' internal')
      wired = record {
        held = held-sided p side.output internal' external' _ (rw (same-internal, same-external) held_here);
        there = (told r).is_there_lem;
        clear = (told r).is_clear;
        among = second_output_lem second side t.output q;
      }

      -- what is heard for the second output is what is heard at first
      heard_still : heard_of p w.buffer_len (inputs_of t.kind) (sided side.output (pick side.output internal' external') (pick side.output external' internal') m)
          ≡ heard_of p w.buffer_len (inputs_of t.kind) before
      heard_still =
          ap (heard_of p w.buffer_len (inputs_of t.kind)) (sided-both side.output internal' external' m)
          ∙ map_same _ _ (inputs_of t.kind) (λ b k. heard_again p m t.output w.buffer_len internal external _ held_here first.banks b (apart (own_wired r) b k))

      abbrev right_level : Float
      right_level = number (of_pair side.out_level t.out_level)

      abbrev right_gain : Float
      right_gain = number (required side.gain)

      done : (own' : List Float) → own' ≡ second_in p w values t m side (pick side.output internal' external') (pick side.output external' internal')
          → Turned p w values t o before o' (sided side.output own' (pick side.output external' internal') all_cleared)
      done own' e = record {
        kept = first.kept;
        banks =
            ap (λ (s : Option Side). sided side.output own' (pick side.output external' internal') (runs cleared (outputs_by s t.output) m)) (sym q)
            ∙ (wrote wired right_level (machine.Gain right_gain) (start_in values w t o) (cleared t.output m)
            (mark_other side.output t.output m (second_differs second side t.output q (told r).is_differing))
            (gain-stepped (sources_of p m side.output (inputs_of t.kind)) (pick side.output external' internal') e)).1
            ∙ ap₂ (λ (ins : List (List Float)) (b : Banks). write shape (record { to = side.output; values = sounded w.buffer_len (start_in values w t o) ins right_level (machine.Gain right_gain) }) b)
            heard_still (sided-both side.output internal' external' (cleared t.output m) ∙ first.banks)
            ∙ ap (λ (g : Float). write shape (record { to = side.output; values = sounds right_level (machine.Gain g) }) (write shape (record { to = t.output; values = first_of p w values t o before }) before))
            (second-gain t.kind side q values w.render_window_secs)
            ∙ two_writes shape sounds number t.output t.out_level (settled t.kind (numbers_in values w t) w o.state) (numbers_in values w t) before second side q;
      }

      module _ {b : BufferIndex} (at : side.output ≡ b) where
        pub second_wired : Wired p w t m side.output (pick b internal' external') (pick b external' internal')
        second_wired = subst (λ (c : BufferIndex). Wired p w t m side.output (pick c internal' external') (pick c external' internal')) at wired

        pub second-done : (own' : List Float) → own' ≡ second_in p w values t m side (pick b internal' external') (pick b external' internal')
            → Turned p w values t o before o' (sided b own' (pick b external' internal') all_cleared)
        second-done =
            subst (λ (c : BufferIndex). (own' : List Float) → own' ≡ second_in p w values t m side (pick c internal' external') (pick c external' internal')
            → Turned p w values t o before o' (sided c own' (pick c external' internal') all_cleared)) at done
