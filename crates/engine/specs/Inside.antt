-- What private functions ask and promise, in the definition's words: no reader of a run need believe it. Definitions only. Assumes nothing.
use Rattle.std.specs.Prelude.{◌≡◌, true, List, [], ◌∷◌, ◌++◌, ℕ, ◌≤◌, ◌<◌, length, Float, Result, Ok, Err, ⊤}
use Rattle.std.proofs.Math.Option.{Option, none, some}
use Rattle.order.specs.Order.{Among, runs}
use Rattle.order.specs.Checks.{passed, verdict}
use Rattle.answers.specs.declared.refusal.Refusal.{Refusal}
use Rattle.magnetron.specs.Buffers.{pick, Banks, write, pairs, marks_of, stale_at}
use Rattle.magnetron.specs.Pools.{marks_in, base_of, shape_of, banks_of}
use Rattle.magnetron.specs.Inside.Room.{Held}
use Rattle.magnetron.specs.Checks.{all_there, no_clash}
use Rattle.magnetron.specs.Inside.Source.{source_of, signal_of}
use Rattle.magnetron.specs.Inside.Target.{written}
use Rattle.magnetron.specs.declared.buffer.Marks.{Marks}
use Rattle.magnetron.specs.declared.buffer.BufferIndex.{BufferIndex}
use Rattle.magnetron.specs.declared.source.Source.TheVariants.{Zeros}
use Rattle.magnetron.specs.declared.output.Target.{Target}
use Rattle.magnetron.specs.declared.pool.Pools.{Pools}
use Rattle.microwave.specs.Parameter.{required, of_pair, number_for, ask_at, numbers_of}
use Rattle.microwave.specs.Plain.{gained}
use Rattle.microwave.specs.declared.parameter.Numbers.{Numbers}
use Rattle.stages.specs.declared.kind.Side.{Side}
use Rattle.stages.specs.declared.stage.Stage.{Stage}
use Rattle.stages.specs.declared.state.State.{State}
use Rattle.stages.specs.declared.window.RenderWindow.{RenderWindow}
use Rattle.stages.specs.declared.machine.Sources.{Sources}
use Rattle.stages.specs.Stage.{inputs_of, outputs_of, asks_of, level_asks, Own, own, ring_len, ring_fine, settled, entered}
use Rattle.stages.specs.Rings.{ring_at, fine_in}
use Rattle.engine.specs.declared.records.Records.{Records}
use Rattle.engine.specs.Run.{Plan, World, sounded, heard_of, played, all_below, fault_of, fault, turned}

-- ---- answers

-- done, or a refusal with its stage; of one stage the reason says all: answers' `result_of`
abbrev pub returned : Option Refusal → Result ⊤ Refusal
returned none = Ok tt
returned (some r) = Err r

-- ---- what is given by value, with what is lent

abbrev pub world_with : Marks → List State → List Float → List Float → List Float → World
world_with m states internal external rings = record { banks = banks_of internal external m; states = states; rings = rings }

abbrev pub plan_in : Records → List Float → Plan
plan_in r values = record { patch = r.patch; pools = r.pools; window = r.window; values = values }

abbrev pub world_in : Records → List Float → List Float → List Float → World
world_in r internal external rings = world_with (marks_in r.pools) r.states.stages internal external rings

-- ---- a stage's turn

-- the numbers that its parameters give, and those of its levels
abbrev pub numbers_in : List Float → RenderWindow → Stage → Numbers
numbers_in values w t = numbers_of (asks_of t.kind) values w.render_window_secs

abbrev pub level_at : List Float → RenderWindow → Stage → ℕ → Float
level_at values w t i = number_for (ask_at (level_asks t) i) values w.render_window_secs

-- what the stage keeps at the start of a window, and what it writes to its own output
abbrev pub start_in : List Float → RenderWindow → Stage → Own → Own
start_in values w t o = own (entered t.kind (numbers_in values w t) o.state) o.ring

abbrev pub first_of : Pools → RenderWindow → List Float → Stage → Own → Banks → List Float
first_of p w values t o b =
    sounded w.buffer_len (start_in values w t o) (heard_of p w.buffer_len (inputs_of t.kind) b) (level_at values w t 0) (settled t.kind (numbers_in values w t) w o.state)

-- each input begins where a slice can
pub record Placed (p : Pools) (inputs : List BufferIndex) : Type 0 where
  pub each : (b : BufferIndex) → Among b inputs → base_of p b ≤ 65536

abbrev pub sources_of : Pools → Marks → BufferIndex → List BufferIndex → Sources
sources_of p m o [] = record { first = Zeros; second = Zeros }
sources_of p m o (a ∷ []) = record { first = source_of p m a o; second = Zeros }
sources_of p m o (a ∷ b ∷ rest) = record { first = source_of p m a o; second = source_of p m b o }

-- where an output is written, and how: by its mark
abbrev pub target_of : Pools → Marks → ℕ → BufferIndex → Float → Target
target_of p m samples output level = record { base = base_of p output; samples = samples; stale = stale_at output m; level = level }

-- what the checks have established of one output of a stage whose turn it is; its pool has the samples `own`, and the other pool `other`
pub record Wired (p : Pools) (w : RenderWindow) (t : Stage) (m : Marks) (output : BufferIndex) (own other : List Float) : Type 0 where
  pub held : Held p (pick output (length own) (length other)) (pick output (length other) (length own)) w.buffer_len
  pub there : all_there p (inputs_of t.kind ++ outputs_of t) ≡ true
  pub clear : no_clash w.buffer_len (inputs_of t.kind) (outputs_of t) m ≡ true
  pub among : Among output (outputs_of t)

-- and of the stage; its own output's pool has the samples `own`, and the other pool `other`
pub record Ready (p : Pools) (w : RenderWindow) (values : List Float) (t : Stage) (m : Marks) (o : Own) (own other : List Float) : Type 0 where
  pub held : Held p (pick t.output (length own) (length other)) (pick t.output (length other) (length own)) w.buffer_len
  pub sound : passed (fault_of p w values t m) ≡ true
  pub fine : ring_fine t.kind o.state ≡ true
  pub long : length o.ring ≡ ring_len t.kind

-- what the write of its own output leaves: what the definition plays is kept
pub record Begun (p : Pools) (w : RenderWindow) (values : List Float) (t : Stage) (o : Own) (b : Banks) (o' : Own) (b' : Banks) : Type 0 where
  pub kept : o' ≡ (played p w values t o b).kept
  pub banks : b' ≡ write (shape_of p w.buffer_len) (record { to = t.output; values = first_of p w values t o b }) b

-- what the write of a second output leaves of its pool, by the marks of before the first
abbrev pub second_in : Pools → RenderWindow → List Float → Stage → Marks → Side → List Float → List Float → List Float
second_in p w values t m side own other =
    let a = sources_of p m side.output (inputs_of t.kind) in
    written own (target_of p m w.buffer_len side.output (number_for (of_pair side.out_level t.out_level) values w.render_window_secs))
    (λ i. gained (number_for (required side.gain) values w.render_window_secs) (signal_of a.first own other i))

-- what its turn leaves: what the definition plays is kept, and written
pub record Turned (p : Pools) (w : RenderWindow) (values : List Float) (t : Stage) (o : Own) (b : Banks) (o' : Own) (b' : Banks) : Type 0 where
  pub kept : o' ≡ (played p w values t o b).kept
  pub banks : b' ≡ runs (write (shape_of p w.buffer_len)) (pairs (outputs_of t) (played p w values t o b).outs) b

-- ---- what the checks have established, before the first sample and at each turn

-- 1 to 4
pub record Admitted (P : Plan) (ks : List ℕ) (w : World) : Type 0 where
  pub pools : Held P.pools (length w.banks.internal.samples) (length w.banks.external.samples) P.window.buffer_len
  pub few : P.patch.count ≤ 32
  pub short : length ks ≤ 32
  pub below : all_below P.patch.count ks ≡ true
  pub fine : (k : ℕ) → k < P.patch.count → fine_in P.patch w.states k ≡ true
  pub roomy : ring_at P.patch P.patch.count ≤ length w.rings

-- all of them
pub record Passed (P : Plan) (ks : List ℕ) (w : World) : Type 0 where
  pub admitted : Admitted P ks w
  pub sound : passed (verdict (fault P) (turned P) ks (marks_of w.banks)) ≡ true
