-- A single write whose checks passed: its buffers lie where its loops look, its inputs clear of its output, and what the loops leave is what the definition says.
-- The output's pool has the samples `own`, and the other pool `other`.
-- Assumes nothing.
use mathlib.Core.Path.{◌≡◌, refl, sym, ap, ◌∙◌}
use mathlib.Core.Logic.{inl, inr}
use mathlib.Core.Bool.{true}
use mathlib.Core.Option as found
use mathlib.Core.List.{List, [], ◌∷◌, ◌++◌}
use Prim.Native.Nat.{ℕ, ◌+◌, ◌≤◌}
use native.Mathlib.Omega.{arith}
use lib.ListN.{length}
use lib.Seq.{take_all}
use lib.Ieee.{Float, nan, binary64, mul}
use borrow.Author.Tests.{eqb-true}
use Rattle.order.specs.Order.{Among}
use Rattle.std.specs.Prelude.{Option, Ok, Err}
use Rattle.answers.specs.Refusal.{verdict_of}
use Rattle.answers.specs.declared.refusal.Reason.{Reason}
use Rattle.answers.specs.declared.refusal.Refusal.{Refusal}
use Rattle.magnetron.specs.Buffers.{Banks, pick, stale_at, cleared, list_of}
use Rattle.magnetron.specs.Pools.{marks_in, base_of, shape_of, sided}
use Rattle.magnetron.specs.Checks.{has_buffer}
use Rattle.magnetron.specs.Inside.Source.{source_of, signal_of, Clear}
use Rattle.magnetron.specs.Signals.{tab, window}
use Rattle.magnetron.specs.Inside.Mix.{mixed, times}
use Rattle.magnetron.specs.Single.{Lent, shape_in, values_of, level_of, write_fault, put_into, after_write, written_to, left_by, banks_in, write_of}
use Rattle.magnetron.specs.Inside.Room.{Writable}
use Rattle.magnetron.specs.declared.buffer.BufferIndex.{BufferIndex}
use Rattle.magnetron.specs.declared.buffer.BufferIndex.TheVariants.{External, Internal}
use Rattle.magnetron.specs.declared.pool.Pools.{Pools}
use Rattle.magnetron.specs.declared.inputs.Inputs.{Inputs}
use Rattle.magnetron.specs.declared.inputs.Inputs.TheVariants.{Nothing, One, Two}
use Rattle.magnetron.specs.declared.source.Source.TheVariants.{Other}
use Rattle.magnetron.proofs.Bridge.{part_tab, zip_tab}
use Rattle.magnetron.proofs.Places.{only, former, latter}
use Rattle.magnetron.proofs.Faults.{refused_with, accepted_none}
use Rattle.magnetron.proofs.Told.{all_there_lem, base_small, apart_from, place-own, clear_source, heard_source, write-own}

among-append : {A : Type 0} (a : A) (xs ys : List A) → Among a xs → Among a (xs ++ ys)
among-append a [] ys k = elim k [ ]
among-append a (x ∷ xs) ys (inl e) = inl e
among-append a (x ∷ xs) ys (inr m) = inr (among-append a xs ys m)

among_last : {A : Type 0} (a : A) (xs : List A) → Among a (xs ++ (a ∷ []))
among_last a [] = inl refl
among_last a (x ∷ xs) = inr (among_last a xs)

module _ {p : Pools} {inputs : Inputs} {own other values : List Float} {output : BufferIndex} {n : ℕ} (w : Writable p inputs own other values output n) where
  there : (b : BufferIndex) → Among b (list_of inputs ++ (output ∷ [])) → has_buffer p b ≡ true
  there = all_there_lem p (list_of inputs ++ (output ∷ [])) w.there

  output_there : has_buffer p output ≡ true
  output_there = there output (among_last output (list_of inputs))

  input_there : (a : BufferIndex) → Among a (list_of inputs) → has_buffer p a ≡ true
  input_there a k = there a (among-append a (list_of inputs) (output ∷ []) k)

  pub output_small : base_of p output ≤ 65536
  output_small = base_small p _ _ n w.held output output_there

  pub input_small : (a : BufferIndex) → Among a (list_of inputs) → base_of p a ≤ 65536
  input_small a k = base_small p _ _ n w.held a (input_there a k)

  pub output_lies : base_of p output + n ≤ length own
  output_lies = place-own p (marks_in p) output own other n w.held output_there

  pub input_clear : (a : BufferIndex) → Among a (list_of inputs) → Clear (source_of p (marks_in p) a output) (length own) (length other) (base_of p output) n
  input_clear a k =
      clear_source p (marks_in p) output own other n w.held a (input_there a k)
      (apart_from (marks_in p) n (list_of inputs) (output ∷ []) output a (inl refl) k w.clear)

  -- ---- the values as a signal

  abbrev signal : BufferIndex → ℕ → Float
  signal a = signal_of (source_of p (marks_in p) a output) own other

  abbrev Values : (ℕ → Float) → Type 0
  Values y = values_of (shape_of p n) inputs values (sided output own other (marks_in p)) ≡ tab n y

  pub long : inputs ≡ Nothing → n ≡ length values
  long q = sym (eqb-true (length values) n (rw q at w.long))

  pub values-lent : inputs ≡ Nothing → Values (signal_of (Other 0) own values)
  values-lent q = rw q (sym (take_all n values (omega (arith, long q))) ∙ part_tab values 0 n nan (omega (arith, long q)))

  pub values_one : (a : BufferIndex) → inputs ≡ One a → Values (signal a)
  values_one a q = rw q (heard_source p (marks_in p) output own other n w.held a (input_there a (only q)))

  pub values_two : (a b : BufferIndex) → inputs ≡ Two a b → Values (times (signal a) (signal b))
  values_two a b q =
      rw (
        q,
        heard_source p (marks_in p) output own other n w.held a (input_there a (former q)),
        heard_source p (marks_in p) output own other n w.held b (input_there b (latter q)),
      )
      (zip_tab (mul binary64) n (signal a) (signal b))

  pub laid-over : (level : Float) (y : ℕ → Float) (after : List Float) → Values y
      → after ≡ window own (base_of p output) n (mixed own (base_of p output) (stale_at output (marks_in p)) level y)
      → sided output after other (cleared output (marks_in p)) ≡ put_into (shape_of p n) inputs values output level (sided output own other (marks_in p))
  laid-over level y after e f = rw (e, f) (sym (write-own p (marks_in p) output own other n w.held level y output_there))

-- ---- what is left of a single write

module _ (l : Lent) (inputs : Inputs) (values : List Float) where
  pub write-refused : (output : BufferIndex) (level : Option Float) (r : Refusal) → verdict_of (write_fault l inputs values output) ≡ Err r
      → after_write (record { answer = Err r; pools = l.pools }) l.internal l.external ≡ write_of l inputs values output level
  unfolding write_of
  write-refused output level r e = go (write_fault l inputs values output) e
    where
      after : Banks
      after = put_into (shape_in l) inputs values output (level_of level) (banks_in l)

      go : (o : found.Option Reason) → verdict_of o ≡ Err r → after_write (record { answer = Err r; pools = l.pools }) l.internal l.external ≡ left_by o l output after
      go o e = let q = refused_with o r e in rw (q.1) (ap (λ (f : Refusal). after_write (record { answer = Err f; pools = l.pools }) l.internal l.external) q.2)

  -- of a write to `output`, which is `o`
  pub write_done : {output : BufferIndex} (level : Option Float) (o : BufferIndex) → output ≡ o → verdict_of (write_fault l inputs values output) ≡ Ok tt → (after : List Float)
      → sided output after (pick o l.external l.internal) (cleared output (marks_in l.pools))
      ≡ put_into (shape_in l) inputs values output (level_of level) (sided output (pick o l.internal l.external) (pick o l.external l.internal) (marks_in l.pools))
      → after_write (written_to output l.pools (cleared output (marks_in l.pools))) (pick o after l.internal) (pick o l.external after) ≡ write_of l inputs values output level
  unfolding write_of
  write_done level (External k) q ok after e = rw (accepted_none _ ok, q, ← (rw q at e))
  write_done level (Internal k) q ok after e = rw (accepted_none _ ok, q, ← (rw q at e))
