-- The checks of the single operations, and what it tells that they passed.
-- Assumes nothing.
use mathlib.Core.Path.{◌≡◌, refl, sym, ap}
use mathlib.Core.Bool.{Bool, true, true≢false}
use mathlib.Core.Option.{Option, none, some}
use Rattle.std.specs.Prelude.{None, Result, Ok, Err, is_ok, ⊤}
use mathlib.Core.List.{List, [], ◌∷◌, ◌++◌}
use lib.ListN.{length}
use lib.Ieee.{Float}
use Rattle.order.specs.Checks.{unless, first, passed}
use Rattle.answers.specs.declared.refusal.Reason.{Reason}
use Rattle.answers.specs.declared.refusal.Reason.TheVariants.{Bounds, Window, Buffer, Clash}
use Rattle.answers.specs.declared.refusal.Refusal.{Refusal}
use Rattle.answers.specs.Refusal.{verdict_of}
use Rattle.answers.proofs.Verdicts.{unless-passed, first-passed}
use Rattle.magnetron.specs.Buffers.{pick, list_of}
use Rattle.magnetron.specs.Pools.{marks_in}
use Rattle.magnetron.specs.Checks.{window_ok, has_buffer, all_there, no_clash}
use Rattle.magnetron.specs.Single.{Lent, lent_ok, length_ok, prepare_fault, read_fault, write_fault}
use Rattle.magnetron.specs.Inside.Room.{Held, Writable}
use Rattle.magnetron.specs.declared.buffer.BufferIndex.{BufferIndex}
use Rattle.magnetron.specs.declared.buffer.BufferIndex.TheVariants.{External, Internal}
use Rattle.magnetron.specs.declared.inputs.Inputs.{Inputs}
use Rattle.magnetron.proofs.Told.{held}

-- a refusal is that of the check's reason, and names no stage
refusal_in : Refusal → Result ⊤ Refusal → Refusal
refusal_in r (Ok t) = r
refusal_in r (Err q) = q

pub refused_with : (o : Option Reason) (r : Refusal) → verdict_of o ≡ Err r → (q : Reason) × (o ≡ some q) × (r ≡ record { reason = q; stage = None })
unfolding verdict_of refusal_in
refused_with none r e = absurd (true≢false (ap is_ok e))
refused_with (some q) r e = (q, refl, sym (ap (refusal_in r) e))

pub accepted_none : (o : Option Reason) → verdict_of o ≡ Ok tt → o ≡ none
unfolding verdict_of
accepted_none none e = refl
accepted_none (some q) e = absurd (true≢false (sym (ap is_ok e)))

module _ (l : Lent) where
  pub prepare_told : passed (prepare_fault l) ≡ true → (lent_ok l ≡ true) × (window_ok l.pools l.window ≡ true)
  unfolding prepare_fault
  prepare_told e =
      let t = first-passed (unless (lent_ok l) Bounds) (unless (window_ok l.pools l.window) Window) e in
      (unless-passed (lent_ok l) Bounds t.0, unless-passed (window_ok l.pools l.window) Window t.1)

  module _ (b : BufferIndex) where
    pub read_told : passed (read_fault l b) ≡ true → (passed (prepare_fault l) ≡ true) × (has_buffer l.pools b ≡ true)
    unfolding read_fault
    read_told e =
        let t = first-passed (prepare_fault l) (unless (has_buffer l.pools b) Buffer) e in
        (t.0, unless-passed (has_buffer l.pools b) Buffer t.1)

  module _ (inputs : Inputs) (values : List Float) (output : BufferIndex) where
    abbrev long : Bool
    long = length_ok inputs (length values) l.window

    abbrev there : Bool
    there = all_there l.pools (list_of inputs ++ (output ∷ []))

    abbrev clear : Bool
    clear = no_clash l.window (list_of inputs) (output ∷ []) (marks_in l.pools)

    write-told : passed (write_fault l inputs values output) ≡ true → (passed (prepare_fault l) ≡ true) × (long ≡ true) × (there ≡ true) × (clear ≡ true)
    unfolding write_fault
    write-told e =
        let t = first-passed (prepare_fault l) (first (unless long Window) (first (unless there Buffer) (unless clear Clash))) e in
        let u = first-passed (unless long Window) (first (unless there Buffer) (unless clear Clash)) t.1 in
        let v = first-passed (unless there Buffer) (unless clear Clash) u.1 in
        (t.0, unless-passed long Window u.0, unless-passed there Buffer v.0, unless-passed clear Clash v.1)

  -- what is known of a write to `output`, which is `o`
  pub writable : (inputs : Inputs) (values : List Float) {output : BufferIndex} (o : BufferIndex) → output ≡ o → passed (write_fault l inputs values output) ≡ true
      → Writable l.pools inputs (pick o l.internal l.external) (pick o l.external l.internal) values output l.window
  writable inputs values {output} o q e =
      let t = write-told inputs values output e in
      let u = prepare_told t.0 in
      record { held = rw q (by o (held l.pools _ _ l.window l.zeros u.0 u.1)); long = t.1; there = t.2; clear = t.3 }
    where
      by : (b : BufferIndex) → Held l.pools (length l.internal) (length l.external) l.window
          → Held l.pools (pick b (length (pick b l.internal l.external)) (length (pick b l.external l.internal))) (pick b (length (pick b l.external l.internal)) (length (pick b l.internal l.external))) l.window
      by (External k) h = h
      by (Internal k) h = h
