-- Two stages that are not tied change places: as steps of a run, and as turns of the checks. No kind of stage is looked at: what a stage
-- computes is a function of what it has to itself and of what it hears, whatever that function is.
--     staged_swap                          THE COMMUTING LAW, of two steps
--     fault_same, turn_swap              the same of the checks
--     untied                             what not being tied tells of two stages of the patch
--     tied_even                          being tied has no direction
--     tied-there                         a number that names no stage is tied to none
-- Assumes nothing.
use mathlib.Core.Path.{◌≡◌, refl, sym, ap, ap₂, ◌∙◌}
use mathlib.Core.Logic.{◌≢◌, inl, inr, ⊎_elim}
use mathlib.Core.Bool.{Bool, true, false, not, ◌&&◌, ◌||◌, and_comm, or_comm}
use mathlib.Core.List.{List, [], ◌∷◌, map}
use Prim.Native.Nat.{ℕ, ◌<◌, ◌≤◌}
use native.Mathlib.Nat.{eq-or-lt_of_le}
use lib.Dec.{ltb}
use lib.Ieee.{Float}
use lib.Seq.{get_or-set_other, set_comm}
use borrow.Author.Tests.{ltb-true, ltb-false, lt-ltb}
use Rattle.order.specs.Order.{Among, runs}
use Rattle.answers.proofs.Tests.{and_left, and_right, or_false_left, or_false_right}
use Rattle.magnetron.specs.Buffers.{capacity_at, Banks, line_at, heard, write, pairs, stale_at, cleared, hits, meets, clash}
use Rattle.magnetron.specs.Inside.Source.{Apart}
use Rattle.magnetron.specs.declared.buffer.Marks.{Marks}
use Rattle.magnetron.specs.declared.buffer.BufferIndex.{BufferIndex}
use Rattle.magnetron.proofs.Parts.{read_apart, store_apart}
use Rattle.magnetron.proofs.Stores.{mark_other, mark_swap, meets_none}
use Rattle.magnetron.proofs.Writes.{unseen, folds_swap, map_same, pairs-to, write_other, write_swap}
use Rattle.stages.specs.Stage.{own}
use Rattle.stages.specs.Rings.{no_state, sum_to, len_in, ring_at}
use Rattle.stages.proofs.EndToEnd.{sum_step}
use Rattle.engine.specs.Run.{Plan, World, ins_at, outs_at, shape_in, own_of, Played, played_at, put_played, staged, fault_of, fault, turned}
use Rattle.laws.specs.Tied.{is_there, disturbs, tied}

-- rings of two stages lie apart, since a ring ends where the next one begins, or before
rings_apart : (f : ℕ → ℕ) (i j : ℕ) → i ≢ j → Apart (sum_to i f) (f i) (sum_to j f) (f j)
rings_apart f i j d = go (ltb i j) refl
  where
    go : (b : Bool) → ltb i j ≡ b → Apart (sum_to i f) (f i) (sum_to j f) (f j)
    go true e = inl (sum_step f i j (ltb-true i j e))
    go false e = ⊎_elim (λ (q : j ≡ i). absurd (d (sym q))) (λ (l : j < i). inr (sum_step f j i l)) (eq-or-lt_of_le (ltb-false i j e))

-- whether an output is an input that is not stale depends on the outputs' marks only
clash_same : (ins outs : List BufferIndex) (m n : Marks) → ((b : BufferIndex) → Among b outs → stale_at b m ≡ stale_at b n) → clash ins outs m ≡ clash ins outs n
clash_same ins [] m n h = refl
clash_same ins (o ∷ outs) m n h = ap₂ (λ (x y : Bool). (hits o ins && not x) || y) (h o (inl refl)) (clash_same ins outs m n (λ b k. h b (inr k)))

module _ (P : Plan) where
  is_there_lem : (k : ℕ) → k < P.patch.count → is_there P k ≡ true
  is_there_lem k h = lt-ltb k P.patch.count h

  there_is : (k : ℕ) → is_there P k ≡ true → k < P.patch.count
  there_is k e = ltb-true k P.patch.count e

  -- what is known of two stages of the patch that are not tied: neither disturbs the other
  pub record Untied (j k : ℕ) : Type 0 where
    pub one : disturbs P j k ≡ false
    pub other : disturbs P k j ≡ false

  pub untied : (j k : ℕ) → j < P.patch.count → k < P.patch.count → tied P j k ≡ false → Untied j k
  unfolding tied
  untied j k j-there k-there e = record { one = or_false_left (disturbs P j k) _ neither; other = or_false_right (disturbs P j k) _ neither }
    where
      neither : (disturbs P j k || disturbs P k j) ≡ false
      neither = rw (is_there_lem j j-there, is_there_lem k k-there) at e

  turned_round : (j k : ℕ) → Untied j k → Untied k j
  turned_round j k u = record { one = u.other; other = u.one }

  pub tied_even : (j k : ℕ) → tied P j k ≡ tied P k j
  unfolding tied
  tied_even j k = ap₂ ◌&&◌ (and_comm (is_there P j) (is_there P k)) (or_comm (disturbs P j k) (disturbs P k j))

  -- A number that names no stage is tied to none.
  pub tied-there : (j k : ℕ) → tied P j k ≡ true → (j < P.patch.count) × (k < P.patch.count)
  unfolding tied
  tied-there j k e =
      let both : (is_there P j && is_there P k) ≡ true = and_left (is_there P j && is_there P k) _ e in
      (there_is j (and_left (is_there P j) (is_there P k) both), there_is k (and_right (is_there P j) (is_there P k) both))

  -- ---- what two stages that are not tied have in common: no buffer that one of them writes

  module _ (j k : ℕ) (e : Untied j k) where
    ins_differ : (b c : BufferIndex) → Among b (ins_at P j) → Among c (outs_at P k) → b ≢ c
    unfolding disturbs
    ins_differ b c m n q = meets_none (outs_at P k) (ins_at P j) (or_false_left (meets (outs_at P k) (ins_at P j)) _ e.other) c b n m (sym q)

    outs_differ : (b c : BufferIndex) → Among b (outs_at P j) → Among c (outs_at P k) → b ≢ c
    unfolding disturbs
    outs_differ = meets_none (outs_at P j) (outs_at P k) (or_false_right (meets (outs_at P j) (ins_at P k)) _ e.one)

  -- ---- the steps, where the window fits each buffer

  module _ (fits : (b : BufferIndex) → (shape_in P).window ≤ capacity_at (shape_in P) b) (j k : ℕ) (d : j ≢ k) (e : Untied j k) where
    heard_same : (vs : List (List Float)) (p : Banks)
        → map (λ (b : BufferIndex). heard P.window.buffer_len (line_at (shape_in P) b (runs (write (shape_in P)) (pairs (outs_at P k) vs) p))) (ins_at P j)
        ≡ map (λ (b : BufferIndex). heard P.window.buffer_len (line_at (shape_in P) b p)) (ins_at P j)
    heard_same vs p =
        map_same _ _ (ins_at P j) λ b m. ap (heard P.window.buffer_len)
        (unseen (write (shape_in P)) (line_at (shape_in P) b) (pairs (outs_at P k) vs)
        (λ u n q. write_other (shape_in P) fits b u q (ins_differ j k e b u.to m (pairs-to u (outs_at P k) vs n))) p)

    own_same : (a : Played) (w : World) → own_of P j (put_played P k a w) ≡ own_of P j w
    unfolding own_of put_played
    own_same a w = λ t. own
        (get_or-set_other w.states k j a.kept.state no_state d t)
        (read_apart w.rings a.kept.ring (len_in P.patch j) (ring_at P.patch j) (len_in P.patch k) (ring_at P.patch k) (rings_apart (len_in P.patch) j k d) t)

    -- a stage plays the same after a stage that is not tied to it
    played_same : (w : World) → played_at P j (staged P k w) ≡ played_at P j w
    unfolding staged put_played
    played_same w = rw (own_same (played_at P k w) w, heard_same (played_at P k w).outs w.banks)

    writes_swap : (us vs : List (List Float)) (p : Banks)
        → runs (write (shape_in P)) (pairs (outs_at P j) us) (runs (write (shape_in P)) (pairs (outs_at P k) vs) p)
        ≡ runs (write (shape_in P)) (pairs (outs_at P k) vs) (runs (write (shape_in P)) (pairs (outs_at P j) us) p)
    writes_swap us vs =
        folds_swap (write (shape_in P)) (pairs (outs_at P j) us) (pairs (outs_at P k) vs)
        (λ x y m n q. write_swap (shape_in P) fits x y q (outs_differ j k e x.to y.to (pairs-to x (outs_at P j) us m) (pairs-to y (outs_at P k) vs n)))

    put_swap : (a b : Played) (w : World) → put_played P j a (put_played P k b w) ≡ put_played P k b (put_played P j a w)
    unfolding put_played
    put_swap a b w = λ t. record {
      banks = writes_swap a.outs b.outs w.banks t;
      states = set_comm w.states k j b.kept.state a.kept.state (λ q. d (sym q)) t;
      rings = store_apart w.rings a.kept.ring b.kept.ring (len_in P.patch j) (ring_at P.patch j) (len_in P.patch k) (ring_at P.patch k) (rings_apart (len_in P.patch) j k d) t;
    }

  -- THE COMMUTING LAW
  pub staged_swap : (fits : (b : BufferIndex) → (shape_in P).window ≤ capacity_at (shape_in P) b) (j k : ℕ) → j ≢ k → Untied j k → (w : World)
      → staged P j (staged P k w) ≡ staged P k (staged P j w)
  unfolding staged
  staged_swap fits j k d e w =
      ap (λ (a : Played). put_played P j a (staged P k w)) (played_same fits j k d e w)
      ∙ put_swap fits j k d e (played_at P j w) (played_at P k w) w
      ∙ ap (λ (a : Played). put_played P k a (staged P j w)) (sym (played_same fits k j (λ q. d (sym q)) (turned_round j k e) w))

  -- ---- the checks

  module _ (j k : ℕ) (e : Untied j k) (m : Marks) where
    stale_same : (b : BufferIndex) → Among b (outs_at P j) → stale_at b (turned P k m) ≡ stale_at b m
    unfolding turned
    stale_same b h = unseen cleared (stale_at b) (outs_at P k) (λ c n q. mark_other b c q (outs_differ j k e b c h n)) m

    pub fault_same : fault P j (turned P k m) ≡ fault P j m
    unfolding fault fault_of
    fault_same = rw (clash_same (ins_at P j) (outs_at P j) (turned P k m) m stale_same)

    pub turn_swap : turned P j (turned P k m) ≡ turned P k (turned P j m)
    unfolding turned
    turn_swap = folds_swap cleared (outs_at P j) (outs_at P k) (λ b c h n q. mark_swap b c q (outs_differ j k e b c h n)) m
