-- What the checks tell that passed, of buffers: where they lie, that inputs are clear of the output, and what the loops' forms are in the definition's.
-- The output is `o`; its pool has the samples `own`, and the other pool `other`.
--     held, zeros-lent        checks 1 and 2, as facts
--     all_there_lem, Room, room, base_small     check 5: a buffer has a mark, n of its samples lie in its pool, and its place is a small number
--     capacity_at_lem, fits, line_is      the capacities of the shape, and what a buffer holds
--     apart_from              check 7 of one output and one input
--     place-own, clear_source     the output lies in its pool, and an input clear of it
--     heard_source, heard-at  what the loop reads is what the definition hears
--     write-own               what the loop leaves is the definition's write
-- Assumes nothing.
use mathlib.Core.Path.{◌≡◌, refl, sym, ap, subst, ◌∙◌}
use mathlib.Core.Logic.{inl, inr}
use mathlib.Core.Bool.{Bool, true, false, not, ◌&&◌, ◌||◌, cond, false≢true, true≢false, or-true}
use mathlib.Core.List.{List, [], ◌∷◌}
use Prim.Native.Nat.{ℕ, ◌+◌, ◌*◌, ◌<◌, ◌≤◌}
use native.Mathlib.Omega.{arith}
use lib.Dec.{leb, eqb}
use lib.ListN.{length, get_or, take, drop}
use lib.Ieee.{Float, nan}
use borrow.Author.Tests.{leb-true, ltb-true, eqb-true, ne_eqb, not-true}
use Rattle.numbers.specs.Constants.{zero64}
use Rattle.numbers.specs.Zeros.{all_plus_zero}
use Rattle.order.specs.Order.{Among}
use Rattle.answers.proofs.Tests.{and_left, and_right, or_other, or_false_left, or_false_right}
use Rattle.magnetron.specs.Buffers.{index_of, pick, same_pool, same_buffer, Shape, capacity_at, bank_at, marks_at, line_at, line_of, with_line_at, with_line, heard, laid, write, stale_at, cleared, hits, clash}
use Rattle.magnetron.specs.Pools.{pool_at, base_of, shape_of, banks_of, sided}
use Rattle.magnetron.specs.Checks.{pool_ok, shape_ok, window_ok, has_buffer, all_there, no_clash}
use Rattle.magnetron.specs.Inside.Source.{signal_of, source_of, Apart, Clear}
use Rattle.magnetron.specs.Signals.{tab, window}
use Rattle.magnetron.specs.Inside.Mix.{mixed, from}
use Rattle.magnetron.specs.Single.{levelled}
use Rattle.magnetron.specs.Inside.Room.{Bounds, Held}
use Rattle.magnetron.specs.declared.buffer.Marks.{Marks}
use Rattle.magnetron.specs.declared.buffer.BufferIndex.{BufferIndex}
use Rattle.magnetron.specs.declared.buffer.BufferIndex.TheVariants.{External, Internal}
use Rattle.magnetron.specs.declared.pool.Pool.{Pool}
use Rattle.magnetron.specs.declared.pool.Pools.{Pools}
use Rattle.magnetron.specs.declared.source.Source.TheVariants.{Zeros, Own, Other}
use Rattle.magnetron.proofs.Parts.{product_le, within, apart_or_empty}
use Rattle.magnetron.proofs.Stores.{same_buffer_refl}
use Rattle.magnetron.proofs.Windows.{tab-at}
use Rattle.magnetron.proofs.Bridge.{line_window, heard-tab}

-- ---- checks 1 and 2

pub bounds : (count capacity len : ℕ) → pool_ok count capacity len ≡ true → Bounds count capacity len
unfolding pool_ok
bounds count capacity len e =
    let r : (leb capacity 4096 && eqb (count * capacity) len) ≡ true = and_right (leb count 16) _ e in
    record { few = leb-true _ _ (and_left _ _ e); short = leb-true _ _ (and_left _ _ r); whole = eqb-true _ _ (and_right (leb capacity 4096) _ r) }

pub held : (p : Pools) (internal external n : ℕ) (zeros : List Float) → shape_ok p internal external zeros ≡ true → window_ok p n ≡ true → Held p internal external n
unfolding shape_ok window_ok
held p internal external n zeros s w =
    let r = and_right (pool_ok p.internal.count p.internal.capacity internal) _ s in
    record {
      internal_bounds = bounds _ _ _ (and_left _ _ s);
      external_bounds = bounds _ _ _ (and_left _ _ r);
      internal-window = leb-true _ _ (and_left _ _ w);
      external-window = and_right (leb n p.internal.capacity) _ w;
    }

-- the lent zeros are zeros, and there are enough of them
pub zeros-lent : (p : Pools) (internal external n : ℕ) (zeros : List Float) → shape_ok p internal external zeros ≡ true → window_ok p n ≡ true → (n ≤ length zeros) × (all_plus_zero zeros ≡ true)
unfolding shape_ok window_ok
zeros-lent p internal external n zeros s w =
    let r = and_right (pool_ok p.external.count p.external.capacity external) _ (and_right (pool_ok p.internal.count p.internal.capacity internal) _ s) in
    let long : length zeros ≡ p.internal.capacity = eqb-true _ _ (and_left _ _ r) in
    let short : n ≤ p.internal.capacity = leb-true _ _ (and_left _ _ w) in
    (omega arith, and_right (eqb (length zeros) p.internal.capacity) _ r)

-- ---- check 5

-- buffer i of a pool has a mark, and n samples of it lie in the slice
pub record Room (i capacity len n : ℕ) : Type 0 where
  pub mark : i < 16
  pub place : i * capacity + n ≤ len
  pub short : n ≤ capacity
  pub small : len ≤ 65536

abbrev pub RoomOf : Pools → ℕ → ℕ → ℕ → BufferIndex → Type 0
RoomOf p internal external n b = Room (index_of b) (pool_at b p).capacity (pick b internal external) n

room_by : (i count capacity len n : ℕ) → Bounds count capacity len → i < count → n ≤ capacity → Room i capacity len n
room_by i count capacity len n b h k =
    record {
      mark = omega (arith, b.few);
      short = k;
      place = subst (λ (m : ℕ). i * capacity + n ≤ m) b.whole (within i count n capacity h k);
      small = subst (λ (m : ℕ). m ≤ 65536) b.whole (product_le b.few b.short);
    }

pub all_there_lem : (p : Pools) (bs : List BufferIndex) → all_there p bs ≡ true → (b : BufferIndex) → Among b bs → has_buffer p b ≡ true
all_there_lem p [] e b k = elim k [ ]
all_there_lem p (c ∷ bs) e b (inl q) = ap (has_buffer p) q ∙ and_left _ _ e
all_there_lem p (c ∷ bs) e b (inr m) = all_there_lem p bs (and_right (has_buffer p c) _ e) b m

pub pick-length : {A : Type 0} (b : BufferIndex) (xs ys : List A) → pick b (length xs) (length ys) ≡ length (pick b xs ys)
pick-length (External k) xs ys = refl
pick-length (Internal k) xs ys = refl

module _ (p : Pools) (internal external n : ℕ) (h : Held p internal external n) where
  pub room : (b : BufferIndex) → has_buffer p b ≡ true → RoomOf p internal external n b
  unfolding has_buffer
  room (Internal i) e = room_by i _ _ _ n h.internal_bounds (ltb-true _ _ e) h.internal-window
  room (External i) e =
      let there : i < p.external.count = ltb-true _ _ e in
      room_by i _ _ _ n h.external_bounds there
      (leb-true _ _ (or_other (eqb p.external.count 0) _ h.external-window (λ z. let q : p.external.count ≡ 0 = eqb-true _ _ z in omega arith)))

  pub base_small : (b : BufferIndex) → has_buffer p b ≡ true → base_of p b ≤ 65536
  base_small b e =
      let r = room b e in
      omega (arith, r.place, r.small)

  -- ---- the shape

  pub capacity_at_lem : (b : BufferIndex) → has_buffer p b ≡ true → capacity_at (shape_of p n) b ≡ (pool_at b p).capacity
  unfolding has_buffer
  capacity_at_lem (Internal i) e = refl
  capacity_at_lem (External i) e =
      let there : i < p.external.count = ltb-true _ _ e in
      ap (λ (b : Bool). cond b n p.external.capacity) (ne_eqb p.external.count 0 (omega arith))

  pub fits : (b : BufferIndex) → (shape_of p n).window ≤ capacity_at (shape_of p n) b
  fits (Internal i) = h.internal-window
  fits (External i) = by (eqb p.external.count 0) h.external-window
    where
      by : (b : Bool) → (b || leb n p.external.capacity) ≡ true → n ≤ cond b n p.external.capacity
      by true e = omega arith
      by false e = leb-true _ _ e

  -- what a buffer that is there holds
  pub line_is : (xs ys : List Float) (m : Marks) (b : BufferIndex) → has_buffer p b ≡ true
      → line_at (shape_of p n) b (banks_of xs ys m) ≡ record { stale = stale_at b m; samples = take n (drop (base_of p b) (pick b xs ys)) }
  unfolding line_at line_of stale_at
  line_is xs ys m b e = rw (capacity_at_lem b e) (bank b)
    where
      bank : (c : BufferIndex) → line_of (pool_at b p).capacity n (index_of b) (bank_at c (banks_of xs ys m)) ≡ record { stale = get_or (marks_at c m) (index_of b) false; samples = take n (drop (base_of p b) (pick c xs ys)) }
      bank (External k) = refl
      bank (Internal k) = refl

-- ---- check 7

hits-among : (o b : BufferIndex) (ins : List BufferIndex) → Among b ins → same_buffer o b ≡ true → hits o ins ≡ true
hits-among o b [] k e = elim k [ ]
hits-among o b (x ∷ ins) (inl q) e = ap (λ (t : Bool). t || hits o ins) (ap (same_buffer o) (sym q) ∙ e)
hits-among o b (x ∷ ins) (inr m) e = ap (λ (t : Bool). same_buffer o x || t) (hits-among o b ins m e) ∙ or-true (same_buffer o x)

-- no sample in play, or the input is another buffer, or the output is stale
unfoldable pub ApartFrom : Marks → ℕ → BufferIndex → BufferIndex → Type 0
ApartFrom m n o b = 0 < n → o ≡ b → stale_at o m ≡ true

clash-at : (ins os : List BufferIndex) (m : Marks) (o : BufferIndex) → Among o os → clash ins os m ≡ false → (hits o ins && not (stale_at o m)) ≡ false
clash-at ins [] m o k e = elim k [ ]
clash-at ins (x ∷ os) m o (inl q) e = ap (λ (c : BufferIndex). hits c ins && not (stale_at c m)) q ∙ or_false_left (hits x ins && not (stale_at x m)) _ e
clash-at ins (x ∷ os) m o (inr k) e = clash-at ins os m o k (or_false_right (hits x ins && not (stale_at x m)) _ e)

pub apart_from : (m : Marks) (n : ℕ) (ins os : List BufferIndex) (o b : BufferIndex) → Among o os → Among b ins → no_clash n ins os m ≡ true → ApartFrom m n o b
unfolding ApartFrom
apart_from m n ins os o b k a e pos q =
    let free : clash ins os m ≡ false = not-true _ (or_other (eqb n 0) _ e (λ z. let none : n ≡ 0 = eqb-true _ _ z in omega arith)) in
    go (hits o ins) (stale_at o m) (hits-among o b ins a (ap (same_buffer o) (sym q) ∙ same_buffer_refl o)) (clash-at ins os m o k free)
  where
    go : (t s : Bool) → t ≡ true → (t && not s) ≡ false → s ≡ true
    go true true et f = refl
    go true false et f = absurd (true≢false f)
    go false s et f = absurd (false≢true et)

-- ---- one pool or two

module _ {A : Type 0} where
  -- what belongs to b's pool, where `own` belongs to o's and `other` to the other
  pub whose : (b o : BufferIndex) (own other : A) → pick b (pick o own other) (pick o other own) ≡ cond (same_pool b o) own other
  whose (External i) (External j) own other = refl
  whose (External i) (Internal j) own other = refl
  whose (Internal i) (External j) own other = refl
  whose (Internal i) (Internal j) own other = refl

  same_pool_lem : (b o : BufferIndex) (x y : A) → same_pool b o ≡ true → pick b x y ≡ pick o x y
  same_pool_lem (External i) (External j) x y e = refl
  same_pool_lem (External i) (Internal j) x y e = absurd (false≢true e)
  same_pool_lem (Internal i) (External j) x y e = absurd (false≢true e)
  same_pool_lem (Internal i) (Internal j) x y e = refl

same_index : (b o : BufferIndex) → same_pool b o ≡ true → index_of b ≡ index_of o → o ≡ b
same_index (External i) (External j) e q = ap External (sym q)
same_index (External i) (Internal j) e q = absurd (false≢true e)
same_index (Internal i) (External j) e q = absurd (false≢true e)
same_index (Internal i) (Internal j) e q = ap Internal (sym q)

own_pool : (o : BufferIndex) → same_pool o o ≡ true
own_pool (External k) = refl
own_pool (Internal k) = refl

-- ---- the pools of a write to `o`, over any shape

write_by : (h : Shape) (o : BufferIndex) (own other : List Float) (m : Marks) (level : Float) (y : ℕ → Float) → index_of o * capacity_at h o + h.window ≤ length own
    → write h (record { to = o; values = levelled level (tab h.window y) }) (sided o own other m)
    ≡ sided o (window own (index_of o * capacity_at h o) h.window (mixed own (index_of o * capacity_at h o) (stale_at o m) level y)) other (cleared o m)
unfolding write with_line_at line_at with_line line_of laid stale_at cleared
write_by h (External k) own other m level y fits =
    ap (λ (l : List Float). sided (External k) l other (cleared (External k) m)) (line_window own (k * h.external) h.window fits (get_or m.external k false) level y)
write_by h (Internal k) own other m level y fits =
    ap (λ (l : List Float). sided (Internal k) l other (cleared (Internal k) m)) (line_window own (k * h.internal) h.window fits (get_or m.internal k false) level y)

module _ (p : Pools) (m : Marks) (o : BufferIndex) (own other : List Float) (n : ℕ)
    (h : Held p (pick o (length own) (length other)) (pick o (length other) (length own)) n) where
  -- the room of b, by whether its pool is written
  room_by_pool : (b : BufferIndex) (t : Bool) → same_pool b o ≡ t → has_buffer p b ≡ true → Room (index_of b) (pool_at b p).capacity (length (cond t own other)) n
  room_by_pool b t et e = rw (pick-length o own other, pick-length o other own, pick-length b _ _, whose b o own other, et) at (room p _ _ n h b e)

  pub place-own : has_buffer p o ≡ true → base_of p o + n ≤ length own
  place-own e = (room_by_pool o true (own_pool o) e).place

  pub clear_source : (b : BufferIndex) → has_buffer p b ≡ true → ApartFrom m n o b → Clear (source_of p m b o) (length own) (length other) (base_of p o) n
  unfolding source_of ApartFrom
  clear_source b e a = go (stale_at b m) (same_pool b o) refl refl
    where
      go : (s t : Bool) → stale_at b m ≡ s → same_pool b o ≡ t → Clear (cond s Zeros (cond t (Own (base_of p b)) (Other (base_of p b)))) (length own) (length other) (base_of p o) n
      go true t es et = tt
      go false false es et = (room_by_pool b false et e).place
      go false true es et =
          let r = room_by_pool b true et e in
          let apart = apart_or_empty (index_of b) (index_of o) n (pool_at b p).capacity r.short (λ z q. true≢false (sym (a z (same_index b o et q)) ∙ ap (λ (c : BufferIndex). stale_at c m) (same_index b o et q) ∙ es)) in
          (r.place, subst (λ (q : Pool). Apart (base_of p b) n (index_of o * q.capacity) n) (same_pool_lem b o p.internal p.external et) apart)

  -- what the loop reads is what is heard
  pub heard_source : (b : BufferIndex) → has_buffer p b ≡ true → heard n (line_at (shape_of p n) b (sided o own other m)) ≡ tab n (signal_of (source_of p m b o) own other)
  unfolding source_of
  heard_source b e =
      rw (line_is p _ _ n h (pick o own other) (pick o other own) m b e, whose b o own other)
      (heard-tab (cond (same_pool b o) own other) (base_of p b) n (room_by_pool b (same_pool b o) refl e).place (stale_at b m) ∙ go (stale_at b m) (same_pool b o))
    where
      go : (s t : Bool) → tab n (λ i. cond s zero64 (from (cond t own other) (base_of p b) i)) ≡ tab n (signal_of (cond s Zeros (cond t (Own (base_of p b)) (Other (base_of p b)))) own other)
      go true t = refl
      go false true = refl
      go false false = refl

  -- the same at one sample
  pub heard-at : (b : BufferIndex) (i : ℕ) → has_buffer p b ≡ true → i < n → get_or (heard n (line_at (shape_of p n) b (sided o own other m))) i nan ≡ signal_of (source_of p m b o) own other i
  heard-at b i e l = rw (heard_source b e) (tab-at n (signal_of (source_of p m b o) own other) i nan l)

  -- what the loop leaves is the definition's write
  pub write-own : (level : Float) (y : ℕ → Float) → has_buffer p o ≡ true
      → write (shape_of p n) (record { to = o; values = levelled level (tab n y) }) (sided o own other m)
      ≡ sided o (window own (base_of p o) n (mixed own (base_of p o) (stale_at o m) level y)) other (cleared o m)
  write-own level y e =
      let same = capacity_at_lem p _ _ n h o e in
      write_by (shape_of p n) o own other m level y (rw same (place-own e))
      ∙ ap (λ (c : ℕ). sided o (window own (index_of o * c) n (mixed own (index_of o * c) (stale_at o m) level y)) other (cleared o m)) same
