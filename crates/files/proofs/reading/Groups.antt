-- The loop that reads a number, a group each time round: its invariant and its steps. Assumes nothing.
use mathlib.Core.Path.{◌≡◌, refl, sym, ap, ◌∙◌}
use mathlib.Core.Bool.{cond}
use mathlib.Core.List.{List}
use Prim.Native.Nat.{ℕ, zero, suc, ◌+◌, ◌-◌, ◌*◌, ◌%◌, ◌<◌, ◌≤◌}
use native.Mathlib.Nat.{mul_comm, mul-add, mul_assoc, mul-le-mul, mul-le-mul_right}
use native.Mathlib.Omega.{arith}
use lib.Dec.{leb}
use lib.ListN.{length, get_or}
use borrow.Author.Tests.{lt-ltb, le-ltb, le-leb, lt-leb}
use Rattle.files.specs.Reader.{Part, said, refused, followed, ◌>>=◌, judged, if_there}
use Rattle.files.specs.File.{byte_of, groups, number}

-- what one bit of the next group stands for, after k groups
unfoldable pub scale : ℕ → ℕ
scale zero = 1
scale (suc k) = scale k * 128

-- a number whose lower groups make a value, and whose higher groups are read
abbrev raised : ℕ → ℕ → Part ℕ → Part ℕ
raised value weight part = followed part (λ higher after. said (value + weight * higher) after)

-- after k groups
pub record Grouping (bytes : List ℕ) (start at value weight k : ℕ) : Type 0 where
  pub few : k ≤ 5
  pub scaled : weight ≡ scale k
  pub small : value < weight
  pub rest : groups start 5 bytes start ≡ raised value weight (groups start (5 - k) bytes at)

-- ---- sizes

scale_fits : (k : ℕ) → k < 5 → scale k ≤ 268_435_456
unfolding scale
scale_fits zero h = omega arith
scale_fits (suc zero) h = omega arith
scale_fits (suc (suc zero)) h = omega arith
scale_fits (suc (suc (suc zero))) h = omega arith
scale_fits (suc (suc (suc (suc zero)))) h = omega arith
scale_fits (suc (suc (suc (suc (suc k))))) h = absurd (omega (arith, h))

-- a group, as large as it can stand
pub group_fits : (k byte weight : ℕ) → k < 5 → weight ≡ scale k → byte % 128 * weight ≤ 34_091_302_912
group_fits k byte weight h e =
    let one : byte % 128 ≤ 127 = omega arith in
    let other : weight ≤ 268_435_456 = rw e (scale_fits k h) in
    let product : byte % 128 * weight ≤ 127 * 268_435_456 = mul-le-mul one other in
    omega (arith, product)

pub weight_fits : (k weight : ℕ) → k < 5 → weight ≡ scale k → weight ≤ 268_435_456
weight_fits k weight h e = rw e (scale_fits k h)

grown : (byte value weight : ℕ) → value < weight → value + byte % 128 * weight < weight * 128
grown byte value weight h =
    let one : byte % 128 ≤ 127 = omega arith in
    let product : byte % 128 * weight ≤ 127 * weight = mul-le-mul_right weight one in
    omega (arith, product, h)

-- ---- steps

raised_none : (part : Part ℕ) → part ≡ raised 0 1 part
unfolding followed
raised_none (said value at) = ap (λ (v : ℕ). said v at) (omega arith)
raised_none (refused number offset) = refl

-- a group more: what was higher is weighed with it
weighed : (value weight group higher : ℕ) → value + weight * (group + 128 * higher) ≡ value + group * weight + weight * 128 * higher
weighed value weight group higher =
    let one : weight * (group + 128 * higher) ≡ weight * group + weight * (128 * higher) = mul-add weight group (128 * higher) in
    let two : weight * 128 * higher ≡ weight * (128 * higher) = mul_assoc weight 128 higher in
    let three : weight * group ≡ group * weight = mul_comm weight group in
    omega (arith, one, two, three)

raised_more : (value weight group : ℕ) (part : Part ℕ)
    → raised value weight (followed part (λ higher after. said (group + 128 * higher) after)) ≡ raised (value + group * weight) (weight * 128) part
unfolding followed
raised_more value weight group (said higher at) = ap (λ (v : ℕ). said v at) (weighed value weight group higher)
raised_more value weight group (refused number offset) = refl

module _ (bytes : List ℕ) (start : ℕ) where
  -- where a byte is left, its group and those that follow it
  byte_left : (n at : ℕ) → at < length bytes
      → groups start (suc n) bytes at
      ≡ followed (if_there (leb 128 (get_or bytes at 0)) 0 (groups start n) bytes (at + 1)) (λ higher after. said (get_or bytes at 0 % 128 + 128 * higher) after)
  unfolding groups byte_of followed ◌>>=◌
  byte_left n at h = rw (lt-ltb _ _ h) refl

  no_byte : (n at : ℕ) → length bytes ≤ at → groups start (suc n) bytes at ≡ refused 20 start
  unfolding groups byte_of followed ◌>>=◌
  no_byte n at h = rw (le-ltb _ _ h) refl

  module _ (at value weight k : ℕ) (w : Grouping bytes start at value weight k) where
    more : k < 5 → groups start 5 bytes start ≡ raised value weight (groups start (suc (4 - k)) bytes at)
    more h =
        let left : 5 - k ≡ suc (4 - k) = omega arith in
        w.rest ∙ ap (λ (n : ℕ). raised value weight (groups start n bytes at)) left

    -- another group follows
    pub grouping_more : (byte : ℕ) → k < 5 → at < length bytes → byte ≡ get_or bytes at 0 → 128 ≤ byte
        → Grouping bytes start (at + 1) (value + byte % 128 * weight) (weight * 128) (k + 1)
    unfolding scale
    grouping_more byte h here is top =
        let one : suc k ≡ k + 1 = omega arith in
        let rest : 4 - k ≡ 5 - (k + 1) = omega arith in
        record {
          few = omega (arith, h);
          scaled = ap (λ (n : ℕ). n * 128) w.scaled ∙ ap scale one;
          small = grown byte value weight w.small;
          rest =
              more h
              ∙ ap (raised value weight) (byte_left (4 - k) at here ∙ ap (λ (b : ℕ). followed (if_there (leb 128 b) 0 (groups start (4 - k)) bytes (at + 1)) (λ higher after. said (b % 128 + 128 * higher) after)) (sym is))
              ∙ rw (le-leb _ _ top) (raised_more value weight (byte % 128) (groups start (4 - k) bytes (at + 1)))
              ∙ ap (λ (n : ℕ). raised (value + byte % 128 * weight) (weight * 128) (groups start n bytes (at + 1))) rest;
        }

    -- the last one
    groups-end : (byte : ℕ) → k < 5 → at < length bytes → byte ≡ get_or bytes at 0 → byte < 128
        → groups start 5 bytes start ≡ said (value + byte % 128 * weight) (at + 1)
    unfolding followed
    groups-end byte h here is last =
        let none : value + byte % 128 * weight + weight * 128 * 0 ≡ value + byte % 128 * weight = omega arith in
        more h
        ∙ ap (raised value weight) (byte_left (4 - k) at here ∙ ap (λ (b : ℕ). followed (if_there (leb 128 b) 0 (groups start (4 - k)) bytes (at + 1)) (λ higher after. said (b % 128 + 128 * higher) after)) (sym is))
        ∙ rw (lt-leb _ _ last) (raised_more value weight (byte % 128) (said 0 (at + 1)))
        ∙ ap (λ (v : ℕ). said v (at + 1)) none

    groups_early : k < 5 → length bytes ≤ at → groups start 5 bytes start ≡ refused 20 start
    unfolding followed
    groups_early h none = more h ∙ ap (raised value weight) (no_byte (4 - k) at none)

    groups_longer : 5 ≤ k → groups start 5 bytes start ≡ refused 23 start
    unfolding groups followed
    groups_longer h =
        let all : 5 - k ≡ 0 = omega arith in
        w.rest ∙ ap (λ (n : ℕ). raised value weight (groups start n bytes at)) all

  pub grouping_start : Grouping bytes start start 0 1 0
  unfolding scale
  grouping_start = record { few = omega arith; scaled = refl; small = omega arith; rest = raised_none (groups start 5 bytes start) }

  -- what is answered, where the groups are known
  abbrev pub inside : ℕ → ℕ → Part ℕ
  inside value at = cond (leb value 4_294_967_295) (said value at) (refused 23 start)

  judged-number : (part : Part ℕ) → groups start 5 bytes start ≡ part → number bytes start ≡ followed part inside
  unfolding number judged
  judged-number part e = ap (λ (p : Part ℕ). followed p inside) e

  module _ (at value weight k : ℕ) (w : Grouping bytes start at value weight k) where
    pub number_early : k < 5 → length bytes ≤ at → number bytes start ≡ refused 20 start
    unfolding followed
    number_early h none = judged-number (refused 20 start) (groups_early at value weight k w h none)

    pub number_longer : 5 ≤ k → number bytes start ≡ refused 23 start
    unfolding followed
    number_longer h = judged-number (refused 23 start) (groups_longer at value weight k w h)

    -- what is answered where the last group was read
    pub number-end : (byte : ℕ) → k < 5 → at < length bytes → byte ≡ get_or bytes at 0 → byte < 128
        → number bytes start ≡ inside (value + byte % 128 * weight) (at + 1)
    unfolding followed
    number-end byte h here is last = judged-number _ (groups-end at value weight k w byte h here is last)
