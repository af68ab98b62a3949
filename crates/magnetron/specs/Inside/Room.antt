-- Checks that have passed, as facts: what functions may ask that are called after them. Assumes nothing.
use Rattle.std.specs.Prelude.{◌≡◌, true, ◌||◌, List, [], ◌∷◌, ◌++◌, ℕ, ◌*◌, ◌≤◌, leb, eqb, length, Float}
use Rattle.magnetron.specs.Buffers.{pick, list_of}
use Rattle.magnetron.specs.Pools.{marks_in}
use Rattle.magnetron.specs.Checks.{all_there, no_clash}
use Rattle.magnetron.specs.Single.{length_ok}
use Rattle.magnetron.specs.declared.buffer.BufferIndex.{BufferIndex}
use Rattle.magnetron.specs.declared.pool.Pools.{Pools}
use Rattle.magnetron.specs.declared.inputs.Inputs.{Inputs}

-- check 1 of one pool
pub record Bounds (count capacity len : ℕ) : Type 0 where
  pub few : count ≤ 16
  pub short : capacity ≤ 4096
  pub whole : count * capacity ≡ len

-- checks 1 and 2 of both, whose slices have these lengths
pub record Held (p : Pools) (internal external n : ℕ) : Type 0 where
  pub internal_bounds : Bounds p.internal.count p.internal.capacity internal
  pub external_bounds : Bounds p.external.count p.external.capacity external
  pub internal-window : n ≤ p.internal.capacity
  pub external-window : (eqb p.external.count 0 || leb n p.external.capacity) ≡ true

-- checks 1, 2, 5 and 7 of a single write; the output's pool has the samples `own`, and the other pool `other`
pub record Writable (p : Pools) (inputs : Inputs) (own other values : List Float) (output : BufferIndex) (n : ℕ) : Type 0 where
  pub held : Held p (pick output (length own) (length other)) (pick output (length other) (length own)) n
  pub long : length_ok inputs (length values) n ≡ true
  pub there : all_there p (list_of inputs ++ (output ∷ [])) ≡ true
  pub clear : no_clash n (list_of inputs) (output ∷ []) (marks_in p) ≡ true
