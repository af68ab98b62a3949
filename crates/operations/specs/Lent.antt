-- The lengths of the slices that a case lends, beside those of the arrays that they are the first part of. Assumes nothing.
use Rattle.std.specs.Prelude.{◌≤◌}
use Rattle.operations.specs.declared.pools.TheConstants.{CELLS}
use Rattle.operations.specs.declared.pools.Lengths.{Lengths}

-- none is longer than its array
abbrev pub Fit : Lengths → Type 0
Fit l = (l.internal ≤ 65536) × (l.external ≤ 65536) × (l.zeros ≤ 8192) × (l.values ≤ 64) × (l.rings ≤ CELLS)
