-- The f64 numbers that the definitions name, each by its bit pattern, which is how a literal of the code reads in the logic.
-- Assumes nothing.
use Rattle.std.specs.Prelude.{from_bits, Float}
use Rattle.std.specs.Float.{binary64}

abbrev pub zero64 : Float
zero64 = from_bits binary64 0

abbrev pub one64 : Float
one64 = from_bits binary64 0x3ff0_0000_0000_0000

abbrev pub two64 : Float
two64 = from_bits binary64 0x4000_0000_0000_0000

abbrev pub half64 : Float
half64 = from_bits binary64 0x3fe0_0000_0000_0000

abbrev pub quarter64 : Float
quarter64 = from_bits binary64 0x3fd0_0000_0000_0000

abbrev pub three_quarters64 : Float
three_quarters64 = from_bits binary64 0x3fe8_0000_0000_0000

abbrev pub eighth64 : Float
eighth64 = from_bits binary64 0x3fc0_0000_0000_0000

-- the f64 nearest to a whole turn in radians
abbrev pub tau64 : Float
tau64 = from_bits binary64 0x4019_21fb_5444_2d18

-- 2 ^ 53, up to which an f64 holds every whole number
abbrev pub limit64 : Float
limit64 = from_bits binary64 0x4340_0000_0000_0000
