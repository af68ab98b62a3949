-- Small files and what is said of them, each worked out by the definition: where a refusal points to, and what is judged first. Assumes nothing.
use mathlib.Core.Path.{◌≡◌, refl}
use mathlib.Core.List.{[], ◌∷◌}
use Prim.Native.Nat.{ℕ}
use Rattle.flat.specs.Patch.{no_parameter}
use Rattle.flat.specs.declared.stage.FlatStage.{FlatStage}
use Rattle.files.specs.Reader.{followed, ◌>>=◌, judged}
use Rattle.files.specs.File.{byte_of, groups, number, choice, eight, parameter, choices, wires, parameters, parts, stage, stages, end, patch_from, file, answered, read_of, ReadPatch}

abbrev refusal : ℕ → ℕ → ReadPatch
refusal n offset = record { number = n; offset = offset; patch = patch_from [] }

abbrev pass : FlatStage
pass =
    record {
      kind = 0;
      choice = 0;
      modulation = 0;
      buffer_size = 0;
      first_input = 2;
      second_input = 0;
      output = 5;
      second_output = 0;
      out_level = record { mark = 1; slot = 0; bits = 0x7ff0_0000_0000_0001 };
      first = no_parameter;
      second = no_parameter;
      third = no_parameter;
    }

abbrev pan : FlatStage
pan =
    record {
      kind = 14;
      choice = 0;
      modulation = 0;
      buffer_size = 0;
      first_input = 2;
      second_input = 0;
      output = 1;
      second_output = 3;
      out_level = no_parameter;
      first = record { mark = 3; slot = 0; bits = 0 };
      second = record { mark = 2; slot = 7; bits = 0 };
      third = record { mark = 1; slot = 0; bits = 0x3ff0_0000_0000_0000 };
    }

-- the bytes end where a number would begin, or inside one
pub no_bytes : read_of [] ≡ refusal 20 0
unfolding followed ◌>>=◌ judged byte_of groups number file answered
no_bytes = refl

pub no_count : read_of (0x01 ∷ []) ≡ refusal 20 1
unfolding followed ◌>>=◌ judged byte_of groups number file answered
no_count = refl

pub number_ends_early : read_of (0x80 ∷ 0x80 ∷ 0x80 ∷ 0x80 ∷ []) ≡ refusal 20 0
unfolding followed ◌>>=◌ judged byte_of groups number file answered
number_ends_early = refl

-- a fifth byte with the top bit set, or with a group too large
pub number_too_long : read_of (0x80 ∷ 0x80 ∷ 0x80 ∷ 0x80 ∷ 0x80 ∷ []) ≡ refusal 23 0
unfolding followed ◌>>=◌ judged byte_of groups number file answered
number_too_long = refl

pub number_too_large : read_of (0x80 ∷ 0x80 ∷ 0x80 ∷ 0x80 ∷ 0x10 ∷ []) ≡ refusal 23 0
unfolding followed ◌>>=◌ judged byte_of groups number file answered
number_too_large = refl

-- each number is judged as soon as it is read
pub other_version : read_of (0x02 ∷ []) ≡ refusal 21 0
unfolding followed ◌>>=◌ judged byte_of groups number file answered
other_version = refl

pub largest_count : read_of (0x01 ∷ 0xff ∷ 0xff ∷ 0xff ∷ 0xff ∷ 0x0f ∷ []) ≡ refusal 25 1
unfolding followed ◌>>=◌ judged byte_of groups number file answered
largest_count = refl

pub unknown_kind : read_of (0x01 ∷ 0x01 ∷ 0x0f ∷ []) ≡ refusal 22 2
unfolding followed ◌>>=◌ judged byte_of groups number stage stages file answered
unknown_kind = refl

-- a plain oscillator of a sixth waveform
pub unknown_choice : read_of (0x01 ∷ 0x01 ∷ 0x0a ∷ 0x05 ∷ []) ≡ refusal 22 3
unfolding followed ◌>>=◌ judged byte_of groups number choice choices parts stage stages file answered
unknown_choice = refl

-- no stages, spelled short and padded; and with a byte left over
pub empty : read_of (0x01 ∷ 0x00 ∷ []) ≡ refusal 0 0
unfolding followed ◌>>=◌ judged byte_of groups number stages end file answered
empty = refl

pub padded : read_of (0x81 ∷ 0x80 ∷ 0x00 ∷ 0x00 ∷ []) ≡ refusal 0 0
unfolding followed ◌>>=◌ judged byte_of groups number stages end file answered
padded = refl

pub left_over : read_of (0x01 ∷ 0x00 ∷ 0x00 ∷ []) ≡ refusal 24 2
unfolding followed ◌>>=◌ judged byte_of groups number stages end file answered
left_over = refl

-- a Pass from internal 1 to external 2, whose out_level is a NaN: its bits stay
pub nan_kept : read_of (0x01 ∷ 0x01 ∷ 0x00 ∷ 0x02 ∷ 0x05 ∷ 0x01 ∷ 0x01 ∷ 0x00 ∷ 0x00 ∷ 0x00 ∷ 0x00 ∷ 0x00 ∷ 0xf0 ∷ 0x7f ∷ [])
    ≡ record { number = 0; offset = 0; patch = patch_from (pass ∷ []) }
unfolding followed ◌>>=◌ judged byte_of groups number choice eight parameter choices wires parameters parts stage stages end file answered
nan_kept = refl

-- a Pan from internal 1 to external 0 and 1: left level, right level, left gain, right gain. That just one level is absent is for the run to judge
pub placed : read_of (0x01 ∷ 0x01 ∷ 0x0e ∷ 0x02 ∷ 0x01 ∷ 0x03 ∷ 0x00 ∷ 0x03 ∷ 0x02 ∷ 0x07 ∷ 0x01 ∷ 0x00 ∷ 0x00 ∷ 0x00 ∷ 0x00 ∷ 0x00 ∷ 0x00 ∷ 0xf0 ∷ 0x3f ∷ [])
    ≡ record { number = 0; offset = 0; patch = patch_from (pan ∷ []) }
unfolding followed ◌>>=◌ judged byte_of groups number choice eight parameter choices wires parameters parts stage stages end file answered
placed = refl
