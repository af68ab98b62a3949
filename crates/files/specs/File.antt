-- A patch file, in the order in which it is read: a number, a choice, a parameter, a stage, a file. Assumes nothing.
use Rattle.std.specs.Prelude.{ℕ, zero, suc, ◌+◌, ◌-◌, ◌*◌, ◌%◌, cond, List, [], ◌∷◌, ◌++◌, ltb, leb, eqb, length, take, drop, get_or, replicate}
use Rattle.words.specs.Word.{word_of}
use Rattle.flat.specs.Form.{kind_count, form_of}
use Rattle.flat.specs.Patch.{no_parameter, no_flat}
use Rattle.flat.specs.declared.form.Form.{Form}
use Rattle.flat.specs.declared.stage.FlatParameter.{FlatParameter}
use Rattle.flat.specs.declared.stage.FlatStage.{FlatStage}
use Rattle.flat.specs.declared.patch.FlatPatch.{FlatPatch}
use Rattle.files.specs.Reader.{Part, said, refused, Reader, saying, refusing, ◌>>=◌, judged, if_there}
use Rattle.files.specs.declared.stage.Choices.{Choices}
use Rattle.files.specs.declared.stage.Wires.{Wires}
use Rattle.files.specs.declared.stage.Parameters.{Parameters}

-- ---- a number

-- the byte here, of a number that begins at `start`: "20 the bytes end early"
unfoldable pub byte_of : ℕ → Reader ℕ
byte_of start bytes at = cond (ltb at (length bytes)) (said (get_or bytes at 0) (at + 1)) (refused 20 start)

-- "Numbers are in groups of seven bits, low group first, top bit set when another group follows": what is left of the number that begins at
-- `start`, n groups at most; "23 .. longer than five bytes (judged at its fifth byte)"
unfoldable pub groups : ℕ → ℕ → Reader ℕ
groups start zero = refusing 23 start
groups start (suc n) = do
  byte ← byte_of start
  higher ← if_there (leb 128 byte) 0 (groups start n)
  saying (byte % 128 + 128 * higher)

-- "at most five bytes, value up to 4,294,967,295"; "23 a number too large"
unfoldable pub number : Reader ℕ
number bytes at = judged 23 (λ value. leb value 4_294_967_295) (groups at 5) bytes at

-- ---- a choice

-- a kind, a choice or a parameter's mark is one of so many, from 0: "22 unknown kind, choice or parameter mark"
abbrev pub one_of : ℕ → Reader ℕ
one_of limit = judged 22 (λ value. ltb value limit) number

-- of so many; none where there is nothing to choose
unfoldable pub choice : ℕ → Reader ℕ
choice limit = if_there (ltb 0 limit) 0 (one_of limit)

-- ---- a parameter

-- "eight bytes of f64 low byte first", as the bits that they make
unfoldable pub eight : Reader ℕ
eight bytes at = cond (leb (at + 8) (length bytes)) (said (word_of (take 8 (drop at bytes))) (at + 8)) (refused 20 at)

-- "0 absent, 1 then eight bytes of f64 low byte first, 2 then a slot, 3 window seconds"
unfoldable pub parameter : Reader FlatParameter
parameter = do
  mark ← one_of 4
  bits ← if_there (eqb mark 1) 0 eight
  slot ← if_there (eqb mark 2) 0 number
  saying (record { mark = mark; slot = slot; bits = bits })

-- ---- a stage

-- "its choices (waveform; modulation; reflectance, from 0 in source order), buffer_size for a waveguide"
unfoldable pub choices : Form → Reader Choices
choices form = do
  chosen ← choice form.choices
  modulation ← choice form.modulations
  size ← if_there (ltb 0 form.sizes) 0 number
  saying (record { choice = chosen; modulation = modulation; buffer_size = size })

-- "inputs, output": "A buffer is twice its index, plus one if external." Of Pan's two outputs the left one comes first
unfoldable pub wires : Form → Reader Wires
wires form = do
  first ← if_there (ltb 0 form.inputs) 0 number
  second ← if_there (ltb 1 form.inputs) 0 number
  output ← number
  right ← if_there (ltb 1 form.outputs) 0 number
  saying (record { first_input = first; second_input = second; output = output; second_output = right })

-- "parameters with out_level first and the others as the Rust's record lists them"; of Pan, "In a patch file it is the kind after
-- RingModulator, with the levels pair first": out_level is then the left one, and the right one follows it
unfoldable pub parameters : Form → Reader Parameters
parameters form = do
  level ← parameter
  first ← if_there (ltb 0 form.parameters) no_parameter parameter
  second ← if_there (ltb 1 form.parameters) no_parameter parameter
  third ← if_there (ltb 2 form.parameters) no_parameter parameter
  saying (record { out_level = level; first = first; second = second; third = third })

abbrev pub stage_from : ℕ → Choices → Wires → Parameters → FlatStage
stage_from kind c w p =
    record {
      kind = kind;
      choice = c.choice;
      modulation = c.modulation;
      buffer_size = c.buffer_size;
      first_input = w.first_input;
      second_input = w.second_input;
      output = w.output;
      second_output = w.second_output;
      out_level = p.out_level;
      first = p.first;
      second = p.second;
      third = p.third;
    }

-- what follows the kind
unfoldable pub parts : ℕ → Form → Reader FlatStage
parts kind form = do
  c ← choices form
  w ← wires form
  p ← parameters form
  saying (stage_from kind c w p)

-- "A stage is its kind .., its choices .., buffer_size for a waveguide, inputs, output, parameters"
unfoldable pub stage : Reader FlatStage
stage = do
  kind ← one_of kind_count
  parts kind (form_of kind)

unfoldable pub stages : ℕ → Reader (List FlatStage)
stages zero = saying []
stages (suc n) = do
  first ← stage
  rest ← stages n
  saying (first ∷ rest)

-- ---- a file

-- "24 bytes left over"
unfoldable pub end : Reader Unit
end bytes at = cond (leb (length bytes) at) (said _ at) (refused 24 at)

-- the stages, and zeros after them
abbrev pub patch_from : List FlatStage → FlatPatch
patch_from ts = record { count = length ts; stages = ts ++ replicate (32 - length ts) no_flat }

-- "A file is: version 1, stage count, stages."; "21 version"; "25 more than 32 stages"
unfoldable pub file : Reader FlatPatch
file = do
  version ← judged 21 (λ value. eqb value 1) number
  count ← judged 25 (λ value. leb value 32) number
  ts ← stages count
  _ ← end
  saying (patch_from ts)

-- what a file is answered with, in numbers: 0, 0 and the patch; or a refusal's number, the offset where what is at fault begins, and the empty patch
pub record ReadPatch : Type 0 where
  pub number : ℕ
  pub offset : ℕ
  pub patch : FlatPatch

-- "A refusal gives its number and the offset .., and no patch"
unfoldable pub answered : Part FlatPatch → ReadPatch
answered (said patch at) = record { number = 0; offset = 0; patch = patch }
answered (refused number offset) = record { number = number; offset = offset; patch = patch_from [] }

abbrev pub read_of : List ℕ → ReadPatch
read_of bytes = answered (file bytes 0)
