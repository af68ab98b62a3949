-- What becomes of a place, with the bytes that its output's buffer holds, where words are written. What standard output does with the bytes
-- that it is sent no definition can say: `taken` is whether it took them. Assumes nothing.
use Rattle.std.specs.Prelude.{◌≡◌, ◌⊎◌, Bool, true, false, not, ◌||◌, cond, List, [], ◌∷◌, map, ℕ, ◌+◌, ◌-◌, ◌<◌, ◌≤◌, ltb, Float, length, take, replicate}
use Rattle.std.specs.declared.io.Stdin.{Stdin}
use Rattle.std.specs.declared.io.Stdout.{Stdout}
use Rattle.words.specs.Number.{to_word}
use Rattle.words.specs.Writer.{put_of, if_stored}
use Rattle.stream.specs.declared.place.TheConstants.{ROOM}
use Rattle.stream.specs.declared.place.Place.{Place}
use Rattle.stream.specs.declared.place.State.{State}
use Rattle.stream.specs.declared.place.State.TheVariants.{Going, Ended, Refused}

-- nothing is read, nothing is to be sent, and nothing is over
abbrev pub started : Stdin → Stdout → Place
started stdin stdout =
    record { input = replicate ROOM 0; unread = record { at = 0; end = 0 }; output = replicate ROOM 0; filled = 0; state = Going; stdin = stdin; stdout = stdout }

-- whether all is over
abbrev pub over_of : State → Bool
over_of Going = false
over_of Ended = true
over_of Refused = true

-- all is over, and a last word is to say that it ended amiss
abbrev pub refused_at : Place → Place
refused_at p = record p { state = Refused }

abbrev pub refused_if : Bool → Place → Place
refused_if wrong p = cond wrong (refused_at p) p

-- so many bytes of the output's buffer are to be sent
abbrev pub filled_to : ℕ → Place → Place
filled_to n p = record p { filled = n }

-- the output's buffer holds these bytes
abbrev pub holding : List ℕ → Place → Place
holding bytes p = record p { output = bytes }

-- What was gathered is sent. Refused where more was than the buffer has room for, or where it was not taken.
unfoldable pub sent : Bool → Place → Place
sent taken p = refused_if (ltb ROOM p.filled || not taken) (filled_to 0 p)

-- Sent where the program is to wait for `want` bytes, since fewer are unread, or where less than a word's room is left.
unfoldable pub cleared_by : Bool → ℕ → Place → Place
cleared_by taken want p =
    cond (ltb (p.unread.end - p.unread.at) want || ltb ROOM (p.filled + 8)) (sent taken p) p

-- the word is put behind what is filled once there is room for it; refused where it does not fit even so
unfoldable pub wrote : Bool → ℕ → Place → Place
wrote taken w p =
    let q = cleared_by taken 0 p in
    let put = put_of q.output q.filled w in
    if_stored put.0 (λ next. filled_to next (holding put.1 q)) (refused_at (holding put.1 q))

-- the answers that were gathered stay, and how many of their bytes are to be sent
abbrev pub Kept : Place → Place → Type 0
Kept a b = (b.output ≡ a.output) × (b.filled ≡ a.filled)

-- one of the two things that standard output may do
unfoldable pub Told : {A : Type 0} → (Bool → A) → A → Type 0
Told f r = (r ≡ f true) ⊎ (r ≡ f false)

-- words are written one after the other; each time standard output is asked, it does one of the two
unfoldable pub Writes : List ℕ → Place → Place → Type 0
Writes [] a b = a ≡ b
Writes (w ∷ ws) a b = Writes ws (wrote true w a) b ⊎ Writes ws (wrote false w a) b

-- a flag's word
abbrev pub flag_word : Bool → ℕ
flag_word flag = cond flag 1 0

-- the first samples are written; where there are not so many, nothing is, and that is refused
pub record WritesFirst (samples : List Float) (count : ℕ) (a b : Place) : Type 0 where
  pub short : length samples < count → b ≡ refused_at a
  pub long : count ≤ length samples → Writes (map to_word (take count samples)) a b
