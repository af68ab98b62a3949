-- A part of a file as it is read: from all bytes of the file and the offset where the part begins. Assumes nothing.
use Rattle.std.specs.Prelude.{ℕ, Bool, cond, List}

-- what the part says, and the offset where the next one begins; or the refusal's number, and the offset where what is at fault begins
pub data Part (A : Type 0) : Type 0 where
  said : A → ℕ → Part A
  refused : ℕ → ℕ → Part A

abbrev pub Reader : Type 0 → Type 0
Reader A = List ℕ → ℕ → Part A

-- nothing is read
abbrev pub saying : {A : Type 0} → A → Reader A
saying a bytes at = said a at

abbrev pub refusing : {A : Type 0} → ℕ → ℕ → Reader A
refusing number offset bytes at = refused number offset

-- what comes next, where nothing is at fault
unfoldable pub followed : {A B : Type 0} → Part A → (A → ℕ → Part B) → Part B
followed (said a at) next = next a at
followed (refused number offset) next = refused number offset

-- one part and then the next: "Refusals, at the first fault in reading order"
infixl 10 ◌>>=◌
unfoldable pub ◌>>=◌ : {A B : Type 0} → Reader A → (A → Reader B) → Reader B
◌>>=◌ part next bytes at = followed (part bytes at) (λ a after. next a bytes after)

-- a part that is judged as soon as it is read: where it is not good, refused at its beginning
unfoldable pub judged : {A : Type 0} → ℕ → (A → Bool) → Reader A → Reader A
judged number good part bytes at = followed (part bytes at) (λ a after. cond (good a) (said a after) (refused number at))

-- a part that is not in every file: something else stands for it where it is not there, and nothing is read
abbrev pub if_there : {A : Type 0} → Bool → A → Reader A → Reader A
if_there there none part = cond there part (saying none)
