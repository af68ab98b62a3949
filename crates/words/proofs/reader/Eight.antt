-- Eight bytes that are read as one word. Assumes nothing.
use Rattle.std.proofs.Common.{◌≡◌, ℕ, List, [], ◌∷◌, length, arith, Result, Ok, Err, Some}
use Rattle.std.specs.Array.{IsWholeChunk}
use Rattle.std.specs.Int.{w64, from_le_bytes}
use Rattle.std.specs.Result.{MatchResult, result_ok}
use Rattle.words.specs.Word.{word_of}

-- an array that was made of a whole slice has the slice's bytes
pub read_whole : {E : Type 0} (made : Result (List ℕ) E) (xs ys : List ℕ) (n : ℕ) (Q : E → Type 0) → Some ys ≡ result_ok made
    → MatchResult made (λ y. IsWholeChunk xs y n) Q → ys ≡ xs
read_whole (Ok made) xs ys n Q e h = cc (e, h.same)
read_whole (Err other) xs ys n Q e h = cc e

-- the lowest byte comes first
pub low_first : (bytes : List ℕ) → length bytes ≡ 8 → from_le_bytes w64 bytes ≡ word_of bytes
low_first (a ∷ b ∷ c ∷ d ∷ e ∷ f ∷ g ∷ h ∷ []) eight = omega arith
low_first bytes eight = omega arith
