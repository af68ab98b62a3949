-- Samples as bytes, eight to each, low byte first. Rests on `words` for what eight bytes make. Assumes nothing.
use Rattle.std.specs.Prelude.{ℕ, zero, suc, ◌/◌, ◌%◌, cond, List, [], ◌∷◌, eqb, length, take, drop}
use Rattle.words.specs.Word.{word_of}
use Rattle.report.specs.Report.{Added, after, has_room, refused_by, accepted}
use Rattle.report.specs.declared.report.Report.{Report}

-- the first n samples of bytes
unfoldable pub first_samples : ℕ → List ℕ → List ℕ
first_samples zero bytes = []
first_samples (suc n) bytes = word_of (take 8 bytes) ∷ first_samples n (drop 8 bytes)

-- all whole ones
abbrev pub samples_of : List ℕ → List ℕ
samples_of bytes = first_samples (length bytes / 8) bytes

-- "30, more than 4,294,967,295 samples", and then "34, input that ends inside a sample"
unfoldable pub added_bytes_of : Report → List ℕ → Added
added_bytes_of r bytes =
    cond (has_room r (length bytes / 8))
    (cond (eqb (length bytes % 8) 0) (accepted (after r (samples_of bytes))) (refused_by 34 r))
    (refused_by 30 r)
