-- A whole file: that its stages are read as a patch, what follows them, and what is answered, in numbers. Assumes nothing.
use Rattle.std.proofs.Common.{◌≡◌, refl, ℕ, true, false, leb, List, length, Result, Ok, Err}
use Rattle.flat.specs.declared.patch.FlatPatch.{FlatPatch}
use Rattle.files.specs.Reader.{Part, said, refused, Reader, saying, followed, ◌>>=◌}
use Rattle.files.specs.Fault.{in_numbers}
use Rattle.files.specs.File.{stages, end, patch_from, answered}
use Rattle.files.specs.Inside.{told, patch_of_stages}
use Rattle.files.specs.declared.fault.Fault.{Fault}
use Rattle.files.proofs.Following.{passed}

-- what is told of a file is what is answered of it
pub numbers_told : (r : Result FlatPatch Fault) (at : ℕ) (part : Part FlatPatch) → told r at ≡ part → in_numbers r ≡ answered part
unfolding answered
numbers_told (Ok patch) at part e = rw (← e) refl
numbers_told (Err fault) at part e = rw (← e) refl

-- after the stages, of a patch: that nothing is left
abbrev pub ending : FlatPatch → Reader FlatPatch
ending patch = end >>= λ _. saying patch

pub staged : (count : ℕ) (bytes : List ℕ) (at : ℕ) (answer : Part FlatPatch) → answer ≡ (patch_of_stages count >>= ending) bytes at
    → answer ≡ (stages count >>= λ ts. ending (patch_from ts)) bytes at
unfolding patch_of_stages followed end ◌>>=◌
staged count bytes at answer e = rw (passed (stages count bytes at) _ _ _ (λ ts after. refl)) at e

-- where something is left, and where nothing is
pub ending_left : (patch : FlatPatch) (bytes : List ℕ) (at : ℕ) → leb (length bytes) at ≡ false → refused 24 at ≡ ending patch bytes at
unfolding end followed ◌>>=◌
ending_left patch bytes at h = rw h refl

pub ending_none : (patch : FlatPatch) (bytes : List ℕ) (at : ℕ) → leb (length bytes) at ≡ true → said patch at ≡ ending patch bytes at
unfolding end followed ◌>>=◌
ending_none patch bytes at h = rw h refl
