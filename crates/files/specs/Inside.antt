-- What the private functions of `files` promise: what was read, and how far. Assumes nothing.
use Rattle.std.specs.Prelude.{ℕ, Result, Ok, Err}
use Rattle.flat.specs.declared.patch.FlatPatch.{FlatPatch}
use Rattle.files.specs.Reader.{Part, said, refused, Reader, saying, ◌>>=◌}
use Rattle.files.specs.File.{stages, patch_from}
use Rattle.files.specs.Fault.{fault_number}
use Rattle.files.specs.declared.fault.Fault.{Fault}

-- what a result tells, and the offset where the next part begins
abbrev pub told : {A : Type 0} → Result A Fault → ℕ → Part A
told (Ok a) at = said a at
told (Err fault) at = refused (fault_number fault.reason) fault.offset

-- so many stages, as a patch
unfoldable pub patch_of_stages : ℕ → Reader FlatPatch
patch_of_stages count = do
  ts ← stages count
  saying (patch_from ts)
