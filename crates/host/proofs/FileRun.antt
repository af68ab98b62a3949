-- A patch that was read from a file goes to the run as it is: no stage of it is refused with 22, and what the run refuses is for the engine to say.
-- That holds of any file, for where one is refused the patch is empty. Assumes nothing.
use mathlib.Core.Path.{◌≡◌, refl}
use mathlib.Core.List.{List}
use Prim.Native.Nat.{ℕ}
use borrow.Author.Tests.{eq-eqb}
use Rattle.engine.specs.Run.{Given, run_of}
use Rattle.files.specs.File.{read_of}
use Rattle.files.proofs.Named.{read_runnable}
use Rattle.host.specs.Host.{read_patch_of, flat_ran, flat_run_of}

pub read_runs : (bytes : List ℕ) (g : Given) (order : List ℕ) → flat_run_of (read_patch_of (read_of bytes)).patch g order ≡ flat_ran (run_of g order)
unfolding flat_run_of
read_runs bytes g order = rw (eq-eqb _ _ (read_runnable bytes).1) refl
