-- The byte that a look-up of a slice found, or that there is none. Assumes nothing.
use Rattle.std.proofs.Common.{◌≡◌, sym, ℕ, ◌<◌, ◌≤◌, ltb, List, length, get_or, Bor, Option, Some, None, unwrap_or}
use Rattle.std.specs.Option.{is_some, option_copied, option_map}
use borrow.Author.Tests.{ltb-true, ltb-false}

pub no_byte : (found : Option (Bor ℕ)) (at size : ℕ) → None ≡ option_copied found → is_some found ≡ ltb at size → size ≤ at
no_byte None at size e f = ltb-false _ _ (sym f)
no_byte (Some byte) at size e f = cc e

pub a_byte : (found : Option (Bor ℕ)) (bytes : List ℕ) (at byte : ℕ) → Some byte ≡ option_copied found → is_some found ≡ ltb at (length bytes)
    → ((d : ℕ) → unwrap_or (option_map (λ x. x.now) found) d ≡ get_or bytes at d) → (at < length bytes) × (byte ≡ get_or bytes at 0)
a_byte None bytes at byte e f g = cc e
a_byte (Some other) bytes at byte e f g = (ltb-true _ _ (sym f), cc (e, g 0))
