-- Which kinds there are, as `flat` answers it. Assumes nothing.
use mathlib.Core.Path.{◌≡◌, refl, sym, ap, ◌∙◌}
use mathlib.Core.Bool.{Bool, true, false, cond}
use Prim.Native.Nat.{ℕ}
use lib.Dec.{ltb}
use Rattle.flat.specs.Form.{kind_count, form_of, formed_of}
use Rattle.flat.specs.declared.form.Form.{Form}
use Rattle.std.specs.Prelude.{Option, Some, None}

unfoldable is_form : Option Form → Bool
is_form (Some f) = true
is_form None = false

unfoldable form_or : Form → Option Form → Form
form_or g (Some f) = f
form_or g None = g

module _ (kind : ℕ) where
  abbrev asked : Bool → Option Form
  asked known = cond known (Some (form_of kind)) None

  is_form_asked : (known : Bool) → is_form (asked known) ≡ known
  unfolding is_form
  is_form_asked true = refl
  is_form_asked false = refl

  -- a kind whose form is answered, and one that has none
  pub known_kind : (form : Form) (answer : Option Form) → answer ≡ formed_of kind → answer ≡ Some form → (ltb kind kind_count ≡ true) × (form ≡ form_of kind)
  unfolding is_form form_or
  known_kind form answer e f =
      let known : ltb kind kind_count ≡ true = sym (is_form_asked (ltb kind kind_count)) ∙ ap is_form (sym e ∙ f) in
      (known, ap (form_or form) (sym f ∙ e ∙ ap asked known))

  pub unknown_kind : (answer : Option Form) → answer ≡ formed_of kind → answer ≡ None → ltb kind kind_count ≡ false
  unfolding is_form
  unknown_kind answer e f = sym (is_form_asked (ltb kind kind_count)) ∙ ap is_form (sym e ∙ f)
