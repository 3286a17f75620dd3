-- What a contract sees of forms.
use Rattle.std.specs.Prelude.{ℕ, List, map, string_bytes}
use Rattle.concordance.specs.declared.form.Form.{Form}
use Rattle.concordance.specs.declared.form.Form.TheVariants.{Lent, Made}

-- the bytes of a form, lent or made
abbrev pub form_bytes : Form → List ℕ
form_bytes (Lent text) = text.now
form_bytes (Made text) = string_bytes text

-- forms, each by its bytes
abbrev pub forms_view : List Form → List (List ℕ)
forms_view forms = map form_bytes forms
