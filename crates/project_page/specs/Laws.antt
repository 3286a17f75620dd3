-- What holds of each page (this project's own rule): no text of a project acts as markup in it.
use Rattle.std.specs.Prelude.{◌≡◌, ℕ, ◌==◌, nat_eq, Bool, true, false, not, ◌&&◌, ◌||◌, List, [], ◌∷◌, codes, chars, filter}
use Rattle.std.specs.List.{list_all, list_any, starts_with}
use Rattle.std.specs.Str.{IsUtf8}
use Rattle.plain_line.specs.Plain.{is_obeyed}
use Rattle.plain_line.specs.declared.text.CarriageReturn.{CarriageReturn}
use Rattle.project_page.specs.Pages.{page, page_by}
use Rattle.project_page.specs.Parts.{PageView}
use Rattle.project_page.specs.Said.{is_noncharacter, said}

-- whether a byte is one that HTML reads as markup, beside the one that begins a reference: `<`,
-- `>`, `"` or `'`
abbrev pub is_markup : ℕ → Bool
is_markup b = b == 60 || b == 62 || b == 34 || b == 39

-- whether a text begins with a reference
abbrev pub begins_reference : List ℕ → Bool
begins_reference bytes =
    starts_with nat_eq bytes (codes "&amp;") || starts_with nat_eq bytes (codes "&lt;")
    || starts_with nat_eq bytes (codes "&gt;") || starts_with nat_eq bytes (codes "&quot;")
    || starts_with nat_eq bytes (codes "&#39;")

-- whether each `&` (38) of a text begins a reference
abbrev pub refers : List ℕ → Bool
refers [] = true
refers (b ∷ bytes) = (not (b == 38) || begins_reference (b ∷ bytes)) && refers bytes

-- A text has no markup where it stands in a page,
abbrev pub SaidHasNoMarkup : Type 0
SaidHasNoMarkup =
    (returns : CarriageReturn) (text : List ℕ) → list_any is_markup (said returns text) ≡ false

-- each `&` there begins a reference,
abbrev pub SaidRefers : Type 0
SaidRefers =
    (returns : CarriageReturn) (text : List ℕ) → refers (said returns text) ≡ true

-- whether a character may stand in a page: a line feed, or one that no terminal obeys and that is
-- no noncharacter
abbrev pub may_stand : ℕ → Bool
may_stand c = (c == 10) || not (is_obeyed c || is_noncharacter c)

-- and no other character than these is left there.
abbrev pub SaidMayStand : Type 0
SaidMayStand =
    (returns : CarriageReturn) (text : List ℕ) →
    IsUtf8 text → list_all may_stand (chars (said returns text)) ≡ true

-- a text that is left out
abbrev pub left_out : CarriageReturn → List ℕ → List ℕ
left_out returns text = []

-- The markup of a page is that of the same page with each text and name left out.
abbrev pub MarkupIsFixed : Type 0
MarkupIsFixed = (p : PageView) → filter is_markup (page p) ≡ filter is_markup (page_by left_out p)
