-- Milestones taken in one after the other: under each closing name is the first.
use Rattle.std.proofs.Common.{◌≡◌, ℕ, Bool, true, false, cond, ◌&&◌, List, Option, None, Some, sym, refl, ap, ◌∙◌, Bor}
use Rattle.std.specs.Option.{is_some, option_map, option_or}
use Rattle.std.specs.Map.{update}
use Rattle.std.specs.Str.{bytes_eq}
use Rattle.std.proofs.lemmas.Bool.{false≢true}
use Rattle.std.proofs.lemmas.Slice.Eq.{bytes_eq-Decides}
use Rattle.sty_sheet.specs.Closers.{milestone_closer}
use Rattle.sty_sheet.specs.Records.{Record, closes_milestone, is_milestone, is_name}
use Rattle.sty_sheet.specs.StyleViews.{closes, record_of}
use Rattle.sty_sheet.specs.declared.style.Style.{Style}

name_by : (name : List ℕ) (b : Bool) (closer : Option (List ℕ)) → (b && is_name name closer) ≡ is_name name (cond b closer None)
name_by name true closer = refl
name_by name false closer = refl

-- a milestone is closed by its closing name alone
closes_is : (r : Record) (x : List ℕ) → Some x ≡ milestone_closer r → (name : List ℕ) → closes_milestone name r ≡ bytes_eq x name
closes_is r x is name = name_by name (is_milestone r.kind) r.closer ∙ ap (is_name name) (sym is)

added_by : (b : Bool) (s : Style) (o : Option Style) → (b ≡ true → o ≡ None) → cond b (Some s) o ≡ option_or o (cond b (Some s) None)
added_by true s o none = sym (ap (λ p. option_or p (Some s)) (none refl))
added_by false s None none = refl
added_by false s (Some r) none = refl

-- one more milestone is kept under its closing name where nothing was
pub adds : (s : Style) (x : List ℕ) (old : List ℕ → Option Style) → Some x ≡ milestone_closer (record_of s) → old x ≡ None
    → (name : List ℕ) → update bytes_eq old x (Some s) name ≡ option_or (old name) (cond (closes name s) (Some s) None)
adds s x old is none name =
    added_by (bytes_eq x name) s (old name) (λ same. ap old (sym ((bytes_eq-Decides x name).0 same)) ∙ none)
    ∙ ap (λ t. option_or (old name) (cond t (Some s) None)) (sym (closes_is (record_of s) x is name))

-- nothing is found where none is
pub nothing_held : (o : Option (Bor Style)) (p : Option Style) → option_map (λ s. s.now) o ≡ p → is_some o ≡ false → p ≡ None
nothing_held None p is none = sym is
nothing_held (Some s) p is none = absurd (false≢true (sym none))
