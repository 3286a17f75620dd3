-- The milestones of a sheet by their closing names, as a sheet keeps them. No public contract
-- speaks of them.
use Rattle.std.specs.Prelude.{◌≡◌, ℕ, List, Option, None, Some, find, if◌then◌else◌}
use Rattle.std.specs.Option.{option_or}
use Rattle.std.specs.Map.{lookup}
use Rattle.std.specs.Str.{bytes_eq}
use Rattle.indexmap.specs.IndexMap.{IndexMap}
use Rattle.std.specs.Borrow.{Bor}
use Rattle.sty_sheet.specs.Records.{Record, is_milestone}
use Rattle.sty_sheet.specs.StyleViews.{closes}
use Rattle.sty_sheet.specs.declared.style.Style.{Style}

-- the closing name of a milestone
abbrev pub milestone_closer : Record → Option (List ℕ)
milestone_closer r = if is_milestone r.kind then r.closer else None

-- the style that a map has at a name
abbrev pub held : {S : Type 0} → IndexMap (Bor (List ℕ)) Style S → List ℕ → Option Style
held closers name = lookup (λ k. bytes_eq name k.now) closers.entries

-- the map takes a style in, where the style is a milestone and no other is under its closing name
abbrev pub AddsTo : {S : Type 0} → IndexMap (Bor (List ℕ)) Style S → Style
    → IndexMap (Bor (List ℕ)) Style S → Type 0
AddsTo old s new =
    (name : List ℕ) → held new name ≡ option_or (held old name)
    (if closes name s then Some s else None)

-- the map has at each name the first of the styles that are milestones which it closes
abbrev pub HasFirstOf : {S : Type 0} → IndexMap (Bor (List ℕ)) Style S → List Style → Type 0
HasFirstOf closers styles = (name : List ℕ) → held closers name ≡ find (closes name) styles
