use Rattle.std.proofs.Common.{◌≡◌, ℕ, List, map}
use Rattle.std.specs.Prelude.{find}
use Rattle.std.specs.Option.{option_or}
use Rattle.sty_sheet.specs.Closers.{held}
use Rattle.sty_sheet.specs.StyleViews.{closes}
use Rattle.sty_sheet.specs.Listing.{styles_in}
use Rattle.sty_sheet.proofs.records.closers_of.Given as goal

abbrev pub invariant-loop-listed : goal.invariant-loop-listed
invariant-loop-listed l =
    (name : List ℕ) → option_or (held l.closers name) (find (closes name) (map (λ v. v.style) l.listed-iterator))
    ≡ find (closes name) (styles_in l.styles)
