-- The styles that a sheet keeps.
use Rattle.std.specs.Prelude.{ℕ, List, map}
use Rattle.indexmap.specs.IndexMap.{IndexMap, values}
use Rattle.std.specs.Borrow.{Bor}
use Rattle.sty_sheet.specs.declared.listed.Listed.{Listed}
use Rattle.sty_sheet.specs.declared.style.Style.{Style}

-- the styles that a map keeps, in its order
abbrev pub styles_in : {S : Type 0} → IndexMap (Bor (List ℕ)) Listed S → List Style
styles_in styles = map (λ l. l.style) (values styles)
