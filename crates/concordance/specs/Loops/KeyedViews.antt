-- What an iterator over passages with their keys has left.
use Rattle.std.specs.Prelude.{List, map}
use Rattle.concordance.specs.Hits.{HitParts, keyed}
use Rattle.concordance.specs.Loops.LeafViews.{passages_view, pieces_left}
use Rattle.concordance.specs.Words.{Spelling}
use Rattle.concordance.specs.declared.keyed.Keyed.{Keyed}

-- the hits that an iterator has still to give
abbrev pub hits_left : Keyed → List HitParts
hits_left k = map (keyed (pieces_left k.places)) (passages_view k.passages.now)

-- a run with its key, as a spelling that is not composed
abbrev pub spelled : HitParts → Spelling
spelled h = record { form = h.text; key = h.key }
