-- What a contract sees of hits.
use Rattle.std.specs.Prelude.{List, map}
use Rattle.concordance.specs.Hits.{HitParts}
use Rattle.concordance.specs.declared.hit.Hit.{Hit}

-- a hit: its key, its start in the text, and its bytes
abbrev pub hit_view : Hit → HitParts
hit_view h = record { key = h.key; start = h.start; text = h.text.now }

-- hits, each with its key, its start in the text, and its bytes
abbrev pub hits_view : List Hit → List HitParts
hits_view hs = map hit_view hs
