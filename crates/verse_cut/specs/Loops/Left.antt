-- What is left of a cut on its way.
use Rattle.std.specs.Prelude.{List, [], if◌then◌else◌}
use Rattle.verse_cut.specs.Pieces.{PieceParts}
use Rattle.verse_cut.specs.Loops.Walks.{pieces_at}
use Rattle.verse_cut.specs.declared.cutter.Pieces.{Pieces}

-- the pieces that are still to be given
abbrev pub pieces_left : Pieces → List PieceParts
pieces_left s = if s.is_done then [] else pieces_at s.key s.start s.from.now s.rest.now
