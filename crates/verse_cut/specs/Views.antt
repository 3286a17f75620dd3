-- What a contract sees of a piece: its key, its start and its bytes.
use Rattle.std.specs.Prelude.{List, map}
use Rattle.verse_cut.specs.Pieces.{PieceParts}
use Rattle.verse_cut.specs.declared.cutter.Piece.{Piece}

-- a piece: its key, its start and its bytes
abbrev pub piece_view : Piece → PieceParts
piece_view p = record { key = p.key; start = p.start; text = p.text.now }

-- pieces, each as its key, its start and its bytes
abbrev pub pieces_view : List Piece → List PieceParts
pieces_view ps = map piece_view ps
