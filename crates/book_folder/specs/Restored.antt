-- A file as nobody but a person changed it (this project's own rule): what an editor did to line
-- ends and to U+FEFF at the front is taken back.
use Rattle.std.specs.Prelude.{ℕ, List, [], ◌++◌, map, take, if◌then◌else◌}
use Rattle.usfm_ref.specs.Books.{same_bytes}
use Rattle.usfm_ref.specs.Segments.{segment}
use Rattle.verse_cut.specs.Fits.{byte_order_mark}
use Rattle.verse_cut.specs.Pieces.{PieceParts, pieces_of}
use Rattle.verse_cut.specs.Reading.{after_bom}
use Rattle.op_core.specs.Ops.{Operation, own_text}
use Rattle.op_core.specs.Shown.{Pick, Line, Greatest, Empty, pick}
use Rattle.op_core.specs.Export.{export}
use Rattle.book_folder.specs.Likes.{like, line_ends, in_line_ends}
use Rattle.book_folder.specs.declared.likes.LineEnds.{LineEnds}
use Rattle.book_folder.specs.declared.likes.LineEnds.TheVariants.{Lf, CrLf, Mixed}

-- U+FEFF where a text begins with it
abbrev pub front_of : List ℕ → List ℕ
front_of text = if same_bytes (take 3 text) byte_order_mark then byte_order_mark else []

-- the line ends that texts get which come in beside a text of such line ends: where that has some
-- of each, LF
abbrev pub coming_ends : LineEnds → LineEnds
coming_ends CrLf = CrLf
coming_ends Lf = Lf
coming_ends Mixed = Lf

-- A text with U+FEFF at its front as another one has it, and with line ends as that one has them.
-- So of texts that are like each other it is the same.
abbrev pub in_manner_of : List ℕ → List ℕ → List ℕ
in_manner_of was now = front_of was ++ in_line_ends (coming_ends (line_ends was)) (after_bom now)

-- the text of an operation that is picked, where a piece is like it, and else the piece
abbrev pub restored_by : Pick → List ℕ → List ℕ
restored_by (Greatest o) piece = if like (own_text o) piece then own_text o else piece
restored_by (Line chapter) piece = piece
restored_by Empty piece = piece

-- a piece of a file, with the text that a base picks there, where the two are like each other
abbrev pub restored_piece : List Operation → List ℕ → PieceParts → PieceParts
restored_piece base book p = record {
  key = p.key;
  start = p.start;
  text = restored_by (pick base (segment book p.key)) p.text;
}

-- the pieces of a text of a book, each as the base has it, where the two are like each other
abbrev pub restored_pieces : List Operation → List ℕ → List ℕ → List PieceParts
restored_pieces base book text = map (restored_piece base book) (pieces_of text)

-- the pieces of a book's file that was written from a base, as they come in
abbrev pub coming_pieces : List Operation → List ℕ → List ℕ → List PieceParts
coming_pieces base book file = restored_pieces base book (in_manner_of (export base book) file)
