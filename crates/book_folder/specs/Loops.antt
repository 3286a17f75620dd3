-- What is left of walks on their way.
use Rattle.std.specs.Prelude.{List, map}
use Rattle.verse_cut.specs.Pieces.{PieceParts}
use Rattle.verse_cut.specs.Views.{pieces_view}
use Rattle.book_folder.specs.Files.{FileParts, files_from}
use Rattle.book_folder.specs.Restored.{restored_piece}
use Rattle.book_folder.specs.Wanted.{found_view}
use Rattle.book_folder.specs.declared.files.BookFiles.{BookFiles}
use Rattle.book_folder.specs.declared.restored.RestoredPieces.{RestoredPieces}

-- the files of books among those that are not looked at yet
abbrev pub files_left : BookFiles → List FileParts
files_left s = files_from s.at (map found_view s.left.now)

-- the pieces that are not given yet
abbrev pub pieces_left : RestoredPieces → List PieceParts
pieces_left s = map (restored_piece s.base s.book) (pieces_view s.left.now)
