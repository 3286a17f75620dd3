-- Imports of a book's file into a replica (this project's own rule): the edits that make the file
-- the export of its book.
use Rattle.std.specs.Prelude.{ℕ, Bool, not, ◌&&◌, ◌||◌, List, [], ◌++◌, map}
use Rattle.std.specs.Prelude.{filter, Option, None, Some, Result, Ok, Err}
use Rattle.std.specs.List.{find, list_any}
use Rattle.std.specs.Option.{is_some}
use Rattle.std.specs.Ordering.{is_eq}
use Rattle.usfm_ref.specs.Books.{same_bytes}
use Rattle.usfm_ref.specs.Keys.{KeyParts, key_cmp, head_of, is_verse_of}
use Rattle.usfm_ref.specs.Rising.{rising}
use Rattle.usfm_ref.specs.Segments.{segment}
use Rattle.verse_cut.specs.Pieces.{PieceParts, pieces_of}
use Rattle.verse_cut.specs.Reading.{book_in}
use Rattle.verse_cut.specs.declared.fault.BookFault.{BookFault}
use Rattle.op_core.specs.Ops.{Operation}
use Rattle.op_core.specs.Shown.{wants_chapter_line}
use Rattle.op_core.specs.CutsBack.{picked_at}
use Rattle.op_core.specs.Lists.{keys_of, shown_ids}
use Rattle.replica_state.specs.States.{State}
use Rattle.replica_state.specs.Changes.{ChangeParts, edits_or}
use Rattle.replica_state.specs.declared.fault.ImportFault.{ImportFault}
use Rattle.replica_state.specs.declared.fault.ImportFault.TheVariants.{BadFile, NumbersUsedUp}

-- the text of a piece, empty where there is none
abbrev pub piece_own_text : Option PieceParts → List ℕ
piece_own_text None = []
piece_own_text (Some p) = p.text

-- the piece of a key
abbrev pub piece_of : List PieceParts → KeyParts → Option PieceParts
piece_of pieces key = find (λ p. is_eq (key_cmp key p.key)) pieces

-- the text of the piece of a key, empty where there is none
abbrev pub piece_at : List PieceParts → KeyParts → List ℕ
piece_at pieces key = piece_own_text (piece_of pieces key)

-- whether a verse of the chapter has a piece
abbrev pub has_verse : List PieceParts → ℕ → Bool
has_verse pieces chapter = list_any (λ p. is_verse_of chapter p.key) pieces

-- whether the key is picked as its chapter's line, and a file has a piece there and no verse of the
-- chapter: without an edit the line would be gone with the last verse
abbrev pub loses_line : List Operation → List ℕ → List PieceParts → KeyParts → Bool
loses_line held book pieces key =
    wants_chapter_line held (segment book key)
    && is_some (piece_of pieces key)
    && not (has_verse pieces key.chapter)

-- whether an import edits the key: what is picked differs from the file's piece, or the chapter's
-- line would be gone
abbrev pub is_due : List Operation → List ℕ → List PieceParts → KeyParts → Bool
is_due held book pieces key =
    not (same_bytes (picked_at held book key) (piece_at pieces key))
    || loses_line held book pieces key

-- the keys that an import may edit, rising: those with an operation, the heads of their chapters,
-- and those of the file
abbrev pub walked_keys : List Operation → List ℕ → List PieceParts → List KeyParts
walked_keys held book pieces =
    rising key_cmp
    (map head_of (keys_of held book) ++ (keys_of held book ++ map (λ p. p.key) pieces))

-- the keys that an import edits, rising
abbrev pub due_keys : List Operation → List ℕ → List PieceParts → List KeyParts
due_keys held book pieces = filter (is_due held book pieces) (walked_keys held book pieces)

-- the change of a key to the file's piece, which replaces all that its segment shows
abbrev pub due_change : List Operation → List ℕ → List PieceParts → KeyParts → ChangeParts
due_change held book pieces key = record {
  key = key;
  text = piece_at pieces key;
  ids = shown_ids held (segment book key);
}

-- the changes that an import makes, of rising keys
abbrev pub due_changes : List Operation → List ℕ → List PieceParts → List ChangeParts
due_changes held book pieces = map (due_change held book pieces) (due_keys held book pieces)

-- the operations of an import of the book that its file begins with, or that it begins with none
abbrev pub import_into : State → List PieceParts → Result (List ℕ) BookFault
    → Result (List Operation) ImportFault
import_into s pieces (Err fault) = Err (BadFile fault)
import_into s pieces (Ok book) = edits_or NumbersUsedUp s book (due_changes s.held book pieces)

-- the operations of an import: the edits of its changes, by rising numbers; or that the file begins
-- with no book, or else that no number is left
abbrev pub import_ops : State → List ℕ → Result (List Operation) ImportFault
import_ops s file = import_into s (pieces_of file) (book_in file)
