-- The segments for which a file is asked about, as a person is told them (this project's own rule).
use Rattle.std.specs.Prelude.{ℕ, nat_eq, List, [], map, Option, None, Some, Result, Ok, if◌then◌else◌}
use Rattle.std.specs.List.{find}
use Rattle.usfm_ref.specs.Keys.{KeyParts}
use Rattle.usfm_ref.specs.Segments.{segment}
use Rattle.verse_cut.specs.Pieces.{PieceParts}
use Rattle.op_core.specs.Ops.{Operation}
use Rattle.op_core.specs.Export.{has_book}
use Rattle.op_core.specs.Shown.{Pick, Line, Greatest, Empty, pick}
use Rattle.replica_state.specs.States.{State}
use Rattle.book_folder.specs.Asks.{emptied, undone}
use Rattle.book_folder.specs.Begun.{begun_with}
use Rattle.book_folder.specs.Coming.{earlier_bases, older_from, rebased_if_stale}
use Rattle.book_folder.specs.Files.{FileParts, files_from, text_if}
use Rattle.book_folder.specs.Refusals.{◌>>=◌}
use Rattle.book_folder.specs.Restored.{coming_pieces}
use Rattle.book_folder.specs.Taking.{AskedParts, asked}
use Rattle.book_folder.specs.Wanted.{SeenParts, WishParts}
use Rattle.book_folder.specs.declared.questions.AskedSegment.{AskedSegment}
use Rattle.book_folder.specs.declared.refusal.Refusal.{Refusal}

-- a segment for which a file is asked about, with the name of whose text its base has there
pub record SegmentParts : Type 0 where
  pub book : List ℕ
  pub key : KeyParts
  pub name : Option (List ℕ)

-- a segment for which a file is asked about, as a contract sees it
abbrev pub segment_view : AskedSegment → SegmentParts
segment_view s = record { book = s.book; key = s.key; name = s.name }

-- whose text is picked
abbrev pub name_of : Pick → Option (List ℕ)
name_of (Greatest o) = Some o.id.name
name_of (Line chapter) = None
name_of Empty = None

-- a segment of a key, with the name of whose text a base has there
abbrev pub segment_asked : List Operation → List ℕ → KeyParts → SegmentParts
segment_asked base book key = record {
  book = book;
  key = key;
  name = name_of (pick base (segment book key));
}

-- the segments of what is asked, if anything is
abbrev pub segments_of : List Operation → List ℕ → Option AskedParts → List SegmentParts
segments_of base book None = []
segments_of base book (Some a) = map (segment_asked base book) a.keys

-- the segments for which a file is asked about, by its pieces
abbrev pub asked_by_pieces : State → List ℕ → List State → WishParts → List ℕ → List PieceParts
    → List SegmentParts
asked_by_pieces base own older wishes book pieces =
    segments_of base.held book
    (asked wishes (undone older base.held own book pieces) (emptied base.held book pieces))

-- the same by its text, if it is one
abbrev pub asked_by_text : State → List ℕ → List State → WishParts → List ℕ → Option (List ℕ)
    → List SegmentParts
asked_by_text base own older wishes book None = []
asked_by_text base own older wishes book (Some text) =
    if has_book base.held book
    then asked_by_pieces base own older wishes book (coming_pieces base.held book text) else []

-- The segments for which a file is asked about that was written from a base, into a project of a
-- name.
abbrev pub asked_of : State → List ℕ → List State → WishParts → FileParts → List SegmentParts
asked_of base own older wishes f = asked_by_text base own older wishes f.book (text_if f.bytes)

-- the same of a file that there may be
abbrev pub asked_if : State → List ℕ → List State → WishParts → Option FileParts
    → List SegmentParts
asked_if base own older wishes None = []
asked_if base own older wishes (Some f) = asked_of base own older wishes f

-- the same of the file of a place among the files of books, once the bases were received
abbrev pub asked_among : SeenParts → WishParts → List FileParts → ℕ
    → Result (List SegmentParts) Refusal
asked_among seen wishes files at =
    begun_with seen wishes >>= λ begun.
    older_from begun.base.name 0 [] (earlier_bases seen) >>= λ older.
    rebased_if_stale wishes begun older files >>= λ b.
    Ok (asked_if b.base b.replica.name older wishes (find (λ f. nat_eq f.at at) files))

-- The segments for which the file of a place is asked about.
abbrev pub asked_segments : SeenParts → WishParts → ℕ → Result (List SegmentParts) Refusal
asked_segments seen wishes at = asked_among seen wishes (files_from 0 seen.files) at
