-- Which segments of a set words name (this project's own rule).
use Rattle.std.specs.Prelude.{ℕ, ◌==◌, Bool, ◌&&◌, ◌||◌, List, [], ◌∷◌, ◌++◌, length, map, filter}
use Rattle.std.specs.List.{flat_map, list_all, list_any}
use Rattle.usfm_ref.specs.Books.{same_bytes}
use Rattle.usfm_ref.specs.Rising.{rising}
use Rattle.usfm_ref.specs.Segments.{segment_cmp, same_segment}
use Rattle.usfm_ref.specs.declared.segment.Segment.{Segment}
use Rattle.op_core.specs.Ids.{Id}
use Rattle.op_core.specs.Ops.{Operation}
use Rattle.op_core.specs.Export.{has_book}
use Rattle.segment_history.specs.Changes.{ChangedParts, changed_at, changed_segments}
use Rattle.segment_history.specs.declared.named.Named.{Named}
use Rattle.segment_history.specs.declared.named.Named.TheVariants.{Whole, Chapter, One}

-- the book that is named, or that of the chapter or the segment
abbrev pub book_of : Named → List ℕ
book_of (Whole book) = book
book_of (Chapter book chapter) = book
book_of (One g) = g.book

-- whether the book of a segment, its chapter or itself is named
abbrev pub has_segment : Segment → Named → Bool
has_segment g (Whole book) = same_bytes book g.book
has_segment g (Chapter book chapter) = same_bytes book g.book && (chapter == g.key.chapter)
has_segment g (One h) = same_segment h g

-- whether a segment is named: each one is where there is no name
abbrev pub is_named : List Named → Segment → Bool
is_named names g = (length names == 0) || list_any (has_segment g) names

-- the segment that is named by itself, if one is
abbrev pub by_itself : Named → List Segment
by_itself (Whole book) = []
by_itself (Chapter book chapter) = []
by_itself (One g) = g ∷ []

-- the named segments, in the order of the report, each once: those that are named by themselves,
-- and of a book or a chapter those with an operation; all of these where there is no name
abbrev pub named_segments : List Operation → List Named → List Segment
named_segments held names = rising segment_cmp
    (flat_map by_itself names ++ filter (is_named names) (map (λ o. o.segment) held))

-- whether each book that is named, or of which something is, has an operation
abbrev pub has_books : List Operation → List Named → Bool
has_books held names = list_all (λ one. has_book held (book_of one)) names

-- what changed in the named segments of a set
abbrev pub changes_in : List Operation → (Id → Bool) → List Named → List ChangedParts
changes_in held knows names =
    map (changed_at held knows) (filter (is_named names) (changed_segments held knows))
