-- Segments: the places that texts of a project are for (this project's own rule).
use Rattle.std.specs.Prelude.{ℕ, Bool, ◌&&◌, List}
use Rattle.std.specs.declared.cmp.Ordering.{Ordering}
use Rattle.std.specs.Ordering.{ordering_then}
use Rattle.usfm_ref.specs.Books.{book_cmp, same_bytes}
use Rattle.usfm_ref.specs.Keys.{KeyParts, key_cmp, same_key}
use Rattle.usfm_ref.specs.declared.segment.Segment.{Segment}

-- the segment of a book at a key
abbrev pub segment : List ℕ → KeyParts → Segment
segment book key = record { book = book; key = key }

-- segments go by book, and then by key
abbrev pub segment_cmp : Segment → Segment → Ordering
segment_cmp a b = ordering_then (book_cmp a.book b.book) (key_cmp a.key b.key)

-- whether two segments have the same book and the same key
abbrev pub same_segment : Segment → Segment → Bool
same_segment a b = same_bytes a.book b.book && same_key a.key b.key
