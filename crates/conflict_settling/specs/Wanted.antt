-- Which conflicts somebody wants to settle (this project's own rule).
use Rattle.std.specs.Prelude.{ℕ, ◌==◌, Bool, ◌&&◌, ◌||◌, List, length, Result, Ok, Err, if◌then◌else◌}
use Rattle.std.specs.List.{list_all, list_any}
use Rattle.usfm_ref.specs.Books.{same_bytes, is_book_code}
use Rattle.usfm_ref.specs.Keys.{KeyParts, same_key}
use Rattle.usfm_ref.specs.References.{ref_in}
use Rattle.usfm_ref.specs.declared.fault.RefFault.{RefFault}
use Rattle.usfm_ref.specs.declared.fault.RefFault.TheVariants.{BadBook}
use Rattle.usfm_ref.specs.declared.segment.Segment.{Segment}
use Rattle.op_core.specs.Ops.{Operation}
use Rattle.op_core.specs.Export.{has_book}
use Rattle.conflict_settling.specs.declared.wanted.Wanted.{Wanted}
use Rattle.conflict_settling.specs.declared.wanted.Wanted.TheVariants.{Whole, One}

-- the segment of a reference, or why there is none
abbrev pub of_ref : Result (List ℕ × KeyParts) RefFault → Result Wanted RefFault
of_ref (Ok r) = Ok (One r.0 r.1)
of_ref (Err fault) = Err fault

-- what a word names: of three bytes the book of that code, and else the segment of that reference
abbrev pub wanted_in : List ℕ → Result Wanted RefFault
wanted_in word =
    if length word == 3 then (if is_book_code word then Ok (Whole word) else Err BadBook)
    else of_ref (ref_in word)

-- the book that is named, or that of the segment
abbrev pub book_of : Wanted → List ℕ
book_of (Whole book) = book
book_of (One book key) = book

-- whether the segment, or its book, is named
abbrev pub names : Segment → Wanted → Bool
names g (Whole book) = same_bytes book g.book
names g (One book key) = same_bytes book g.book && same_key key g.key

-- whether a segment is wanted: each one is where nothing is named
abbrev pub is_wanted : List Wanted → Segment → Bool
is_wanted all g = (length all == 0) || list_any (names g) all

-- whether each book that is named has an operation
abbrev pub has_books : List Operation → List Wanted → Bool
has_books held all = list_all (λ one. has_book held (book_of one)) all
