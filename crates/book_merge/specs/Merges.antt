-- Merges of three files of a book (this project's own rule): two sides, OURS and THEIRS, that were
-- both written from BASE. A merge is what two replicas make of them. The first imports BASE, and
-- then THEIRS. The second receives what the first then holds, and imports OURS since what was made
-- of BASE. It then holds the union: a segment that one side changed shows the text of that side,
-- and one that both changed to different texts shows both. The edits of OURS have the greater
-- numbers, since they are made last; so the text of OURS is picked.
use Rattle.std.specs.Prelude.{◌≡◌, ◌≢◌, ℕ, not, List, codes, Result, Ok, Err, if◌then◌else◌}
use Rattle.usfm_ref.specs.Books.{same_bytes}
use Rattle.verse_cut.specs.Reading.{book_in}
use Rattle.verse_cut.specs.declared.fault.BookFault.{BookFault}
use Rattle.op_core.specs.Ops.{Operation}
use Rattle.replica_state.specs.States.{State, begun}
use Rattle.replica_state.specs.Steps.{EditsStep, edited_all, with_ops}
use Rattle.replica_state.specs.Imports.{import_ops}
use Rattle.replica_state.specs.Since.{imported_since}
use Rattle.book_merge.specs.Sides.{theirs_read, ours_read}
use Rattle.book_merge.specs.declared.fault.MergeFault.{MergeFault}
use Rattle.book_merge.specs.declared.fault.MergeFault.TheVariants.{Memory, BadFile, OtherBook, NumbersUsedUp}
use Rattle.book_merge.specs.declared.fault.MergedFile.{MergedFile}
use Rattle.book_merge.specs.declared.fault.MergedFile.TheVariants.{Base, Ours, Theirs}
use Rattle.book_merge.specs.declared.merging.Merged.{Merged}

-- what is made of a result, or its refusal
abbrev pub after : {X Y : Type 0} → Result X MergeFault → (X → Result Y MergeFault)
    → Result Y MergeFault
after (Ok x) f = f x
after (Err fault) f = Err fault

-- ---- the book

-- the book that one of the files begins with, or that it begins with none
abbrev pub book_or_bad : MergedFile → Result (List ℕ) BookFault → Result (List ℕ) MergeFault
book_or_bad file (Ok book) = Ok book
book_or_bad file (Err fault) = Err (BadFile file fault)

-- the book of all three files, or the first side that is of another one than BASE
abbrev pub one_book : List ℕ → List ℕ → List ℕ → Result (List ℕ) MergeFault
one_book base ours theirs =
    if not (same_bytes ours base) then Err (OtherBook Ours)
    else if not (same_bytes theirs base) then Err (OtherBook Theirs) else Ok base

-- The book of a merge. Refused is the first file that begins with no book, of BASE, OURS and
-- THEIRS, and then the first side that begins with another book than BASE.
abbrev pub merged_book : List ℕ → List ℕ → List ℕ → Result (List ℕ) MergeFault
merged_book base ours theirs =
    after (book_or_bad Base (book_in base))
    (λ was. after (book_or_bad Ours (book_in ours))
    (λ own. after (book_or_bad Theirs (book_in theirs)) (λ other. one_book was own other)))

-- ---- the two replicas

-- a replica after an import, unless it is refused; what is left to refuse is that no numbers are
-- left, since the file begins with a book, and nothing clashes
abbrev pub taken : {F : Type 0} → State → Result ℕ F → Result State MergeFault
taken s (Ok count) = Ok s
taken s (Err fault) = Err NumbersUsedUp

-- the same for the step of an import
abbrev pub after_import : {F : Type 0} → EditsStep F → Result State MergeFault
after_import s = taken s.after s.answer

-- a replica that imported a file
abbrev pub imported : State → List ℕ → Result State MergeFault
imported s file = after_import (edited_all s s (import_ops s file))

-- the replica that imports BASE and THEIRS, when it holds nothing
abbrev pub theirs_begun : State
theirs_begun = begun (codes "theirs")

-- the replica that imports OURS, once it received what the other one holds
abbrev pub ours_begun : List Operation → State
ours_begun theirs = with_ops (begun (codes "ours")) theirs

-- that replica, once it imported OURS since what was made of BASE
abbrev pub ours_imported : List Operation → List Operation → List ℕ → Result State MergeFault
ours_imported base theirs file = after_import (imported_since (ours_begun theirs) base file)

-- the union of BASE and both sides, by BASE and the sides as they are read
abbrev pub united : List ℕ → List ℕ → List ℕ → Result State MergeFault
united base ours theirs =
    after (imported theirs_begun base) (λ b. after (imported b theirs)
    (λ t. ours_imported b.held t.held ours))

-- ---- the merge

-- a merge: the book, and the replica that holds the union
pub record MergeParts : Type 0 where
  pub book : List ℕ
  pub replica : State

-- what a contract sees of a merge
abbrev pub merged_view : Merged → MergeParts
merged_view m = record { book = m.book; replica = m.replica }

-- the merge of files of a book: the union of BASE and of both sides as they are read
abbrev pub merge_of_book : List ℕ → List ℕ → List ℕ → List ℕ → Result MergeParts MergeFault
merge_of_book base ours theirs book =
    after (united base (ours_read base ours theirs) (theirs_read base ours theirs))
    (λ s. Ok (record { book = book; replica = s }))

-- the merge of three files, or the first refusal
abbrev pub merged : List ℕ → List ℕ → List ℕ → Result MergeParts MergeFault
merged base ours theirs = after (merged_book base ours theirs) (merge_of_book base ours theirs)

-- ---- answers

-- what a call answers that wants a replica: it, or its refusal; or out of memory
abbrev pub Answers : Result State MergeFault → Result State MergeFault → Type 0
Answers wanted (Ok s) = wanted ≡ Ok s
Answers wanted (Err fault) = fault ≢ Memory → wanted ≡ Err fault
