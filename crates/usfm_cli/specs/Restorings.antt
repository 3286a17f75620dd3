-- Texts that are had back (this project's own rule): the edits that a project's set gives, and what
-- is written of them.
use Rattle.std.specs.Prelude.{ℕ, List, [], ◌∷◌, ◌++◌, length, map, filter, codes, Option, None, Some}
use Rattle.std.specs.Prelude.{Result, Ok, Err}
use Rattle.std.specs.Fmt.{decimal}
use Rattle.std.specs.List.{flat_map}
use Rattle.usfm_ref.specs.Books.{book_cmp, same_bytes}
use Rattle.usfm_ref.specs.Rising.{rising}
use Rattle.op_core.specs.Ids.{Id}
use Rattle.op_core.specs.Ops.{Operation}
use Rattle.bundle_codec.specs.Summaries.{NameRanges, covers}
use Rattle.segment_history.specs.Naming.{named_segments}
use Rattle.segment_history.specs.Restores as restores
use Rattle.segment_history.specs.Restores.{RestoredParts}
use Rattle.segment_history.specs.declared.fault.RestoreFault.{RestoreFault}
use Rattle.segment_history.specs.declared.named.Named.{Named}
use Rattle.command_faults.specs.Faults.{of_restoring}
use Rattle.usfm_cli.specs.Histories.{of_books, covered_by}
use Rattle.command_faults.specs.declared.fault.Fault.{Fault}
use Rattle.command_faults.specs.declared.fault.Fault.TheVariants as refusals

-- ---- the edits

-- the edits, unless a text cannot be had back for this
abbrev pub unless_refused : Option RestoreFault → List RestoredParts
    → Result (List RestoredParts) Fault
unless_refused None edits = Ok edits
unless_refused (Some fault) edits = Err (of_restoring fault)

-- the edit that gives its segment the text of the operation of an id, or why there is none
abbrev pub restored_id : Id → List Operation → Result (List RestoredParts) Fault
restored_id id held =
    unless_refused (restores.refusal_at held id) (restores.restored_id held id)

-- the edits, unless the text of this operation was left out
abbrev pub unless_left_out : Option Id → List RestoredParts → Result (List RestoredParts) Fault
unless_left_out None edits = Ok edits
unless_left_out (Some id) edits = Err (refusals.LeftOut id)

-- the edits that give the named segments what they had when these ids were known, or why none are
-- known
abbrev pub restored_by : List Operation → Result (List NameRanges) Fault → List Named
    → Result (List RestoredParts) Fault
restored_by held (Ok known) names =
    let segments = named_segments held names in
    unless_left_out (restores.first_left_out held (covers known) segments)
    (restores.restored_since held (covers known) segments)
restored_by held (Err fault) names = Err fault

-- the same, where each book that is named has an operation
abbrev pub restored_since : List ℕ → List Named → List Operation
    → Result (List RestoredParts) Fault
restored_since since names held =
    of_books held names (restored_by held (covered_by since) names)

-- ---- what is written of them

-- the books of edits, rising, each once
abbrev pub books_of : List RestoredParts → List (List ℕ)
books_of edits = rising book_cmp (map (λ e. e.segment.book) edits)

-- how many of the edits are of a book
abbrev pub count_of : List RestoredParts → List ℕ → ℕ
count_of edits book = length (filter (λ e. same_bytes e.segment.book book) edits)

-- the line that says so
abbrev pub count_line : List RestoredParts → List ℕ → List ℕ
count_line edits book =
    codes "restored " ++ (decimal (count_of edits book) ++ 32 ∷ (book ++ 10 ∷ []))

-- of each book how many edits are of it
abbrev pub restored_lines : List RestoredParts → List ℕ
restored_lines edits = flat_map (count_line edits) (books_of edits)
