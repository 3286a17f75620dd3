-- What a page says of a project (this project's own rule).
use Rattle.std.specs.Prelude.{◌≡◌, ℕ, List, [], map, length, None, slice_get, Some, string_bytes}
use Rattle.usfm_ref.specs.Segments.{segment}
use Rattle.usfm_ref.specs.declared.segment.Segment.{Segment}
use Rattle.op_core.specs.Ids.{Id}
use Rattle.op_core.specs.Ops.{Operation}
use Rattle.op_core.specs.Lists.{awaited, books_of}
use Rattle.op_core.specs.Shown.{Pick, pick, picked}
use Rattle.replica_state.specs.States.{State}
use Rattle.project_status.specs.Numbers.{verses_written, makers_of, shown_names, replaced_count, thinned_count}
use Rattle.versification.specs.Versifications.{Verses}
use Rattle.project_status.specs.Progress.{chapters_of}
use Rattle.project_status.specs.declared.chapters.Chapter.{Chapter}
use Rattle.project_status.specs.declared.makers.Maker.{Maker}
use Rattle.conflict_report.specs.Reports.{distinct_texts, repeated_texts}
use Rattle.conflict_settling.specs.After.{text_after}
use Rattle.conflict_settling.specs.Before.{text_before}
use Rattle.conflict_settling.specs.Entries.{EntryView, AreEntriesOf, views}
use Rattle.conflict_settling.specs.Pending.{open_conflicts}
use Rattle.project_page.specs.declared.parts.PageParts.{PageParts}
use Rattle.project_page.specs.declared.parts.BookProgress.{BookProgress}
use Rattle.project_page.specs.declared.parts.PageConflict.{PageConflict}

-- a book, and how far its chapters are
pub record BookView : Type 0 where
  pub book : List ℕ
  pub chapters : List Chapter

-- a conflict: its segment, the texts of the book before and after it, what is picked, its texts,
-- and the operations that have one of these too
pub record ConflictView : Type 0 where
  pub segment : Segment
  pub before : List ℕ
  pub picked : Pick
  pub entries : List EntryView
  pub repeated : List Operation
  pub after : List ℕ

-- all that a page says
pub record PageView : Type 0 where
  pub name : List ℕ
  pub books : List BookView
  pub verses : ℕ
  pub makers : List Maker
  pub replaced : ℕ
  pub thinned : ℕ
  pub conflicts : List ConflictView
  pub awaited : List Id

-- ---- what contracts see of them

-- a book, and not where its chapters lie in memory
abbrev pub book_view : BookProgress → BookView
book_view b = record { book = b.book; chapters = b.chapters.items }

-- a conflict, and not where its texts lie in memory
abbrev pub conflict_view : PageConflict → ConflictView
conflict_view c = record {
  segment = segment c.book c.key;
  before = string_bytes c.before;
  picked = picked c.picked;
  entries = views c.entries.items;
  repeated = map (λ op. op.now) c.repeated.items;
  after = string_bytes c.after;
}

-- all that a page says, and not where it lies in memory
abbrev pub view : PageParts → PageView
view p = record {
  name = p.name;
  books = map book_view p.books.items;
  verses = p.verses;
  makers = p.makers.items;
  replaced = p.replaced;
  thinned = p.thinned;
  conflicts = map conflict_view p.conflicts.items;
  awaited = p.awaited.items;
}

-- ---- what a page says of a replica

-- a book of a set, and how far its chapters are by a versification
abbrev pub progress_of : Verses → List Operation → List ℕ → BookView
progress_of v held book = record { book = book; chapters = chapters_of v held book }

-- a conflict is that of a segment of a set; its texts are compared as they can be
pub record IsConflictOf (held : List Operation) (g : Segment) (c : ConflictView) : Type 0 where
  pub segment : c.segment ≡ g
  pub before : c.before ≡ text_before held g
  pub picked : c.picked ≡ pick held g
  pub entries : AreEntriesOf (distinct_texts held g) c.entries
  pub repeated : c.repeated ≡ repeated_texts held g
  pub after : c.after ≡ text_after held g

-- a conflict is that of the segment at an index
abbrev pub IsConflictAt : List Operation → List Segment → ℕ → ConflictView → Type 0
IsConflictAt held gs k c = (g : Segment) × (slice_get gs k ≡ Some g) × IsConflictOf held g c

-- conflicts are those of some segments, one after another
pub record AreConflictsOf (held : List Operation) (gs : List Segment) (cs : List ConflictView)
    : Type 0 where
  pub count : length cs ≡ length gs
  pub each : (k : ℕ) (c : ConflictView) → slice_get cs k ≡ Some c → IsConflictAt held gs k c

-- what a page says is so of a replica: its numbers are those of its status, the chapters are as far
-- as they are by the versification, and its conflicts are those of its report
pub record ArePartsOf (v : Verses) (s : State) (p : PageView) : Type 0 where
  pub name : p.name ≡ s.name
  pub books : p.books ≡ map (progress_of v s.held) (books_of s.held)
  pub verses : p.verses ≡ verses_written s.held
  pub makers : p.makers ≡ makers_of (shown_names s.held)
  pub replaced : p.replaced ≡ replaced_count s.held
  pub thinned : p.thinned ≡ thinned_count s.held
  pub conflicts : AreConflictsOf s.held (open_conflicts s.held [] None) p.conflicts
  pub awaited : p.awaited ≡ awaited s.held
