-- What a command sees of a project (this project's own rule): of one book what it holds, or all.
use Rattle.std.specs.Prelude.{◌≡◌, ℕ, Bool, true, false, List, [], Option, None, Some, Result, Ok, Err, IsTrue, if◌then◌else◌}
use Rattle.std.specs.Str.{is_utf8}
use Rattle.verse_cut.specs.Reading.{book_in}
use Rattle.verse_cut.specs.declared.fault.BookFault.{BookFault}
use Rattle.op_core.specs.Thinned.{all_full}
use Rattle.replica_state.specs.OneBook.{of_one_book}
use Rattle.replica_state.specs.States.{State}
use Rattle.project_file.specs.Projects.{project_at}
use Rattle.usfm_cli.specs.declared.command.Command.{Command}
use Rattle.usfm_cli.specs.declared.command.Command.TheVariants.{Import, ImportSince}
use Rattle.usfm_cli.specs.declared.command.Command.TheVariants.{Edit, EditOver, EditWith, Receive}
use Rattle.usfm_cli.specs.declared.command.Command.TheVariants.{Thin, Shown, Send, Export, Summary}
use Rattle.usfm_cli.specs.declared.command.Command.TheVariants.{Delta, Report, Check, Find, Words}

-- the one book that a command looks at, if it does not look at all of a project
abbrev pub looked_at : Command → Option (List ℕ)
looked_at (Import file) = None
looked_at (ImportSince file base) = None
looked_at (Edit book key text) = None
looked_at (EditOver book key text ids) = None
looked_at (EditWith book key of ids) = None
looked_at (Receive bytes) = None
looked_at Thin = None
looked_at (Shown book key) = Some book
looked_at Send = None
looked_at (Export book) = Some book
looked_at Summary = None
looked_at (Delta summary) = None
looked_at Report = None
looked_at (Check book sheet) = Some book
looked_at (Find book sheet needle) = Some book
looked_at (Words book sheet) = Some book

-- the book that was read, if one was
abbrev pub book_if : Result (List ℕ) BookFault → Option (List ℕ)
book_if (Ok book) = Some book
book_if (Err fault) = None

-- the book that a file begins with, if the file is text and begins with one
abbrev pub book_of_file : List ℕ → Option (List ℕ)
book_of_file file = if is_utf8 file then book_if (book_in file) else None

-- the one book that a command edits, if it edits one, and that can be told
abbrev pub edited_book : Command → Option (List ℕ)
edited_book (Import file) = book_of_file file.now
edited_book (ImportSince file base) = None
edited_book (Edit book key text) = Some book
edited_book (EditOver book key text ids) = Some book
edited_book (EditWith book key of ids) = Some book
edited_book (Receive bytes) = None
edited_book Thin = None
edited_book (Shown book key) = None
edited_book Send = None
edited_book (Export book) = None
edited_book Summary = None
edited_book (Delta summary) = None
edited_book Report = None
edited_book (Check book sheet) = None
edited_book (Find book sheet needle) = None
edited_book (Words book sheet) = None

-- all of a replica, or what it holds of one book
abbrev pub seen_of : Option (List ℕ) → State → State
seen_of None s = s
seen_of (Some book) s = of_one_book s book

-- whether a command goes by the bytes of a project's file, and copies nothing of what it holds
abbrev pub goes_by_bytes : Command → Bool
goes_by_bytes (Import file) = false
goes_by_bytes (ImportSince file base) = false
goes_by_bytes (Edit book key text) = false
goes_by_bytes (EditOver book key text ids) = false
goes_by_bytes (EditWith book key of ids) = false
goes_by_bytes (Receive bytes) = true
goes_by_bytes Thin = true
goes_by_bytes (Shown book key) = false
goes_by_bytes Send = true
goes_by_bytes (Export book) = false
goes_by_bytes Summary = true
goes_by_bytes (Delta summary) = true
goes_by_bytes Report = false
goes_by_bytes (Check book sheet) = false
goes_by_bytes (Find book sheet needle) = false
goes_by_bytes (Words book sheet) = false

-- A command reads a replica's file without memory: no operation is thinned, and nothing is held of
-- what the command sees, unless it goes by the bytes.
pub record ReadInPlace (command : Command) (s : State) : Type 0 where
  pub full : IsTrue (all_full s.held)
  pub nothing_copied : goes_by_bytes command ≡ false → (seen_of (looked_at command) s).held ≡ []

-- bytes are a project file, and a replica is what a command sees of its replica
pub record IsSeen (bytes : List ℕ) (command : Command) (seen : State) : Type 0 where
  pub whole : State
  pub loads : project_at bytes ≡ Ok whole
  pub seen_is : seen ≡ seen_of (looked_at command) whole
