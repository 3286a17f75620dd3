-- Project files: a replica as bytes, its name in front of the bundle of what it holds (this
-- project's own format).
use Rattle.std.specs.Prelude.{◌≡◌, ℕ, nat_eq, nat_le, ◌&&◌, List, [], ◌∷◌, ◌++◌, length, take, drop, codes, Option, Some, None, option_and_then, Result, Ok, Err, if◌then◌else◌}
use Rattle.std.specs.List.{starts_with}
use Rattle.op_core.specs.Names.{is_name}
use Rattle.op_core.specs.Ops.{Operation}
use Rattle.bundle_codec.specs.declared.fault.WholeFault.{WholeFault}
use Rattle.bundle_codec.specs.Spelling.{bundle}
use Rattle.bundle_codec.specs.Joining.{whole_at}
use Rattle.replica_state.specs.OneBook.{of_one_book}
use Rattle.replica_state.specs.States.{State, IsState}
use Rattle.project_file.specs.declared.fault.LoadFault.{LoadFault}
use Rattle.project_file.specs.declared.fault.LoadFault.TheVariants.{BadProject, Bundle}

-- the first eight bytes: `USFMPJ1` and a line feed
unfoldable pub magic : List ℕ
magic = codes "USFMPJ1" ++ 10 ∷ []

-- the project file of a replica: the magic, the name's length in one byte, the name, and the bundle
-- of what is held
unfoldable pub project : State → List ℕ
project s = magic ++ (length s.name ∷ (s.name ++ bundle s.held))

-- a replica, and bytes that are the bundle of what it holds
pub record IsJudged (s : State) (bytes : List ℕ) : Type 0 where
  pub valid : IsState s
  pub spelled : bytes ≡ bundle s.held

-- ---- reading, from left to right

-- the bytes after the magic, where it is at the front
abbrev pub after_magic : List ℕ → Option (List ℕ)
after_magic bytes =
    if starts_with nat_eq bytes magic then Some (drop (length magic) bytes) else None

-- a name after its length, where they are at the front, and the bytes after it
abbrev pub name_at : List ℕ → Option (List ℕ × List ℕ)
name_at [] = None
name_at (n ∷ bytes) = if nat_le n (length bytes) && is_name (take n bytes)
    then Some (take n bytes, drop n bytes) else None

-- the name after the magic, and the bytes after it
unfoldable pub front_at : List ℕ → Option (List ℕ × List ℕ)
front_at bytes = option_and_then name_at (after_magic bytes)

-- the replica of a name that holds the set of a bundle, or the bundle's fault
abbrev pub state_of : List ℕ → Result (List Operation) WholeFault → Result State LoadFault
state_of name (Ok held) = Ok (record { name = name; held = held })
state_of name (Err fault) = Err (Bundle fault)

-- the replica of the name at the front and of the one bundle that all bytes after it are, or the
-- first fault
abbrev pub after_front : Option (List ℕ × List ℕ) → Result State LoadFault
after_front None = Err BadProject
after_front (Some front) = state_of front.0 (whole_at front.1)

-- the replica whose project file the bytes are, to their end; or the first fault: that the magic or
-- the name is cut or wrong, or else that of the bundle
abbrev pub project_at : List ℕ → Result State LoadFault
project_at bytes = after_front (front_at bytes)

-- ---- of one book

-- a replica with the operations of the book alone, or why there is none
abbrev pub with_book : List ℕ → Result State LoadFault → Result State LoadFault
with_book book (Ok s) = Ok (of_one_book s book)
with_book book (Err fault) = Err fault

-- the replica whose project file the bytes are, with the operations of the book alone; or the first
-- fault
abbrev pub book_at : List ℕ → List ℕ → Result State LoadFault
book_at bytes book = with_book book (project_at bytes)
