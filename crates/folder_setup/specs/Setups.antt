-- The setup of a folder of books' files, and its lines (this project's own format): a word, a space
-- (32), a value to the end of the line, and a line feed (10).
use Rattle.std.specs.Prelude.{ℕ, ◌+◌, ◌==◌, nat_lt, Bool, true, not, ◌&&◌, List, [], ◌∷◌, ◌++◌, length, codes, Option, Some, None, option_map, Result, Ok, Err, if◌then◌else◌}
use Rattle.std.specs.Borrow.{Bor}
use Rattle.std.specs.List.{list_any, position_or_len, before_first, after_first}
use Rattle.folder_setup.specs.declared.fault.SetupFault.{SetupFault}
use Rattle.folder_setup.specs.declared.fault.SetupFault.TheVariants.{BadLine}
use Rattle.folder_setup.specs.declared.fault.SpellFault.{SpellFault}
use Rattle.folder_setup.specs.declared.fault.SpellFault.TheVariants.{BadValue}
use Rattle.folder_setup.specs.declared.reading.Setup.{Setup}

-- What a folder is synced with: the project's file, the box if there is one, and, if one is given, a
-- name that says how new files are named.
pub record SetupParts : Type 0 where
  pub project : List ℕ
  pub box_folder : Option (List ℕ)
  pub names : Option (List ℕ)

-- a setup by its parts
abbrev pub setup : List ℕ → Option (List ℕ) → Option (List ℕ) → SetupParts
setup project box_folder names =
    record { project = project; box_folder = box_folder; names = names }

-- a setup, as a contract sees it
abbrev pub setup_view : Setup → SetupParts
setup_view s =
    setup s.project.now (option_map (λ t. t.now) s.box_folder) (option_map (λ t. t.now) s.names)

-- ---- values

-- whether some bytes have this one
abbrev pub has_byte : ℕ → List ℕ → Bool
has_byte byte bytes = list_any (λ b. b == byte) bytes

-- a path or a name that a line can have: it is not empty, and has no NUL (0)
abbrev pub is_value : List ℕ → Bool
is_value value = not (length value == 0) && not (has_byte 0 value)

-- the same of a value that is to be written: it has no line feed (10) either
abbrev pub is_line_value : List ℕ → Bool
is_line_value value = is_value value && not (has_byte 10 value)

-- whether a value can be written, if there is one
abbrev pub is_value_if : Option (List ℕ) → Bool
is_value_if None = true
is_value_if (Some value) = is_line_value value

-- whether each value of a setup can be written
abbrev pub has_values : SetupParts → Bool
has_values s = is_line_value s.project && (is_value_if s.box_folder && is_value_if s.names)

-- ---- writing

-- the word of the project's line, with its space
abbrev pub project_word : List ℕ
project_word = codes "project "

-- the word of the box's line
abbrev pub box_word : List ℕ
box_word = codes "box "

-- the word of the line of names
abbrev pub names_word : List ℕ
names_word = codes "names "

-- the line of a word and its value
abbrev pub line : List ℕ → List ℕ → List ℕ
line word value = word ++ value ++ 10 ∷ []

-- the line of a value, if there is one
abbrev pub line_if : List ℕ → Option (List ℕ) → List ℕ
line_if word None = []
line_if word (Some value) = line word value

-- the lines of a setup: `project PATH`, and then `box PATH` and `names NAME`, as far as there are
abbrev pub lines : SetupParts → List ℕ
lines s = line project_word s.project ++ line_if box_word s.box_folder ++ line_if names_word s.names

-- the lines of a setup, unless one of its values cannot be written
abbrev pub spelled : SetupParts → Result (List ℕ) SpellFault
spelled s = if has_values s then Ok (lines s) else Err BadValue

-- ---- reading

-- whether a byte is a line feed
abbrev pub is_feed : ℕ → Bool
is_feed b = b == 10

-- what follows a front in a text that begins with it
abbrev pub after : List ℕ → List ℕ → Option (List ℕ)
after [] text = Some text
after (b ∷ front) [] = None
after (b ∷ front) (c ∷ text) = if b == c then after front text else None

-- a value and what follows its line
abbrev pub Cut : Type 0
Cut = List ℕ × List ℕ

-- a value and what follows its line, as a contract sees them
abbrev pub cut_view : Bor (List ℕ) × Bor (List ℕ) → Cut
cut_view r = (r.0.now, r.1.now)

-- the first line of a text without its line feed, and what follows it; none where no line feed is
-- there
abbrev pub first_line : List ℕ → Option Cut
first_line text =
    if nat_lt (position_or_len is_feed text) (length text)
    then Some (before_first is_feed text, after_first is_feed text) else None

-- a value with what follows, if there is one and a line can have it
abbrev pub valued : Option (List ℕ) → List ℕ → Option Cut
valued None rest = None
valued (Some value) rest = if is_value value then Some (value, rest) else None

-- the value of a line that begins with a word, with what follows
abbrev pub value_in : List ℕ → Option Cut → Option Cut
value_in word None = None
value_in word (Some r) = valued (after word r.0) r.1

-- the value of the first line of a text, if that begins with a word; and what follows the line
abbrev pub value_of : List ℕ → List ℕ → Option Cut
value_of word text = value_in word (first_line text)

-- the setup that is read once no line is due any more: the line of this number may not be there
abbrev pub read_end : SetupParts → ℕ → List ℕ → Result SetupParts SetupFault
read_end s n [] = Ok s
read_end s n (b ∷ text) = Err (BadLine n)

-- the setup that is read with the names of the line of this number, which is the first of a text
abbrev pub read_names_by : List ℕ → Option (List ℕ) → ℕ → Option Cut → Result SetupParts SetupFault
read_names_by project box_folder n None = Err (BadLine n)
read_names_by project box_folder n (Some r) =
    read_end (setup project box_folder (Some r.0)) (n + 1) r.1

-- the setup that is read where the names are due in the line of this number, or no line is
abbrev pub read_names : List ℕ → Option (List ℕ) → ℕ → List ℕ → Result SetupParts SetupFault
read_names project box_folder n [] = Ok (setup project box_folder None)
read_names project box_folder n (b ∷ text) =
    read_names_by project box_folder n (value_of names_word (b ∷ text))

-- the setup that is read after the project: the second line may be the box
abbrev pub read_box_by : List ℕ → List ℕ → Option Cut → Result SetupParts SetupFault
read_box_by project text None = read_names project None 2 text
read_box_by project text (Some r) = read_names project (Some r.0) 3 r.1

-- the setup that is read, by the value of the first line
abbrev pub read_by : Option Cut → Result SetupParts SetupFault
read_by None = Err (BadLine 1)
read_by (Some r) = read_box_by r.0 r.1 (value_of box_word r.1)

-- The setup whose lines a text is, or the fault of the first line that is not the one that is due.
abbrev pub read : List ℕ → Result SetupParts SetupFault
read text = read_by (value_of project_word text)
