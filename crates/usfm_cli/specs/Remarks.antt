-- What is said beside the answer of a command that was done, where a person reads what faults mean
-- (this project's own rule).
use Rattle.std.specs.Prelude.{◌≡◌, ◌⊎◌, ◌==◌, ℕ, List, [], ◌∷◌, ◌++◌, length, Option, Some, None, Ok, codes, if◌then◌else◌}
use Rattle.sty_sheet.specs.Sheets.{sheet_of}
use Rattle.usfm_cli.specs.declared.command.Command.{Command}
use Rattle.usfm_cli.specs.declared.command.Command.TheVariants.{Shown, Check, Find, Words, Report}

-- a line, where nothing was written
abbrev pub if_empty : List ℕ → List ℕ → Option (List ℕ)
if_empty output line = if length output == 0 then Some line else None

-- that a segment shows nothing
abbrev pub shows_nothing : List ℕ
shows_nothing = codes "the project has no text of this segment"

-- that nothing is to be reported
abbrev pub no_conflict : List ℕ
no_conflict = codes "no segment has two texts, and no edit is awaited"

-- that a style sheet has no record; after the first words a backslash (92) and `Marker`
abbrev pub no_record : List ℕ
no_record =
    codes "the style sheet has no " ++ 92 ∷ codes "Marker, so it knows no mark: is it another file?"

-- that nothing is wrong
abbrev pub nothing_wrong : List ℕ
nothing_wrong = codes "`check` found nothing wrong"

-- that a text was not found
abbrev pub nothing_found : List ℕ
nothing_found = codes
    "the text was not found: capitals, accents and quotation marks have to be the same"

-- that there is no word
abbrev pub no_word : List ℕ
no_word = codes "no word was found"

-- Beside an answer by a style sheet it is said of a sheet without a record that it has none; else a
-- line where nothing was written. So it is of any sheet that there is no memory to read.
abbrev pub RemarksOnLook : List ℕ → List ℕ → List ℕ → Option (List ℕ) → Type 0
RemarksOnLook sheet output nothing line =
    (sheet_of sheet ≡ Ok []) × (line ≡ Some no_record) ⊎ (line ≡ if_empty output nothing)

-- what is said beside the answer of a command, by what it wrote
abbrev pub RemarksOn : Command → List ℕ → Option (List ℕ) → Type 0
RemarksOn (Shown book key) output line = line ≡ if_empty output shows_nothing
RemarksOn Report output line = line ≡ if_empty output no_conflict
RemarksOn (Check book sheet) output line = RemarksOnLook sheet.now output nothing_wrong line
RemarksOn (Find book sheet needle) output line = RemarksOnLook sheet.now output nothing_found line
RemarksOn (Words book sheet) output line = RemarksOnLook sheet.now output no_word line
RemarksOn other output line = line ≡ None
