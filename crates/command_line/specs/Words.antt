-- What is said of the words of a command line (this project's own rule).
use Rattle.std.specs.Prelude.{ℕ, Bool, false, ◌&&◌, ◌||◌, List, [], ◌∷◌, ◌++◌, Option, Some, None, is_ok, codes}
use Rattle.usfm_ref.specs.Books.{is_book_code}
use Rattle.usfm_ref.specs.References.{key_of}
use Rattle.command_line.specs.declared.words.Line.{Line}
use Rattle.command_line.specs.declared.words.Line.TheVariants.{Send, Summary, Delta, Combine}

-- an error about what is written to a terminal, and after a line feed (10) and an empty line an
-- example
abbrev pub usage : List ℕ → List ℕ → List ℕ
usage error example =
    codes "error: " ++ error ++ 10 ∷ 10 ∷ (codes "Example: " ++ example ++ 10 ∷ [])

-- what is said at a terminal of a line whose answer is no text: that it goes into a file
abbrev pub only_into_file : Line → Option (List ℕ)
only_into_file (Send project sealed) =
    Some (usage (codes "a bundle is not written to a terminal: redirect it to a file")
    (codes "usfm_team send ana.project > ana.bundle"))
only_into_file (Summary project) =
    Some (usage (codes "a summary is not written to a terminal: redirect it to a file")
    (codes "usfm_team summary ben.project > ben.summary"))
only_into_file (Delta project summary sealed) =
    Some (usage (codes "a bundle is not written to a terminal: redirect it to a file")
    (codes "usfm_team delta ana.project ben.summary > ana.bundle"))
only_into_file (Combine bundles sealed) =
    Some (usage (codes "a bundle is not written to a terminal: redirect it to a file")
    (codes "usfm_team combine ana.bundle ben.bundle > team.bundle"))
only_into_file other = None

-- whether a word is a key
abbrev pub is_key : List ℕ → Bool
is_key word = is_ok (key_of word)

-- whether there are words and the first is a key
abbrev pub begin_with_key : List (List ℕ) → Bool
begin_with_key [] = false
begin_with_key (word ∷ words) = is_key word

-- whether a reference stands in words as two of them: a book's code, and a key directly after it
abbrev pub has_split_reference : List (List ℕ) → Bool
has_split_reference [] = false
has_split_reference (word ∷ words) =
    (is_book_code word && begin_with_key words) || has_split_reference words
