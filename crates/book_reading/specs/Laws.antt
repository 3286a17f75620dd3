-- What holds of the readings of all texts, by whatever styles (this project's own rule).
use Rattle.std.specs.Prelude.{◌≡◌, ℕ, List, filter, is_some}
use Rattle.std.specs.List.{flat_map}
use Rattle.usfm_tree.specs.Reading.{Styles}
use Rattle.book_reading.specs.Blocks.{blocks_of, notes_of}
use Rattle.book_reading.specs.Chapters.{chapters_of}
use Rattle.book_reading.specs.Readings.{RunParts, reading_of}

-- the bytes of runs, joined
abbrev pub joined_runs : List RunParts → List ℕ
joined_runs rs = flat_map (λ r. r.text) rs

-- the runs of a text, those of notes at their marks, join to it
abbrev pub NothingIsLeftOut : Type 0
NothingIsLeftOut = (styles : Styles) (s : List ℕ) → joined_runs (reading_of styles s) ≡ s

-- the chapters of runs have all of them, in order
abbrev pub ChaptersHoldAll : Type 0
ChaptersHoldAll = (rs : List RunParts) → flat_map (λ c. c) (chapters_of rs) ≡ rs

-- the notes of the chapters of a text have all its runs that stand in notes, in order
abbrev pub NotesHoldAll : Type 0
NotesHoldAll = (styles : Styles) (s : List ℕ)
    → flat_map (λ c. flat_map (λ n. n.runs) (notes_of c)) (chapters_of (reading_of styles s))
    ≡ filter (λ r. is_some r.note) (reading_of styles s)

-- the blocks of runs have all of them, in order
abbrev pub BlocksHoldAll : Type 0
BlocksHoldAll = (rs : List RunParts) → flat_map (λ b. b.runs) (blocks_of rs) ≡ rs
