-- The file that a merge writes (this project's own rule): the merged book in the manner of OURS, to
-- whose file it is written.
use Rattle.std.specs.Prelude.{ℕ, Bool, true, false, List, ◌++◌, if◌then◌else◌}
use Rattle.verse_cut.specs.Reading.{after_bom}
use Rattle.op_core.specs.Export.{export}
use Rattle.book_folder.specs.Likes.{line_ends, in_line_ends}
use Rattle.book_folder.specs.Restored.{front_of}
use Rattle.book_merge.specs.Merges.{MergeParts}
use Rattle.merged_file.specs.Remarks.{marked_export}
use Rattle.merged_file.specs.declared.file.Marking.{Marking}
use Rattle.merged_file.specs.declared.file.Marking.TheVariants.{Plain, Remarked}

-- A text with U+FEFF at its front as another one has it, and with line ends as that one has them.
-- Where that one has some of each, the line ends stay.
abbrev pub in_own_manner : List ℕ → List ℕ → List ℕ
in_own_manner was text = front_of was ++ in_line_ends (line_ends was) (after_bom text)

-- the text of a merge: the export of its book, with remarks or without
abbrev pub text_of_merge : MergeParts → Bool → List ℕ
text_of_merge m remarked =
    if remarked then marked_export m.replica.held m.book else export m.replica.held m.book

-- the file of a merge
abbrev pub file_of_merge : MergeParts → List ℕ → Bool → List ℕ
file_of_merge m ours remarked = in_own_manner ours (text_of_merge m remarked)

-- whether the remarks are written
abbrev pub is_remarked : Marking → Bool
is_remarked Plain = false
is_remarked Remarked = true
