-- What other copies and this one do not have of each other (this project's own rule).
use Rattle.std.specs.Prelude.{ℕ, ◌-◌, not, List, [], ◌∷◌, ◌++◌, codes}
use Rattle.std.specs.List.{count_by, flat_map}
use Rattle.std.specs.Fmt.{decimal}
use Rattle.op_core.specs.Ops.{Operation}
use Rattle.bundle_codec.specs.Summaries.{NameRanges, covers, ids_in}
use Rattle.project_status.specs.Lines.{unless_none, copy_line, held_lines}

-- how many of the held operations lie outside a summary
abbrev pub lacks : List NameRanges → List Operation → ℕ
lacks known held = count_by (λ o. not (covers known o.id)) held

-- how many of its ids are not held: all but those that are
abbrev pub lacked : List NameRanges → List Operation → ℕ
lacked known held = ids_in known - count_by (λ o. covers known o.id) held

-- another copy, as a file tells it: the file's name, and which ids it has
pub record OtherParts : Type 0 where
  pub file : List ℕ
  pub known : List NameRanges

-- a word, the file's name, and a number
abbrev pub other_line : List ℕ → List ℕ → ℕ → List ℕ
other_line word file n = unless_none n (word ++ 32 ∷ (file ++ 32 ∷ (decimal n ++ 10 ∷ [])))

-- how many operations another copy does not have of those that are held, and how many ids it has
-- that are not held
abbrev pub other_lines : List Operation → OtherParts → List ℕ
other_lines held other = other_line (codes "lacks") other.file (lacks other.known held)
    ++ other_line (codes "lacked") other.file (lacked other.known held)

-- how a copy stands, the lines of its folder's files, and what other copies and it do not have of
-- each other
abbrev pub status : List ℕ → List Operation → List ℕ → List OtherParts → List ℕ
status name held folder others =
    copy_line name ++ (held_lines held ++ (folder ++ flat_map (other_lines held) others))
