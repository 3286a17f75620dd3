-- How the two sides of a merge are read (this project's own rule): a change of line ends, or of
-- blanks at the ends of lines, gives way to a change of the wording of the same segment. So where
-- one side changed no more than that, the two are never in conflict.
use Rattle.std.specs.Prelude.{ℕ, not, ◌&&◌, ◌||◌, List, if◌then◌else◌}
use Rattle.std.specs.List.{flat_map}
use Rattle.usfm_ref.specs.Books.{same_bytes}
use Rattle.verse_cut.specs.Pieces.{PieceParts, pieces_of}
use Rattle.replica_state.specs.Imports.{piece_at}
use Rattle.book_merge.specs.Wordings.{same_wording}

-- the text of THEIRS in a segment where the texts are those of BASE, of OURS and of THEIRS: where
-- both sides changed it, that of OURS if the sides have one wording, and else that of BASE if
-- THEIRS has its wording
abbrev pub theirs_text : List ℕ → List ℕ → List ℕ → List ℕ
theirs_text base ours theirs =
    if same_bytes theirs base || same_bytes ours base then theirs
    else if same_wording theirs ours then ours
    else if same_wording theirs base then base else theirs

-- the text of OURS in such a segment: that of BASE where OURS has its wording, and THEIRS has not
abbrev pub ours_text : List ℕ → List ℕ → List ℕ → List ℕ
ours_text base ours theirs =
    if same_wording ours base && not (same_wording theirs base) then base else ours

-- the text of a piece of THEIRS, beside the pieces of BASE and of OURS
abbrev pub theirs_piece : List PieceParts → List PieceParts → PieceParts → List ℕ
theirs_piece base ours p = theirs_text (piece_at base p.key) (piece_at ours p.key) p.text

-- the text of a piece of OURS, beside the pieces of BASE and of THEIRS
abbrev pub ours_piece : List PieceParts → List PieceParts → PieceParts → List ℕ
ours_piece base theirs p = ours_text (piece_at base p.key) p.text (piece_at theirs p.key)

-- THEIRS as it is read: the texts of its pieces, one after the other
abbrev pub theirs_read : List ℕ → List ℕ → List ℕ → List ℕ
theirs_read base ours theirs =
    flat_map (theirs_piece (pieces_of base) (pieces_of ours)) (pieces_of theirs)

-- OURS as it is read
abbrev pub ours_read : List ℕ → List ℕ → List ℕ → List ℕ
ours_read base ours theirs =
    flat_map (ours_piece (pieces_of base) (pieces_of theirs)) (pieces_of ours)
