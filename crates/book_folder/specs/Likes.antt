-- Texts that are like each other, and the manner of their line ends (this project's own rule): an
-- editor may save a file with other line ends than it read, and with U+FEFF at its front or
-- without, and nobody has changed a text by that.
use Rattle.std.specs.Prelude.{ℕ, Bool, true, not, ◌==◌, ◌&&◌, ◌||◌, List, [], ◌∷◌, if◌then◌else◌}
use Rattle.std.specs.List.{list_any, flat_map}
use Rattle.usfm_ref.specs.Books.{same_bytes}
use Rattle.verse_cut.specs.Reading.{after_bom}
use Rattle.book_folder.specs.declared.likes.LineEnds.{LineEnds}
use Rattle.book_folder.specs.declared.likes.LineEnds.TheVariants.{Lf, CrLf, Mixed}

-- the bytes without each CR that stands directly before an LF
unfoldable pub without_cr : List ℕ → List ℕ
without_cr [] = []
without_cr (b ∷ []) = b ∷ []
without_cr (b ∷ c ∷ rest) =
    if (b == 13) && (c == 10) then without_cr (c ∷ rest) else b ∷ without_cr (c ∷ rest)

-- a text without a first U+FEFF, and without each CR that stands directly before an LF
abbrev pub plain : List ℕ → List ℕ
plain text = without_cr (after_bom text)

-- whether two texts are like each other
abbrev pub like : List ℕ → List ℕ → Bool
like one other = same_bytes (plain one) (plain other)

-- whether each LF has a CR directly before it, after a byte
unfoldable pub each_lf_has_cr : ℕ → List ℕ → Bool
each_lf_has_cr before [] = true
each_lf_has_cr before (b ∷ rest) =
    (not (b == 10) || (before == 13)) && each_lf_has_cr b rest

-- The manner of a text's line ends: CR LF where it has an LF and each has a CR before it, LF where
-- it has no CR, and else mixed.
abbrev pub line_ends : List ℕ → LineEnds
line_ends text =
    if list_any (λ b. b == 10) text && each_lf_has_cr 0 text then CrLf
    else (if list_any (λ b. b == 13) text then Mixed else Lf)

-- a text in which each line ends in one manner: each LF, with a CR directly before it or without,
-- is this end
abbrev pub with_ends : List ℕ → List ℕ → List ℕ
with_ends end text = flat_map (λ b. if b == 10 then end else b ∷ []) (without_cr text)

-- a text with its line ends in a manner; to be mixed is none, so the text stays
abbrev pub in_line_ends : LineEnds → List ℕ → List ℕ
in_line_ends Lf text = with_ends (10 ∷ []) text
in_line_ends CrLf text = with_ends (13 ∷ 10 ∷ []) text
in_line_ends Mixed text = text

-- a line without a CR at its end
unfoldable pub without_last_cr : List ℕ → List ℕ
without_last_cr [] = []
without_last_cr (b ∷ []) = if b == 13 then [] else b ∷ []
without_last_cr (b ∷ c ∷ rest) = b ∷ without_last_cr (c ∷ rest)
