-- What counts of a sheet's line, as bytes.
--
-- Paratext's `usfm.sty` has a field in a line and comments after '#'. What a blank is, which '#'
-- begins a comment, and how '#!' and U+FEFF are passed over is this project's own rule.
use Rattle.std.specs.Prelude.{ℕ, suc, ◌-◌, ◌==◌, Bool, true, ◌&&◌, not, List, [], ◌∷◌, length, take, drop, take_while, if◌then◌else◌}
use Rattle.std.specs.List.{prefix_len, suffix_len}
use Rattle.std.specs.Str.{bytes_eq}
use Rattle.usfm_ref.specs.Numbers.{is_blank}

-- whether a byte is no blank
abbrev pub not_blank : ℕ → Bool
not_blank b = not (is_blank b)

-- a text without the blanks at its front
abbrev pub after_blanks : List ℕ → List ℕ
after_blanks bs = drop (prefix_len is_blank bs) bs

-- a text without the blanks at both ends
abbrev pub trimmed : List ℕ → List ℕ
trimmed bs = let front = after_blanks bs in take (length front - suffix_len is_blank front) front

-- what comes before the first blank
abbrev pub first_word : List ℕ → List ℕ
first_word bs = take_while not_blank bs

-- what follows the first word
abbrev pub after_word : List ℕ → List ℕ
after_word bs = drop (prefix_len not_blank bs) bs

-- whether bytes begin with this front
abbrev pub begins : List ℕ → List ℕ → Bool
begins front bs = bytes_eq (take (length front) bs) front

-- U+FEFF at the very start of the sheet is passed over
abbrev pub after_feff : List ℕ → List ℕ
after_feff bs = if begins (239 ∷ 187 ∷ 191 ∷ []) bs then drop 3 bs else bs

-- one '#!' at the front is passed over, with the blanks after it
abbrev pub after_bang : List ℕ → List ℕ
after_bang bs = if begins (35 ∷ 33 ∷ []) bs then after_blanks (drop 2 bs) else bs

-- how many bytes come before a '#' (35) that is at the front or follows a blank
abbrev pub comment_at : Bool → List ℕ → ℕ
comment_at may [] = 0
comment_at may (b ∷ bs) = if may && b == 35 then 0 else suc (comment_at (is_blank b) bs)

-- a line without the comment at its end, if one begins there
abbrev pub uncommented : List ℕ → List ℕ
uncommented bs = take (comment_at true bs) bs

-- what counts of a line: what comes after its blanks and one '#!', and before a comment, which a
-- '#' begins at the start or after a blank
abbrev pub body : List ℕ → List ℕ
body line = uncommented (after_bang (after_blanks line))
