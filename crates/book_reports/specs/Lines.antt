-- The lines of what is reported by a style sheet (this project's own rule): findings, hits and
-- words.
use Rattle.std.specs.Prelude.{ℕ, ◌+◌, List, [], ◌∷◌, ◌++◌, length, drop}
use Rattle.std.specs.Fmt.{decimal}
use Rattle.std.specs.List.{flat_map}
use Rattle.usfm_ref.specs.References.{key_text, ref_text}
use Rattle.usfm_token.specs.Tokens.{mark_bytes, mark_after}
use Rattle.segment_check.specs.Codes.{code_name}
use Rattle.segment_check.specs.declared.finding.Finding.{Finding}
use Rattle.concordance.specs.Hits.{HitParts}
use Rattle.concordance.specs.Words.{WordParts}

-- ---- findings

-- a finding: the reference of its key, its code and its start, as a line
abbrev pub finding_line : List ℕ → Finding → List ℕ
finding_line book f =
    ref_text book f.key ++ 32 ∷ code_name f.code ++ 32 ∷ decimal f.start ++ 10 ∷ []

-- a line for each finding
abbrev pub finding_lines : List ℕ → List Finding → List ℕ
finding_lines book found = flat_map (finding_line book) found

-- how many bytes the mark has whose backslash is at a place
abbrev pub mark_length : List ℕ → ℕ → ℕ
mark_length text at = length (mark_bytes (mark_after (drop (at + 1) text)))

-- ---- hits

-- a hit: the reference of its key and its start, as a line
abbrev pub hit_line : List ℕ → HitParts → List ℕ
hit_line book h = ref_text book h.key ++ 32 ∷ decimal h.start ++ 10 ∷ []

-- a line for each hit
abbrev pub hit_lines : List ℕ → List HitParts → List ℕ
hit_lines book hits = flat_map (hit_line book) hits

-- ---- words

-- a word: its form, and each of its keys after one space, as a line
abbrev pub word_line : WordParts → List ℕ
word_line w = w.form ++ flat_map (λ k. 32 ∷ key_text k) w.keys ++ 10 ∷ []

-- a line for each word
abbrev pub word_lines : List WordParts → List ℕ
word_lines words = flat_map word_line words
