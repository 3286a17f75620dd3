-- The keys of marks: of USFM 3.0's chapter mark `\c` and verse mark `\v`, by the numbers directly
-- after them. That nested and closing marks have no key, and that a verse is in the greatest
-- chapter so far, is this project's own rule.
use Rattle.std.specs.Prelude.{ℕ, Bool, ◌||◌, List, [], ◌∷◌, codes, Option, None, option_map, if◌then◌else◌}
use Rattle.std.specs.Ordering.{is_lt}
use Rattle.std.specs.Str.{bytes_eq}
use Rattle.usfm_ref.specs.Keys.{KeyParts, key_cmp, chapter_head}
use Rattle.usfm_ref.specs.Numbers.{chapter_in, verse_in}
use Rattle.usfm_ref.specs.declared.key.Place.TheVariants.{Verse}
use Rattle.usfm_ref.specs.declared.number.VerseMark.{VerseMark}
use Rattle.usfm_token.specs.Tokens.{MarkParts, Lexeme, mark, words}

-- the key j comes before the key k
abbrev pub key_below : KeyParts → KeyParts → Bool
key_below j k = is_lt (key_cmp j k)

-- the key of a verse in a chapter; a bridge does not count
abbrev pub verse_key : ℕ → VerseMark → KeyParts
verse_key chapter v = record { chapter = chapter; place = Verse v.number v.letter }

-- The key of a mark with the text directly after it, where a verse is in the chapter: of `\c` with
-- a number the head of that chapter, of `\v` with a number that verse; no other mark, no nested and
-- no closing one has a key.
abbrev pub mark_key : ℕ → MarkParts → List ℕ → Option KeyParts
mark_key chapter m after =
    if m.nested || m.closing then None
    else (if bytes_eq m.name (codes "c") then option_map chapter_head (chapter_in after)
    else (if bytes_eq m.name (codes "v") then option_map (verse_key chapter) (verse_in after)
    else None))

-- the text at the front, if it is one
abbrev pub text_after : List Lexeme → List ℕ
text_after [] = []
text_after (mark m ∷ ts) = []
text_after (words t ∷ ts) = t
