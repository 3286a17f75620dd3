-- The words of a text: Unicode's alphabetic characters and the marks that combine with characters,
-- in Normalization Form C (UAX #15). That a word is a longest run of these within one plain leaf is
-- this project's own rule.
use Rattle.std.specs.Prelude.{ℕ, ◌+◌, Bool, true, false, ◌&&◌, ◌||◌, not, List, [], ◌∷◌, map}
use Rattle.std.specs.Prelude.{filter, length, take_while, if◌then◌else◌, chars, encode_utf8}
use Rattle.std.specs.Prelude.{encode_utf8_all}
use Rattle.std.specs.List.{flat_map}
use Rattle.std.specs.Ordering.{nat_cmp}
use Rattle.std.specs.Str.{bytes_eq}
use Rattle.std.specs.Cmp.Lexicographic.{slice_cmp}
use Rattle.std.specs.declared.cmp.Ordering.{Ordering}
use Rattle.sty_sheet.specs.Records.{Record}
use Rattle.ucd_category.specs.declared.GeneralCategory.{GeneralCategory}
use Rattle.ucd_category.specs.declared.GeneralCategory.TheVariants.{NonspacingMark, SpacingMark}
use Rattle.ucd_category.specs.declared.GeneralCategory.TheVariants.{EnclosingMark}
use Rattle.unicode.specs.Binary.{is_alphabetic}
use Rattle.unicode.specs.GeneralCategory.{general_category}
use Rattle.unicode_normalization.specs.Forms.{nfc}
use Rattle.usfm_ref.specs.Keys.{KeyParts, key_cmp}
use Rattle.usfm_ref.specs.Rising.{rising}
use Rattle.verse_cut.specs.Pieces.{PieceParts, pieces_of}
use Rattle.verse_cut.specs.Places.{key_at}
use Rattle.concordance.specs.Passages.{Passage}
use Rattle.concordance.specs.Plain.{plain_leaves}

-- ---- runs

-- the general categories Mn, Mc and Me
abbrev pub is_combining : GeneralCategory → Bool
is_combining NonspacingMark = true
is_combining SpacingMark = true
is_combining EnclosingMark = true
is_combining _ = false

-- a character of words: one that is alphabetic, or of the general categories Mn, Mc and Me
abbrev pub is_word_char : ℕ → Bool
is_word_char c = is_alphabetic c || is_combining (general_category c)

-- The longest runs of word characters, in characters that begin at a place, where a word character
-- comes before them or not: a run begins at each that has none directly before it, and goes on as
-- far as they last.
abbrev pub runs_from : Bool → ℕ → List ℕ → List Passage
runs_from within at [] = []
runs_from within at (c ∷ cs) =
    let later = runs_from (is_word_char c) (at + length (encode_utf8 c)) cs in
    if is_word_char c && not within then
    record { start = at; text = encode_utf8_all (take_while is_word_char (c ∷ cs)) } ∷ later
    else later

-- the longest runs of word characters in a passage, in order
abbrev pub runs_in : Passage → List Passage
runs_in p = runs_from false p.start (chars p.text)

-- ---- spellings

-- a run's form, and the key at which it occurs
pub record Spelling : Type 0 where
  pub form : List ℕ
  pub key : KeyParts

-- a text in Normalization Form C
abbrev pub form_of : List ℕ → List ℕ
form_of bytes = encode_utf8_all (nfc (chars bytes))

-- the form is the run in Normalization Form C, and the key is that of the piece that holds its
-- start
abbrev pub spelling_at : List PieceParts → Passage → Spelling
spelling_at ps run = record { form = form_of run.text; key = key_at ps run.start }

-- ---- words

-- a word: its form, and the keys at which it occurs
pub record WordParts : Type 0 where
  pub form : List ℕ
  pub keys : List KeyParts

-- forms go by their bytes
abbrev pub form_cmp : List ℕ → List ℕ → Ordering
form_cmp = slice_cmp nat_cmp

-- the keys of the spellings with a form
abbrev pub keys_with : List Spelling → List ℕ → List KeyParts
keys_with ss form = map (λ s. s.key) (filter (λ s. bytes_eq s.form form) ss)

-- the keys of the spellings with the form, rising, each once
abbrev pub word_with : List Spelling → List ℕ → WordParts
word_with ss form = record { form = form; keys = rising key_cmp (keys_with ss form) }

-- a word for each form, rising
abbrev pub words_in : List Spelling → List WordParts
words_in ss = map (word_with ss) (rising form_cmp (map (λ s. s.form) ss))

-- the words of a text, by the records of a style sheet: the forms of the longest runs of word
-- characters in its plain leaves, rising, each with the keys at which it occurs
unfoldable pub words_of : List Record → List ℕ → List WordParts
words_of sheet s =
    words_in (map (spelling_at (pieces_of s)) (flat_map runs_in (plain_leaves sheet s)))
