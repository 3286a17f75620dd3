-- The verses of a book as its export has them (this project's own rule): which numbers a verse's
-- text has, and whether it is written.
use Rattle.std.specs.Prelude.{ℕ, List, [], ◌∷◌, Option, if◌then◌else◌}
use Rattle.std.specs.List.{flat_map}
use Rattle.usfm_ref.specs.Keys.{KeyParts}
use Rattle.usfm_ref.specs.Segments.{segment}
use Rattle.usfm_ref.specs.declared.key.Place.{Place}
use Rattle.usfm_ref.specs.declared.key.Place.TheVariants as place
use Rattle.usfm_token.specs.Tokens.{Lexeme, tokens_of}
use Rattle.covered_verses.specs.Covers.{covered_by}
use Rattle.op_core.specs.Ops.{Operation, own_text}
use Rattle.op_core.specs.Lists.{keys_of}
use Rattle.op_core.specs.Shown.{Pick, Line, Greatest, Empty, pick, is_empty}
use Rattle.project_status.specs.declared.verses.Verse.{Verse}

-- the verse of this number and letter that these tokens are
abbrev pub verse_of : ℕ → ℕ → Option ℕ → List Lexeme → Verse
verse_of chapter number letter ts =
    let covered = covered_by number letter ts in
    record {
      chapter = chapter;
      first = covered.first;
      last = covered.last;
      written = covered.written;
    }

-- the verse that a text is at a place; none at a head, and none where the text is empty
abbrev pub verse_at : ℕ → Place → List ℕ → List Verse
verse_at chapter place.Head text = []
verse_at chapter (place.Verse number letter) text =
    if is_empty text then [] else verse_of chapter number letter (tokens_of text) ∷ []

-- the verse that is picked at a key
abbrev pub verse_picked : KeyParts → Pick → List Verse
verse_picked key (Line chapter) = []
verse_picked key (Greatest o) = verse_at key.chapter key.place (own_text o)
verse_picked key Empty = []

-- the verses of a book that have a text in its export, by rising key
abbrev pub verses_of : List Operation → List ℕ → List Verse
verses_of held book =
    flat_map (λ key. verse_picked key (pick held (segment book key))) (keys_of held book)
