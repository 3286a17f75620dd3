-- The marks of a text, each with all marks before it, and which of them open a piece of its cut.
use Rattle.std.specs.Prelude.{ℕ, Bool, false, not, ◌||◌, ◌&&◌, List, [], ◌∷◌, ◌++◌, codes, Option, None, if◌then◌else◌}
use Rattle.std.specs.Option.{option_map_or}
use Rattle.std.specs.Str.{bytes_eq}
use Rattle.usfm_ref.specs.Keys.{KeyParts}
use Rattle.usfm_ref.specs.Numbers.{verse_in}
use Rattle.usfm_ref.specs.declared.number.VerseMark.{VerseMark}
use Rattle.usfm_token.specs.Tokens.{MarkParts, tokens_of}
use Rattle.verse_cut.specs.Marks.{Site, sites_from, chapter_in_force, key_after, keyed_after, opens}

-- a mark, and the marks before it
pub record Scene : Type 0 where
  pub before : List Site
  pub here : Site

-- marks that come after others, each with all before it
abbrev pub scenes_after : List Site → List Site → List Scene
scenes_after before [] = []
scenes_after before (s ∷ ss) =
    record { before = before; here = s } ∷ scenes_after (before ++ s ∷ []) ss

-- the marks of a text, each with all marks before it
unfoldable pub scenes_of : List ℕ → List Scene
scenes_of s = scenes_after [] (sites_from 0 (tokens_of s))

-- the chapter in force before a mark: the greatest number of the chapter marks before it, and 0
-- where there is none
abbrev pub chapter_of : Scene → ℕ
chapter_of scene = chapter_in_force 0 scene.before

-- the key of a mark with all marks before it, if it has one
abbrev pub key_of : Scene → Option KeyParts
key_of scene = key_after 0 scene.before scene.here

-- whether a mark would open a piece by a key: one greater than the book head and than the key of
-- every mark before it
abbrev pub opens_by : Scene → KeyParts → Bool
opens_by scene k = opens (keyed_after 0 [] scene.before) (record { key = k; at = scene.here.at })

-- whether a mark opens a piece
abbrev pub opens_piece : Scene → Bool
opens_piece scene = option_map_or (opens_by scene) (key_of scene) false

-- whether a mark is neither nested nor closing, and has this name
abbrev pub is_plain_mark : List ℕ → MarkParts → Bool
is_plain_mark name m = not (m.nested || m.closing) && bytes_eq m.name name

-- the verse that comes after a mark `\v`
abbrev pub mark_verse : MarkParts → List ℕ → Option VerseMark
mark_verse m after = if is_plain_mark (codes "v") m then verse_in after else None

-- the verse of a mark `\v` that opens a piece
abbrev pub opened_verse : Scene → Option VerseMark
opened_verse scene =
    if opens_piece scene then mark_verse scene.here.parts scene.here.after else None
