-- What is found at a mark of a text by its number: one condition for each code.
--
-- USFM 3.0 has the numbers after `\c` and `\v`, the bridge `\v 3-4` and the part `\v 3a`. What is
-- wrong with a number is this project's own rule.
use Rattle.std.specs.Prelude.{ℕ, nat_lt, ◌==◌, Bool, false, not, ◌&&◌, ◌||◌, List, [], codes, Option, None, Some}
use Rattle.std.specs.Option.{is_some, option_map_or}
use Rattle.std.specs.List.{list_any, slice_get}
use Rattle.std.specs.Ordering.{is_lt}
use Rattle.usfm_ref.specs.Keys.{place_cmp}
use Rattle.usfm_ref.specs.Numbers.{chapter_in}
use Rattle.usfm_ref.specs.declared.key.Place.TheVariants.{Verse}
use Rattle.usfm_ref.specs.declared.number.VerseMark.{VerseMark}
use Rattle.usfm_token.specs.Tokens.{MarkParts}
use Rattle.segment_check.specs.Scenes.{Scene, scenes_after, chapter_of, key_of, opens_piece, is_plain_mark, mark_verse, opened_verse}

-- no number comes after a mark `\c` or `\v`
abbrev pub lacks_number : MarkParts → List ℕ → Bool
lacks_number m after =
    (is_plain_mark (codes "c") m && not (is_some (chapter_in after)))
    || (is_plain_mark (codes "v") m && not (is_some (mark_verse m after)))

-- `bad-number`: a mark `\c` or `\v`, neither nested nor closing, without a number
abbrev pub bad_number : Scene → Bool
bad_number scene = lacks_number scene.here.parts scene.here.after

-- a hyphen (45) is at a place
abbrev pub hyphen_at : List ℕ → ℕ → Bool
hyphen_at text place = option_map_or (λ b. b == 45) (slice_get text place) false

-- a verse comes before the last of its bridge
abbrev pub bridges_forward : VerseMark → ℕ × Option ℕ → Bool
bridges_forward v last = is_lt (place_cmp (Verse v.number v.letter) (Verse last.0 last.1))

-- a hyphen directly after a verse's number without a bridge, or a bridge whose last verse is not
-- after its first
abbrev pub fails_bridge : List ℕ → VerseMark → Bool
fails_bridge after v =
    option_map_or (λ last. not (bridges_forward v last)) v.last (hyphen_at after v.length)

-- a mark `\v` with a verse after it, whose bridge fails
abbrev pub has_bad_bridge : MarkParts → List ℕ → Bool
has_bad_bridge m after = option_map_or (fails_bridge after) (mark_verse m after) false

-- `bad-bridge`: a verse's mark whose bridge fails
abbrev pub bad_bridge : Scene → Bool
bad_bridge scene = has_bad_bridge scene.here.parts scene.here.after

-- `not-rising`: a mark with a key that opens no piece
abbrev pub not_rising : Scene → Bool
not_rising scene = is_some (key_of scene) && not (opens_piece scene)

-- one letter comes after another
abbrev pub is_after : Option ℕ → Option ℕ → Bool
is_after None last = false
is_after (Some a) None = false
is_after (Some a) (Some b) = nat_lt b a

-- A bridge's last verse reaches a verse whose number is less than its own, or equal to it where one
-- of the two has no letter or the verse's letter is not after the bridge's.
abbrev pub reaches : ℕ × Option ℕ → VerseMark → Bool
reaches last v = nat_lt v.number last.0 || (v.number == last.0 && not (is_after v.letter last.1))

-- a verse has a bridge whose last verse reaches another verse
abbrev pub bridge_reaches : VerseMark → VerseMark → Bool
bridge_reaches e v = option_map_or (λ last. reaches last v) e.last false

-- a mark that opens a piece at a verse of the chapter, with a bridge that reaches a verse
abbrev pub overlaps_from : ℕ → VerseMark → Scene → Bool
overlaps_from chapter v earlier =
    chapter_of earlier == chapter
    && option_map_or (λ e. bridge_reaches e v) (opened_verse earlier) false

-- a mark of its chapter before it opens a piece with such a bridge
abbrev pub is_reached : Scene → VerseMark → Bool
is_reached scene v =
    list_any (overlaps_from (chapter_of scene) v) (scenes_after [] scene.before)

-- `overlap`: a verse's mark that opens a piece, after one of its chapter that opens a piece and
-- whose bridge reaches it
abbrev pub overlap : Scene → Bool
overlap scene = option_map_or (is_reached scene) (opened_verse scene) false
