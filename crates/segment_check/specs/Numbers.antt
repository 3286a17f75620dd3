-- The numbers after marks, as a walk reads them.
use Rattle.std.specs.Prelude.{ℕ, List, codes, Option, None, Some, if◌then◌else◌}
use Rattle.usfm_ref.specs.Keys.{KeyParts, chapter_head}
use Rattle.usfm_ref.specs.Numbers.{chapter_in}
use Rattle.usfm_ref.specs.declared.number.VerseMark.{VerseMark}
use Rattle.usfm_token.specs.Tokens.{MarkParts}
use Rattle.verse_cut.specs.Keys.{verse_key}
use Rattle.segment_check.specs.Scenes.{is_plain_mark}

-- the chapter that comes after a mark `\c`
abbrev pub mark_chapter : MarkParts → List ℕ → Option ℕ
mark_chapter m after = if is_plain_mark (codes "c") m then chapter_in after else None

-- the key of a mark with a chapter or a verse after it
abbrev pub key_by : ℕ → Option ℕ → Option VerseMark → Option KeyParts
key_by chapter (Some n) verse = Some (chapter_head n)
key_by chapter None (Some v) = Some (verse_key chapter v)
key_by chapter None None = None
