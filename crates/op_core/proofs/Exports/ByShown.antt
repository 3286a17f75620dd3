-- What is picked in a book hangs on what its segments show alone.
use Rattle.std.proofs.Common.{◌≡◌, ℕ, true, cond, ◌&&◌, nat_le, List, sym, ap, ◌∙◌}
use Rattle.std.specs.Cmp.{both_ways}
use Rattle.usfm_ref.specs.Keys.{KeyParts, is_head}
use Rattle.usfm_ref.specs.Segments.{segment}
use Rattle.op_core.specs.Ops.{Operation}
use Rattle.op_core.specs.Shown.{shown, last, text_if_any, text_of, is_empty, has_verse_text, wants_chapter_line, greatest, pick, picked_text}
use Rattle.op_core.specs.Shown.{Line}
use Rattle.op_core.specs.CutsBack.{picked_at}
use Rattle.op_core.proofs.Exports.Exported.{filled_verse, has_filled_verse}

-- the segments of a book show the same of both lists
abbrev pub ShowSame : List Operation → List Operation → List ℕ → Type 0
ShowSame s u book = (key : KeyParts) → shown s (segment book key) ≡ shown u (segment book key)

-- a chapter in which the first list has a verse with a text has one in the second
verse_also : (s u : List Operation) (book : List ℕ) → ShowSame s u book → (chapter : ℕ) → has_verse_text s book chapter ≡ true
    → has_verse_text u book chapter ≡ true
verse_also s u book same chapter h =
    let v = filled_verse s book chapter h in
    has_filled_verse u book chapter record {
      key = v.key;
      verse = v.verse;
      some = ap (λ (ops : List Operation). is_empty (text_if_any (last ops))) (sym (same v.key)) ∙ v.some;
    }

module _ (s u : List Operation) (book : List ℕ) (same : ShowSame s u book) where
  -- a segment has the same text
  pub text_same : (key : KeyParts) → text_of s (segment book key) ≡ text_of u (segment book key)
  text_same key = ap (λ (ops : List Operation). text_if_any (last ops)) (same key)

  -- the same chapters have a verse with a text
  pub has_verse_same : (chapter : ℕ) → has_verse_text s book chapter ≡ has_verse_text u book chapter
  has_verse_same chapter =
      both_ways _ _ (verse_also s u book same chapter) (verse_also u s book (λ key. sym (same key)) chapter)

  -- the same heads want the line of their chapter
  pub wants_same : (key : KeyParts) → wants_chapter_line s (segment book key) ≡ wants_chapter_line u (segment book key)
  wants_same key = (λ i. is_head key.place && nat_le 1 key.chapter && is_empty (text_same key i) && has_verse_same key.chapter i)

  -- the same is picked
  pub pick_same : (key : KeyParts) → pick s (segment book key) ≡ pick u (segment book key)
  pick_same key = (λ i. cond (wants_same key i) (Line key.chapter) (greatest (last (same key i))))

  -- and has the same text
  pub picked_same : (key : KeyParts) → picked_at s book key ≡ picked_at u book key
  picked_same key = ap picked_text (pick_same key)
