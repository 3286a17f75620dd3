-- What is picked is what a file has, at each key, if the texts are.
use Rattle.std.proofs.Common.{◌≡◌, ◌⊎◌, ℕ, ◌≤◌, Bool, true, false, not, ◌&&◌, List, [], inl, inr, Option, None, Some, refl, sym, ap, subst, ◌∙◌}
use Rattle.std.specs.Option.{is_some}
use Rattle.std.specs.Prelude.{◌==◌, nat_le}
use Rattle.std.proofs.lemmas.Bool.{and_parts, eqb-true, not-true}
use Rattle.usfm_ref.specs.Keys.{KeyParts, chapter_head, head_of, is_head, is_verse_of}
use Rattle.usfm_ref.specs.Segments.{segment}
use Rattle.usfm_ref.specs.declared.segment.Segment.{Segment}
use Rattle.verse_cut.specs.Pieces.{PieceParts}
use Rattle.verse_cut.specs.Reading.{is_empty}
use Rattle.op_core.specs.CutsBack.{picked_at}
use Rattle.op_core.specs.Ops.{Operation}
use Rattle.op_core.specs.Shown.{has_verse_text, text_of, wants_chapter_line}
use Rattle.op_core.proofs.Exports.Exported.{filled_verse, head_picked, picked_line, picked_own, wants_line}
use Rattle.replica_state.specs.Imports.{has_verse, loses_line, piece_at, piece_of, piece_own_text}
use Rattle.replica_state.proofs.ImportedTexts.{empty_is}

-- a verse wants no line
verse_wants_none : (held : List Operation) (g : Segment) → is_head g.key.place ≡ false → wants_chapter_line held g ≡ false
verse_wants_none held g h = ap (λ b. b && nat_le 1 g.key.chapter && is_empty (text_of held g) && has_verse_text held g.book g.key.chapter) h

-- a key that wants its chapter's line has no text of its own
pub wants_no_text : (held : List Operation) (g : Segment) → wants_chapter_line held g ≡ true → text_of held g ≡ []
wants_no_text held g h =
    let a = and_parts (is_head g.key.place && nat_le 1 g.key.chapter && is_empty (text_of held g))
    (has_verse_text held g.book g.key.chapter) h in
    empty_is (text_of held g) (and_parts (is_head g.key.place && nat_le 1 g.key.chapter) (is_empty (text_of held g)) a.0).1

-- a verse of a chapter that a file has, with a text that is not empty
pub record VersePiece (pieces : List PieceParts) (chapter : ℕ) : Type 0 where
  pub key : KeyParts
  pub verse : is_verse_of chapter key ≡ true
  pub some : is_empty (piece_at pieces key) ≡ false

-- Of a file that was written from one set, and of another set: the text at a key is the file's; or it is as it was, and what was
-- picked is what the file has, with a verse of the chapter if it is the chapter's line.
abbrev pub Becomes : List Operation → List Operation → List ℕ → List PieceParts → KeyParts → Type 0
Becomes was now book pieces key =
    (text_of now (segment book key) ≡ piece_at pieces key)
    ⊎ (text_of now (segment book key) ≡ text_of was (segment book key))
    × (picked_at was book key ≡ piece_at pieces key) × (loses_line was book pieces key ≡ false)

module _ (was now : List Operation) (book : List ℕ) (pieces : List PieceParts)
    (head_has_text : (key : KeyParts) → is_empty (piece_at pieces key) ≡ false → is_head key.place ≡ false → 1 ≤ key.chapter
    → is_empty (piece_at pieces (head_of key)) ≡ false)
    (verse_piece : (chapter : ℕ) → has_verse pieces chapter ≡ true → VersePiece pieces chapter)
    (becomes : (key : KeyParts) → Becomes was now book pieces key) where
  abbrev at : KeyParts → Segment
  at key = segment book key

  pub verse_text : (key : KeyParts) → is_head key.place ≡ false → text_of now (at key) ≡ piece_at pieces key
  verse_text key verse = by (becomes key)
    where
      by : Becomes was now book pieces key → text_of now (at key) ≡ piece_at pieces key
      by (inl e) = e
      by (inr k) = k.0 ∙ sym (picked_own was (at key) (verse_wants_none was (at key) verse)) ∙ k.1

  -- where a verse has a text, the head of its chapter has a piece that is not empty
  line_has_piece : (chapter : ℕ) → 1 ≤ chapter → has_verse_text now book chapter ≡ true
      → is_empty (piece_at pieces (chapter_head chapter)) ≡ false
  line_has_piece chapter some h =
      let v = filled_verse now book chapter h in
      let c = and_parts (v.key.chapter == chapter) (not (is_head v.key.place)) v.verse in
      let verse = not-true (is_head v.key.place) c.1 in
      let number : v.key.chapter ≡ chapter = eqb-true v.key.chapter chapter c.0 in
      let text : is_empty (piece_at pieces v.key) ≡ false = ap is_empty (sym (verse_text v.key verse)) ∙ v.some in
      ap (λ n. is_empty (piece_at pieces (chapter_head n))) (sym number)
      ∙ head_has_text v.key text verse (subst (λ n. 1 ≤ n) (sym number) some)

  -- a chapter with a verse among the pieces has a head that is picked
  verse_has_head : (chapter : ℕ) → 1 ≤ chapter → has_verse pieces chapter ≡ true
      → is_empty (picked_at now book (chapter_head chapter)) ≡ false
  verse_has_head chapter some h =
      let v = verse_piece chapter h in
      let c = and_parts (v.key.chapter == chapter) (not (is_head v.key.place)) v.verse in
      let verse = not-true (is_head v.key.place) c.1 in
      let number : v.key.chapter ≡ chapter = eqb-true v.key.chapter chapter c.0 in
      let picked : is_empty (picked_at now book v.key) ≡ false =
      ap is_empty (picked_own now (at v.key) (verse_wants_none now (at v.key) verse) ∙ verse_text v.key verse) ∙ v.some
      in
      ap (λ n. is_empty (picked_at now book (chapter_head n))) (sym number)
      ∙ head_picked now book v.key picked verse (subst (λ n. 1 ≤ n) (sym number) some)

  pub picked_is_piece : (key : KeyParts) → picked_at now book key ≡ piece_at pieces key
  picked_is_piece key = by (wants_chapter_line now (at key)) refl (becomes key)
    where
      kept : Bool → Type 0
      kept w = wants_chapter_line was (at key) ≡ w → wants_chapter_line now (at key) ≡ false
          → text_of now (at key) ≡ text_of was (at key) → picked_at was book key ≡ piece_at pieces key
          → loses_line was book pieces key ≡ false → picked_at now book key ≡ piece_at pieces key

      there : (o : Option PieceParts) → is_empty (piece_own_text o) ≡ false → is_some o ≡ true
      there None e = absurd (cc)
      there (Some p) e = refl

      without : (v : Bool) → has_verse pieces key.chapter ≡ v → (w : Bool) → kept w
      without v ev false e now_none same p l = picked_own now (at key) now_none ∙ same ∙ sym (picked_own was (at key) e) ∙ p
      without false ev true e now_none same p l =
          let line = picked_line was (at key) e in
          let some : is_some (piece_of pieces key) ≡ true = there (piece_of pieces key) (ap is_empty (sym p ∙ line)) in
          cc (sym l ∙ (λ i. (e i && some i) && not (ev i)))
      without true ev true e now_none same p l =
          let w = wants_line was (at key) e in
          let gone : picked_at now book key ≡ [] = picked_own now (at key) now_none ∙ same ∙ wants_no_text was (at key) e in
          let head = verse_has_head key.chapter w.some ev in
          cc (sym head ∙ ap (λ (k : KeyParts). is_empty (picked_at now book k)) (sym w.key_is) ∙ ap is_empty gone)

      with_line : wants_chapter_line now (at key) ≡ true → Becomes was now book pieces key → picked_at now book key ≡ piece_at pieces key
      with_line e b =
          let w = wants_line now (at key) e in
          let some : is_empty (piece_at pieces key) ≡ false =
          ap (λ (k : KeyParts). is_empty (piece_at pieces k)) w.key_is ∙ line_has_piece key.chapter w.some w.verse in
          let none = wants_no_text now (at key) e in
          cases some none b
        where
          cases : is_empty (piece_at pieces key) ≡ false → text_of now (at key) ≡ [] → Becomes was now book pieces key
              → picked_at now book key ≡ piece_at pieces key
          cases some none (inl t) = cc (sym some ∙ ap is_empty (sym t ∙ none))
          cases some none (inr k) = again (wants_chapter_line was (at key)) refl
            where
              again : (w : Bool) → wants_chapter_line was (at key) ≡ w → picked_at now book key ≡ piece_at pieces key
              again true f = picked_line now (at key) e ∙ sym (picked_line was (at key) f) ∙ k.1
              again false f = cc (sym some ∙ ap is_empty (sym k.1 ∙ picked_own was (at key) f ∙ sym k.0 ∙ none))

      by : (b : Bool) → wants_chapter_line now (at key) ≡ b → Becomes was now book pieces key → picked_at now book key ≡ piece_at pieces key
      by true e b = with_line e b
      by false e (inl t) = picked_own now (at key) e ∙ t
      by false e (inr k) = without (has_verse pieces key.chapter) refl (wants_chapter_line was (at key)) refl e k.0 k.1 k.2
