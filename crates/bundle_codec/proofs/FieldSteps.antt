-- A walk over the fields of a key and of a text, in bytes that were judged.
use Rattle.std.proofs.Common.{◌≡◌, ◌≢◌, ℕ, zero, suc, ◌^◌, ◌<◌, true, false, List, [], ◌∷◌, ◌++◌, length, Option, None, Some, Ok, IsOk, refl, sym, ap, subst, ◌∙◌, append_assoc, arith}
use Rattle.std.specs.Int.{w16, w64, to_be_bytes}
use Rattle.std.proofs.lemmas.Bool.{and_parts}
use Rattle.usfm_ref.specs.declared.key.Place.{Place}
use Rattle.usfm_ref.specs.declared.key.Place.TheVariants.{Head, Verse}
use Rattle.usfm_ref.specs.Keys.{is_place, is_key}
use Rattle.op_core.specs.Ops.{or_empty}
use Rattle.bundle_codec.specs.declared.fault.BundleFault.{BundleFault}
use Rattle.bundle_codec.specs.declared.fault.BundleFault.TheVariants.{Truncated}
use Rattle.bundle_codec.specs.Spelling.{place, key, counted_text, body}
use Rattle.bundle_codec.specs.Reading.{◌>>=◌, AreBytes, any, byte_at, block_at, number_at, place_of, place_at, key_at, counted_text_at, body_at}
use Rattle.bundle_codec.proofs.FieldReaders.{byte_reads, block_reads, number_reads, wide16, wide64}
use Rattle.bundle_codec.proofs.FieldsSpelled.{kind_of, verse_of, letter_of, place_from, place_spelled, place_reads, key_reads, counted_text_reads, tag_of, after_tag, IsBody, body_spelled, body_reads, key_below}
use Rattle.bundle_codec.proofs.Steps.{Front, front, is_ok, at_front, same_value, same_rest}

-- ---- a place

module _ (bad : BundleFault) (bytes : List ℕ) (fine : AreBytes bytes) (h : IsOk (place_at bad bytes)) where
  place_front : Front (place_at bad) place (λ p. is_place p ≡ true) bytes
  place_front = front (place_reads bad) bytes fine h

  abbrev p : Place
  p = place_front.first

  kind_spelled : byte_at any Truncated bytes ≡ Ok (kind_of p, (to_be_bytes w16 (verse_of p) ++ (letter_of p ∷ [])) ++ place_front.left)
  kind_spelled =
      at_front (byte_reads any Truncated) (kind_of p) ((to_be_bytes w16 (verse_of p) ++ (letter_of p ∷ [])) ++ place_front.left) bytes
      (place_front.parts ∙ ap (λ (w : List ℕ). w ++ place_front.left) (sym (place_spelled p)))
      refl

  pub place_kind : IsOk (byte_at any Truncated bytes)
  place_kind = is_ok (byte_at any Truncated bytes) _ kind_spelled

  module _ (kind : ℕ) (rest : List ℕ) (one : byte_at any Truncated bytes ≡ Ok (kind, rest)) where
    verse_spelled : number_at w16 any Truncated rest ≡ Ok (verse_of p, (letter_of p ∷ []) ++ place_front.left)
    verse_spelled = at_front (number_reads w16 (2 ^ 16) wide16 any Truncated) (verse_of p) ((letter_of p ∷ []) ++ place_front.left) rest
        (same_rest (byte_at any Truncated bytes) _ _ _ _ kind_spelled one
        ∙ append_assoc (to_be_bytes w16 (verse_of p)) (letter_of p ∷ []) place_front.left)
        ((place_from p place_front.fits).1.0.0, refl)

    pub place_verse : IsOk (number_at w16 any Truncated rest)
    place_verse = is_ok (number_at w16 any Truncated rest) _ verse_spelled

    module _ (verse : ℕ) (rest2 : List ℕ) (two : number_at w16 any Truncated rest ≡ Ok (verse, rest2)) where
      letter_spelled : byte_at any Truncated rest2 ≡ Ok (letter_of p, place_front.left)
      letter_spelled = at_front (byte_reads any Truncated) (letter_of p) place_front.left rest2
          (same_rest (number_at w16 any Truncated rest) _ _ _ _ verse_spelled two) refl

      pub place_letter : IsOk (byte_at any Truncated rest2)
      place_letter = is_ok (byte_at any Truncated rest2) _ letter_spelled

      module _ (letter : ℕ) (rest3 : List ℕ) (three : byte_at any Truncated rest2 ≡ Ok (letter, rest3)) where
        same_place : p ≡ place_of kind verse letter
        same_place = sym (place_from p place_front.fits).1.1.1 ∙ (λ j. place_of
            (sym (same_value (byte_at any Truncated bytes) _ _ _ _ kind_spelled one) j)
            (sym (same_value (number_at w16 any Truncated rest) _ _ _ _ verse_spelled two) j)
            (sym (same_value (byte_at any Truncated rest2) _ _ _ _ letter_spelled three) j))

        place_is : place_at bad bytes ≡ Ok (place_of kind verse letter, rest3)
        place_is =
            place_front.is_read ∙ (λ j. Ok (same_place j, sym (same_rest (byte_at any Truncated rest2) _ _ _ _ letter_spelled three) j))

        pub is_head : kind ≡ 0 → place_at bad bytes ≡ Ok (Head, rest3)
        is_head e = place_is ∙ ap (λ (k : ℕ). Ok (place_of k verse letter, rest3)) e

        pub is_plain_verse : kind ≢ 0 → letter ≡ 0 → place_at bad bytes ≡ Ok (Verse verse None, rest3)
        is_plain_verse some e = place_is ∙ ap (λ (q : Place). Ok (q, rest3)) (by kind letter some e)
          where
            by : (k l : ℕ) → k ≢ 0 → l ≡ 0 → place_of k verse l ≡ Verse verse None
            by zero l some e = absurd (some refl)
            by (suc k) zero some e = refl
            by (suc k) (suc l) some e = absurd (omega (arith, e))

        pub is_lettered_verse : kind ≢ 0 → letter ≢ 0 → place_at bad bytes ≡ Ok (Verse verse (Some letter), rest3)
        is_lettered_verse some other = place_is ∙ ap (λ (q : Place). Ok (q, rest3)) (by kind letter some other)
          where
            by : (k l : ℕ) → k ≢ 0 → l ≢ 0 → place_of k verse l ≡ Verse verse (Some l)
            by zero l some other = absurd (some refl)
            by (suc k) zero some other = absurd (other refl)
            by (suc k) (suc l) some other = refl

-- ---- a key

module _ (bad : BundleFault) (bytes : List ℕ) (fine : AreBytes bytes) (h : IsOk (key_at bad bytes)) where
  key_front : Front (key_at bad) key (λ k. is_key k.chapter k.place ≡ true) bytes
  key_front = front (key_reads bad) bytes fine h

  chapter_spelled : number_at w16 any Truncated bytes ≡ Ok (key_front.first.chapter, place key_front.first.place ++ key_front.left)
  chapter_spelled =
      let k = key_front.first in
      at_front (number_reads w16 (2 ^ 16) wide16 any Truncated) k.chapter (place k.place ++ key_front.left) bytes
      (key_front.parts ∙ append_assoc (to_be_bytes w16 k.chapter) (place k.place) key_front.left)
      (key_below k key_front.fits, refl)

  pub key_chapter : IsOk (number_at w16 any Truncated bytes)
  key_chapter = is_ok (number_at w16 any Truncated bytes) _ chapter_spelled

  module _ (chapter : ℕ) (rest : List ℕ) (one : number_at w16 any Truncated bytes ≡ Ok (chapter, rest)) where
    place_is_spelled : place_at bad rest ≡ Ok (key_front.first.place, key_front.left)
    place_is_spelled = at_front (place_reads bad) key_front.first.place key_front.left rest
        (same_rest (number_at w16 any Truncated bytes) _ _ _ _ chapter_spelled one)
        (and_parts _ (is_place key_front.first.place) key_front.fits).1

    pub key_place : IsOk (place_at bad rest)
    key_place = is_ok (place_at bad rest) _ place_is_spelled

    pub key_is : (q : Place) (rest2 : List ℕ) → place_at bad rest ≡ Ok (q, rest2)
        → key_at bad bytes ≡ Ok (record { chapter = chapter; place = q }, rest2)
    key_is q rest2 two =
        let same : key_front.first ≡ record { chapter = chapter; place = q } = λ j. record {
          chapter = sym (same_value (number_at w16 any Truncated bytes) _ _ _ _ chapter_spelled one) j;
          place = sym (same_value (place_at bad rest) _ _ _ _ place_is_spelled two) j;
        } in
        key_front.is_read ∙ (λ j. Ok (same j, sym (same_rest (place_at bad rest) _ _ _ _ place_is_spelled two) j))

-- ---- a text

module _ (bytes : List ℕ) (fine : AreBytes bytes) (h : IsOk (counted_text_at bytes)) where
  text_front : Front counted_text_at counted_text (λ text. length text < 2 ^ 64) bytes
  text_front = front counted_text_reads bytes fine h

  abbrev text : List ℕ
  text = text_front.first

  text_length_spelled : number_at w64 any Truncated bytes ≡ Ok (length text, text ++ text_front.left)
  text_length_spelled = at_front (number_reads w64 (2 ^ 64) wide64 any Truncated) (length text) (text ++ text_front.left) bytes
      (text_front.parts ∙ append_assoc (to_be_bytes w64 (length text)) text text_front.left)
      (text_front.fits, refl)

  pub text_length : IsOk (number_at w64 any Truncated bytes)
  text_length = is_ok (number_at w64 any Truncated bytes) _ text_length_spelled

  module _ (len : ℕ) (rest : List ℕ) (one : number_at w64 any Truncated bytes ≡ Ok (len, rest)) where
    text_spelled : block_at len any Truncated rest ≡ Ok (text, text_front.left)
    text_spelled = at_front (block_reads len any Truncated) text text_front.left rest
        (same_rest (number_at w64 any Truncated bytes) _ _ _ _ text_length_spelled one)
        (sym (same_value (number_at w64 any Truncated bytes) _ _ _ _ text_length_spelled one), refl)

    pub text_block : IsOk (block_at len any Truncated rest)
    text_block = is_ok (block_at len any Truncated rest) _ text_spelled

    pub text_is : (found left : List ℕ) → block_at len any Truncated rest ≡ Ok (found, left) → counted_text_at bytes ≡ Ok (found, left)
    text_is found left two = text_front.is_read ∙ sym text_spelled ∙ two

-- ---- a tag and a text

module _ (bytes : List ℕ) (fine : AreBytes bytes) (h : IsOk (body_at false 0 bytes)) where
  body_front : Front (body_at false 0) body (IsBody false) bytes
  body_front = front (body_reads false 0) bytes fine h

  tag_spelled : byte_at any Truncated bytes ≡ Ok (tag_of body_front.first, after_tag body_front.first ++ body_front.left)
  tag_spelled = at_front (byte_reads any Truncated) (tag_of body_front.first) (after_tag body_front.first ++ body_front.left) bytes
      (body_front.parts ∙ ap (λ (w : List ℕ). w ++ body_front.left) (sym (body_spelled body_front.first))) refl

  pub body_tag : IsOk (byte_at any Truncated bytes)
  body_tag = is_ok (byte_at any Truncated bytes) _ tag_spelled

  module _ (tag : ℕ) (rest : List ℕ) (one : byte_at any Truncated bytes ≡ Ok (tag, rest)) where
    tag_is : tag ≡ tag_of body_front.first
    tag_is = same_value (byte_at any Truncated bytes) _ _ _ _ tag_spelled one

    rest_is : rest ≡ after_tag body_front.first ++ body_front.left
    rest_is = same_rest (byte_at any Truncated bytes) _ _ _ _ tag_spelled one

    pub body_none : tag ≡ 0 → body_at false 0 bytes ≡ Ok (None, rest)
    body_none e = by body_front.first refl
      where
        by : (text : Option (List ℕ)) → body_front.first ≡ text → body_at false 0 bytes ≡ Ok (None, rest)
        by None f = body_front.is_read
            ∙ (λ i. Ok (f i, sym (rest_is ∙ ap (λ (x : Option (List ℕ)). after_tag x ++ body_front.left) f) i))
        by (Some text) f = absurd (omega (arith, tag_is, e, ap tag_of f))

    -- a text that follows the tag
    record Text : Type 0 where
      text : List ℕ
      is : body_front.first ≡ Some text
      spelled : counted_text_at rest ≡ Ok (text, body_front.left)

    some_text : tag ≢ 0 → Text
    some_text ne = by body_front.first refl
      where
        by : (text : Option (List ℕ)) → body_front.first ≡ text → Text
        by None f = absurd (ne (tag_is ∙ ap tag_of f))
        by (Some text) f = record {
          text = text;
          is = f;
          spelled = at_front counted_text_reads text body_front.left rest
              (rest_is ∙ ap (λ (x : Option (List ℕ)). after_tag x ++ body_front.left) f)
              (subst (λ (x : Option (List ℕ)). length (or_empty x) < 2 ^ 64) f body_front.fits.1);
        }

    pub body_text : tag ≢ 0 → IsOk (counted_text_at rest)
    body_text ne = is_ok (counted_text_at rest) _ (some_text ne).spelled

    pub body_is : tag ≢ 0 → (found left : List ℕ) → counted_text_at rest ≡ Ok (found, left)
        → body_at false 0 bytes ≡ Ok (Some found, left)
    body_is ne found left two =
        let t = some_text ne in
        body_front.is_read ∙ ap (λ (x : Option (List ℕ)). Ok (x, body_front.left)) t.is
        ∙ ap (λ r. r >>= λ x. Ok (Some x.0, x.1)) (sym t.spelled ∙ two)
