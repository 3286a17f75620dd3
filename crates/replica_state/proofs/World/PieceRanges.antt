-- The pieces of a text: their keys are within their ranges, and of a UTF-8 text they are UTF-8.
use Rattle.std.proofs.Common.{◌≡◌, ℕ, ◌+◌, ◌≤◌, nat_le, Bool, true, false, cond, ◌||◌, List, []}
use Rattle.std.proofs.Common.{◌∷◌, ◌++◌, length, get_or, codes, IsUtf8, Option}
use Rattle.std.proofs.Common.{Some, None, option_map, refl, sym, subst, arith, length-append}
use Rattle.std.specs.Prelude.{bytes_eq}
use Rattle.std.specs.List.{AllByRecursion}
use Rattle.std.specs.Option.{IfSome}
use Rattle.std.proofs.Math.Seq.{take-append_seam, drop-append_seam, get_or-append_seam}
use Rattle.std.proofs.lemmas.Bool.{and_parts, and_from, le-leb}
use Rattle.std.proofs.lemmas.List.{append-nil}
use Rattle.std.proofs.lemmas.List.Elements.{All-tail}
use Rattle.std.proofs.lemmas.Str.{IsUtf8-nil, IsUtf8-take, IsUtf8-drop, IsCharBoundary-before_ascii}
use Rattle.usfm_ref.specs.Books.{is_book_code}
use Rattle.usfm_ref.specs.declared.number.VerseMark.{VerseMark}
use Rattle.usfm_ref.specs.Keys.{KeyParts, is_key, book_head, chapter_head}
use Rattle.usfm_ref.specs.Numbers.{chapter_in, verse_in}
use Rattle.usfm_ref.proofs.Ranges.{chapter_small, mark_is_verse}
use Rattle.usfm_ref.proofs.Readings.{verse_in-some}
use Rattle.usfm_token.specs.Tokens.{Lexeme, mark, words, MarkParts, slice_of, tokens_of, BeginsMark}
use Rattle.verse_cut.specs.Fits.{IsHeaded, FitsKey}
use Rattle.verse_cut.specs.Joins.{KeyText, texts_joined, at_book_head, pieces_from}
use Rattle.verse_cut.specs.Keys.{key_below, verse_key, mark_key, text_after}
use Rattle.verse_cut.specs.Pieces.{PieceParts, pieces_of}
use Rattle.verse_cut.specs.Reading.{key_of, goes_on, opens_at, cut_from, cut_of}
use Rattle.verse_cut.proofs.BookLaws.{books_are_joins}
use Rattle.verse_cut.proofs.JoinLaws.{FitKeys, fit_keys, begins_mark, rise_after}
use Rattle.verse_cut.proofs.MarkLaws.{cut_is_read}
use Rattle.verse_cut.proofs.Quiet.{by_key}

-- ---- texts

-- where the second of two byte strings begins with a backslash, they can be parted there
pub parted : (a b : List ℕ) → IsUtf8 (a ++ b) → BeginsMark b → IsUtf8 a × IsUtf8 b
parted a [] h m = (subst IsUtf8 (append-nil a) h, IsUtf8-nil)
parted a (x ∷ b) h m =
    let byte : x ≡ 92 = m (omega arith) in
    let at : get_or (a ++ x ∷ b) (length a) 0 ≡ x = get_or-append_seam a x b 0 in
    let long = length-append a (x ∷ b) in
    let edge = IsCharBoundary-before_ascii (a ++ x ∷ b) (length a) (omega (arith, long)) (omega (arith, at, byte)) in (
      subst IsUtf8 (take-append_seam a (x ∷ b)) (IsUtf8-take (a ++ x ∷ b) (length a) h edge),
      subst IsUtf8 (drop-append_seam a (x ∷ b)) (IsUtf8-drop (a ++ x ∷ b) (length a) h edge),
    )

abbrev AreTexts : List KeyText → Type 0
AreTexts ts = AllByRecursion (λ (t : KeyText). IsUtf8 t.text) ts

each_text : (ts : List KeyText) → FitKeys ts → IsUtf8 (texts_joined ts) → AreTexts ts
each_text [] h u = tt
each_text (t ∷ ts) h u =
    let rest : FitKeys ts = All-tail (λ t. FitsKey t.key t.text) t ts h in
    let p = parted t.text (texts_joined ts) u (begins_mark ts rest) in
    (p.0, each_text ts rest p.1)

texts_from : (at : ℕ) (ts : List KeyText) → AreTexts ts → AllByRecursion (λ (p : PieceParts). IsUtf8 p.text) (pieces_from at ts)
texts_from at [] h = tt
texts_from at (t ∷ ts) h = (h.0, texts_from (at + length t.text) ts h.1)

-- each piece of a book that is UTF-8 is UTF-8
pub pieces_are_text : (book text : List ℕ) → is_book_code book ≡ true → IsHeaded book text → IsUtf8 text
    → AllByRecursion (λ (p : PieceParts). IsUtf8 p.text) (pieces_of text)
pieces_are_text book text code headed u =
    let j = books_are_joins book text code headed in
    let fit = fit_keys book j.later (rise_after j.head j.later j.rise) j.fit in
    let p = parted j.head (texts_joined j.later) (subst IsUtf8 j.join u) (begins_mark j.later fit) in
    subst (AllByRecursion (λ (p : PieceParts). IsUtf8 p.text)) (sym j.pieces)
    (texts_from 0 (at_book_head j.head ∷ j.later) (p.0, each_text j.later fit p.1))

-- ---- keys

-- the key is within its ranges
abbrev pub IsKey : KeyParts → Type 0
IsKey k = is_key k.chapter k.place ≡ true

verse_is_key : (c : ℕ) (text : List ℕ) (v : VerseMark) → nat_le c 999 ≡ true → verse_in text ≡ Some v → IsKey (verse_key c v)
verse_is_key c text v small e = and_from _ _ small (mark_is_verse text v (verse_in-some text v e))

mark_has_key : (c : ℕ) (m : MarkParts) (after : List ℕ) (k : KeyParts) → nat_le c 999 ≡ true → mark_key c m after ≡ Some k → IsKey k
mark_has_key c m after k small e = by (m.nested || m.closing) (bytes_eq m.name (codes "c")) (bytes_eq m.name (codes "v")) e
  where
    chapter : (r : Option ℕ) → IfSome r (λ n. n ≤ 999) → option_map chapter_head r ≡ Some k → IsKey k
    chapter None h e = cc e
    chapter (Some n) h e =
        let same : chapter_head n ≡ k = cc e in
        subst IsKey same (and_from (nat_le n 999) true (le-leb n 999 h) refl)

    verse : (r : Option VerseMark) → verse_in after ≡ r → option_map (verse_key c) r ≡ Some k → IsKey k
    verse None f e = cc e
    verse (Some v) f e = let same : verse_key c v ≡ k = cc e in subst IsKey same (verse_is_key c after v small f)

    by : (a b d : Bool) → cond a None
        (cond b (option_map chapter_head (chapter_in after)) (cond d (option_map (verse_key c) (verse_in after)) None)) ≡ Some k → IsKey k
    by true b d e = cc e
    by false true d e = chapter (chapter_in after) (chapter_small after (chapter_in after) refl) e
    by false false true e = verse (verse_in after) refl e
    by false false false e = cc e

token_has_key : (c : ℕ) (t : Lexeme) (ts : List Lexeme) (k : KeyParts) → nat_le c 999 ≡ true → key_of c t ts ≡ Some k → IsKey k
token_has_key c (words t) ts k small e = cc e
token_has_key c (mark m) ts k small e = mark_has_key c m (text_after ts) k small e

abbrev HaveKeys : List PieceParts → Type 0
HaveKeys ps = AllByRecursion (λ (p : PieceParts). IsKey p.key) ps

small : (g : KeyParts) → IsKey g → nat_le g.chapter 999 ≡ true
small g h = (and_parts (nat_le g.chapter 999) _ h).0

later_keys : (g : KeyParts) (at : ℕ) (ts : List Lexeme) → IsKey g → HaveKeys (cut_from g at ts).1
later_keys g at [] h = tt
later_keys g at (t ∷ ts) h =
    by (key_of g.chapter t ts) (λ k e. token_has_key g.chapter t ts k (small g h) e) (later_keys g (at + length (slice_of t)) ts h)
    (λ k is. later_keys k (at + length (slice_of t)) ts is)
  where
    by : (r : Option KeyParts) → ((k : KeyParts) → r ≡ Some k → IsKey k) → HaveKeys (cut_from g (at + length (slice_of t)) ts).1
        → ((k : KeyParts) → IsKey k → HaveKeys (cut_from k (at + length (slice_of t)) ts).1)
        → HaveKeys (by_key g at (slice_of t) (at + length (slice_of t)) ts r).1
    by None is same other = same
    by (Some k) is same other = turn (key_below g k)
      where
        turn : (b : Bool) → HaveKeys (cond b (opens_at k at (slice_of t) (cut_from k (at + length (slice_of t)) ts))
            (goes_on (slice_of t) (cut_from g (at + length (slice_of t)) ts))).1
        turn true = (is k refl, other k (is k refl))
        turn false = same

-- the keys of the pieces of a text are keys
pub pieces_have_keys : (text : List ℕ) → AllByRecursion (λ (p : PieceParts). IsKey p.key) (pieces_of text)
unfolding cut_of
pieces_have_keys text = subst HaveKeys (cut_is_read text) (refl, later_keys book_head 0 (tokens_of text) refl)
