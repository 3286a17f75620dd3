-- The pieces of a book fit their keys.
use Rattle.std.proofs.Common.{◌≡◌, ◌≢◌, ℕ, zero, suc, ◌+◌, ◌<◌, Bool, true, false, not, cond, List, [], ◌∷◌, ◌++◌, length, take, drop, get_or, codes, Option, None, Some, option_map, sym, refl, ap, ◌∙◌, subst, arith, ◌||◌, ◌&&◌, inr}
use Rattle.std.specs.Prelude.{EachIndex}
use Rattle.std.proofs.lemmas.Bool.{and_parts, and_from}
use Rattle.std.proofs.lemmas.Bool.Decides.{nat_tests}
use Rattle.std.proofs.lemmas.List.{append-nil}
use Rattle.std.proofs.lemmas.List.Elements.{All-nil, All-cons}
use Rattle.std.specs.List.{All, prefix_len}
use Rattle.std.specs.Str.{bytes_eq}
use Rattle.usfm_ref.specs.Books.{is_code_char, is_book_code}
use Rattle.usfm_ref.specs.Keys.{KeyParts, book_head, chapter_head}
use Rattle.usfm_ref.specs.Numbers.{is_blank, chapter_in, verse_in}
use Rattle.usfm_ref.specs.declared.number.VerseMark.{VerseMark}
use Rattle.usfm_token.specs.Tokens.{Lexeme, mark, words, mark_bytes, slice_of, joined, tokens_of, is_name_byte, mark_after, BeginsWithNoText, AreLexemes}
use Rattle.usfm_token.proofs.TokenLemmas.{tokens_of-cons}
use Rattle.usfm_token.proofs.TokenLaws.{joined-tokens_of, one_reading}
use Rattle.usfm_token.proofs.Seam.{joined-append, each_part, each_rest}
use Rattle.usfm_token.proofs.Walk.{each-tokens_of, each_tail}
use Rattle.verse_cut.specs.Keys.{key_below, verse_key, text_after}
use Rattle.verse_cut.specs.Pieces.{PieceParts}
use Rattle.verse_cut.specs.Fits.{byte_order_mark, ends_code, IsHeaded, FitsKey, FitsBy, Fits, PiecesFit}
use Rattle.verse_cut.specs.Reading.{key_of, Later, goes_on, opens_at, cut_from, cut_of, not_above, is_quiet, leads}
use Rattle.verse_cut.proofs.KeyOrder.{below_trans, not_book_head}
use Rattle.verse_cut.proofs.MarkLaws.{cut_is_read}
use Rattle.verse_cut.proofs.Quiet.{key_of-append, by_key, leads_from, quiet_head, lead_with}

-- a key is read alike where its own chapter is in force
key_own : (c : ℕ) (q : KeyParts) (t : Lexeme) (ts : List Lexeme) → key_of c t ts ≡ Some q → key_of q.chapter t ts ≡ Some q
key_own c q (words t) ts h = absurd (cc)
key_own c q (mark m) ts h = by (m.nested || m.closing) (bytes_eq m.name (codes "c")) (bytes_eq m.name (codes "v"))
    (chapter_in (text_after ts)) (verse_in (text_after ts)) h
  where
    by : (e f g : Bool) (n : Option ℕ) (v : Option VerseMark)
        → cond e None (cond f (option_map chapter_head n) (cond g (option_map (verse_key c) v) None)) ≡ Some q
        → cond e None (cond f (option_map chapter_head n) (cond g (option_map (verse_key q.chapter) v) None)) ≡ Some q
    by true f g n v h = h
    by false true g n v h = h
    by false false false n v h = h
    by false false true n None h = h
    by false false true n (Some v) h = ap (λ x. Some (verse_key x v)) chapter_is ∙ h
      where
        chapter_is : q.chapter ≡ c
        chapter_is = cc

-- no tokens, or a mark with a key first
abbrev Opens : KeyParts → List Lexeme → Type 0
Opens g [] = Unit {0}
Opens g (t ∷ ts) = (q : KeyParts) × (key_of g.chapter t ts ≡ Some q)

opens_no_text : (g : KeyParts) (ts : List Lexeme) → Opens g ts → BeginsWithNoText ts
opens_no_text g [] h = tt
opens_no_text g (mark m ∷ ts) h = tt
opens_no_text g (words w ∷ ts) (q, h) = absurd (cc)

abbrev FitsLater : KeyParts → PieceParts → Type 0
FitsLater g p = FitsKey p.key p.text × (key_below g p.key ≡ true)

-- what a reading gives: tokens that go to the open piece, and pieces that fit
record Read (g : KeyParts) (ts : List Lexeme) (later : Later) : Type 0 where
  front : List Lexeme
  rest : List Lexeme
  split : ts ≡ front ++ rest
  begins : Opens g rest
  text : later.0 ≡ joined front
  quiet : is_quiet g front ≡ true
  fit : All (FitsLater g) later.1

all_map : {X : Type 0} (P Q : X → Type 0) (xs : List X) → ((x : X) → P x → Q x) → All P xs → All Q xs
all_map P Q xs f h k d lt = f _ (h k d lt)

-- the tokens that lead with a key are of a text that fits it
lead_fits : (q : KeyParts) (ts : List Lexeme) → tokens_of (joined ts) ≡ ts → leads q ts ≡ true → FitsKey q (joined ts)
lead_fits q ts own h = inr (lead_with q (joined ts) (ap (leads q) own ∙ h))

reads : (g : KeyParts) (at : ℕ) (ts : List Lexeme) → AreLexemes ts → Read g ts (cut_from g at ts)
reads g at [] each = record { front = []; rest = []; split = refl; begins = tt; text = refl; quiet = refl; fit = All-nil (FitsLater g) }
reads g at (t ∷ ts) each =
    let tail = each_tail t ts each in
    by (key_of g.chapter t ts) refl (reads g (at + length (slice_of t)) ts tail) (λ q. reads q (at + length (slice_of t)) ts tail)
  where
    stay : (o : Option KeyParts) → key_of g.chapter t ts ≡ o → not_above g o ≡ true → (l : Later) → Read g ts l
        → Read g (t ∷ ts) (goes_on (slice_of t) l)
    stay o is low l r = record {
      front = t ∷ r.front;
      rest = r.rest;
      split = ap (λ x. t ∷ x) r.split;
      begins = r.begins;
      text = ap (λ x. slice_of t ++ x) r.text;
      quiet = and_from (not_above g (key_of g.chapter t r.front)) (is_quiet g r.front)
          (ap (not_above g) (sym (key_of-append g.chapter t r.front r.rest (opens_no_text g r.rest r.begins))
          ∙ sym (ap (key_of g.chapter t) r.split) ∙ is) ∙ low) r.quiet;
      fit = r.fit;
    }

    begin : (q : KeyParts) → key_of g.chapter t ts ≡ Some q → key_below g q ≡ true → (l : Later) → Read q ts l
        → Read g (t ∷ ts) (opens_at q at (slice_of t) l)
    begin q is above l r =
        let own_key : key_of g.chapter t r.front
        ≡ Some q = sym (ap (key_of g.chapter t) r.split ∙ key_of-append g.chapter t r.front r.rest (opens_no_text q r.rest r.begins))
        ∙ is in
        let own : tokens_of (joined (t ∷ r.front))
        ≡ t ∷ r.front = sym (one_reading (t ∷ r.front)
        (each_part (t ∷ r.front) r.rest (subst (λ x. AreLexemes (t ∷ x)) r.split each))) in
        let leads : leads q (t ∷ r.front) ≡ true = leads_from q t r.front (key_own g.chapter q t r.front own_key) r.quiet in
        record {
          front = [];
          rest = t ∷ ts;
          split = refl;
          begins = (q, is);
          text = refl;
          quiet = refl;
          fit = All-cons (FitsLater g) (record { key = q; start = at; text = slice_of t ++ l.0 }) l.1
              (subst (FitsKey q) (ap (λ x. slice_of t ++ x) (sym r.text)) (lead_fits q (t ∷ r.front) own leads), above)
              (all_map (FitsLater q) (FitsLater g) l.1 (λ p f. (f.0, below_trans g q p.key above f.1)) r.fit);
        }

    by : (o : Option KeyParts) → key_of g.chapter t ts ≡ o → Read g ts (cut_from g (at + length (slice_of t)) ts)
        → ((q : KeyParts) → Read q ts (cut_from q (at + length (slice_of t)) ts))
        → Read g (t ∷ ts) (by_key g at (slice_of t) (at + length (slice_of t)) ts o)
    by None is here on = stay None is refl (cut_from g (at + length (slice_of t)) ts) here
    by (Some q) is here on = by_test (key_below g q) refl
      where
        by_test : (e : Bool) → key_below g q ≡ e
            → Read g (t ∷ ts) (cond e (opens_at q at (slice_of t) (cut_from q (at + length (slice_of t)) ts))
            (goes_on (slice_of t) (cut_from g (at + length (slice_of t)) ts)))
        by_test true above = begin q is above (cut_from q (at + length (slice_of t)) ts) (on q)
        by_test false below = stay (Some q) is (ap not below) (cut_from g (at + length (slice_of t)) ts) here

-- ---- where a heading comes before a seam

abbrev HasNoBackslash : List ℕ → Type 0
HasNoBackslash code = EachIndex code (λ k. get_or code k 0 ≢ 92)

-- what comes before a backslash begins with all that has none
cut_off : (x y p r : List ℕ) → HasNoBackslash x → x ++ y ≡ p ++ (92 ∷ r) → (p' : List ℕ) × (p ≡ x ++ p') × (y ≡ p' ++ (92 ∷ r))
cut_off [] y p r none e = (p, refl, e)
cut_off (b ∷ x) y [] r none e = absurd (none 0 (omega arith) cc)
cut_off (b ∷ x) y (c ∷ p) r none e =
    more (cut_off x y p r (λ k lt. none (suc k) (omega arith)) cc)
  where
    first_is : c ≡ b
    first_is = cc

    more : (p' : List ℕ) × (p ≡ x ++ p') × (y ≡ p' ++ (92 ∷ r)) → (p' : List ℕ) × (c ∷ p ≡ b ∷ (x ++ p')) × (y ≡ p' ++ (92 ∷ r))
    more (p', is, rest) = (p', (λ i. first_is i ∷ is i), rest)

-- `\id` before a blank is a mark without a key
id_has_no_key : (c : ℕ) (blank : ℕ) (bs : List ℕ) (ts : List Lexeme) → is_blank blank ≡ true
    → key_of c (mark (mark_after (105 ∷ 100 ∷ blank ∷ bs))) ts ≡ None
id_has_no_key c blank bs ts h = by (mark_after (105 ∷ 100 ∷ blank ∷ bs)).closing (mark_after (105 ∷ 100 ∷ blank ∷ bs)).name name_is
    (chapter_in (text_after ts)) (verse_in (text_after ts))
  where
    no_name : is_name_byte blank ≡ false
    no_name = grind (arith, nat_tests)

    name_is : (mark_after (105 ∷ 100 ∷ blank ∷ bs)).name ≡ 105 ∷ 100 ∷ []
    name_is = ap (λ e. take (1 + (1 + cond e (1 + prefix_len is_name_byte bs) 0)) (105 ∷ 100 ∷ blank ∷ bs)) no_name

    by : (e : Bool) (name : List ℕ) → name ≡ 105 ∷ 100 ∷ [] → (n : Option ℕ) (v : Option VerseMark)
        → cond e None (cond (bytes_eq name (codes "c")) (option_map chapter_head n)
        (cond (bytes_eq name (codes "v")) (option_map (verse_key c) v) None)) ≡ None
    by true name is n v = refl
    by false name is n v = ap
        (λ x. cond (bytes_eq x (codes "c")) (option_map chapter_head n)
        (cond (bytes_eq x (codes "v")) (option_map (verse_key c) v) None)) is

ends_part : (p r : List ℕ) → ends_code (p ++ r) ≡ true → ends_code p ≡ true
ends_part [] r h = refl
ends_part (b ∷ p) r h = h

mark_plain : (marked : Bool) → HasNoBackslash (cond marked byte_order_mark [])
mark_plain false k lt e = absurd (omega arith)
mark_plain true zero lt e = absurd (omega arith)
mark_plain true (suc zero) lt e = absurd (omega arith)
mark_plain true (suc (suc zero)) lt e = absurd (omega arith)
mark_plain true (suc (suc (suc k))) lt e = absurd (omega arith)

code_plain : (code : List ℕ) → is_book_code code ≡ true → HasNoBackslash code
code_plain [] h k lt e = absurd (cc)
code_plain (a ∷ []) h k lt e = absurd (cc)
code_plain (a ∷ b ∷ []) h k lt e = absurd (cc)
code_plain (a ∷ b ∷ c ∷ d ∷ rest) h k lt e = absurd (cc)
code_plain (a ∷ b ∷ c ∷ []) h k lt e =
    let two = and_parts (is_code_char a && is_code_char b) (is_code_char c) h in
    let one = and_parts (is_code_char a) (is_code_char b) two.0 in
    by k one.0 one.1 two.1 lt e
  where
    plain : (x : ℕ) → is_code_char x ≡ true → x ≡ 92 → ⊥
    plain x h e = absurd (let no : is_code_char x ≡ false = ap is_code_char e in cc)

    by : (k : ℕ) → is_code_char a ≡ true → is_code_char b ≡ true → is_code_char c ≡ true → k < 3 → get_or (a ∷ b ∷ c ∷ []) k 0 ≡ 92 → ⊥
    by zero p q r lt e = plain a p e
    by (suc zero) p q r lt e = plain b q e
    by (suc (suc zero)) p q r lt e = plain c r e
    by (suc (suc (suc k))) p q r lt e = absurd (omega arith)

id_plain : (blank : ℕ) (code : List ℕ) → is_blank blank ≡ true → HasNoBackslash code → HasNoBackslash (105 ∷ 100 ∷ blank ∷ code)
id_plain blank code b plain zero lt e = absurd (omega arith)
id_plain blank code b plain (suc zero) lt e = absurd (omega arith)
id_plain blank code b plain (suc (suc zero)) lt e = absurd (let no_blank : is_blank blank ≡ false = ap is_blank e in cc)
id_plain blank code b plain (suc (suc (suc k))) lt e = plain k (omega arith) e

heading_part : (g : KeyParts) (code front : List ℕ) (rest : List Lexeme) (s : List ℕ) → AreLexemes rest → Opens g rest
    → HasNoBackslash code → s ≡ front ++ joined rest → IsHeaded code s → IsHeaded code front
heading_part g code front [] s each begins plain split h = subst (IsHeaded code) (split ∙ append-nil front) h
heading_part g code front (words w ∷ us) s each (q, is) plain split h = absurd (cc)
heading_part g code front (mark m ∷ us) s each (q, is) plain split h =
    by_front (cut_off (cond h.begins.marked byte_order_mark []) (92 ∷ 105 ∷ 100 ∷ h.begins.blank ∷ (code ++ h.rest)) front after
    (mark_plain h.begins.marked) (sym h.begins.text_is ∙ split))
  where
    after : List ℕ
    after = drop 1 (joined (mark m ∷ us))

    no_id : 92 ∷ 105 ∷ 100 ∷ h.begins.blank ∷ (code ++ h.rest) ≡ joined (mark m ∷ us) → ⊥
    no_id e =
        let reading : mark m ∷ us
        ≡ mark (mark_after (105 ∷ 100 ∷ h.begins.blank ∷ (code ++ h.rest))) ∷ tokens_of
        (drop (length (mark_bytes (mark_after (105 ∷ 100 ∷ h.begins.blank ∷ (code ++ h.rest)))))
        (92 ∷ 105 ∷ 100 ∷ h.begins.blank ∷ (code ++ h.rest))) =
        one_reading (mark m ∷ us) each ∙ ap tokens_of (sym e) ∙ tokens_of-cons 92 (105 ∷ 100 ∷ h.begins.blank ∷ (code ++ h.rest)) in
        let first : mark m ≡ mark (mark_after (105 ∷ 100 ∷ h.begins.blank ∷ (code ++ h.rest))) = cc in
        let none : key_of g.chapter (mark m) us ≡ None = ap (λ t. key_of g.chapter t us) first
        ∙ id_has_no_key g.chapter h.begins.blank (code ++ h.rest) us h.begins.is_blank in
        cc

    found : (p : List ℕ) → front ≡ cond h.begins.marked byte_order_mark [] ++ (92 ∷ p)
        → (p' : List ℕ) × (p ≡ (105 ∷ 100 ∷ h.begins.blank ∷ code) ++ p') × (h.rest ≡ p' ++ (92 ∷ after)) → IsHeaded code front
    found p is (p', p_is, rest_is) = record {
      rest = p';
      begins = record {
        marked = h.begins.marked;
        blank = h.begins.blank;
        is_blank = h.begins.is_blank;
        text_is = is ∙ ap (λ x. cond h.begins.marked byte_order_mark [] ++ (92 ∷ x)) p_is;
      };
      ends = ends_part p' (92 ∷ after) (ap ends_code (sym rest_is) ∙ h.ends);
    }

    by_front : (p : List ℕ) × (front ≡ cond h.begins.marked byte_order_mark [] ++ p)
        × (92 ∷ 105 ∷ 100 ∷ h.begins.blank ∷ (code ++ h.rest) ≡ p ++ (92 ∷ after)) → IsHeaded code front
    by_front ([], is, e) = absurd (no_id e)
    by_front (c ∷ p, is, e) =
        let c_is : c ≡ 92 = cc in
        let more : 105 ∷ 100 ∷ h.begins.blank ∷ (code ++ h.rest) ≡ p ++ (92 ∷ after) = cc in
        found p (is ∙ ap (λ x. cond h.begins.marked byte_order_mark [] ++ (x ∷ p)) c_is)
        (cut_off (105 ∷ 100 ∷ h.begins.blank ∷ code) h.rest p after (id_plain h.begins.blank code h.begins.is_blank plain) more)

fits_at : (code : List ℕ) (p : PieceParts) → FitsLater book_head p → Fits code p.key p.text
fits_at code p f = subst (FitsBy code p.key p.text) (sym (not_book_head p.key f.1)) f.0

-- the pieces of a book fit their keys
pub pieces_fit : PiecesFit
unfolding cut_of
pieces_fit code s is_code headed =
    let each : AreLexemes (tokens_of s) = each-tokens_of s in
    let r = reads book_head 0 (tokens_of s) each in
    let later : Later = cut_from book_head 0 (tokens_of s) in
    let both : AreLexemes (r.front ++ r.rest) = subst AreLexemes r.split each in
    let own : tokens_of later.0 ≡ r.front = ap tokens_of r.text ∙ sym (one_reading r.front (each_part r.front r.rest both)) in
    let split : s ≡ joined r.front ++ joined r.rest = sym (joined-tokens_of s) ∙ ap joined r.split ∙ joined-append r.front r.rest in
    let heading : IsHeaded code later.0 = subst (IsHeaded code) (sym r.text)
    (heading_part book_head code (joined r.front) r.rest s (each_rest r.front r.rest both) r.begins
    (code_plain code is_code) split headed) in
    let none = quiet_head later.0 (ap (is_quiet book_head) own ∙ r.quiet) in
    subst (All (λ p. Fits code p.key p.text)) (cut_is_read s)
    (All-cons (λ p. Fits code p.key p.text) (record { key = book_head; start = 0; text = later.0 }) later.1 (heading, none)
    (all_map (FitsLater book_head) (λ p. Fits code p.key p.text) later.1 (fits_at code) r.fit))
