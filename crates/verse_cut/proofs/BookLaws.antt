-- Each text is the join of its pieces, and a join begins with the book that its head begins with.
use Rattle.std.proofs.Common.{◌≡◌, ℕ, suc, ◌+◌, ◌<◌, Bool, true, false, cond, List, [], ◌∷◌, ◌++◌, length, get_or, codes, Option, None, Some, option_map, sym, refl, ap, ◌∙◌, subst, ⊎_elim, arith, append_assoc, length-append, ◌||◌, ◌==◌, inl, inr}
use Rattle.std.proofs.lemmas.Bool.{and_parts, and_from}
use Rattle.std.proofs.lemmas.List.Elements.{All-nil, All-head, All-tail, All-cons}
use Rattle.std.proofs.str.Laws.{order}
use Rattle.std.specs.List.{All, list_all}
use Rattle.std.specs.Prelude.{◌⊎◌}
use Rattle.std.specs.Str.{bytes_eq}
use Rattle.usfm_ref.specs.Keys.{KeyParts, key_cmp, book_head, chapter_head, head_of, is_head}
use Rattle.usfm_ref.specs.Numbers.{is_blank, chapter_in, verse_in}
use Rattle.usfm_ref.specs.Rising.{rises_by}
use Rattle.usfm_ref.specs.declared.number.VerseMark.{VerseMark}
use Rattle.usfm_token.specs.Tokens.{BeginsMark, Lexeme, mark, words, slice_of, joined, tokens_of, AreLexemes}
use Rattle.usfm_token.proofs.TokenLaws.{joined-tokens_of}
use Rattle.usfm_token.proofs.Walk.{each-tokens_of, each_tail, first_not_empty}
use Rattle.verse_cut.specs.Keys.{key_below, verse_key, text_after}
use Rattle.verse_cut.specs.Pieces.{PieceParts, pieces_of}
use Rattle.verse_cut.specs.Fits.{byte_order_mark, ends_code, Fits}
use Rattle.verse_cut.specs.Reading.{key_of, Later, goes_on, opens_at, cut_from, cut_of, is_empty}
use Rattle.verse_cut.specs.Joins.{KeyText, texts_joined, TextsFit, TextsRise, HasHead, at_book_head, pieces_from, BooksAreJoins, JoinsKeepTheirBook}
use Rattle.verse_cut.proofs.KeyOrder.{below_trans, below_chapter}
use Rattle.verse_cut.proofs.MarkLaws.{cut_is_read}
use Rattle.verse_cut.proofs.Quiet.{by_key}
use Rattle.verse_cut.proofs.JoinLaws.{Rise, rise_after, rise_all, fit_keys, begins_mark}
use Rattle.verse_cut.proofs.PieceLaws.{pieces_fit}

-- a verse has the chapter in force, and any other key is a head
own_or_head : (c : ℕ) (q : KeyParts) (t : Lexeme) (ts : List Lexeme) → key_of c t ts ≡ Some q → (q.chapter ≡ c) ⊎ (q ≡ head_of q)
own_or_head c q (words t) ts h = absurd (cc)
own_or_head c q (mark m) ts h = by (m.nested || m.closing) (bytes_eq m.name (codes "c")) (bytes_eq m.name (codes "v"))
    (chapter_in (text_after ts)) (verse_in (text_after ts)) h
  where
    by : (e f g : Bool) (n : Option ℕ) (v : Option VerseMark)
        → cond e None (cond f (option_map chapter_head n) (cond g (option_map (verse_key c) v) None)) ≡ Some q
        → (q.chapter ≡ c) ⊎ (q ≡ head_of q)
    by true f g n v h = absurd (cc)
    by false true g None v h = absurd (cc)
    by false true g (Some n) v h = let is : chapter_head n ≡ q = cc in inr (sym is ∙ ap head_of is)
    by false false false n v h = absurd (cc)
    by false false true n None h = absurd (cc)
    by false false true n (Some v) h = let is : verse_key c v ≡ q = cc in inl (ap (λ (k : KeyParts). k.chapter) (sym is))

-- the heads of later chapters are there
abbrev Ahead : KeyParts → List KeyText → Type 0
Ahead g ts = All (λ t. is_head t.key.place ≡ false → g.chapter < t.key.chapter → HasHead t.key ts) ts

-- what a reading gives, as texts
pub record Gives (g : KeyParts) (at : ℕ) (ts : List Lexeme) (later : Later) : Type 0 where
  pub texts : List KeyText
  pub pieces : later.1 ≡ pieces_from (at + length later.0) texts
  pub join : joined ts ≡ later.0 ++ texts_joined texts
  pub filled : All (λ t. is_empty t.text ≡ false) texts
  pub rise : Rise g texts
  pub ahead : Ahead g texts

some_text : (s r : List ℕ) → 0 < length s → is_empty (s ++ r) ≡ false
some_text [] r h = absurd (omega arith)
some_text (b ∷ s) r h = refl

-- a head further on is there after one text more
has_head-cons : (k : KeyParts) (t : KeyText) (ts : List KeyText) → HasHead k ts → HasHead k (t ∷ ts)
has_head-cons k t ts (h, (j, lt, is), key, some) = (h, (suc j, omega arith, is), key, some)

gives : (g : KeyParts) (at : ℕ) (ts : List Lexeme) → AreLexemes ts → Gives g at ts (cut_from g at ts)
gives g at [] each = record {
  texts = [];
  pieces = refl;
  join = refl;
  filled = λ k d lt. absurd (omega arith);
  rise = tt;
  ahead = λ k d lt. absurd (omega arith);
}
gives g at (t ∷ ts) each =
    let tail = each_tail t ts each in
    by (key_of g.chapter t ts) refl (gives g (at + length (slice_of t)) ts tail) (λ q. gives q (at + length (slice_of t)) ts tail)
  where
    stay : (l : Later) → Gives g (at + length (slice_of t)) ts l → Gives g at (t ∷ ts) (goes_on (slice_of t) l)
    stay l r = record {
      texts = r.texts;
      pieces = r.pieces ∙ ap (λ n. pieces_from n r.texts)
          (let e : at + length (slice_of t) + length l.0
          ≡ at + length (slice_of t ++ l.0) = omega (arith, length-append (slice_of t) l.0) in e);
      join = ap (λ x. slice_of t ++ x) r.join ∙ sym (append_assoc (slice_of t) l.0 (texts_joined r.texts));
      filled = r.filled;
      rise = r.rise;
      ahead = r.ahead;
    }

    begin : (q : KeyParts) → key_of g.chapter t ts ≡ Some q → key_below g q ≡ true → (l : Later) → Gives q (at + length (slice_of t)) ts l
        → Gives g at (t ∷ ts) (opens_at q at (slice_of t) l)
    begin q is above l r =
        let first : KeyText = record { key = q; text = slice_of t ++ l.0 } in
        let far : at + length (slice_of t) + length l.0
        ≡ at + 0 + length (slice_of t ++ l.0) = omega (arith, length-append (slice_of t) l.0) in
        let here : at ≡ at + 0 = omega arith in
        let full : is_empty (slice_of t ++ l.0) ≡ false = some_text (slice_of t) l.0 (first_not_empty t ts each) in
        record {
          texts = first ∷ r.texts;
          pieces = λ i. record { key = q; start = here i; text = slice_of t ++ l.0 } ∷ (r.pieces ∙ ap (λ n. pieces_from n r.texts) far) i;
          join = ap (λ x. slice_of t ++ x) r.join ∙ sym (append_assoc (slice_of t) l.0 (texts_joined r.texts));
          filled = All-cons (λ t. is_empty t.text ≡ false) first r.texts full r.filled;
          rise = (above, r.rise);
          ahead = All-cons (λ u. is_head u.key.place ≡ false → g.chapter < u.key.chapter → HasHead u.key (first ∷ r.texts)) first r.texts
              (λ verse more. ⊎_elim (λ own. absurd (omega arith))
              (λ head. absurd (let no_verse : is_head q.place ≡ true = ap (λ k. is_head k.place) head in cc))
              (own_or_head g.chapter q t ts is))
              (λ j d lt verse more.
              let low = below_chapter q (get_or r.texts j d).key (rise_all q r.texts r.rise j d lt) in
              ⊎_elim
              (λ beyond. has_head-cons (get_or r.texts j d).key first r.texts (r.ahead j d lt verse beyond))
              (λ within.
              let same : q.chapter ≡ (get_or r.texts j d).key.chapter = omega arith in
              ⊎_elim
              (λ own. absurd (omega arith))
              (λ head. (first, (0, omega arith, refl), head ∙ ap chapter_head same, full))
              (own_or_head g.chapter q t ts is))
              (order q.chapter (get_or r.texts j d).key.chapter));
        }

    by : (o : Option KeyParts) → key_of g.chapter t ts ≡ o
        → Gives g (at + length (slice_of t)) ts (cut_from g (at + length (slice_of t)) ts)
        → ((q : KeyParts) → Gives q (at + length (slice_of t)) ts (cut_from q (at + length (slice_of t)) ts))
        → Gives g at (t ∷ ts) (by_key g at (slice_of t) (at + length (slice_of t)) ts o)
    by None is here on = stay (cut_from g (at + length (slice_of t)) ts) here
    by (Some q) is here on = by_test (key_below g q) refl
      where
        by_test : (e : Bool) → key_below g q ≡ e
            → Gives g at (t ∷ ts)
            (cond e (opens_at q at (slice_of t) (cut_from q (at + length (slice_of t)) ts))
            (goes_on (slice_of t) (cut_from g (at + length (slice_of t)) ts)))
        by_test true above = begin q is above (cut_from q (at + length (slice_of t)) ts) (on q)
        by_test false below = stay (cut_from g (at + length (slice_of t)) ts) here

-- How the pieces of a text are texts for keys.
pub record Parted (s : List ℕ) : Type 0 where
  pub head : List ℕ
  pub later : List KeyText
  pub join : s ≡ head ++ texts_joined later
  pub pieces : pieces_of s ≡ pieces_from 0 (at_book_head head ∷ later)
  pub filled : All (λ t. is_empty t.text ≡ false) later
  pub rise : Rise book_head later
  pub ahead : Ahead book_head later

-- the pieces of each text are texts for keys
pub parted : (s : List ℕ) → Parted s
unfolding cut_of
parted s =
    let later : Later = cut_from book_head 0 (tokens_of s) in
    let r = gives book_head 0 (tokens_of s) (each-tokens_of s) in
    record {
      head = later.0;
      later = r.texts;
      join = sym (joined-tokens_of s) ∙ r.join;
      pieces = sym (cut_is_read s) ∙ ap (λ ps. record { key = book_head; start = 0; text = later.0 } ∷ ps) r.pieces;
      filled = r.filled;
      rise = r.rise;
      ahead = r.ahead;
    }

-- ---- rising keys, of all later texts

above_all : (g k : KeyParts) (ts : List KeyText) → key_below g k ≡ true → list_all (λ u. key_below k u.key) ts ≡ true
    → list_all (λ u. key_below g u.key) ts ≡ true
above_all g k [] p h = refl
above_all g k (t ∷ ts) p h =
    let a = and_parts (key_below k t.key) (list_all (λ u. key_below k u.key) ts) h in
    and_from (key_below g t.key) (list_all (λ u. key_below g u.key) ts) (below_trans g k t.key p a.0) (above_all g k ts p a.1)

rise_of : (k : KeyParts) (ts : List KeyText) → Rise k ts
    → (list_all (λ u. key_below k u.key) ts ≡ true) × (rises_by key_cmp (λ u. u.key) ts ≡ true)
rise_of k [] r = (refl, refl)
rise_of k (t ∷ ts) r =
    let m = rise_of t.key ts r.1 in (
      and_from (key_below k t.key) (list_all (λ u. key_below k u.key) ts) r.0 (above_all k t.key ts r.0 m.0),
      and_from (list_all (λ u. key_below t.key u.key) ts) (rises_by key_cmp (λ u. u.key) ts) m.0 m.1,
    )

-- texts that rise from the head of the book do so with its own text before them
pub texts_rise : (head : List ℕ) (ts : List KeyText) → Rise book_head ts → TextsRise (at_book_head head ∷ ts)
texts_rise head ts r =
    let m = rise_of book_head ts r in and_from (list_all (λ u. key_below book_head u.key) ts) (rises_by key_cmp (λ u. u.key) ts) m.0 m.1

-- ---- the laws

-- fitting, of pieces and of texts
fit_texts : (book : List ℕ) (at : ℕ) (ts : List KeyText) → All (λ p. Fits book p.key p.text) (pieces_from at ts) → TextsFit book ts
fit_texts book at [] h = All-nil (λ t. Fits book t.key t.text)
fit_texts book at (t ∷ ts) h =
    let piece : PieceParts = record { key = t.key; start = at; text = t.text } in
    let more = pieces_from (at + length t.text) ts in
    All-cons (λ t. Fits book t.key t.text) t ts
    (All-head (λ p. Fits book p.key p.text) piece more h)
    (fit_texts book (at + length t.text) ts (All-tail (λ p. Fits book p.key p.text) piece more h))

-- what is cut and joined again is the book
pub books_are_joins : BooksAreJoins
books_are_joins book s is_code headed =
    let r = parted s in
    let fit = subst (All (λ p. Fits book p.key p.text)) r.pieces (pieces_fit book s is_code headed) in
    let all = fit_texts book 0 (at_book_head r.head ∷ r.later) fit in
    record {
      head = r.head;
      later = r.later;
      join = r.join;
      pieces = r.pieces;
      head_fits = All-head (λ t. Fits book t.key t.text) (at_book_head r.head) r.later all;
      fit = All-tail (λ t. Fits book t.key t.text) (at_book_head r.head) r.later all;
      filled = r.filled;
      rise = texts_rise r.head r.later r.rise;
      heads = λ j d lt some verse more. r.ahead j d lt verse more;
    }

ends_join : (s r : List ℕ) → ends_code s ≡ true → BeginsMark r → ends_code (s ++ r) ≡ true
ends_join [] [] e b = refl
ends_join [] (x ∷ r) e b = ap (λ y. is_blank y || y == 92) (b (omega arith))
ends_join (x ∷ s) r e b = e

-- a join begins with the code of its head
pub joins_keep_their_book : JoinsKeepTheirBook
joins_keep_their_book book head ts h fit rises =
    let begins = begins_mark ts (fit_keys book ts (rise_after head ts rises) fit) in
    record {
      rest = h.rest ++ texts_joined ts;
      begins = record {
        marked = h.begins.marked;
        blank = h.begins.blank;
        is_blank = h.begins.is_blank;
        text_is = ap (λ x. x ++ texts_joined ts) h.begins.text_is
            ∙ append_assoc (cond h.begins.marked byte_order_mark []) (92 ∷ 105 ∷ 100 ∷ h.begins.blank ∷ (book ++ h.rest)) (texts_joined ts)
            ∙ ap (λ x. cond h.begins.marked byte_order_mark [] ++ (92 ∷ 105 ∷ 100 ∷ h.begins.blank ∷ x))
            (append_assoc book h.rest (texts_joined ts));
      };
      ends = ends_join h.rest (texts_joined ts) h.ends begins;
    }
