-- The reading from the left, against the marks and their keys.
use Rattle.std.proofs.Common.{◌≡◌, ℕ, ◌+◌, ◌-◌, max, Bool, true, false, cond, List, [], ◌∷◌, ◌++◌, length, take, drop, codes, Option, None, Some, option_map, sym, refl, ap, ◌∙◌, arith, append_assoc, length-append, ◌&&◌, ◌||◌}
use Rattle.std.proofs.lemmas.List.{take_at, drop_at, append-nil}
use Rattle.std.specs.Str.{bytes_eq}
use Rattle.usfm_ref.specs.Keys.{KeyParts, book_head, chapter_head}
use Rattle.usfm_ref.specs.Numbers.{chapter_in, verse_in}
use Rattle.usfm_ref.specs.declared.number.VerseMark.{VerseMark}
use Rattle.usfm_token.specs.Tokens.{Lexeme, mark, words, mark_bytes, slice_of, joined, tokens_of}
use Rattle.usfm_token.proofs.TokenLaws.{joined-tokens_of}
use Rattle.verse_cut.specs.Keys.{key_below, verse_key, mark_key, text_after}
use Rattle.verse_cut.specs.Marks.{Site, Keyed, sites_from, chapter_number, greater_of, chapter_in_force, with_key, keyed_after, keyed_marks, is_above_all, opening_after, opening}
use Rattle.verse_cut.specs.Pieces.{pieces_between, pieces_of}
use Rattle.verse_cut.specs.Reading.{key_of, goes_on, opens_at, cut_from, pieces_with, cut_of, CutIsRead}
use Rattle.verse_cut.proofs.KeyOrder.{below_trans, below_weak, below_chapter, not_below_chapter}

-- ---- keys, by the chapter of the marks before

-- the greatest chapter after a mark
abbrev pub chapter_after : ℕ → Option KeyParts → ℕ
chapter_after c None = c
chapter_after c (Some k) = max c k.chapter

-- the marks that have a key, where a chapter is in force at the first token
abbrev pub keyed_from : ℕ → ℕ → List Lexeme → List Keyed
keyed_from c at [] = []
keyed_from c at (t ∷ ts) = with_key (key_of c t ts) at (keyed_from (chapter_after c (key_of c t ts)) (at + length (slice_of t)) ts)

greater_comm : (a b : Option ℕ) (n : ℕ) → greater_of a (greater_of b n) ≡ greater_of b (greater_of a n)
greater_comm None b n = refl
greater_comm (Some x) None n = refl
greater_comm (Some x) (Some y) n = omega arith

-- with one mark more after the others
pub in_force-snoc : (c : ℕ) (before : List Site) (s : Site)
    → chapter_in_force c (before ++ s ∷ []) ≡ greater_of (chapter_number s) (chapter_in_force c before)
in_force-snoc c [] s = refl
in_force-snoc c (b ∷ before) s =
    ap (greater_of (chapter_number b)) (in_force-snoc c before s)
    ∙ greater_comm (chapter_number b) (chapter_number s) (chapter_in_force c before)

-- the chapter in force after a mark, by its key
pub number_step : (c : ℕ) (e f g : Bool) (n : Option ℕ) (v : Option VerseMark)
    → greater_of (cond e None (cond f n None)) c
    ≡ chapter_after c (cond e None (cond f (option_map chapter_head n) (cond g (option_map (verse_key c) v) None)))
number_step c true f g n v = refl
number_step c false true g None v = refl
number_step c false true g (Some n) v = refl
number_step c false false false n v = refl
number_step c false false true n None = refl
number_step c false false true n (Some v) = omega arith

keyed_is : (c : ℕ) (before : List Site) (at : ℕ) (ts : List Lexeme)
    → keyed_after c before (sites_from at ts) ≡ keyed_from (chapter_in_force c before) at ts
keyed_is c before at [] = refl
keyed_is c before at (words t ∷ ts) = keyed_is c before (at + length t) ts
keyed_is c before at (mark m ∷ ts) =
    let s : Site = record { at = at; parts = m; after = text_after ts } in
    let n = chapter_in_force c before in
    let on = at + length (mark_bytes m) in
    let step : greater_of (chapter_number s) (chapter_in_force c before)
    ≡ chapter_after (chapter_in_force c before) (mark_key (chapter_in_force c before) m (text_after ts)) =
    number_step n (m.nested || m.closing) (bytes_eq m.name (codes "c")) (bytes_eq m.name (codes "v")) (chapter_in (text_after ts))
    (verse_in (text_after ts)) in
    ap (with_key (mark_key n m (text_after ts)) at)
    (keyed_is c (before ++ s ∷ []) on ts ∙ ap (λ x. keyed_from x on ts) (in_force-snoc c before s ∙ step))

-- the marks with keys are those of the tokens from the left
pub keyed_marks-from : (c : ℕ) (s : List ℕ) → keyed_marks c s ≡ keyed_from c 0 (tokens_of s)
unfolding keyed_marks
keyed_marks-from c s = keyed_is c [] 0 (tokens_of s)

-- a key above all before has the greatest chapter, and any other leaves it
pub above_in_force : (g q : KeyParts) → key_below g q ≡ true → max g.chapter q.chapter ≡ q.chapter
above_in_force g q h = let low = below_chapter g q h in omega arith

-- a key that is not above the greatest is in no greater chapter
pub below_in_force : (g q : KeyParts) → key_below g q ≡ false → max g.chapter q.chapter ≡ g.chapter
below_in_force g q h = let low = not_below_chapter g q h in omega arith

-- ---- opening marks, by the greatest key of the marks before

-- the marks whose keys are above a key and above those of all marks before them
abbrev pub rising : KeyParts → List Keyed → List Keyed
rising g [] = []
rising g (m ∷ ms) = cond (key_below g m.key) (m ∷ rising m.key ms) (rising g ms)

-- g is the greatest of the book head and the keys of some marks
abbrev pub IsGreatest : KeyParts → List Keyed → Type 0
IsGreatest g before = (k : KeyParts) → key_below book_head k && is_above_all k before ≡ key_below g k

and_true : (b : Bool) → b && true ≡ b
and_true true = refl
and_true false = refl

and_assoc : (x y z : Bool) → x && (y && z) ≡ (x && y) && z
and_assoc true y z = refl
and_assoc false y z = refl

-- with one key more after the others
pub above-snoc : (k : KeyParts) (before : List Keyed) (m : Keyed)
    → is_above_all k (before ++ m ∷ []) ≡ is_above_all k before && key_below m.key k
above-snoc k [] m = and_true (key_below m.key k)
above-snoc k (b ∷ before) m = ap (λ x. key_below b.key k && x) (above-snoc k before m) ∙ and_assoc (key_below b.key k) _ _

-- a key is above all marks with one more exactly where it is above the greatest and above that one
pub greatest-more : (g : KeyParts) (before : List Keyed) (m : Keyed) (k : KeyParts) → IsGreatest g before
    → key_below book_head k && is_above_all k (before ++ m ∷ []) ≡ key_below g k && key_below m.key k
greatest-more g before m k h =
    ap (λ x. key_below book_head k && x) (above-snoc k before m)
    ∙ and_assoc (key_below book_head k) (is_above_all k before) (key_below m.key k) ∙ ap (λ x. x && key_below m.key k) (h k)

-- where one test follows from the other, both are the other
pub both_second : (x y : Bool) → (y ≡ true → x ≡ true) → x && y ≡ y
both_second true y h = refl
both_second false true h = h refl
both_second false false h = refl

-- of two tests of which the second follows, the first decides
pub both_first : (x y : Bool) → (x ≡ true → y ≡ true) → x && y ≡ x
both_first true y h = h refl
both_first false y h = refl

opening_is : (g : KeyParts) (before ms : List Keyed) → IsGreatest g before → opening_after before ms ≡ rising g ms
opening_is g before [] h = refl
opening_is g before (m ∷ ms) h =
    ap (λ b. cond b (m ∷ opening_after (before ++ m ∷ []) ms) (opening_after (before ++ m ∷ []) ms)) (h m.key)
    ∙ by (λ g' h'. opening_is g' (before ++ m ∷ []) ms h') (key_below g m.key) refl
  where
    by : ((g' : KeyParts) → IsGreatest g' (before ++ m ∷ []) → opening_after (before ++ m ∷ []) ms ≡ rising g' ms) → (e : Bool)
        → key_below g m.key ≡ e
        → cond e (m ∷ opening_after (before ++ m ∷ []) ms) (opening_after (before ++ m ∷ []) ms)
        ≡ cond e (m ∷ rising m.key ms) (rising g ms)
    by go true is = ap (λ r. m ∷ r)
        (go m.key (λ k. greatest-more g before m k h ∙ both_second (key_below g k) (key_below m.key k) (λ q. below_trans g m.key k is q)))
    by go false is =
        go g (λ k. greatest-more g before m k h ∙ both_first (key_below g k) (key_below m.key k) (λ q. below_weak g m.key k is q))

-- the marks that open a piece are those that rise from the head of the book
pub opening-rising : (ms : List Keyed) → opening ms ≡ rising book_head ms
opening-rising ms = opening_is book_head [] ms (λ k. and_true (key_below book_head k))

-- the marks that open a piece, of those from the left
pub opening-from : (s : List ℕ) → opening (keyed_marks 0 s) ≡ rising book_head (keyed_from 0 0 (tokens_of s))
opening-from s = opening-rising (keyed_marks 0 s) ∙ ap (rising book_head) (keyed_marks-from 0 s)

-- ---- pieces

module _ (s : List ℕ) where
  pieces_is : (g k : KeyParts) (start at : ℕ) (pre sofar : List ℕ) (ts : List Lexeme) → s ≡ pre ++ (sofar ++ joined ts)
      → length pre ≡ start → at ≡ start + length sofar
      → pieces_with k start sofar (cut_from g at ts) ≡ pieces_between s k start (rising g (keyed_from g.chapter at ts))
  pieces_is g k start at pre sofar [] whole before here =
      ap (λ x. record { key = k; start = start; text = x } ∷ []) (sym (ap (drop start) whole ∙ drop_at pre (sofar ++ []) start before))
  pieces_is g k start at pre sofar (t ∷ ts) whole before here =
      by (key_of g.chapter t ts)
      (ap (λ x. record { key = k; start = start; text = x } ∷ (cut_from g (at + length (slice_of t)) ts).1)
      (sym (append_assoc sofar (slice_of t) (cut_from g (at + length (slice_of t)) ts).0))
      ∙ pieces_is g k start (at + length (slice_of t)) pre (sofar ++ slice_of t) ts
      (whole ∙ ap (λ r. pre ++ r) (sym (append_assoc sofar (slice_of t) (joined ts)))) before
      (omega (arith, length-append sofar (slice_of t))))
      (λ q. pieces_is q q at (at + length (slice_of t)) (pre ++ sofar) (slice_of t) ts
      (whole ∙ sym (append_assoc pre sofar (slice_of t ++ joined ts))) (omega (arith, length-append pre sofar)) refl)
    where
      first_text : sofar ++ [] ≡ take (at - start) (drop start s)
      first_text =
          append-nil sofar
          ∙ sym (ap (λ x. take (at - start) x) (ap (drop start) whole ∙ drop_at pre (sofar ++ (slice_of t ++ joined ts)) start before)
          ∙ take_at sofar (slice_of t ++ joined ts) (at - start) (omega arith))

      by : (o : Option KeyParts)
          → pieces_with k start sofar (goes_on (slice_of t) (cut_from g (at + length (slice_of t)) ts))
          ≡ pieces_between s k start (rising g (keyed_from g.chapter (at + length (slice_of t)) ts))
          → ((q : KeyParts) → pieces_with q at (slice_of t) (cut_from q (at + length (slice_of t)) ts)
          ≡ pieces_between s q at (rising q (keyed_from q.chapter (at + length (slice_of t)) ts)))
          → pieces_with k start sofar (elim o [
            | None ↦ goes_on (slice_of t) (cut_from g (at + length (slice_of t)) ts)
            | Some q ↦ cond (key_below g q) (opens_at q at (slice_of t) (cut_from q (at + length (slice_of t)) ts))
                (goes_on (slice_of t) (cut_from g (at + length (slice_of t)) ts))
          ]) ≡ pieces_between s k start (rising g (with_key o at (keyed_from (chapter_after g.chapter o) (at + length (slice_of t)) ts)))
      by None stay begin = stay
      by (Some q) stay begin = by_test (key_below g q) refl
        where
          by_test : (e : Bool) → key_below g q ≡ e
              → pieces_with k start sofar
              (cond e (opens_at q at (slice_of t) (cut_from q (at + length (slice_of t)) ts))
              (goes_on (slice_of t) (cut_from g (at + length (slice_of t)) ts)))
              ≡ pieces_between s k start
              (cond e (record { key = q; at = at } ∷ rising q (keyed_from (max g.chapter q.chapter) (at + length (slice_of t)) ts))
              (rising g (keyed_from (max g.chapter q.chapter) (at + length (slice_of t)) ts)))
          by_test true is =
              (λ i. record { key = k; start = start; text = first_text i } ∷ begin q i)
              ∙ ap (λ c. pieces_between s k start (record { key = q; at = at } ∷ rising q (keyed_from c (at + length (slice_of t)) ts)))
              (sym (above_in_force g q is))
          by_test false is = stay ∙ ap (λ c. pieces_between s k start (rising g (keyed_from c (at + length (slice_of t)) ts)))
              (sym (below_in_force g q is))

-- the cut by all marks before is the one that is read from the left
pub cut_is_read : CutIsRead
unfolding cut_of pieces_of
cut_is_read s =
    pieces_is s book_head book_head 0 0 [] [] (tokens_of s) (sym (joined-tokens_of s)) refl refl
    ∙ ap (pieces_between s book_head 0) (sym (opening-from s))
