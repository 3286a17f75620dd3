-- What a walk passes over: what comes before a mark, and a mark whose name begins as no mark's with a key.
use Rattle.std.proofs.Common.{◌≡◌, ℕ, ◌+◌, ◌<◌, Bool, true, false, not, cond, ◌==◌, ◌||◌, ◌&&◌, List, [], ◌∷◌, ◌++◌, length, drop, get_or, codes, None, option_map, sym, refl, ap, ◌∙◌, subst, add-zero, arith, eqb-true, length-drop, length-append, append_assoc, take-append-drop, zero, suc}
use Rattle.std.proofs.lemmas.Bool.{or_parts}
use Rattle.std.proofs.lemmas.Bool.Decides.{nat_tests}
use Rattle.std.proofs.lemmas.List.{append-nil, take_all, get_or-drop, get_or-take, length-take-le}
use Rattle.std.proofs.lemmas.List.Sums.{position_or_len_is, fails_before_first, passes_at_first, prefix_len-le-length, take_while-cons}
use Rattle.std.proofs.lemmas.Slice.Eq.{bytes_eq-Decides}
use Rattle.std.specs.List.{position_or_len, before_first, take_while}
use Rattle.std.specs.Str.{bytes_eq}
use Rattle.usfm_ref.specs.Keys.{KeyParts, chapter_head}
use Rattle.usfm_ref.specs.Numbers.{chapter_in, verse_in}
use Rattle.usfm_token.specs.Tokens.{Lexeme, mark, words, is_backslash, is_name_byte, mark_after, mark_bytes, after_plus, slice_of, first_lexeme, tokens_of, BeginsWithNoText, BeginsMark}
use Rattle.usfm_token.proofs.Seam.{tokens_join}
use Rattle.usfm_token.proofs.TokenLaws.{joined-tokens_of}
use Rattle.usfm_token.proofs.TokenLemmas.{tokens_of-nil, tokens_of-cons, tokens_of-text}
use Rattle.verse_cut.specs.Keys.{mark_key, verse_key, text_after}
use Rattle.verse_cut.specs.Reading.{Later, goes_on, cut_from, not_above, is_quiet}
use Rattle.verse_cut.specs.Loops.Walks.{read_of, may_have_key, from_mark}
use Rattle.verse_cut.proofs.Quiet.{key_of-append, quiet_parts, quiet_goes_on}
use Rattle.verse_cut.proofs.Steps.{Goes, read_more}

-- ---- names that begin otherwise

-- the first byte of a name of one byte is at the front
name_front : (t : List ℕ) (b : ℕ) → take_while is_name_byte t ≡ b ∷ [] → get_or t 0 0 ≡ b
name_front [] b h = absurd (cc)
name_front (x ∷ xs) b h = by (is_name_byte x) (sym (take_while-cons is_name_byte x xs) ∙ h)
  where
    by : (e : Bool) → cond e (x ∷ take_while is_name_byte xs) [] ≡ b ∷ [] → x ≡ b
    by true h = cc
    by false h = absurd (cc)

differs : (t : List ℕ) (b : ℕ) → (get_or t 0 0 == b) ≡ false → bytes_eq (take_while is_name_byte t) (b ∷ []) ≡ false
differs t b off = by (bytes_eq (take_while is_name_byte t) (b ∷ [])) refl
  where
    by : (e : Bool) → bytes_eq (take_while is_name_byte t) (b ∷ []) ≡ e → bytes_eq (take_while is_name_byte t) (b ∷ []) ≡ false
    by false is = is
    by true is =
        absurd (let same = name_front t b ((bytes_eq-Decides (take_while is_name_byte t) (b ∷ [])).0 is) in grind (arith, nat_tests))

none_of : (c : ℕ) (after : List ℕ) (e f g : Bool) → f ≡ false → g ≡ false
    → cond e None (cond f (option_map chapter_head (chapter_in after)) (cond g (option_map (verse_key c) (verse_in after)) None)) ≡ None
none_of c after true f g p q = refl
none_of c after false false false p q = refl
none_of c after false true g p q = absurd (cc)
none_of c after false false true p q = absurd (cc)

-- a mark has no key where neither `c` (99) nor `v` (118) follows the backslash
no_key : (c : ℕ) (t after : List ℕ) → (get_or t 0 0 == 99 || get_or t 0 0 == 118) ≡ false → mark_key c (mark_after t) after ≡ None
no_key c t after h = by (get_or t 0 0 == 43) refl
  where
    parts : ((get_or t 0 0 == 99) ≡ false) × ((get_or t 0 0 == 118) ≡ false)
    parts = or_parts (get_or t 0 0 == 99) (get_or t 0 0 == 118) h

    by : (e : Bool) → (get_or t 0 0 == 43) ≡ e → mark_key c (mark_after t) after ≡ None
    by true is = ap (λ e. cond (e || (mark_after t).closing) None
        (cond (bytes_eq (mark_after t).name (codes "c")) (option_map chapter_head (chapter_in after))
        (cond (bytes_eq (mark_after t).name (codes "v")) (option_map (verse_key c) (verse_in after)) None))) is
    by false is =
        let on : after_plus t ≡ t = ap (λ e. cond e (drop 1 t) t) is in
        let name : (mark_after t).name ≡ take_while is_name_byte t = ap (take_while is_name_byte) on in
        none_of c after ((mark_after t).nested || (mark_after t).closing) (bytes_eq (mark_after t).name (codes "c"))
        (bytes_eq (mark_after t).name (codes "v"))
        (ap (λ n. bytes_eq n (codes "c")) name ∙ differs t 99 parts.0)
        (ap (λ n. bytes_eq n (codes "v")) name ∙ differs t 118 parts.1)

-- ---- texts without a mark, but perhaps one at the front

abbrev HasNoMark : List ℕ → Type 0
HasNoMark s = (i : ℕ) → i < length s → is_backslash (get_or s i 0) ≡ false

one_text : (b : ℕ) (bs : List ℕ) → HasNoMark (b ∷ bs) → tokens_of (b ∷ bs) ≡ words (b ∷ bs) ∷ []
one_text b bs none =
    let all : position_or_len is_backslash (b ∷ bs)
    ≡ length (b ∷ bs) = position_or_len_is is_backslash (b ∷ bs) (length (b ∷ bs)) 0 (omega arith) none (λ lt. absurd (omega arith)) in
    tokens_of-text (b ∷ bs) [] (b ∷ bs) (append-nil (b ∷ bs)) (omega arith)
    (λ e. absurd (let no = none 0 (omega arith) in grind (arith, nat_tests)))
    (sym (take_all (position_or_len is_backslash (b ∷ bs)) (b ∷ bs) (omega arith)))
    ∙ ap (λ ts. words (b ∷ bs) ∷ ts) tokens_of-nil

-- a text without marks is quiet
pub quiet_text : (k : KeyParts) (s : List ℕ) → HasNoMark s → is_quiet k (tokens_of s) ≡ true
quiet_text k [] none = ap (is_quiet k) tokens_of-nil
quiet_text k (b ∷ bs) none = ap (is_quiet k) (one_text b bs none)

no_mark_later : (t : List ℕ) (n : ℕ) → HasNoMark t → HasNoMark (drop n t)
no_mark_later t n none i lt = ap is_backslash (get_or-drop n t i 0) ∙ none (n + i) (omega (arith, length-drop n t))

quiet_mark : (k : KeyParts) (t : List ℕ) → (get_or t 0 0 == 99 || get_or t 0 0 == 118) ≡ false → HasNoMark t
    → is_quiet k (tokens_of (92 ∷ t)) ≡ true
quiet_mark k t other none =
    let later = drop (length (drop 1 (mark_bytes (mark_after t)))) t in
    ap (is_quiet k) (tokens_of-cons 92 t)
    ∙ ap (λ o. not_above k o && is_quiet k (tokens_of later)) (no_key k.chapter t (text_after (tokens_of later)) other)
    ∙ quiet_text k later (no_mark_later t (length (drop 1 (mark_bytes (mark_after t)))) none)

-- ---- passing over

is_quiet-append : (k : KeyParts) (ts us : List Lexeme) → BeginsWithNoText us → is_quiet k ts ≡ true → is_quiet k (ts ++ us) ≡ is_quiet k us
is_quiet-append k [] us h q = refl
is_quiet-append k (t ∷ ts) us h q =
    let parts = quiet_parts k t ts q in
    ap (λ e. e && is_quiet k (ts ++ us)) (ap (not_above k) (key_of-append k.chapter t ts us h) ∙ parts.0)
    ∙ is_quiet-append k ts us h parts.1

-- where a mark begins, no text does
begins_no_text : (s : List ℕ) → BeginsMark s → BeginsWithNoText (tokens_of s)
begins_no_text [] h = subst BeginsWithNoText (sym tokens_of-nil) tt
begins_no_text (b ∷ bs) h = subst BeginsWithNoText (sym (tokens_of-cons b bs)) (by (b == 92) (grind (arith, nat_tests, h (omega arith))))
  where
    rest : List Lexeme
    rest = tokens_of (drop (length (slice_of (first_lexeme b bs))) (b ∷ bs))

    by : (e : Bool) → e ≡ true → BeginsWithNoText (cond e (mark (mark_after bs)) (words (before_first is_backslash (b ∷ bs))) ∷ rest)
    by true is = tt
    by false is = absurd (cc)

-- a part without a key goes to the open piece
goes_over : (key : KeyParts) (text here part after : List ℕ) → Goes key text here → here ≡ part ++ after → BeginsMark after
    → is_quiet key (tokens_of part) ≡ true → Goes key text after
goes_over key text here part after on here_is begins quiet =
    let sofar = read_of text here in
    let tokens : tokens_of here ≡ tokens_of part ++ tokens_of after = ap tokens_of here_is ∙ tokens_join part after begins in
    let no_text = begins_no_text after begins in
    let more : text ≡ (read_of text here ++ part) ++ after = sym on.join ∙ ap (λ r. read_of text here ++ r) here_is
    ∙ sym (append_assoc (read_of text here) part after) in
    let sofar_more : read_of text after ≡ read_of text here ++ part = read_more text (read_of text here ++ part) after more in
    record {
      join = ap (λ r. r ++ after) sofar_more ∙ sym more;
      quiet = on.quiet ∙ ap (is_quiet key) tokens ∙ is_quiet-append key (tokens_of part) (tokens_of after) no_text quiet;
      cuts = λ at.
          let place : at + length (read_of text here) + length part
          ≡ at + length (read_of text here ++ part) = omega (arith, length-append (read_of text here) part) in
          let far : ℕ → Later = λ a. cut_from key a (tokens_of after) in
          on.cuts at
          ∙ ap (λ ts. goes_on sofar (cut_from key (at + length sofar) ts)) tokens
          ∙ ap (goes_on sofar) (quiet_goes_on key (tokens_of part) (tokens_of after) (at + length sofar) no_text quiet)
          ∙ ap (λ p. goes_on sofar (goes_on p (far (at + length sofar + length p)))) (joined-tokens_of part)
          ∙ (λ i. (sym (append_assoc sofar part (far (place i)).0) i, (far (place i)).1))
          ∙ ap (λ r. goes_on r (far (at + length r))) (sym sofar_more);
    }

-- what comes before the first mark, and that mark
first_mark : (s : List ℕ) → s ≡ before_first is_backslash s ++ from_mark s
first_mark s = sym (take-append-drop (position_or_len is_backslash s) s)

before_has_no_mark : (s : List ℕ) → HasNoMark (before_first is_backslash s)
before_has_no_mark s i lt =
    let within : i < position_or_len is_backslash s = omega
    (arith, length-take-le (position_or_len is_backslash s) s (prefix_len-le-length _ s)) in
    ap is_backslash (get_or-take (position_or_len is_backslash s) s i 0 within) ∙ fails_before_first is_backslash s i 0 within

begins_from_mark : (s : List ℕ) → BeginsMark (from_mark s)
begins_from_mark s some =
    let within : position_or_len is_backslash s < length s = omega (arith, length-drop (position_or_len is_backslash s) s) in
    get_or-drop (position_or_len is_backslash s) s 0 0 ∙ ap (λ i. get_or s i 0) (add-zero (position_or_len is_backslash s))
    ∙ eqb-true _ _ (passes_at_first is_backslash s 0 within)

skips : (key : KeyParts) (text : List ℕ) (b : ℕ) (bs : List ℕ) → Goes key text (b ∷ bs) → may_have_key (b ∷ bs) ≡ false
    → Goes key text (from_mark bs)
skips key text b bs on low =
    goes_over key text (b ∷ bs) (b ∷ before_first is_backslash bs) (from_mark bs) on (ap (λ r. b ∷ r) (first_mark bs))
    (begins_from_mark bs) (by (b == 92) refl)
  where
    text_only : (b == 92) ≡ false → HasNoMark (b ∷ before_first is_backslash bs)
    text_only is zero lt = is
    text_only is (suc i) lt = before_has_no_mark bs i (omega arith)

    other : (xs : List ℕ) → may_have_key (92 ∷ xs) ≡ false
        → (get_or (before_first is_backslash xs) 0 0 == 99 || get_or (before_first is_backslash xs) 0 0 == 118) ≡ false
    other [] h = refl
    other (x ∷ xs) h = by_first (x == 92) refl
      where
        front_is : {e : Bool} → (x == 92) ≡ e
            → (get_or (before_first is_backslash (x ∷ xs)) 0 0 == 99 || get_or (before_first is_backslash (x ∷ xs)) 0 0 == 118)
            ≡ (get_or (cond (not e) (x ∷ before_first is_backslash xs) []) 0 0 == 99
            || get_or (cond (not e) (x ∷ before_first is_backslash xs) []) 0 0 == 118)
        front_is {e} is = ap (λ r. get_or r 0 0 == 99 || get_or r 0 0 == 118)
            (take_while-cons (λ y. not (is_backslash y)) x xs ∙ ap (λ e. cond (not e) (x ∷ before_first is_backslash xs) []) is)

        by_first : (e : Bool) → (x == 92) ≡ e
            → (get_or (before_first is_backslash (x ∷ xs)) 0 0 == 99 || get_or (before_first is_backslash (x ∷ xs)) 0 0 == 118) ≡ false
        by_first true is = front_is is
        by_first false is = front_is is ∙ h

    by : (e : Bool) → (b == 92) ≡ e → is_quiet key (tokens_of (b ∷ before_first is_backslash bs)) ≡ true
    by false is = quiet_text key (b ∷ before_first is_backslash bs) (text_only is)
    by true is =
        let same : b ≡ 92 = eqb-true _ _ is in
        ap (λ x. is_quiet key (tokens_of (x ∷ before_first is_backslash bs))) same
        ∙ quiet_mark key (before_first is_backslash bs) (other bs (ap (λ x. may_have_key (x ∷ bs)) (sym same) ∙ low))
        (before_has_no_mark bs)

-- where no mark at the front may have a key, the walk goes on at the next mark
pub goes_skip : (key : KeyParts) (text here : List ℕ) → Goes key text here → 0 < length here → may_have_key here ≡ false
    → Goes key text (from_mark (drop 1 here))
goes_skip key text [] on some low = absurd (omega arith)
goes_skip key text (b ∷ bs) on some low = skips key text b bs on low

-- and that is further on
pub skip_shorter : (here : List ℕ) → 0 < length here → length (from_mark (drop 1 here)) < length here
skip_shorter here some =
    omega (arith, length-drop 1 here, length-drop (position_or_len is_backslash (drop 1 here)) (drop 1 here))
