-- How many bytes a token takes, and where a text may be cut.
use Rattle.std.proofs.Common.{◌≡◌, ◌≢◌, ℕ, zero, suc, ◌+◌, ◌-◌, ◌<◌, ◌≤◌, Bool, true, false, List, [], ◌∷◌, ◌++◌, length, take, drop, get_or, Option, None, Some, sym, refl, ap, ◌∙◌, subst, ⊎_elim, arith, unwrap_or, IsUtf8, eqb-true, cond, ◌==◌, if◌then◌else◌, length-drop, length-append, append_assoc, take-append-drop, not}
use Rattle.std.proofs.lemmas.Bool.Decides.{nat_tests}
use Rattle.std.proofs.lemmas.List.Sums.{position_or_len_is, passes_at_first, prefix_len-le-length, prefix_len_passes}
use Rattle.std.proofs.lemmas.Str.{IsCharBoundary-start, IsCharBoundary-end, IsCharBoundary-before_ascii, IsCharBoundary-after_ascii, IsCharBoundary-at_seam}
use Rattle.std.specs.List.{prefix_len, position_or_len, before_first}
use Rattle.std.specs.Str.{IsCharBoundary}
use Rattle.std.proofs.str.Laws.{order}
use Rattle.memchr.specs.Find.{IsFirstByte, is_byte}
use Rattle.std.proofs.lemmas.List.{drop_at, take_at, get_or-take}
use Rattle.std.proofs.lemmas.List.Folds.{length-prefix_len}
use Rattle.usfm_token.specs.Tokens.{MarkParts, Lexeme, mark, words, is_name_byte, is_backslash, optional_byte, spelling, after_plus, slice_of, mark_bytes, mark_after, first_lexeme, tokens_in, tokens_of, AreNameBytes}

-- what cannot be true is false
pub not_true : (b : Bool) → (b ≡ true → ⊥) → b ≡ false
not_true true h = absurd (h refl)
not_true false h = refl

-- what `memchr` gives, or the length, is the place of the first backslash
pub first_backslash : (bs : List ℕ) (r : Option ℕ) → IsFirstByte (is_byte 92) bs r
    → unwrap_or r (length bs) ≡ position_or_len is_backslash bs
first_backslash bs None h = sym
    (position_or_len_is is_backslash bs (length bs) 0 (omega arith) (λ k lt. not_true _ (h k (omega arith) lt))
    (λ lt. absurd (omega arith)))
first_backslash bs (Some k) h =
    sym (position_or_len_is is_backslash bs k 0 (omega arith) (λ j lt. not_true _ (h.0.before j (omega arith) lt)) (λ lt. h.1))

-- a text may be cut before its first backslash
pub boundary_before_backslash : (bs : List ℕ) → IsUtf8 bs → IsCharBoundary bs (position_or_len is_backslash bs)
boundary_before_backslash bs utf8 =
    ⊎_elim
    (λ within. IsCharBoundary-before_ascii bs _ within
    (let is : get_or bs (position_or_len is_backslash bs) 0
    ≡ 92 = eqb-true _ _ (passes_at_first is_backslash bs 0 within) in omega arith))
    (λ past. let low : position_or_len is_backslash bs ≤ length bs = prefix_len-le-length _ bs in let end : length bs
    ≡ position_or_len is_backslash bs = omega arith in subst (IsCharBoundary bs) end (IsCharBoundary-end bs))
    (order (position_or_len is_backslash bs) (length bs))

-- a text may be cut after a run of name bytes
pub boundary_after_name : (bs : List ℕ) → IsUtf8 bs → IsCharBoundary bs (prefix_len is_name_byte bs)
boundary_after_name bs utf8 =
    let low : prefix_len is_name_byte bs ≤ length bs = prefix_len-le-length _ bs in
    ⊎_elim
    (λ some.
    let last : is_name_byte (get_or bs (prefix_len is_name_byte bs - 1) 0) ≡ true = prefix_len_passes is_name_byte bs _ 0 (omega arith) in
    let next : prefix_len is_name_byte bs - 1 + 1 ≡ prefix_len is_name_byte bs = omega arith in
    subst (IsCharBoundary bs) next (IsCharBoundary-after_ascii bs _ utf8 (omega arith) (name_byte_ascii _ last)))
    (λ none. let zero_is : 0 ≡ prefix_len is_name_byte bs = omega arith in subst (IsCharBoundary bs) zero_is (IsCharBoundary-start bs utf8))
    (order 0 (prefix_len is_name_byte bs))
  where
    name_byte_ascii : (b : ℕ) → is_name_byte b ≡ true → b < 128
    name_byte_ascii b h = grind (arith, nat_tests)

-- Tokens from the left.

-- a text between marks has a byte
pub text_positive : (b : ℕ) (bs : List ℕ) → (b == 92) ≡ false → 0 < length (before_first is_backslash (b ∷ bs))
text_positive b bs h = rw (length-prefix_len (λ x. not (is_backslash x)) (b ∷ bs), h) (omega arith)

-- no token is empty
pub first_positive : (b : ℕ) (bs : List ℕ) (e : Bool) → (b == 92) ≡ e
    → 0 < length (slice_of (if e then mark (mark_after bs) else words (before_first is_backslash (b ∷ bs))))
first_positive b bs true h = omega arith
first_positive b bs false h = text_positive b bs h

tokens_in-nil : (n : ℕ) → tokens_in n [] ≡ []
unfolding tokens_in
tokens_in-nil zero = refl
tokens_in-nil (suc n) = refl

-- more turns than bytes change nothing
tokens_in-enough : (n m : ℕ) (bs : List ℕ) → length bs ≤ n → length bs ≤ m → tokens_in n bs ≡ tokens_in m bs
unfolding tokens_in
tokens_in-enough n m [] p q = tokens_in-nil n ∙ sym (tokens_in-nil m)
tokens_in-enough zero m (b ∷ bs) p q = absurd (omega arith)
tokens_in-enough (suc n) zero (b ∷ bs) p q = absurd (omega arith)
tokens_in-enough (suc n) (suc m) (b ∷ bs) p q =
    let k = length (slice_of (first_lexeme b bs)) in
    let some : 0 < length (slice_of (first_lexeme b bs)) = first_positive b bs (b == 92) refl in
    ap (λ ts. first_lexeme b bs ∷ ts)
    (tokens_in-enough n m (drop k (b ∷ bs)) (omega (arith, length-drop k (b ∷ bs))) (omega (arith, length-drop k (b ∷ bs))))

-- no bytes have no tokens
pub tokens_of-nil : tokens_of [] ≡ []
unfolding tokens_of
tokens_of-nil = tokens_in-nil 0

-- the tokens of bytes are the first, and those of the bytes after it
pub tokens_of-cons : (b : ℕ) (bs : List ℕ)
    → tokens_of (b ∷ bs) ≡ first_lexeme b bs ∷ tokens_of (drop (length (slice_of (first_lexeme b bs))) (b ∷ bs))
unfolding tokens_of tokens_in
tokens_of-cons b bs =
    let k = length (slice_of (first_lexeme b bs)) in
    let some : 0 < length (slice_of (first_lexeme b bs)) = first_positive b bs (b == 92) refl in
    ap (λ ts. first_lexeme b bs ∷ ts) (tokens_in-enough _ _ (drop k (b ∷ bs)) (omega (arith, length-drop k (b ∷ bs))) (omega arith))

-- the first token is t where t stands at the front and is what the first byte begins
pub tokens_of-step : (s rest : List ℕ) (t : Lexeme) → slice_of t ++ rest ≡ s → 0 < length s → first_lexeme (get_or s 0 0) (drop 1 s) ≡ t
    → tokens_of s ≡ t ∷ tokens_of rest
tokens_of-step [] rest t join some first = absurd (omega arith)
tokens_of-step (b ∷ bs) rest t join some first =
    tokens_of-cons b bs
    ∙ ap (λ f. f ∷ tokens_of (drop (length (slice_of f)) (b ∷ bs))) first
    ∙ ap (λ r. t ∷ tokens_of r) (ap (drop (length (slice_of t))) (sym join) ∙ drop_at (slice_of t) rest _ refl)

-- Splitting a mark off.

-- a run of name bytes at the front has name bytes alone
pub front_named : (bs : List ℕ) → AreNameBytes (take (prefix_len is_name_byte bs) bs)
front_named bs k lt =
    let below : k < prefix_len is_name_byte bs = omega (arith, length-prefix_len is_name_byte bs) in
    ap is_name_byte (get_or-take (prefix_len is_name_byte bs) bs k 0 below) ∙ prefix_len_passes is_name_byte bs k 0 below

-- a text may be cut after an ASCII byte at its front
pub boundary_past_ascii : (bs : List ℕ) → IsUtf8 bs → 0 < length bs → get_or bs 0 0 < 128 → IsCharBoundary bs 1
boundary_past_ascii bs utf8 some ascii = IsCharBoundary-after_ascii bs 0 utf8 some ascii

-- bytes are there where a first one is read
pub some_from_read : (bs : List ℕ) (b : ℕ) → 0 < b → get_or bs 0 0 ≡ b → 0 < length bs
some_from_read [] b some read = absurd (omega arith)
some_from_read (x ∷ bs) b some read = omega arith

-- bytes with a first one are that one and the others
pub cons_from_read : (bs : List ℕ) (b : ℕ) → 0 < b → get_or bs 0 0 ≡ b → bs ≡ b ∷ drop 1 bs
cons_from_read [] b some read = absurd (omega arith)
cons_from_read (x ∷ bs) b some read = ap (λ y. y ∷ bs) read

-- what the steps of a reading say of the mark at the front of text
pub record SplitsMark (text name_on name after_name after : List ℕ) (nested closing : Bool) : Type 0 where
  pub backslash : get_or text 0 0 ≡ 92
  pub nested_is : nested ≡ (get_or (drop 1 text) 0 0 == 43)
  pub plus : drop 1 text ≡ optional_byte nested 43 ++ name_on
  pub name_is : name ≡ take (prefix_len is_name_byte name_on) name_on
  pub after_name_is : after_name ≡ drop (prefix_len is_name_byte name_on) name_on
  pub closing_is : closing ≡ (get_or after_name 0 0 == 42)
  pub star : after_name ≡ optional_byte closing 42 ++ after

-- after a plus, if there is one, comes the mark's name
pub after_plus_is : (n : Bool) (after name_on : List ℕ) → n ≡ (get_or after 0 0 == 43) → after ≡ optional_byte n 43 ++ name_on
    → after_plus after ≡ name_on
after_plus_is true after name_on h e = rw (← h) (ap (drop 1) e)
after_plus_is false after name_on h e = rw (← h) e

module _ {text name_on name after_name after : List ℕ} {nested closing : Bool}
    (splits : SplitsMark text name_on name after_name after nested closing) where
  -- the text is the mark's spelling and what follows
  pub split_mark-join : text ≡ spelling nested name closing ++ after
  split_mark-join =
      let name_on_is : name_on ≡ name ++ (optional_byte closing 42 ++ after) =
      sym (take-append-drop (prefix_len is_name_byte name_on) name_on)
      ∙ (λ i. sym splits.name_is i ++ (sym splits.after_name_is ∙ splits.star) i)
      in
      cons_from_read text 92 (omega arith) splits.backslash
      ∙ ap (λ l. 92 ∷ l) (splits.plus ∙ ap (λ l. optional_byte nested 43 ++ l) name_on_is
      ∙ ap (λ l. optional_byte nested 43 ++ l) (sym (append_assoc name (optional_byte closing 42) after))
      ∙ sym (append_assoc (optional_byte nested 43) (name ++ optional_byte closing 42) after))

  pub split_mark-slice : take (length text - length after) text ≡ spelling nested name closing
  split_mark-slice =
      let len : length text - length after
      ≡ length (spelling nested name closing) = omega
      (arith, ap length split_mark-join ∙ length-append (spelling nested name closing) after) in
      ap (take (length text - length after)) split_mark-join ∙ take_at (spelling nested name closing) after _ (sym len)

  pub split_mark-boundary : IsUtf8 after → IsCharBoundary text (length text - length after)
  split_mark-boundary utf8 =
      let len : length (spelling nested name closing)
      ≡ length text - length after = omega (arith, ap length split_mark-join ∙ length-append (spelling nested name closing) after) in
      subst (IsCharBoundary text) len (IsCharBoundary-at_seam text (spelling nested name closing) after split_mark-join utf8)

  -- the name has name bytes alone
  pub split_mark-named : AreNameBytes name
  split_mark-named = subst AreNameBytes (sym splits.name_is) (front_named name_on)

  -- and its parts are those that a reading from the left gives
  pub split_mark-parts : mark_after (drop 1 text) ≡ record { nested = nested; name = name; closing = closing }
  split_mark-parts =
      let on : after_plus (drop 1 text) ≡ name_on = after_plus_is nested (drop 1 text) name_on splits.nested_is splits.plus in
      let name_here : take (prefix_len is_name_byte (after_plus (drop 1 text))) (after_plus (drop 1 text))
      ≡ name = ap (λ l. take (prefix_len is_name_byte l) l) on ∙ sym splits.name_is in
      let name_len : length name ≡ prefix_len is_name_byte name_on = ap length splits.name_is ∙ length-prefix_len is_name_byte name_on in
      let after_here : drop (length (take (prefix_len is_name_byte (after_plus (drop 1 text))) (after_plus (drop 1 text))))
      (after_plus (drop 1 text)) ≡ after_name =
      (λ i. drop (length (name_here i)) (on i)) ∙ ap (λ n. drop n name_on) name_len ∙ sym splits.after_name_is
      in
      λ i. record {
        nested = sym splits.nested_is i;
        name = name_here i;
        closing = (ap (λ l. get_or l 0 0 == 42) after_here ∙ sym splits.closing_is) i;
      }

-- bytes that begin with a backslash begin with a mark
pub tokens_of-mark : (s rest : List ℕ) (m : MarkParts) → mark_bytes m ++ rest ≡ s → get_or s 0 0 ≡ 92 → m ≡ mark_after (drop 1 s)
    → tokens_of s ≡ mark m ∷ tokens_of rest
tokens_of-mark s rest m join read is =
    tokens_of-step s rest (mark m) join (some_from_read s 92 (omega arith) read)
    (rw read (ap mark (sym is)))

-- bytes that do not begin with a backslash begin with a text, up to the next backslash
pub tokens_of-text : (s rest t : List ℕ) → t ++ rest ≡ s → 0 < length s → get_or s 0 0 ≢ 92 → t ≡ before_first is_backslash s
    → tokens_of s ≡ words t ∷ tokens_of rest
tokens_of-text [] rest t join some read is = absurd (omega arith)
tokens_of-text (b ∷ bs) rest t join some read is =
    tokens_of-step (b ∷ bs) rest (words t) join some
    (let no : (b == 92) ≡ false = not_true (b == 92) (λ e. read (eqb-true _ _ e)) in ap
    (λ e. cond e (mark (mark_after bs)) (words (before_first is_backslash (b ∷ bs)))) no ∙ ap words (sym is))

-- an empty text has no tokens
pub tokens_of_empty : (s : List ℕ) → length s ≡ 0 → tokens_of s ≡ []
tokens_of_empty [] h = tokens_of-nil
tokens_of_empty (b ∷ bs) h = absurd (omega arith)
