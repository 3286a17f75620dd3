-- The tokens of joined texts.
use Rattle.std.proofs.Common.{◌≡◌, ℕ, zero, suc, ◌<◌, ◌≤◌, Bool, true, false, List, [], ◌∷◌, ◌++◌, length, take, drop, get_or, sym, refl, ap, ◌∙◌, ⊎_elim, arith, cond, ◌==◌, length-drop, length-append, append_assoc, not}
use Rattle.std.specs.List.{prefix_len, position_or_len, before_first}
use Rattle.std.proofs.str.Laws.{order}
use Rattle.std.proofs.lemmas.List.{get_or_append_left, get_or_at, take-append-le, drop-append-le}
use Rattle.std.proofs.lemmas.List.Folds.{length-prefix_len}
use Rattle.std.proofs.lemmas.List.Sums.{prefix_len_is, prefix_len_passes, prefix_len_stops, prefix_len-le-length}
use Rattle.usfm_token.specs.Tokens.{Lexeme, mark, words, is_name_byte, is_backslash, mark_bytes, slice_of, joined, BeginsWithNoText, AreLexemes, after_plus, mark_after, first_lexeme, tokens_of, BeginsMark, TokensJoin, TokensPart, TokensRest}
use Rattle.usfm_token.proofs.TokenLemmas.{tokens_of-nil, tokens_of-cons, first_positive}
use Rattle.usfm_token.proofs.TokenLaws.{first_front, one_cut, one_reading}

-- a run of bytes ends where a backslash follows that cannot go on with it
run_join : (p : ℕ → Bool) → p 92 ≡ false → (xs b : List ℕ) → BeginsMark b → prefix_len p (xs ++ b) ≡ prefix_len p xs
run_join p apart xs b h =
    let low = prefix_len-le-length p xs in
    prefix_len_is p (xs ++ b) (prefix_len p xs) 0 (omega (arith, length-append xs b))
    (λ k lt. ap p (get_or_append_left xs b 0 k (omega arith)) ∙ prefix_len_passes p xs k 0 lt)
    (λ lt.
    ⊎_elim
    (λ within. ap p (get_or_append_left xs b 0 (prefix_len p xs) within) ∙ prefix_len_stops p xs 0 within)
    (λ past.
    let end : length xs ≡ prefix_len p xs = omega arith in
    ap p (at_end b h (prefix_len p xs) end (omega (arith, length-append xs b))) ∙ apart)
    (order (prefix_len p xs) (length xs)))
  where
    at_end : (b : List ℕ) → BeginsMark b → (n : ℕ) → length xs ≡ n → 0 < length b → get_or (xs ++ b) n 0 ≡ 92
    at_end [] h n e some = absurd (omega arith)
    at_end (y ∷ b) h n e some = get_or_at xs y b 0 n e ∙ h some

head_join : (c : ℕ) → (92 == c) ≡ false → (0 == c) ≡ false → (xs b : List ℕ) → BeginsMark b
    → (get_or (xs ++ b) 0 0 == c) ≡ (get_or xs 0 0 == c)
head_join c apart none (x ∷ xs) b h = refl
head_join c apart none [] [] h = refl
head_join c apart none [] (y ∷ b) h = ap (λ z. z == c) (h (omega arith)) ∙ apart ∙ sym none

plus_join : (bs b : List ℕ) → BeginsMark b → after_plus (bs ++ b) ≡ after_plus bs ++ b
plus_join [] b h = ap (λ e. cond e (drop 1 b) b) (head_join 43 refl refl [] b h)
plus_join (x ∷ bs) b h = by (x == 43)
  where
    by : (e : Bool) → cond e (bs ++ b) (x ∷ (bs ++ b)) ≡ cond e bs (x ∷ bs) ++ b
    by true = refl
    by false = refl

mark_join : (bs b : List ℕ) → BeginsMark b → mark_after (bs ++ b) ≡ mark_after bs
mark_join bs b h =
    let on = after_plus bs in
    let n = prefix_len is_name_byte on in
    let low : prefix_len is_name_byte on ≤ length on = prefix_len-le-length is_name_byte on in
    let on_is = plus_join bs b h in
    let run : prefix_len is_name_byte (after_plus bs ++ b)
    ≡ prefix_len is_name_byte (after_plus bs) = run_join is_name_byte refl on b h in
    let name_is : take (prefix_len is_name_byte (after_plus (bs ++ b))) (after_plus (bs ++ b)) ≡ take n on =
    ap (λ l. take (prefix_len is_name_byte l) l) on_is ∙ ap (λ k. take k (on ++ b)) run ∙ take-append-le n on b low in
    let len : length (take n on) ≡ n = length-prefix_len is_name_byte on in
    let rest_is : drop (length (take (prefix_len is_name_byte (after_plus (bs ++ b))) (after_plus (bs ++ b)))) (after_plus (bs ++ b))
    ≡ drop (length (take n on)) on ++ b =
    (λ i. drop (length (name_is i)) (on_is i)) ∙ drop-append-le (length (take n on)) on b (omega arith) in
    λ i. record {
      nested = head_join 43 refl refl bs b h i;
      name = name_is i;
      closing = (ap (λ l. get_or l 0 0 == 42) rest_is ∙ head_join 42 refl refl (drop (length (take n on)) on) b h) i;
    }

words_join : (xs b : List ℕ) → BeginsMark b → before_first is_backslash (xs ++ b) ≡ before_first is_backslash xs
words_join xs b h =
    ap (λ k. take k (xs ++ b)) (run_join (λ x. not (is_backslash x)) refl xs b h)
    ∙ take-append-le (position_or_len is_backslash xs) xs b (prefix_len-le-length (λ x. not (is_backslash x)) xs)

first_join : (x : ℕ) (bs b : List ℕ) → BeginsMark b → first_lexeme x (bs ++ b) ≡ first_lexeme x bs
first_join x bs b h = λ i. cond (x == 92) (mark (mark_join bs b h i)) (words (words_join (x ∷ bs) b h i))

join_in : (n : ℕ) (a b : List ℕ) → length a ≤ n → BeginsMark b → tokens_of (a ++ b) ≡ tokens_of a ++ tokens_of b
join_in n [] b le h = ap (λ ts. ts ++ tokens_of b) (sym tokens_of-nil)
join_in zero (x ∷ bs) b le h = absurd (omega arith)
join_in (suc n) (x ∷ bs) b le h =
    let f = first_lexeme x bs in
    let k = length (slice_of (first_lexeme x bs)) in
    let some : 0 < length (slice_of (first_lexeme x bs)) = first_positive x bs (x == 92) refl in
    let fits : length (slice_of (first_lexeme x bs)) ≤ length (x ∷ bs) = omega
    (arith, ap length (first_front x bs (x == 92) refl), length-append (slice_of (first_lexeme x bs)) (drop k (x ∷ bs))) in
    tokens_of-cons x (bs ++ b)
    ∙ ap (λ g. g ∷ tokens_of (drop (length (slice_of g)) (x ∷ (bs ++ b)))) (first_join x bs b h)
    ∙ ap (λ r. f ∷ tokens_of r) (drop-append-le k (x ∷ bs) b fits)
    ∙ ap (λ ts. f ∷ ts) (join_in n (drop k (x ∷ bs)) b (omega (arith, length-drop k (x ∷ bs))) h)
    ∙ ap (λ ts. ts ++ tokens_of b) (sym (tokens_of-cons x bs))

-- the tokens of two texts, the second of which begins with a backslash
pub tokens_join : TokensJoin
tokens_join a b h = join_in (length a) a b (omega arith) h

-- tokens one after the other join to their texts one after the other
pub joined-append : (ts us : List Lexeme) → joined (ts ++ us) ≡ joined ts ++ joined us
joined-append [] us = refl
joined-append (t ∷ ts) us = ap (λ r. slice_of t ++ r) (joined-append ts us) ∙ sym (append_assoc (slice_of t) (joined ts) (joined us))

no_text_part : (ts us : List Lexeme) → BeginsWithNoText (ts ++ us) → BeginsWithNoText ts
no_text_part [] us h = tt
no_text_part (mark m ∷ ts) us h = tt
no_text_part (words t ∷ ts) us h = absurd h

-- the first of some tokens are tokens
pub each_part : (ts us : List Lexeme) → AreLexemes (ts ++ us) → AreLexemes ts
each_part [] us h = tt
each_part (mark m ∷ ts) us h = (
  h.0,
  λ other after is same.
      h.1 other (after ++ joined us) is
      (ap (λ r. mark_bytes m ++ r) (joined-append ts us) ∙ sym (append_assoc (mark_bytes m) (joined ts) (joined us))
      ∙ ap (λ r. r ++ joined us) same ∙ append_assoc (mark_bytes other) after (joined us)),
  each_part ts us h.2,
)
each_part (words t ∷ ts) us h = (h.0, no_text_part ts us h.1, each_part ts us h.2)

-- the first tokens of a text are the tokens of their own bytes
pub tokens_part : TokensPart
tokens_part s ts us h = sym (one_reading ts (each_part ts us (((one_cut (ts ++ us) s).1 (sym h)).each)))

-- and so are the others
pub each_rest : (ts us : List Lexeme) → AreLexemes (ts ++ us) → AreLexemes us
each_rest [] us h = h
each_rest (mark m ∷ ts) us h = each_rest ts us h.2
each_rest (words t ∷ ts) us h = each_rest ts us h.2

-- the last tokens of a text are the tokens of their own bytes
pub tokens_rest : TokensRest
tokens_rest s ts us h = sym (one_reading us (each_rest ts us (((one_cut (ts ++ us) s).1 (sym h)).each)))
