-- Each text has exactly one list of words, and neighbours among them are the words of their own bytes.
use Rattle.std.proofs.Common.{◌≡◌, ℕ, zero, suc, ◌+◌, ◌-◌, ◌<◌, ◌≤◌, Bool, true, false, List, [], ◌∷◌, ◌++◌, length, take, drop, get_or, sym, refl, ap, ◌∙◌, subst, ⊎_elim, inl, inr, arith, cond, ◌==◌, length-drop, length-append, append_assoc, take-append-drop}
use Rattle.std.proofs.lemmas.Bool.Decides.{nat_tests}
use Rattle.std.proofs.lemmas.List.{take_at, get_or_append_left, get_or-take, get_or-drop, get_or-append_right}
use Rattle.std.proofs.lemmas.List.Concat.{flat_map-append}
use Rattle.std.proofs.lemmas.List.Folds.{length-prefix_len}
use Rattle.std.proofs.lemmas.List.Sums.{prefix_len_is, prefix_len_passes, prefix_len_stops}
use Rattle.std.specs.List.{prefix_len, take_while}
use Rattle.usfm_ref.specs.Numbers.{is_blank}
use Rattle.usfm_token.specs.Tokens.{MarkParts, mark, mark_after, mark_bytes, slice_of, IsMark, IsLongest, AreLexemes, first_lexeme, tokens_of}
use Rattle.usfm_token.proofs.TokenLemmas.{tokens_of-cons}
use Rattle.usfm_token.proofs.TokenLaws.{first_front, one_reading, joined-tokens_of}
use Rattle.usfm_token.proofs.Walk.{each-tokens_of}
use Rattle.word_diff.specs.Words.{is_plain, first_word, words_of, joined, IsLongestMark, IsLongestRun, IsWord, AreWords, AreWordsOf, OneList, WordsPart}
use Rattle.word_diff.proofs.WordLemmas.{first_positive, plain_by, words_of-nil, words_of-cons, words_of-mark, words_of-blanks, words_of-plain}

-- The words of a text join to it.

run_front : (p : ℕ → Bool) (s : List ℕ) → s ≡ take_while p s ++ drop (length (take_while p s)) s
run_front p s = sym (ap (λ n. take_while p s ++ drop n s) (length-prefix_len p s) ∙ take-append-drop (prefix_len p s) s)

front_by : (b : ℕ) (bs : List ℕ) (e f : Bool) → (b == 92) ≡ e
    → let w = cond e (mark_bytes (mark_after bs)) (cond f (take_while is_blank (b ∷ bs)) (take_while is_plain (b ∷ bs))) in
    b ∷ bs ≡ w ++ drop (length w) (b ∷ bs)
front_by b bs true f h = first_front b bs true h
front_by b bs false true h = run_front is_blank (b ∷ bs)
front_by b bs false false h = run_front is_plain (b ∷ bs)

-- the first word is a front of the bytes
pub word_front : (b : ℕ) (bs : List ℕ) → b ∷ bs ≡ first_word b bs ++ drop (length (first_word b bs)) (b ∷ bs)
word_front b bs = front_by b bs (b == 92) (is_blank b) refl

joined_in : (n : ℕ) (s : List ℕ) → length s ≤ n → joined (words_of s) ≡ s
joined_in n [] h = ap joined words_of-nil
joined_in zero (b ∷ bs) h = absurd (omega arith)
joined_in (suc n) (b ∷ bs) h =
    let k = length (first_word b bs) in
    let some : 0 < length (first_word b bs) = first_positive b bs in
    ap joined (words_of-cons b bs)
    ∙ ap (λ r. first_word b bs ++ r) (joined_in n (drop k (b ∷ bs)) (omega (arith, length-drop k (b ∷ bs))))
    ∙ sym (word_front b bs)

-- the words of a text join to it
pub joined-words_of : (s : List ℕ) → joined (words_of s) ≡ s
joined-words_of s = joined_in (length s) s (omega arith)

-- Words are read back.

run_read : (p : ℕ → Bool) (w rest : List ℕ) → IsLongestRun p w rest → take_while p (w ++ rest) ≡ w
run_read p w rest is =
    let stops : prefix_len p (w ++ rest) ≡ length w =
    prefix_len_is p (w ++ rest) (length w) 0 (omega (arith, length-append w rest))
    (λ k lt. ap p (get_or_append_left w rest 0 k lt) ∙ is.1 k lt)
    (λ lt. ap p (get_or-append_right w rest (length w) (length w) 0 refl (omega arith) ∙ ap (λ n. get_or rest n 0) (same (length w)))
    ∙ is.2 (omega (arith, length-append w rest)))
    in
    ap (λ k. take k (w ++ rest)) stops ∙ take_at w rest _ refl
  where
    same : (n : ℕ) → n - n ≡ 0
    same n = omega arith

mark_read : (m : MarkParts) (rest : List ℕ) → IsMark m → IsLongest m rest
    → words_of (mark_bytes m ++ rest) ≡ mark_bytes m ∷ words_of rest
mark_read m rest is longest =
    let bs = drop 1 (mark_bytes m ++ rest) in
    let cut : mark m ∷ tokens_of rest ≡ tokens_of (mark_bytes m ++ rest) =
    one_reading (mark m ∷ tokens_of rest) (is, subst (IsLongest m) (sym (joined-tokens_of rest)) longest, each-tokens_of rest)
    ∙ ap (λ r. tokens_of (mark_bytes m ++ r)) (joined-tokens_of rest) in
    let step = tokens_of-cons 92 bs in
    let read : m ≡ mark_after bs = cc in
    words_of-mark (mark_bytes m ++ rest) rest (mark_bytes m) refl (omega arith) refl (ap mark_bytes read)

blank_not_mark : (b : ℕ) → is_blank b ≡ true → (b == 92) ≡ false
blank_not_mark b h = grind (arith, nat_tests)

plain_not_mark : (b : ℕ) → is_plain b ≡ true → (b == 92) ≡ false
plain_not_mark b h = grind (arith, nat_tests)

plain_not_blank : (b : ℕ) → is_plain b ≡ true → is_blank b ≡ false
plain_not_blank b h = grind (arith, nat_tests)

-- a word that stands before others is the first of the text that they make
pub words_of-front : (w rest : List ℕ) → IsWord w rest → words_of (w ++ rest) ≡ w ∷ words_of rest
words_of-front w rest is = ⊎_elim
    (λ (is : IsLongestMark w rest). subst (λ (x : List ℕ). words_of (x ++ rest) ≡ x ∷ words_of rest) (sym is.1)
    (mark_read is.0 rest is.2 is.3))
    (λ is. ⊎_elim
    (λ (is : IsLongestRun is_blank w rest). words_of-blanks (w ++ rest) rest w refl (omega (arith, length-append w rest, is.0))
    (ap is_blank (get_or_append_left w rest 0 0 is.0) ∙ is.1 0 is.0) (sym (run_read is_blank w rest is)))
    (λ (is : IsLongestRun is_plain w rest).
    let first : is_plain (get_or (w ++ rest) 0 0) ≡ true = ap is_plain (get_or_append_left w rest 0 0 is.0) ∙ is.1 0 is.0 in
    words_of-plain (w ++ rest) rest w refl (omega (arith, length-append w rest, is.0))
    (plain_not_mark (get_or (w ++ rest) 0 0) first) (plain_not_blank (get_or (w ++ rest) 0 0) first) (sym (run_read is_plain w rest is)))
    is)
    is

-- words are those of the text that they join to
pub words_reading : (ws : List (List ℕ)) → AreWords ws → ws ≡ words_of (joined ws)
words_reading [] each = sym words_of-nil
words_reading (w ∷ ws) each = ap (λ r. w ∷ r) (words_reading ws each.1) ∙ sym (words_of-front w (joined ws) each.0)

-- What is read are words.

run_is : (p : ℕ → Bool) (b : ℕ) (bs : List ℕ) → p b ≡ true → IsLongestRun p (take_while p (b ∷ bs)) (drop (length (take_while p
    (b ∷ bs))) (b ∷ bs))
run_is p b bs h =
    let n = prefix_len p (b ∷ bs) in
    let len : length (take_while p (b ∷ bs)) ≡ n = length-prefix_len p (b ∷ bs) in (
      rw (len, h) (omega arith),
      (λ k lt. let below : k < n = omega arith in ap p (get_or-take n (b ∷ bs) k 0 below) ∙ prefix_len_passes p (b ∷ bs) k 0 below),
      (λ lt. let within : n < length (b ∷ bs) = omega (arith, length-drop (length (take_while p (b ∷ bs))) (b ∷ bs)) in
          let at : length (take_while p (b ∷ bs)) + 0 ≡ n = omega arith in
          ap p (get_or-drop (length (take_while p (b ∷ bs))) (b ∷ bs) 0 0 ∙ ap (λ k. get_or (b ∷ bs) k 0) at)
          ∙ prefix_len_stops p (b ∷ bs) 0 within),
    )

mark_is : (b : ℕ) (bs : List ℕ) → (b == 92) ≡ true → IsLongestMark (mark_bytes (mark_after bs)) (drop (length (mark_bytes
    (mark_after bs))) (b ∷ bs))
mark_is b bs h =
    let rest = drop (length (mark_bytes (mark_after bs))) (b ∷ bs) in
    let first : first_lexeme b bs ≡ mark (mark_after bs) = rw h refl in
    let cut : tokens_of (b ∷ bs) ≡ mark (mark_after bs) ∷ tokens_of rest =
    tokens_of-cons b bs ∙ ap (λ t. t ∷ tokens_of (drop (length (slice_of t)) (b ∷ bs))) first in
    let each : AreLexemes (mark (mark_after bs) ∷ tokens_of rest) = subst AreLexemes cut (each-tokens_of (b ∷ bs)) in
    (mark_after bs, refl, each.0, subst (IsLongest (mark_after bs)) (joined-tokens_of rest) each.1)

word_by : (b : ℕ) (bs : List ℕ) (e f : Bool) → (b == 92) ≡ e → is_blank b ≡ f
    → let w = cond e (mark_bytes (mark_after bs)) (cond f (take_while is_blank (b ∷ bs)) (take_while is_plain (b ∷ bs))) in
    IsWord w (drop (length w) (b ∷ bs))
word_by b bs true f h k = inl (mark_is b bs h)
word_by b bs false true h k = inr (inl (run_is is_blank b bs k))
word_by b bs false false h k = inr (inr (run_is is_plain b bs (plain_by b h k)))

each_in : (n : ℕ) (s : List ℕ) → length s ≤ n → AreWords (words_of s)
each_in n [] h = subst AreWords (sym words_of-nil) tt
each_in zero (b ∷ bs) h = absurd (omega arith)
each_in (suc n) (b ∷ bs) h =
    let k = length (first_word b bs) in
    let some : 0 < length (first_word b bs) = first_positive b bs in
    let rest = drop k (b ∷ bs) in
    subst AreWords (sym (words_of-cons b bs)) (
      subst (IsWord (first_word b bs)) (sym (joined-words_of rest)) (word_by b bs (b == 92) (is_blank b) refl refl),
      each_in n rest (omega (arith, length-drop k (b ∷ bs))),
    )

-- each word of a text is as long as it can be
pub each-words_of : (s : List ℕ) → AreWords (words_of s)
each-words_of s = each_in (length s) s (omega arith)

-- The laws.

-- each text has exactly one list of words
pub one_list : OneList
one_list ws s = (
  (λ (is : AreWordsOf ws s). words_reading ws is.each ∙ ap words_of is.join),
  (λ is. record { join = ap joined is ∙ joined-words_of s; each = subst AreWords (sym is) (each-words_of s) }),
)

pub joined-append : (us vs : List (List ℕ)) → joined (us ++ vs) ≡ joined us ++ joined vs
joined-append us vs = flat_map-append (λ text. text) us vs

word_part : (w a b : List ℕ) → IsWord w (a ++ b) → IsWord w a
word_part w a b is = ⊎_elim
    (λ (is : IsLongestMark w (a ++ b)). inl (
      is.0,
      is.1,
      is.2,
      (λ other after known same. is.3 other (after ++ b) known
          (sym (append_assoc (mark_bytes is.0) a b) ∙ ap (λ l. l ++ b) same ∙ append_assoc (mark_bytes other) after b)),
    ))
    (λ is. ⊎_elim
    (λ (is : IsLongestRun is_blank w (a ++ b)). inr (inl (run_part is_blank is)))
    (λ (is : IsLongestRun is_plain w (a ++ b)). inr (inr (run_part is_plain is)))
    is)
    is
  where
    run_part : (p : ℕ → Bool) → IsLongestRun p w (a ++ b) → IsLongestRun p w a
    run_part p is = (is.0, is.1, (λ some. ap p (sym (get_or_append_left a b 0 0 some)) ∙ is.2 (omega (arith, length-append a b))))

each_part : (us vs : List (List ℕ)) → AreWords (us ++ vs) → AreWords us
each_part [] vs each = tt
each_part (u ∷ us) vs each =
    (word_part u (joined us) (joined vs) (subst (IsWord u) (joined-append us vs) each.0), each_part us vs each.1)

each_rest : (us vs : List (List ℕ)) → AreWords (us ++ vs) → AreWords vs
each_rest [] vs each = each
each_rest (u ∷ us) vs each = each_rest us vs each.1

-- words that are neighbours in a text are the words of their own bytes
pub words_part : WordsPart
words_part s before ws after is =
    sym (words_reading ws (each_part ws after (each_rest before (ws ++ after) (subst AreWords is (each-words_of s)))))

-- the first word's bytes are at the front
pub front_of : (rest after w : List ℕ) → words_of rest ≡ w ∷ words_of after → rest ≡ w ++ after
front_of rest after w h = sym (joined-words_of rest) ∙ ap joined h ∙ ap (λ r. w ++ r) (joined-words_of after)

word_positive : (w rest : List ℕ) → IsWord w rest → 0 < length w
word_positive w rest is = ⊎_elim
    (λ (is : IsLongestMark w rest). omega (arith, ap length is.1))
    (λ is. ⊎_elim (λ (is : IsLongestRun is_blank w rest). is.0) (λ (is : IsLongestRun is_plain w rest). is.0) is)
    is

-- and what follows it is shorter
pub word_shorter : (rest after w : List ℕ) → words_of rest ≡ w ∷ words_of after → length after < length rest
word_shorter rest after w h =
    let each : AreWords (w ∷ words_of after) = subst AreWords h (each-words_of rest) in
    omega (arith, word_positive w _ each.0, ap length (front_of rest after w h), length-append w after)
