-- Words from the left, and where a text may be cut.
use Rattle.std.proofs.Common.{◌≡◌, ℕ, zero, suc, ◌+◌, ◌-◌, ◌<◌, ◌≤◌, Bool, true, false, List, [], ◌∷◌, ◌++◌, length, drop, get_or, sym, refl, ap, ◌∙◌, subst, ⊎_elim, arith, IsUtf8, cond, ◌==◌, length-drop}
use Rattle.std.proofs.lemmas.Bool.Decides.{nat_tests}
use Rattle.std.proofs.lemmas.List.{drop_at}
use Rattle.std.proofs.lemmas.List.Folds.{length-prefix_len}
use Rattle.std.proofs.lemmas.List.Sums.{prefix_len-le-length, prefix_len_passes, prefix_len_stops}
use Rattle.std.proofs.lemmas.Str.{IsCharBoundary-start, IsCharBoundary-end, IsCharBoundary-before_ascii, IsCharBoundary-after_ascii}
use Rattle.std.specs.List.{prefix_len, take_while}
use Rattle.std.specs.Str.{IsCharBoundary}
use Rattle.std.proofs.str.Laws.{order}
use Rattle.usfm_ref.specs.Numbers.{is_blank}
use Rattle.usfm_token.specs.Tokens.{mark_after, mark_bytes}
use Rattle.word_diff.specs.Words.{is_plain, first_word, words_in, words_of}

blank_ascii : (b : ℕ) → is_blank b ≡ true → b < 128
blank_ascii b h = grind (arith, nat_tests)

not_plain_ascii : (b : ℕ) → is_plain b ≡ false → b < 128
not_plain_ascii b h = grind (arith, nat_tests)

-- a text may be cut after the blanks at its front
pub boundary_after_blanks : (bs : List ℕ) → IsUtf8 bs → IsCharBoundary bs (prefix_len is_blank bs)
boundary_after_blanks bs utf8 =
    let low : prefix_len is_blank bs ≤ length bs = prefix_len-le-length _ bs in
    ⊎_elim
    (λ some.
    let last : is_blank (get_or bs (prefix_len is_blank bs - 1) 0) ≡ true = prefix_len_passes is_blank bs _ 0 (omega arith) in
    let next : prefix_len is_blank bs - 1 + 1 ≡ prefix_len is_blank bs = omega arith in
    subst (IsCharBoundary bs) next (IsCharBoundary-after_ascii bs _ utf8 (omega arith) (blank_ascii _ last)))
    (λ none. let zero_is : 0 ≡ prefix_len is_blank bs = omega arith in subst (IsCharBoundary bs) zero_is (IsCharBoundary-start bs utf8))
    (order 0 (prefix_len is_blank bs))

-- and before its first blank or backslash
pub boundary_after_plain : (bs : List ℕ) → IsCharBoundary bs (prefix_len is_plain bs)
boundary_after_plain bs =
    ⊎_elim
    (λ within. IsCharBoundary-before_ascii bs _ within (not_plain_ascii _ (prefix_len_stops is_plain bs 0 within)))
    (λ past. let low : prefix_len is_plain bs ≤ length bs = prefix_len-le-length _ bs in let end : length bs
    ≡ prefix_len is_plain bs = omega arith in subst (IsCharBoundary bs) end (IsCharBoundary-end bs))
    (order (prefix_len is_plain bs) (length bs))

-- Words from the left.

run_positive : (p : ℕ → Bool) (b : ℕ) (bs : List ℕ) → p b ≡ true → 0 < length (take_while p (b ∷ bs))
run_positive p b bs h = rw (length-prefix_len p (b ∷ bs), h) (omega arith)

-- what is no backslash and no blank may stand in a run of such bytes
pub plain_by : (b : ℕ) → (b == 92) ≡ false → is_blank b ≡ false → is_plain b ≡ true
plain_by b h k = grind (arith, nat_tests)

positive_by : (b : ℕ) (bs : List ℕ) (e f : Bool) → (b == 92) ≡ e → is_blank b ≡ f
    → 0 < length (cond e (mark_bytes (mark_after bs)) (cond f (take_while is_blank (b ∷ bs)) (take_while is_plain (b ∷ bs))))
positive_by b bs true f h k = omega arith
positive_by b bs false true h k = run_positive is_blank b bs k
positive_by b bs false false h k = run_positive is_plain b bs (plain_by b h k)

-- no word is empty
pub first_positive : (b : ℕ) (bs : List ℕ) → 0 < length (first_word b bs)
first_positive b bs = positive_by b bs (b == 92) (is_blank b) refl refl

words_in-nil : (n : ℕ) → words_in n [] ≡ []
unfolding words_in
words_in-nil zero = refl
words_in-nil (suc n) = refl

-- more turns than bytes change nothing
words_in-enough : (n m : ℕ) (bs : List ℕ) → length bs ≤ n → length bs ≤ m → words_in n bs ≡ words_in m bs
unfolding words_in
words_in-enough n m [] p q = words_in-nil n ∙ sym (words_in-nil m)
words_in-enough zero m (b ∷ bs) p q = absurd (omega arith)
words_in-enough (suc n) zero (b ∷ bs) p q = absurd (omega arith)
words_in-enough (suc n) (suc m) (b ∷ bs) p q =
    let k = length (first_word b bs) in
    let some : 0 < length (first_word b bs) = first_positive b bs in
    ap (λ ws. first_word b bs ∷ ws)
    (words_in-enough n m (drop k (b ∷ bs)) (omega (arith, length-drop k (b ∷ bs))) (omega (arith, length-drop k (b ∷ bs))))

-- no bytes have no words
pub words_of-nil : words_of [] ≡ []
unfolding words_of
words_of-nil = words_in-nil 0

-- the words of bytes are the first, and those of the bytes after it
pub words_of-cons : (b : ℕ) (bs : List ℕ) → words_of (b ∷ bs) ≡ first_word b bs ∷ words_of (drop (length (first_word b bs)) (b ∷ bs))
unfolding words_of words_in
words_of-cons b bs =
    let k = length (first_word b bs) in
    let some : 0 < length (first_word b bs) = first_positive b bs in
    ap (λ ws. first_word b bs ∷ ws) (words_in-enough _ _ (drop k (b ∷ bs)) (omega (arith, length-drop k (b ∷ bs))) (omega arith))

-- the first word is w where w stands at the front and is what the first byte begins
pub words_of-step : (s rest w : List ℕ) → w ++ rest ≡ s → 0 < length s → first_word (get_or s 0 0) (drop 1 s) ≡ w
    → words_of s ≡ w ∷ words_of rest
words_of-step [] rest w join some first = absurd (omega arith)
words_of-step (b ∷ bs) rest w join some first =
    words_of-cons b bs
    ∙ ap (λ f. f ∷ words_of (drop (length f) (b ∷ bs))) first
    ∙ ap (λ r. w ∷ words_of r) (ap (drop (length w)) (sym join) ∙ drop_at w rest _ refl)

-- bytes that begin with a backslash begin with a mark
pub words_of-mark : (s rest w : List ℕ) → w ++ rest ≡ s → 0 < length s → get_or s 0 0 ≡ 92 → w ≡ mark_bytes (mark_after (drop 1 s))
    → words_of s ≡ w ∷ words_of rest
words_of-mark s rest w join some read is = words_of-step s rest w join some (rw read (sym is))

blank_first : (b : ℕ) (bs : List ℕ) → is_blank b ≡ true → first_word b bs ≡ take_while is_blank (b ∷ bs)
blank_first b bs h = let no : (b == 92) ≡ false = grind (arith, nat_tests) in rw (no, h)

plain_first : (b : ℕ) (bs : List ℕ) → (b == 92) ≡ false → is_blank b ≡ false → first_word b bs ≡ take_while is_plain (b ∷ bs)
plain_first b bs h k = rw (h, k)

-- bytes that begin with a blank begin with the longest run of blanks
pub words_of-blanks : (s rest w : List ℕ) → w ++ rest ≡ s → 0 < length s → is_blank (get_or s 0 0) ≡ true → w ≡ take_while is_blank s
    → words_of s ≡ w ∷ words_of rest
words_of-blanks [] rest w join some read is = absurd (omega arith)
words_of-blanks (b ∷ bs) rest w join some read is =
    words_of-step (b ∷ bs) rest w join some (blank_first b bs read ∙ sym is)

-- other bytes begin with the longest run of bytes that are no blanks and no backslashes
pub words_of-plain : (s rest w : List ℕ) → w ++ rest ≡ s → 0 < length s → (get_or s 0 0 == 92) ≡ false → is_blank (get_or s 0 0) ≡ false
    → w ≡ take_while is_plain s → words_of s ≡ w ∷ words_of rest
words_of-plain [] rest w join some read other is = absurd (omega arith)
words_of-plain (b ∷ bs) rest w join some read other is =
    words_of-step (b ∷ bs) rest w join some (plain_first b bs read other ∙ sym is)
