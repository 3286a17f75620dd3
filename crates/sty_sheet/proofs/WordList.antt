-- The words of a value, one after the other.
use Rattle.std.proofs.Common.{◌≡◌, ℕ, suc, ◌+◌, ◌<◌, Bool, true, false, cond, List, [], ◌∷◌, length, take, drop, sym, refl, subst, ap, ◌∙◌, ◌==◌, arith, eqb-true, false-eqb}
use Rattle.std.specs.Prelude.{not, filter}
use Rattle.std.specs.List.{prefix_len, slice_split, onto_first}
use Rattle.std.proofs.lemmas.Bool.{false_from_ne_true}
use Rattle.std.proofs.lemmas.List.Splits.{slice_split-cons_yes}
use Rattle.usfm_ref.specs.Numbers.{is_blank}
use Rattle.sty_sheet.specs.Lines.{not_blank, after_blanks, first_word, after_word}
use Rattle.sty_sheet.specs.Records.{is_filled, words_of}

blank_first : (b : ℕ) (bs : List ℕ) → is_blank b ≡ true → words_of (b ∷ bs) ≡ words_of bs
unfolding words_of
blank_first b bs h = ap (filter is_filled) (slice_split-cons_yes is_blank b bs h)

take_more : (n b : ℕ) (bs : List ℕ) → take (1 + n) (b ∷ bs) ≡ b ∷ take n bs
take_more n b bs = let e : 1 + n ≡ suc n = omega arith in ap (λ k. take k (b ∷ bs)) e

drop_more : (n b : ℕ) (bs : List ℕ) → drop (1 + n) (b ∷ bs) ≡ drop n bs
drop_more n b bs = let e : 1 + n ≡ suc n = omega arith in ap (λ k. drop k (b ∷ bs)) e

-- the parts after the first, where bs follows it
tails : List ℕ → List (List ℕ)
tails [] = []
tails (c ∷ cs) = slice_split is_blank cs

parts_by : (b : ℕ) (bs : List ℕ) (t : Bool) → slice_split is_blank bs ≡ first_word bs ∷ tails (after_word bs)
    → cond t ([] ∷ slice_split is_blank bs) (onto_first b (slice_split is_blank bs))
    ≡ take (cond (not t) (1 + prefix_len not_blank bs) 0) (b ∷ bs) ∷ tails (drop (cond (not t) (1 + prefix_len not_blank bs) 0) (b ∷ bs))
unfolding tails
parts_by b bs true rest = refl
parts_by b bs false rest =
    ap (onto_first b) rest ∙ (λ i. sym (take_more (prefix_len not_blank bs) b bs) i
    ∷ tails (sym (drop_more (prefix_len not_blank bs) b bs) i))

parts_are : (bs : List ℕ) → slice_split is_blank bs ≡ first_word bs ∷ tails (after_word bs)
unfolding tails
parts_are [] = refl
parts_are (b ∷ bs) = parts_by b bs (is_blank b) (parts_are bs)

tails_by : (b : ℕ) (bs : List ℕ) (t : Bool) → is_blank b ≡ t → filter is_filled (tails (after_word bs)) ≡ words_of (after_word bs)
    → filter is_filled (tails (drop (cond (not t) (1 + prefix_len not_blank bs) 0) (b ∷ bs)))
    ≡ words_of (drop (cond (not t) (1 + prefix_len not_blank bs) 0) (b ∷ bs))
unfolding tails words_of
tails_by b bs true is rest = sym (blank_first b bs is)
tails_by b bs false is rest =
    ap (λ l. filter is_filled (tails l)) (drop_more (prefix_len not_blank bs) b bs) ∙ rest
    ∙ ap words_of (sym (drop_more (prefix_len not_blank bs) b bs))

tails_are : (bs : List ℕ) → filter is_filled (tails (after_word bs)) ≡ words_of (after_word bs)
unfolding tails words_of
tails_are [] = refl
tails_are (b ∷ bs) = tails_by b bs (is_blank b) refl (tails_are bs)

filled : (word : List ℕ) → 0 < length word → is_filled word ≡ true
filled [] h = absurd (omega arith)
filled (b ∷ bs) h = refl

after_by : (b : ℕ) (bs : List ℕ) (t : Bool) → is_blank b ≡ t → words_of (after_blanks bs) ≡ words_of bs
    → words_of (drop (cond t (1 + prefix_len is_blank bs) 0) (b ∷ bs)) ≡ words_of (b ∷ bs)
after_by b bs true is rest = ap words_of (drop_more (prefix_len is_blank bs) b bs) ∙ rest ∙ sym (blank_first b bs is)
after_by b bs false is rest = refl

words_after : (bs : List ℕ) → words_of (after_blanks bs) ≡ words_of bs
words_after [] = refl
words_after (b ∷ bs) = after_by b bs (is_blank b) refl (words_after bs)

-- after the blanks comes a word
first_is : (bs : List ℕ) → 0 < length (first_word bs) → words_of bs ≡ first_word bs ∷ words_of (after_word bs)
unfolding words_of
first_is bs h =
    ap (filter is_filled) (parts_are bs) ∙ ap (λ t. cond t (first_word bs ∷ filter is_filled (tails (after_word bs)))
    (filter is_filled (tails (after_word bs)))) (filled (first_word bs) h)
    ∙ ap (λ ws. first_word bs ∷ ws) (tails_are bs)

-- the words of a value are the first one, and those after it
pub next_is : (bs : List ℕ) → 0 < length (first_word (after_blanks bs))
    → words_of bs ≡ first_word (after_blanks bs) ∷ words_of (after_word (after_blanks bs))
next_is bs h = sym (words_after bs) ∙ first_is (after_blanks bs) h

-- a word goes on from a byte that is no blank
word_from : (b : ℕ) (bs : List ℕ) → is_blank b ≡ false → first_word (b ∷ bs) ≡ b ∷ first_word bs
word_from b bs is =
    ap (λ t. take (cond (not t) (1 + prefix_len not_blank bs) 0) (b ∷ bs)) is ∙ take_more (prefix_len not_blank bs) b bs

none_by : (b : ℕ) (bs : List ℕ) (t : Bool) → is_blank b ≡ t → (length (first_word (after_blanks bs)) ≡ 0 → words_of bs ≡ [])
    → length (first_word (drop (cond t (1 + prefix_len is_blank bs) 0) (b ∷ bs))) ≡ 0 → words_of (b ∷ bs) ≡ []
none_by b bs true is rest h =
    blank_first b bs is ∙ rest (ap (λ l. length (first_word l)) (sym (drop_more (prefix_len is_blank bs) b bs)) ∙ h)
none_by b bs false is rest h = absurd (omega (arith, ap length (word_from b bs is)))

-- or there is none
pub none_is : (bs : List ℕ) → length (first_word (after_blanks bs)) ≡ 0 → words_of bs ≡ []
unfolding words_of
none_is [] h = refl
none_is (b ∷ bs) h = none_by b bs (is_blank b) refl (none_is bs) h

begins_by : (b : ℕ) (bs : List ℕ) (t : Bool) → is_blank b ≡ t
    → (0 < length (after_blanks bs) → 0 < length (first_word (after_blanks bs)))
    → 0 < length (drop (cond t (1 + prefix_len is_blank bs) 0) (b ∷ bs))
    → 0 < length (first_word (drop (cond t (1 + prefix_len is_blank bs) 0) (b ∷ bs)))
begins_by b bs true is rest h =
    let front = drop_more (prefix_len is_blank bs) b bs in
    subst (λ (l : List ℕ). 0 < length (first_word l)) (sym front) (rest (subst (λ (l : List ℕ). 0 < length l) front h))
begins_by b bs false is rest h = omega (arith, ap length (word_from b bs is))

-- where not all are blanks, a word begins after those at the front
begins : (bs : List ℕ) → 0 < length (after_blanks bs) → 0 < length (first_word (after_blanks bs))
begins [] h = absurd (omega (arith, h))
begins (b ∷ bs) h = begins_by b bs (is_blank b) refl (begins bs) h

no_word : (bs : List ℕ) → length bs ≡ 0 → length (first_word bs) ≡ 0
no_word [] h = refl
no_word (b ∷ bs) h = absurd (omega (arith, h))

-- there are no words exactly where all are blanks
pub no_words : (bs : List ℕ) → (length (after_blanks bs) == 0) ≡ (length (words_of bs) == 0)
no_words bs = by (length (after_blanks bs) == 0) refl
  where
    by : (t : Bool) → (length (after_blanks bs) == 0) ≡ t → t ≡ (length (words_of bs) == 0)
    by true e = sym (ap (λ ws. length ws == 0) (none_is bs (no_word (after_blanks bs) (eqb-true _ 0 e))))
    by false e =
        let more = ap length (next_is bs (begins bs (omega (arith, false-eqb _ 0 (sym e))))) in
        sym (false_from_ne_true (length (words_of bs) == 0) (λ none. omega (arith, more, eqb-true _ 0 none)))
