-- Where no flag is set there are no runs, and the other way round.
use Rattle.std.proofs.Common.{◌≡◌, ℕ, zero, suc, ◌+◌, ◌<◌, ◌≤◌, Bool, true, false, cond, ◌&&◌, List, [], ◌∷◌, ◌++◌, length, arith, refl, sym, ap, ◌∙◌, ⊎_elim}
use Rattle.std.specs.Prelude.{not, codes}
use Rattle.std.specs.Fmt.{decimal}
use Rattle.std.proofs.str.Laws.{order}
use Rattle.std.specs.List.{flat_map}
use Rattle.std.proofs.lemmas.Bool.{true≢false}
use Rattle.std.proofs.lemmas.List.{append_assoc, length-map, get_or_past}
use Rattle.missing_verses.specs.Numbers.{below, flags}
use Rattle.missing_verses.specs.Lines.{is_set, first_of, verses_line, run_line, run_lines, verse_line, verse_lines, is_any, chapter_line}
use Rattle.missing_verses.proofs.Below.{length-below, flag_at, all_none, none_each, below_more}

-- none of the flags is set
abbrev pub NoneSet : List Bool → Type 0
NoneSet fs = (n : ℕ) → is_set fs n ≡ false

unset_line : (word book : List ℕ) (c : ℕ) (fs : List Bool) (n : ℕ) → is_set fs n ≡ false → run_line word book c fs n ≡ []
unset_line word book c fs n h =
    ap (λ b. cond (b && not (is_set fs (n + 1))) (verses_line word book c (first_of fs n) n) []) h

-- there are no runs where none is set
pub no_runs : (word book : List ℕ) (c : ℕ) (fs : List Bool) → NoneSet fs → run_lines word book c fs ≡ []
no_runs word book c fs h = all_none (run_line word book c fs) (length fs) (λ n l. unset_line word book c fs n (h n))

-- a word and more is not none
pub not_none : (word : List ℕ) (x : ℕ) (xs : List ℕ) → word ++ (x ∷ xs) ≡ [] → ⊥
not_none [] x xs e = cc e
not_none (w ∷ word) x xs e = cc e

-- a flag that is set is followed by one, if its line is none
followed : (word book : List ℕ) (c : ℕ) (fs : List Bool) (n : ℕ) → run_line word book c fs n ≡ [] → is_set fs n ≡ true
    → is_set fs (n + 1) ≡ true
followed word book c fs n e set = by (is_set fs (n + 1)) refl
  where
    by : (b : Bool) → is_set fs (n + 1) ≡ b → b ≡ true
    by true at = refl
    by false at =
        let line : verses_line word book c (first_of fs n) n ≡ [] =
        sym (λ i. cond (set i && not (at i)) (verses_line word book c (first_of fs n) n) []) ∙ e in
        absurd (not_none word 32 _ line)

-- none is set where there are no runs
pub runs_none : (word book : List ℕ) (c : ℕ) (fs : List Bool) → run_lines word book c fs ≡ [] → NoneSet fs
runs_none word book c fs e n = ⊎_elim
    (λ low. from (length fs) n (omega (arith, low)))
    (λ high. get_or_past fs n false high)
    (order n (length fs))
  where
    from : (d n : ℕ) → length fs ≤ n + d → is_set fs n ≡ false
    from zero n l = get_or_past fs n false (omega (arith, l))
    from (suc d) n l = ⊎_elim
        (λ low. by (from d (n + 1) (omega (arith, l))) low (is_set fs n) refl)
        (λ high. get_or_past fs n false high)
        (order n (length fs))
      where
        by : is_set fs (n + 1) ≡ false → n < length fs → (b : Bool) → is_set fs n ≡ b → is_set fs n ≡ false
        by next low true at =
            absurd (true≢false
            (sym (followed word book c fs n (none_each (run_line word book c fs) (length fs) e n low) at) ∙ next))
        by next low false at = at

-- there are no lines of single verses where none is set
pub no_verses : (word book : List ℕ) (c : ℕ) (fs : List Bool) → NoneSet fs → verse_lines word book c fs ≡ []
no_verses word book c fs h = all_none (verse_line word book c fs) (length fs)
    (λ n l. ap (λ b. cond b (verses_line word book c n n) []) (h n))

-- none is set where there are none
pub verses_none : (word book : List ℕ) (c : ℕ) (fs : List Bool) → verse_lines word book c fs ≡ [] → NoneSet fs
verses_none word book c fs e n = ⊎_elim
    (λ low. by (is_set fs n) refl (none_each (verse_line word book c fs) (length fs) e n low))
    (λ high. get_or_past fs n false high)
    (order n (length fs))
  where
    by : (b : Bool) → is_set fs n ≡ b → cond b (verses_line word book c n n) [] ≡ [] → is_set fs n ≡ false
    by true at line = absurd (not_none word 32 _ line)
    by false at line = at

any_none : (fs : List Bool) → NoneSet fs → is_any fs ≡ false
any_none [] h = refl
any_none (f ∷ fs) h = rw (h 0) (any_none fs (λ n. h (suc n)))

none_any : (fs : List Bool) → is_any fs ≡ false → NoneSet fs
none_any [] h n = refl
none_any (false ∷ fs) h zero = refl
none_any (false ∷ fs) h (suc n) = none_any fs h n
none_any (true ∷ fs) h n = absurd (true≢false h)

abbrev absent_line : List ℕ → ℕ → List ℕ
absent_line book c = codes "missing " ++ (book ++ (32 ∷ (decimal c ++ 10 ∷ [])))

-- nor is there a line of the chapter
pub no_chapter : (book : List ℕ) (c : ℕ) (fs : List Bool) → NoneSet fs → chapter_line book c fs ≡ []
no_chapter book c fs h = ap (λ b. cond b (absent_line book c) []) (any_none fs h)

pub chapter_none : (book : List ℕ) (c : ℕ) (fs : List Bool) → chapter_line book c fs ≡ [] → NoneSet fs
chapter_none book c fs e = by (is_any fs) refl e
  where
    by : (b : Bool) → is_any fs ≡ b → cond b (absent_line book c) [] ≡ [] → NoneSet fs
    by true at h = cc h
    by false at h = none_any fs at

-- the flags of numbers below 1000
pub flags_unset : (p : ℕ → Bool) → ((n : ℕ) → n < 1000 → p n ≡ false) → NoneSet (flags p)
flags_unset p h n = ⊎_elim
    (λ low. flag_at p 1000 n low ∙ h n low)
    (λ high. get_or_past (flags p) n false (let many = length-map (below 1000) p ∙ length-below 1000 in omega (arith, many, high)))
    (order n 1000)

pub unset_flags : (p : ℕ → Bool) → NoneSet (flags p) → (n : ℕ) → n < 1000 → p n ≡ false
unset_flags p h n low = sym (flag_at p 1000 n low) ∙ h n

-- ---- runs that are written one after another

-- where the flags begin that are set up to one number more
pub first_more : (fs : List Bool) (n : ℕ) → first_of fs (n + 1) ≡ cond (is_set fs n) (first_of fs n) (n + 1)
first_more fs n =
    let e : n + 1 ≡ suc n = omega arith in
    ap (first_of fs) e ∙ ap (λ k. cond (is_set fs n) (first_of fs n) k) (sym e)

-- the lines of one number more
pub lines_more : (word book : List ℕ) (c : ℕ) (fs : List Bool) (n first : ℕ) (b : Bool) → b ≡ (is_set fs n && not (is_set fs (n + 1)))
    → first ≡ first_of fs n → (start before after : List ℕ) → before ≡ start ++ flat_map (run_line word book c fs) (below n)
    → after ≡ before ++ cond b (verses_line word book c first n) []
    → after ≡ start ++ flat_map (run_line word book c fs) (below (n + 1))
lines_more word book c fs n first b b_is first_is start before after before_is after_is =
    after_is
    ∙ (λ i. before_is i ++ cond (b_is i) (verses_line word book c (first_is i) n) [])
    ∙ append_assoc start (flat_map (run_line word book c fs) (below n)) (run_line word book c fs n)
    ∙ ap (λ xs. start ++ xs) (sym (below_more (run_line word book c fs) n))

-- the lines of single verses, of one number more
pub single_more : (word book : List ℕ) (c : ℕ) (fs : List Bool) (n : ℕ) (b : Bool) → b ≡ is_set fs n
    → (start before after : List ℕ) → before ≡ start ++ flat_map (verse_line word book c fs) (below n)
    → after ≡ before ++ cond b (verses_line word book c n n) []
    → after ≡ start ++ flat_map (verse_line word book c fs) (below (n + 1))
single_more word book c fs n b b_is start before after before_is after_is =
    after_is
    ∙ (λ i. before_is i ++ cond (b_is i) (verses_line word book c n n) [])
    ∙ append_assoc start (flat_map (verse_line word book c fs) (below n)) (verse_line word book c fs n)
    ∙ ap (λ xs. start ++ xs) (sym (below_more (verse_line word book c fs) n))
