-- The runs of a passage are its longest ones, and each word character lies in one.
use Rattle.std.proofs.Common.{◌≡◌, ℕ, ◌+◌, ◌<◌, Bool, true, false, cond, not, ◌&&◌, List, [], ◌∷◌}
use Rattle.std.proofs.Common.{◌++◌, All, length, get_or, count_by, refl, sym, ap, ◌∙◌, arith}
use Rattle.std.proofs.Common.{append_assoc, append-nil, length-append, ltb-true, lt-ltb}
use Rattle.std.specs.Prelude.{nat_le, nat_lt, chars, encode_utf8, encode_utf8_all, take_while}
use Rattle.std.specs.List.{list_all}
use Rattle.std.specs.Cmp.{both_ways}
use Rattle.std.proofs.lemmas.Bool.{and_from, and_left, and_parts}
use Rattle.std.proofs.lemmas.Bool.Decides.{nat_tests}
use Rattle.std.proofs.lemmas.List.Elements.{All-nil, All-cons}
use Rattle.std.proofs.lemmas.List.Sums.{sum_by-cons, AllPass-from_list_all}
use Rattle.std.proofs.lemmas.Str.{encodes-append}
use Rattle.concordance.specs.Laws.{IsLongestRun, RunsAreLongest, WordCharactersAreInOneRun, lies_in}
use Rattle.concordance.specs.Passages.{Passage}
use Rattle.concordance.specs.Loops.RunReading.{is_like, rest_after, front_bytes}
use Rattle.concordance.specs.Words.{is_word_char, runs_from}
use Rattle.concordance.proofs.RunLemmas.{runs_then, front_more, front_none, after_more, after_none}
use Rattle.concordance.proofs.RunLemmas.{bytes_more, bytes_none, char_some}

-- ---- the word characters at the front

abbrev front : List ℕ → List ℕ
front cs = take_while (is_like true) cs

-- the run that begins with characters that are at a place
abbrev run_of : ℕ → List ℕ → Passage
run_of n cs = record { start = n; text = front_bytes true cs }

front_and_after : (cs : List ℕ) → cs ≡ front cs ++ rest_after true cs
front_and_after [] = refl
front_and_after (c ∷ cs) = by (front_and_after cs) (is_word_char c) refl
  where
    by : cs ≡ front cs ++ rest_after true cs → (b : Bool) → is_word_char c ≡ b
        → c ∷ cs ≡ front (c ∷ cs) ++ rest_after true (c ∷ cs)
    by rest true e =
        ap (λ l. c ∷ l) rest ∙ (λ i. sym (front_more true c cs e) i ++ sym (after_more true c cs e) i)
    by rest false e = λ i. sym (front_none true c cs e) i ++ sym (after_none true c cs e) i

front_words : (cs : List ℕ) → list_all is_word_char (front cs) ≡ true
front_words [] = refl
front_words (c ∷ cs) = by (front_words cs) (is_word_char c) refl
  where
    by : list_all is_word_char (front cs) ≡ true → (b : Bool) → is_word_char c ≡ b
        → list_all is_word_char (front (c ∷ cs)) ≡ true
    by rest true e = ap (list_all is_word_char) (front_more true c cs e) ∙ and_from _ _ e rest
    by rest false e = ap (list_all is_word_char) (front_none true c cs e)

front_some : (c : ℕ) (cs : List ℕ) → is_word_char c ≡ true → 0 < length (front (c ∷ cs))
front_some c cs e = let l = ap length (front_more true c cs e) in omega arith

first_after : (cs : List ℕ) (c : ℕ) (rest : List ℕ) → rest_after true cs ≡ c ∷ rest → is_word_char c ≡ false
first_after [] c rest h = absurd (let l = ap length h in omega arith)
first_after (d ∷ ds) c rest h = by (first_after ds c rest) (is_word_char d) refl
  where
    by : (rest_after true ds ≡ c ∷ rest → is_word_char c ≡ false) → (b : Bool) → is_word_char d ≡ b
        → is_word_char c ≡ false
    by go true e = go (sym (after_more true d ds e) ∙ h)
    by go false e =
        let same : d ≡ c = ap (λ (l : List ℕ). get_or l 0 0) (sym (after_none true d ds e) ∙ h) in
        ap is_word_char (sym same) ∙ e

-- ---- each run is a longest one

-- whether the last of some characters is a word character
abbrev ends_with_word : List ℕ → Bool
ends_with_word [] = false
ends_with_word (c ∷ []) = is_word_char c
ends_with_word (c ∷ d ∷ cs) = ends_with_word (d ∷ cs)

last_word : (cs : List ℕ) (c : ℕ) → ends_with_word (cs ++ c ∷ []) ≡ is_word_char c
last_word [] c = refl
last_word (d ∷ []) c = refl
last_word (d ∷ e ∷ cs) c = last_word (e ∷ cs) c

-- past one character more
one_more_before : (before : List ℕ) (c : ℕ)
    → length (encode_utf8_all (before ++ c ∷ []))
    ≡ length (encode_utf8_all before) + length (encode_utf8 c)
one_more_before before c =
    ap length (encodes-append before (c ∷ []))
    ∙ length-append (encode_utf8_all before) (encode_utf8_all (c ∷ []))
    ∙ ap (λ l. length (encode_utf8_all before) + length l) (append-nil (encode_utf8 c))

module _ (p : Passage) where
  -- the runs in characters that come after others of the passage
  longest_after : (before cs : List ℕ) (within : Bool) (n : ℕ) → chars p.text ≡ before ++ cs
      → ends_with_word before ≡ within → n ≡ p.start + length (encode_utf8_all before)
      → All (IsLongestRun p) (runs_from within n cs)
  longest_after before [] within n is ends at = All-nil (IsLongestRun p)
  longest_after before (c ∷ cs) within n is ends at =
      by within (is_word_char c) ends refl
      (longest_after (before ++ c ∷ []) cs (is_word_char c) (n + length (encode_utf8 c))
      (is ∙ sym (append_assoc before (c ∷ []) cs)) (last_word before c)
      (let l = one_more_before before c in omega arith))
    where
      longest : ends_with_word before ≡ false → is_word_char c ≡ true → IsLongestRun p (run_of n (c ∷ cs))
      longest none e = record {
        before = before;
        own = front (c ∷ cs);
        after = rest_after true (c ∷ cs);
        characters = is ∙ ap (λ l. before ++ l) (front_and_after (c ∷ cs));
        start = at;
        bytes = refl;
        some = front_some c cs e;
        of_words = AllPass-from_list_all is_word_char (front (c ∷ cs)) (front_words (c ∷ cs));
        none_before = λ others d h. sym (last_word others d) ∙ ap ends_with_word (sym h) ∙ none;
        none_after = first_after (c ∷ cs);
      }

      by : (w b : Bool) → ends_with_word before ≡ w → is_word_char c ≡ b
          → All (IsLongestRun p) (runs_then (is_word_char c) n c cs)
          → All (IsLongestRun p)
          (cond (b && not w) (run_of n (c ∷ cs) ∷ runs_then (is_word_char c) n c cs) (runs_then (is_word_char c) n c cs))
      by true true none e rest = rest
      by true false none e rest = rest
      by false false none e rest = rest
      by false true none e rest =
          All-cons (IsLongestRun p) (run_of n (c ∷ cs)) (runs_then (is_word_char c) n c cs) (longest none e) rest

-- before and after a run there is no word character
pub runs_are_longest : RunsAreLongest
runs_are_longest p =
    longest_after p [] (chars p.text) false p.start refl refl
    (let l : length (encode_utf8_all []) ≡ 0 = refl in omega arith)

-- ---- each word character lies in one

abbrev count_at : ℕ → List Passage → ℕ
count_at at runs = count_by (lies_in at) runs

one_counted : (at : ℕ) (run : Passage) (runs : List Passage)
    → count_at at (run ∷ runs) ≡ cond (lies_in at run) 1 0 + count_at at runs
one_counted at run runs = sum_by-cons (λ r. cond (lies_in at r) 1 0) run runs

-- a place before a passage does not lie in it
lies_before : (at : ℕ) (run : Passage) → at < run.start → lies_in at run ≡ false
lies_before at run h = and_left (nat_le run.start at) _ (grind (arith, nat_tests))

-- it lies in none of the runs that begin after it
none_reached : (at : ℕ) (within : Bool) (n : ℕ) (cs : List ℕ) → at < n → count_at at (runs_from within n cs) ≡ 0
none_reached at within n [] h = refl
none_reached at within n (c ∷ cs) h =
    by within (is_word_char c) (none_reached at (is_word_char c) (n + length (encode_utf8 c)) cs (omega arith))
  where
    by : (w b : Bool) → count_at at (runs_then (is_word_char c) n c cs) ≡ 0
        → count_at at (cond (b && not w) (run_of n (c ∷ cs) ∷ runs_then (is_word_char c) n c cs) (runs_then (is_word_char c) n c cs)) ≡ 0
    by true true e = e
    by true false e = e
    by false false e = e
    by false true e =
        one_counted at (run_of n (c ∷ cs)) (runs_then (is_word_char c) n c cs)
        ∙ (λ i. cond (lies_before at (run_of n (c ∷ cs)) h i) 1 0 + e i)

shifted : (k a b : ℕ) → nat_lt (k + a) (k + b) ≡ nat_lt a b
shifted k a b = both_ways (nat_lt (k + a) (k + b)) (nat_lt a b)
    (λ h. let l = ltb-true (k + a) (k + b) h in lt-ltb a b (omega arith))
    (λ h. let l = ltb-true a b h in lt-ltb (k + a) (k + b) (omega arith))

-- whether characters and the one after them are all word characters
abbrev all_words : List ℕ → ℕ → Bool
all_words [] c = is_word_char c
all_words (d ∷ ds) c = is_word_char d && all_words ds c

last_of_words : (ds : List ℕ) (c : ℕ) → all_words ds c ≡ true → is_word_char c ≡ true
last_of_words [] c h = h
last_of_words (d ∷ ds) c h = last_of_words ds c (and_parts (is_word_char d) (all_words ds c) h).1

-- a run reaches over the characters that are all word characters from its first one on
run_reaches : (ds : List ℕ) (c : ℕ) (rest : List ℕ)
    → nat_lt (length (encode_utf8_all ds)) (length (front_bytes true (ds ++ c ∷ rest))) ≡ all_words ds c
run_reaches [] c rest = by (is_word_char c) refl
  where
    by : (b : Bool) → is_word_char c ≡ b → nat_lt 0 (length (front_bytes true (c ∷ rest))) ≡ b
    by true e =
        let l = ap length (bytes_more true c rest e) ∙ length-append (encode_utf8 c) (front_bytes true rest) in
        let some = char_some c in
        lt-ltb 0 (length (front_bytes true (c ∷ rest))) (omega arith)
    by false e = ap (λ l. nat_lt 0 (length l)) (bytes_none true c rest e)
run_reaches (d ∷ ds) c rest = by (run_reaches ds c rest) (is_word_char d) refl
  where
    by : nat_lt (length (encode_utf8_all ds)) (length (front_bytes true (ds ++ c ∷ rest))) ≡ all_words ds c
        → (b : Bool) → is_word_char d ≡ b
        → nat_lt (length (encode_utf8_all (d ∷ ds))) (length (front_bytes true (d ∷ (ds ++ c ∷ rest)))) ≡ (b && all_words ds c)
    by inner true e =
        let own = length-append (encode_utf8 d) (encode_utf8_all ds) in
        let reach = ap length (bytes_more true d (ds ++ c ∷ rest) e) ∙ length-append (encode_utf8 d) (front_bytes true (ds ++ c ∷ rest)) in
        (λ i. nat_lt (own i) (reach i)) ∙ shifted (length (encode_utf8 d)) _ _ ∙ inner
    by inner false e = none (length (encode_utf8_all (d ∷ ds))) _ (bytes_none true d (ds ++ c ∷ rest) e)
      where
        none : (k : ℕ) (l : List ℕ) → l ≡ [] → nat_lt k (length l) ≡ false
        none k l h = let n : length l ≡ 0 = ap length h in grind (arith, nat_tests)

-- in how many of the runs a character lies
abbrev expected : Bool → List ℕ → ℕ → ℕ
expected within ds c = cond (within && all_words ds c) 0 (cond (is_word_char c) 1 0)

counted : (within : Bool) (n : ℕ) (ds : List ℕ) (c : ℕ) (rest : List ℕ)
    → count_at (n + length (encode_utf8_all ds)) (runs_from within n (ds ++ c ∷ rest)) ≡ expected within ds c
counted within n [] c rest =
    by within (is_word_char c) refl
    (none_reached (n + length (encode_utf8_all [])) (is_word_char c) (n + length (encode_utf8 c)) rest
    (let some = char_some c in let l : length (encode_utf8_all []) ≡ 0 = refl in omega arith))
  where
    here : is_word_char c ≡ true → lies_in (n + length (encode_utf8_all [])) (run_of n (c ∷ rest)) ≡ true
    here e =
        let reach = run_reaches [] c rest ∙ e in
        and_from _ _ (grind (arith, nat_tests)) (shifted n 0 (length (front_bytes true (c ∷ rest))) ∙ reach)

    by : (w b : Bool) → is_word_char c ≡ b
        → count_at (n + length (encode_utf8_all [])) (runs_then (is_word_char c) n c rest) ≡ 0
        → count_at (n + length (encode_utf8_all []))
        (cond (b && not w) (run_of n (c ∷ rest) ∷ runs_then (is_word_char c) n c rest) (runs_then (is_word_char c) n c rest))
        ≡ cond (w && b) 0 (cond b 1 0)
    by true true e l = l
    by true false e l = l
    by false false e l = l
    by false true e l =
        one_counted (n + length (encode_utf8_all [])) (run_of n (c ∷ rest)) (runs_then (is_word_char c) n c rest)
        ∙ (λ i. cond (here e i) 1 0 + l i)
counted within n (d ∷ ds) c rest =
    by within (is_word_char d) (all_words ds c) refl refl
    (ap (λ k. count_at k (runs_then (is_word_char d) n d (ds ++ c ∷ rest))) past
    ∙ counted (is_word_char d) (n + length (encode_utf8 d)) ds c rest)
  where
    past : n + length (encode_utf8_all (d ∷ ds)) ≡ n + length (encode_utf8 d) + length (encode_utf8_all ds)
    past = let l = length-append (encode_utf8 d) (encode_utf8_all ds) in omega arith

    here : (a : Bool) → is_word_char d ≡ true → all_words ds c ≡ a
        → lies_in (n + length (encode_utf8_all (d ∷ ds))) (run_of n (d ∷ (ds ++ c ∷ rest))) ≡ a
    here a e f =
        let low : nat_le n (n + length (encode_utf8_all (d ∷ ds))) ≡ true = grind (arith, nat_tests) in
        let reach =
        shifted n (length (encode_utf8_all (d ∷ ds))) (length (front_bytes true (d ∷ (ds ++ c ∷ rest)))) ∙ run_reaches (d ∷ ds) c rest in
        (λ i. low i && reach i) ∙ (λ i. e i && f i)

    one_in_all : (a : Bool) → all_words ds c ≡ a
        → cond a 1 0 + cond a 0 (cond (is_word_char c) 1 0) ≡ cond (is_word_char c) 1 0
    one_in_all true f = sym (ap (λ b. cond b 1 0) (last_of_words ds c f))
    one_in_all false f = omega arith

    by : (w b a : Bool) → is_word_char d ≡ b → all_words ds c ≡ a
        → count_at (n + length (encode_utf8_all (d ∷ ds))) (runs_then (is_word_char d) n d (ds ++ c ∷ rest))
        ≡ cond (b && a) 0 (cond (is_word_char c) 1 0)
        → count_at (n + length (encode_utf8_all (d ∷ ds)))
        (cond (b && not w) (run_of n (d ∷ (ds ++ c ∷ rest)) ∷ runs_then (is_word_char d) n d (ds ++ c ∷ rest))
        (runs_then (is_word_char d) n d (ds ++ c ∷ rest)))
        ≡ cond (w && (b && a)) 0 (cond (is_word_char c) 1 0)
    by true true a e f l = l
    by true false a e f l = l
    by false false a e f l = l
    by false true a e f l =
        one_counted (n + length (encode_utf8_all (d ∷ ds))) (run_of n (d ∷ (ds ++ c ∷ rest)))
        (runs_then (is_word_char d) n d (ds ++ c ∷ rest))
        ∙ (λ i. cond (here a e f i) 1 0 + l i)
        ∙ one_in_all a f

-- each word character of a passage lies in exactly one run, and no other character in any
pub word_characters_are_in_one_run : WordCharactersAreInOneRun
word_characters_are_in_one_run p before c after is =
    ap (λ cs. count_at (p.start + length (encode_utf8_all before)) (runs_from false p.start cs)) is
    ∙ counted false p.start before c after
