-- Runs of word characters, read from the left.
use Rattle.std.proofs.Common.{◌≡◌, ℕ, suc, ◌+◌, ◌-◌, ◌<◌, ◌≤◌, IsUtf8, Bool, true, false, cond, not}
use Rattle.std.proofs.Common.{◌&&◌, List, [], ◌∷◌, ◌++◌, length, take, refl, sym, ap, subst, ◌∙◌}
use Rattle.std.proofs.Common.{arith, append_assoc, length-append}
use mathlib.Core.Bool.{beq}
use Rattle.std.specs.List.{prefix_len}
use Rattle.std.proofs.lemmas.Str.{chars-nil, encodes-chars, length-encode, len_utf8_bounds}
use Rattle.std.proofs.Math.Seq.{take-append_seam}
use Rattle.std.specs.Prelude.{chars, take_while, encode_utf8, encode_utf8_all}
use Rattle.concordance.specs.Passages.{Passage}
use Rattle.concordance.specs.Words.{is_word_char, runs_from}
use Rattle.concordance.specs.Loops.RunReading.{is_like, rest_after, front_bytes}

-- the runs after a character, which is one of a word or not
abbrev pub runs_then : Bool → ℕ → ℕ → List ℕ → List Passage
runs_then b n c cs = runs_from b (n + length (encode_utf8 c)) cs

-- the runs from a character on: one begins there, or none does
pub one_step : (w : Bool) (n c : ℕ) (cs : List ℕ) (b : Bool) → is_word_char c ≡ b → runs_from w n (c ∷ cs)
    ≡ cond (b && not w) ((let run : Passage = record { start = n; text = encode_utf8_all (take_while is_word_char (c ∷ cs)) } in run)
    ∷ runs_then b n c cs) (runs_then b n c cs)
one_step w n c cs b e =
    ap (λ (k : Bool). cond (k && not w)
    ((let run : Passage = record { start = n; text = encode_utf8_all (take_while is_word_char (c ∷ cs)) } in run) ∷ runs_then k n c cs)
    (runs_then k n c cs)) e

-- ---- what is at the front of characters

-- the characters of one kind at the front, with one more
pub front_more : (w : Bool) (c : ℕ) (cs : List ℕ) → is_like w c ≡ true → take_while (is_like w) (c ∷ cs) ≡ c ∷ take_while (is_like w) cs
front_more w c cs e =
    let n = prefix_len (is_like w) cs in
    let one : 1 + n ≡ suc n = omega arith in
    ap (λ (b : Bool). take (cond b (1 + n) 0) (c ∷ cs)) e ∙ ap (λ k. take k (c ∷ cs)) one

-- none where the first one is of the other kind
pub front_none : (w : Bool) (c : ℕ) (cs : List ℕ) → is_like w c ≡ false → take_while (is_like w) (c ∷ cs) ≡ []
front_none w c cs e = ap (λ (b : Bool). take (cond b (1 + prefix_len (is_like w) cs) 0) (c ∷ cs)) e

-- what follows them is what follows without the first
pub after_more : (w : Bool) (c : ℕ) (cs : List ℕ) → is_like w c ≡ true → rest_after w (c ∷ cs) ≡ rest_after w cs
after_more w c cs e = ap (λ (b : Bool). cond b (rest_after w cs) (c ∷ cs)) e

-- all follows where the first one is of the other kind
pub after_none : (w : Bool) (c : ℕ) (cs : List ℕ) → is_like w c ≡ false → rest_after w (c ∷ cs) ≡ c ∷ cs
after_none w c cs e = ap (λ (b : Bool). cond b (rest_after w cs) (c ∷ cs)) e

-- the bytes of the characters of one kind at the front, with those of one more
pub bytes_more : (w : Bool) (c : ℕ) (cs : List ℕ) → is_like w c ≡ true → front_bytes w (c ∷ cs) ≡ encode_utf8 c ++ front_bytes w cs
bytes_more w c cs e = ap encode_utf8_all (front_more w c cs e)

-- none where the first one is of the other kind
pub bytes_none : (w : Bool) (c : ℕ) (cs : List ℕ) → is_like w c ≡ false → front_bytes w (c ∷ cs) ≡ []
bytes_none w c cs e = ap encode_utf8_all (front_none w c cs e)

-- one character more at the front
more : (w : Bool) (n c : ℕ) (cs : List ℕ) → is_like w c ≡ true
    → runs_from false (n + length (encode_utf8 c) + length (front_bytes w cs)) (rest_after w cs)
    ≡ runs_from false (n + length (front_bytes w (c ∷ cs))) (rest_after w (c ∷ cs))
more w n c cs e =
    let l = length-append (encode_utf8 c) (front_bytes w cs) in
    let m = ap length (bytes_more w c cs e) in
    let k : n + length (encode_utf8 c) + length (front_bytes w cs) ≡ n + length (front_bytes w (c ∷ cs)) = omega arith in
    λ i. runs_from false (k i) (sym (after_more w c cs e) i)

none : (w : Bool) (n c : ℕ) (cs : List ℕ) → is_like w c ≡ false
    → runs_from false n (c ∷ cs) ≡ runs_from false (n + length (front_bytes w (c ∷ cs))) (rest_after w (c ∷ cs))
none w n c cs e =
    let m = ap length (bytes_none w c cs e) in
    let k : n ≡ n + length (front_bytes w (c ∷ cs)) = omega arith in
    λ i. runs_from false (k i) (sym (after_none w c cs e) i)

-- past the other characters at the front
pub past_gap : (n : ℕ) (cs : List ℕ) → runs_from false n cs ≡ runs_from false (n + length (front_bytes false cs)) (rest_after false cs)
past_gap n [] = refl
past_gap n (c ∷ cs) = by (past_gap (n + length (encode_utf8 c)) cs) (is_word_char c) refl
  where
    by : runs_then false n c cs ≡ runs_from false (n + length (encode_utf8 c) + length (front_bytes false cs)) (rest_after false cs)
        → (b : Bool) → is_word_char c ≡ b
        → runs_from false n (c ∷ cs) ≡ runs_from false (n + length (front_bytes false (c ∷ cs))) (rest_after false (c ∷ cs))
    by rest true e = none false n c cs (ap not e)
    by rest false e = one_step false n c cs false e ∙ rest ∙ more false n c cs (ap not e)

-- past the rest of a run
pub past_run : (n : ℕ) (cs : List ℕ) → runs_from true n cs ≡ runs_from false (n + length (front_bytes true cs)) (rest_after true cs)
past_run n [] = refl
past_run n (c ∷ cs) = by (past_run (n + length (encode_utf8 c)) cs) (is_word_char c) refl
  where
    by : runs_then true n c cs ≡ runs_from false (n + length (encode_utf8 c) + length (front_bytes true cs)) (rest_after true cs)
        → (b : Bool) → is_word_char c ≡ b
        → runs_from true n (c ∷ cs) ≡ runs_from false (n + length (front_bytes true (c ∷ cs))) (rest_after true (c ∷ cs))
    by rest true e = one_step true n c cs true e ∙ rest ∙ more true n c cs e
    by rest false e = one_step true n c cs false e ∙ sym (one_step false n c cs false e) ∙ none true n c cs e

-- after the others comes nothing, or a run
pub run_at : (n : ℕ) (cs ds : List ℕ) → rest_after false cs ≡ ds → 0 < length ds → runs_from false n ds
    ≡ (let run : Passage = record { start = n; text = front_bytes true ds } in run)
    ∷ runs_from false (n + length (front_bytes true ds)) (rest_after true ds)
run_at n [] ds e h = absurd (let l = ap length e in omega arith)
run_at n (c ∷ cs) ds e h = by (run_at n cs ds) (is_word_char c) refl e
  where
    begins : (d : ℕ) (rest : List ℕ) → is_word_char d ≡ true → runs_from false n (d ∷ rest)
        ≡ (let run : Passage = record { start = n; text = front_bytes true (d ∷ rest) } in run)
        ∷ runs_from false (n + length (front_bytes true (d ∷ rest))) (rest_after true (d ∷ rest))
    begins d rest w =
        one_step false n d rest true w
        ∙ ap (λ l. (let run : Passage = record { start = n; text = front_bytes true (d ∷ rest) } in run) ∷ l)
        (sym (one_step true n d rest true w) ∙ past_run n (d ∷ rest))

    by : (rest_after false cs ≡ ds → 0 < length ds → runs_from false n ds
        ≡ (let run : Passage = record { start = n; text = front_bytes true ds } in run)
        ∷ runs_from false (n + length (front_bytes true ds)) (rest_after true ds))
        → (b : Bool) → is_word_char c ≡ b → cond (not b) (rest_after false cs) (c ∷ cs) ≡ ds → runs_from false n ds
        ≡ (let run : Passage = record { start = n; text = front_bytes true ds } in run)
        ∷ runs_from false (n + length (front_bytes true ds)) (rest_after true ds)
    by go true w e =
        subst (λ (l : List ℕ). runs_from false n l ≡ (let run : Passage = record { start = n; text = front_bytes true l } in run)
        ∷ runs_from false (n + length (front_bytes true l)) (rest_after true l)) e (begins c cs w)
    by go false w e = go e h

-- ---- a step over the characters of a text

-- what was read of a text, and what is left of it
abbrev pub Reads : Bool → List ℕ → List ℕ → Type 0
Reads w text rest = (x : List ℕ) × (text ≡ x ++ rest) × (front_bytes w (chars text) ≡ x ++ front_bytes w (chars rest))

-- one more character of the kind was read
pub reads_more : (w : Bool) (text rest rest' : List ℕ) (c : ℕ) → rest ≡ encode_utf8 c ++ rest' → chars rest ≡ c ∷ chars rest'
    → is_like w c ≡ true → Reads w text rest → Reads w text rest'
reads_more w text rest rest' c e chars_are like (x, is, front) = (
  x ++ encode_utf8 c,
  is ∙ ap (λ l. x ++ l) e ∙ sym (append_assoc x (encode_utf8 c) rest'),
  front ∙ ap (λ l. x ++ l) (ap (front_bytes w) chars_are ∙ bytes_more w c (chars rest') like)
      ∙ sym (append_assoc x (encode_utf8 c) (front_bytes w (chars rest'))),
)

-- a test of a character against what is looked for
pub like_test : (b w : Bool) (c : ℕ) → b ≡ is_word_char c → beq b w ≡ true → is_like w c ≡ true
like_test true true c e h = sym e
like_test false false c e h = ap not (sym e)
like_test true false c e h = absurd (cc)
like_test false true c e h = absurd (cc)

-- a character is of the other kind where the test of word characters says so
pub unlike_test : (b w : Bool) (c : ℕ) → b ≡ is_word_char c → beq b w ≡ false → is_like w c ≡ false
unlike_test true false c e h = ap not (sym e)
unlike_test false true c e h = sym e
unlike_test true true c e h = absurd (cc)
unlike_test false false c e h = absurd (cc)

-- ---- a step over the runs of a passage

-- the others at the front and then the word characters are passed
pub run_more : (n : ℕ) (rest at later : List ℕ) → rest ≡ front_bytes false (chars rest) ++ at → chars at ≡ rest_after false (chars rest)
    → at ≡ front_bytes true (chars at) ++ later → chars later ≡ rest_after true (chars at) → 0 < length (chars at)
    → runs_from false n (chars rest)
    ≡ (let run : Passage = record { start = n + length (front_bytes false (chars rest)); text = front_bytes true (chars at) } in run)
    ∷ runs_from false (n + length (front_bytes false (chars rest)) + length (front_bytes true (chars at))) (chars later)
run_more n rest at later gap at_is run later_is some =
    let m = n + length (front_bytes false (chars rest)) in
    past_gap n (chars rest) ∙ ap (runs_from false m) (sym at_is)
    ∙ run_at m (chars rest) (chars at) (sym at_is) some
    ∙ ap (λ l. (let run : Passage = record { start = m; text = front_bytes true (chars at) } in run)
    ∷ runs_from false (m + length (front_bytes true (chars at))) l) (sym later_is)

-- where nothing follows what is no word there are no runs
pub no_more : (n : ℕ) (rest at : List ℕ) → chars at ≡ rest_after false (chars rest) → at ≡ [] → runs_from false n (chars rest) ≡ []
no_more n rest at at_is e =
    past_gap n (chars rest) ∙ ap (runs_from false (n + length (front_bytes false (chars rest)))) (sym at_is ∙ ap chars e ∙ chars-nil)

-- a run is not empty
pub char_some : (c : ℕ) → 0 < length (encode_utf8 c)
char_some c = let e = length-encode c in let b = (len_utf8_bounds c).0 in omega arith

-- a run has a byte where a character follows what is no word
pub run_some : (cs ds : List ℕ) → rest_after false cs ≡ ds → 0 < length ds → 0 < length (front_bytes true ds)
run_some [] ds e h = absurd (let l = ap length e in omega arith)
run_some (c ∷ cs) ds e h = by (run_some cs ds) (is_word_char c) refl e
  where
    begins : (d : ℕ) (rest : List ℕ) → is_word_char d ≡ true → 0 < length (front_bytes true (d ∷ rest))
    begins d rest w =
        let l = ap length (bytes_more true d rest w) in
        let m = length-append (encode_utf8 d) (front_bytes true rest) in
        let s = char_some d in
        omega arith

    by : (rest_after false cs ≡ ds → 0 < length ds → 0 < length (front_bytes true ds)) → (b : Bool) → is_word_char c ≡ b
        → cond (not b) (rest_after false cs) (c ∷ cs) ≡ ds → 0 < length (front_bytes true ds)
    by go true w e = subst (λ (l : List ℕ). 0 < length (front_bytes true l)) e (begins c cs w)
    by go false w e = go e h

-- text that is not empty has characters
pub chars_some : (bs : List ℕ) → IsUtf8 bs → 0 < length bs → 0 < length (chars bs)
chars_some bs u h = by (chars bs) refl
  where
    by : (cs : List ℕ) → chars bs ≡ cs → 0 < length (chars bs)
    by [] e = absurd (let l = ap length (sym (encodes-chars bs u) ∙ ap encode_utf8_all e) in omega arith)
    by (c ∷ cs) e = (let l = ap length e in omega arith)

-- one run of a text that begins at a place, where so much of the text is left
pub next_run : (s t : ℕ) (rest at later : List ℕ) → length rest ≤ t → rest ≡ front_bytes false (chars rest) ++ at
    → chars at ≡ rest_after false (chars rest) → at ≡ front_bytes true (chars at) ++ later → chars later ≡ rest_after true (chars at)
    → 0 < length (chars at)
    → runs_from false (s + (t - length rest)) (chars rest)
    ≡ (let run : Passage = record { start = s + (t - length at); text = take (length at - length later) at } in run)
    ∷ runs_from false (s + (t - length later)) (chars later)
next_run s t rest at later fits gap at_is run later_is some =
    let l = ap length gap ∙ length-append (front_bytes false (chars rest)) at in
    let m = ap length run ∙ length-append (front_bytes true (chars at)) later in
    let start : s + (t - length rest) + length (front_bytes false (chars rest)) ≡ s + (t - length at) = omega arith in
    let end : s + (t - length rest) + length (front_bytes false (chars rest)) + length (front_bytes true (chars at))
    ≡ s + (t - length later) = omega arith in
    let size : length at - length later ≡ length (front_bytes true (chars at)) = omega arith in
    let bytes : front_bytes true (chars at) ≡ take (length at - length later) at =
    sym (ap (λ n. take n at) size ∙ ap (take (length (front_bytes true (chars at)))) run
    ∙ take-append_seam (front_bytes true (chars at)) later) in
    run_more (s + (t - length rest)) rest at later gap at_is run later_is some
    ∙ (λ i. (let one : Passage = record { start = start i; text = bytes i } in one) ∷ runs_from false (end i) (chars later))
