-- The lines of a text, one after the other.
use Rattle.std.proofs.Common.{◌≡◌, ◌≢◌, ℕ, suc, ◌-◌, ◌<◌, ◌==◌, Bool, true, false, not, cond, List, [], ◌∷◌, ◌++◌, length, get_or}
use Rattle.std.proofs.Common.{Bor, Option, Some, None, Result, Ok, Err, OnOk, unwrap_or, MatchOption, refl, sym, ap, ◌∙◌, arith, append-nil, append_assoc}
use Rattle.std.specs.List.{flat_map}
use Rattle.std.proofs.lemmas.Bool.{cond-false}
use Rattle.std.proofs.lemmas.Bool.Decides.{nat_tests}
use Rattle.merged_file.specs.Remarks.{with_byte, lines_of, lines_or_one, ends_within}

-- what stands between the line ends of a text, before the first and after the last of them
unfoldable pub parts : List ℕ → List (List ℕ)
parts [] = [] ∷ []
parts (b ∷ rest) = cond (b == 10) ([] ∷ parts rest) (with_byte b (parts rest))

abbrev pub LacksLf : List ℕ → Type 0
LacksLf text = (i : ℕ) → i < length text → get_or text i 0 ≢ 10

is_other : (b : ℕ) (rest : List ℕ) → LacksLf (b ∷ rest) → (b == 10) ≡ false
is_other b rest h = let first = h 0 (omega arith) in grind (arith, nat_tests)

later_lacks : (b : ℕ) (rest : List ℕ) → LacksLf (b ∷ rest) → LacksLf rest
later_lacks b rest h i l = h (suc i) (omega (arith, l))

-- a text with an LF has its first line, and then the others
pub parts_line : (line later : List ℕ) → LacksLf line → parts (line ++ 10 ∷ later) ≡ line ∷ parts later
unfolding parts
parts_line [] later h = refl
parts_line (b ∷ line) later h =
    cond-false _ _ _ (is_other b line h) ∙ ap (with_byte b) (parts_line line later (later_lacks b line h))

-- one without has one line
pub parts_last : (text : List ℕ) → LacksLf text → parts text ≡ text ∷ []
unfolding parts
parts_last [] h = refl
parts_last (b ∷ rest) h = cond-false _ _ _ (is_other b rest h) ∙ ap (with_byte b) (parts_last rest (later_lacks b rest h))

ended : (text : List ℕ) → lines_of (text ++ 10 ∷ []) ≡ parts text
unfolding parts lines_of
ended [] = refl
ended (b ∷ rest) = ap (λ (lines : List (List ℕ)). cond (b == 10) ([] ∷ lines) (with_byte b lines)) (ended rest)

some_or_one : (b : ℕ) (lines : List (List ℕ)) → lines_or_one (with_byte b lines) ≡ with_byte b lines
some_or_one b [] = refl
some_or_one b (line ∷ lines) = refl

parts_ended : (b : ℕ) (rest : List ℕ) → lines_or_one (parts (b ∷ rest)) ≡ parts (b ∷ rest)
unfolding parts
parts_ended b rest = by (b == 10)
  where
    by : (c : Bool)
        → lines_or_one (cond c ([] ∷ parts rest) (with_byte b (parts rest))) ≡ cond c ([] ∷ parts rest) (with_byte b (parts rest))
    by true = refl
    by false = some_or_one b (parts rest)

-- the lines of a text are its parts, once a line end at its end is left out
pub lines_without : (text : List ℕ) → lines_or_one (lines_of (text ++ 10 ∷ [])) ≡ parts text
unfolding parts
lines_without [] = ap lines_or_one (ended [])
lines_without (b ∷ rest) = ap lines_or_one (ended (b ∷ rest)) ∙ parts_ended b rest

not_ended : (b : ℕ) (rest : List ℕ) → ((front : List ℕ) → b ∷ rest ≢ front ++ 10 ∷ []) → lines_of (b ∷ rest) ≡ parts (b ∷ rest)
unfolding parts lines_of
not_ended b [] h = by (b == 10) refl
  where
    by : (c : Bool) → (b == 10) ≡ c → cond c ([] ∷ []) ((b ∷ []) ∷ []) ≡ cond c ([] ∷ ([] ∷ [])) ((b ∷ []) ∷ [])
    by true e = absurd (h [] (ap (λ (n : ℕ). n ∷ []) (grind (arith, nat_tests, e))))
    by false e = refl
not_ended b (d ∷ rest) h =
    ap (λ (lines : List (List ℕ)). cond (b == 10) ([] ∷ lines) (with_byte b lines))
    (not_ended d rest (λ front e. h (b ∷ front) (ap (λ (t : List ℕ). b ∷ t) e)))

-- where there is none at its end, they are its parts
pub lines_as_they_are : (text : List ℕ) → ((front : List ℕ) → text ≢ front ++ 10 ∷ []) → lines_or_one (lines_of text) ≡ parts text
unfolding parts lines_of
lines_as_they_are [] h = refl
lines_as_they_are (b ∷ rest) h = ap lines_or_one (not_ended b rest h) ∙ parts_ended b rest

-- bytes end within a line where the last of them is no LF
pub ends_by_last : (text : List ℕ) → 0 < length text → ends_within text ≡ not (get_or text (length text - 1) 0 == 10)
unfolding ends_within
ends_by_last [] h = absurd (omega (arith, h))
ends_by_last (b ∷ []) h = by (b == 10)
  where
    by : (c : Bool) → cond c false true ≡ not c
    by true = refl
    by false = refl
ends_by_last (b ∷ c ∷ rest) h =
    let at : length (b ∷ c ∷ rest) - 1 ≡ suc (length (c ∷ rest) - 1) = omega arith in
    ends_by_last (c ∷ rest) (omega arith) ∙ sym (ap (λ i. not (get_or (b ∷ c ∷ rest) i 0 == 10)) at)

pub none_within : (text : List ℕ) → length text ≡ 0 → ends_within text ≡ false
unfolding ends_within
none_within [] h = refl
none_within (b ∷ rest) h = absurd (omega (arith, h))

-- what is left once a line end at the end is left out has the lines of the text
pub lines_begun : (text : List ℕ) (r : Option (Bor (List ℕ)))
    → MatchOption r ((front : List ℕ) → text ≢ front ++ 10 ∷ []) (λ x. text ≡ x.now ++ 10 ∷ [])
    → (left : Bor (List ℕ)) (whole : Bor (List ℕ)) → whole.now ≡ text → left ≡ unwrap_or r whole
    → lines_or_one (lines_of text) ≡ parts left.now
lines_begun text None h left whole is e =
    lines_as_they_are text h ∙ ap parts (sym is) ∙ ap (λ (x : Bor (List ℕ)). parts x.now) (sym e)
lines_begun text (Some front) h left whole is e =
    ap (λ (t : List ℕ). lines_or_one (lines_of t)) h ∙ lines_without front.now ∙ ap (λ (x : Bor (List ℕ)). parts x.now) (sym e)

-- ---- a walk over the lines, each of which adds its bytes

-- what is left of a text adds a line, and then the others
pub line_more : (f : List ℕ → List ℕ) (before after whole left line later : List ℕ) → left ≡ line ++ 10 ∷ later → LacksLf line
    → after ≡ before ++ f line → before ++ flat_map f (parts left) ≡ whole → after ++ flat_map f (parts later) ≡ whole
line_more f before after whole left line later cut lacks more so_far =
    ap (λ (bytes : List ℕ). bytes ++ flat_map f (parts later)) more ∙ append_assoc before (f line) (flat_map f (parts later))
    ∙ ap (λ (lines : List (List ℕ)). before ++ flat_map f lines) (sym (ap parts cut ∙ parts_line line later lacks)) ∙ so_far

-- the last of them is added
pub line_last : {U E : Type 0} (f : List ℕ → List ℕ) (before after whole left : List ℕ) (r : Result U E) → LacksLf left
    → OnOk r (after ≡ before ++ f left) → before ++ flat_map f (parts left) ≡ whole → OnOk r (after ≡ whole)
line_last f before after whole left (Err e) lacks more so_far = tt
line_last f before after whole left (Ok u) lacks more so_far =
    more ∙ ap (λ (bytes : List ℕ). before ++ bytes) (sym (append-nil (f left)))
    ∙ ap (λ (lines : List (List ℕ)). before ++ flat_map f lines) (sym (parts_last left lacks)) ∙ so_far
