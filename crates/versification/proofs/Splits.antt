-- The first of the parts that a list is cut into, and those after it.
use Rattle.std.proofs.lemmas.List.{take_all}
use Rattle.std.proofs.Common.{◌≡◌, ◌<◌, ◌≤◌, ◌-◌, length, ℕ, suc, ◌+◌, Bool, true, false, cond, List, [], ◌∷◌, take, drop, sym, refl, ap, ◌∙◌, arith, Option, None, Some}
use Rattle.std.specs.Prelude.{not, map, ◌==◌}
use Rattle.std.specs.List.{prefix_len, slice_split, onto_first}
use Rattle.versification.specs.Lines.{Said, line_of}
use Rattle.versification.specs.Versifications.{said_in}
use Rattle.versification.specs.Loops.Tables.{said_left}

-- whether a byte is a line feed
abbrev pub is_feed : ℕ → Bool
is_feed b = b == 10

-- how many bytes come before the first line feed
abbrev pub line_len : List ℕ → ℕ
line_len bs = prefix_len (λ b. not (b == 10)) bs

take_more : (n b : ℕ) (bs : List ℕ) → take (1 + n) (b ∷ bs) ≡ b ∷ take n bs
take_more n b bs = let e : 1 + n ≡ suc n = omega arith in ap (λ k. take k (b ∷ bs)) e

drop_more : (n b : ℕ) (bs : List ℕ) → drop (1 + n) (b ∷ bs) ≡ drop n bs
drop_more n b bs = let e : 1 + n ≡ suc n = omega arith in ap (λ k. drop k (b ∷ bs)) e

-- the parts after the first, where this follows it
abbrev pub later_parts : List ℕ → List (List ℕ)
later_parts [] = []
later_parts (c ∷ cs) = slice_split is_feed cs

parts_by : (b : ℕ) (bs : List ℕ) (t : Bool) → slice_split is_feed bs ≡ take (line_len bs) bs ∷ later_parts (drop (line_len bs) bs)
    → cond t ([] ∷ slice_split is_feed bs) (onto_first b (slice_split is_feed bs))
    ≡ take (cond (not t) (1 + line_len bs) 0) (b ∷ bs) ∷ later_parts (drop (cond (not t) (1 + line_len bs) 0) (b ∷ bs))
parts_by b bs true rest = refl
parts_by b bs false rest =
    ap (onto_first b) rest ∙ (λ i. sym (take_more (line_len bs) b bs) i ∷ later_parts (sym (drop_more (line_len bs) b bs) i))

parts_are : (bs : List ℕ) → slice_split is_feed bs ≡ take (line_len bs) bs ∷ later_parts (drop (line_len bs) bs)
parts_are [] = refl
parts_are (b ∷ bs) = parts_by b bs (is_feed b) (parts_are bs)

-- what comes after the line feed, if bytes begin with one
abbrev pub after_feed : List ℕ → Option (List ℕ)
after_feed [] = None
after_feed (b ∷ bs) = Some bs

later_said : (bs : List ℕ) → map line_of (later_parts bs) ≡ said_left (after_feed bs)
later_said [] = refl
later_said (b ∷ bs) = refl

-- what lines say is what the first says, and then the others
pub first_line : (bs : List ℕ) → said_in bs ≡ line_of (take (line_len bs) bs) ∷ said_left (after_feed (drop (line_len bs) bs))
first_line bs =
    ap (map line_of) (parts_are bs)
    ∙ ap (λ (ls : List (Option Said)). line_of (take (line_len bs) bs) ∷ ls) (later_said (drop (line_len bs) bs))

-- where no line feed comes after the first line, it is the only one
pub last_line : (bs line rest : List ℕ) → line ≡ take (line_len bs) bs → rest ≡ drop (line_len bs) bs → length rest < 1
    → said_in bs ≡ line_of line ∷ []
last_line bs line rest front back none =
    first_line bs ∙ (λ i. line_of (sym front i) ∷ said_left (after_feed (sym back i))) ∙ by rest none
  where
    by : (rest : List ℕ) → length rest < 1 → line_of line ∷ said_left (after_feed rest) ≡ line_of line ∷ []
    by [] none = refl
    by (b ∷ bs) none = absurd (omega (arith, none))

-- where one comes, the lines after it follow
pub next_line : (bs line rest : List ℕ) → line ≡ take (line_len bs) bs → rest ≡ drop (line_len bs) bs → 1 ≤ length rest
    → said_in bs ≡ line_of line ∷ said_in (take (length rest - 1) (drop 1 rest))
next_line bs line rest front back some =
    first_line bs ∙ (λ i. line_of (sym front i) ∷ said_left (after_feed (sym back i))) ∙ by rest some
  where
    by : (rest : List ℕ) → 1 ≤ length rest
        → line_of line ∷ said_left (after_feed rest) ≡ line_of line ∷ said_in (take (length rest - 1) (drop 1 rest))
    by [] some = absurd (omega (arith, some))
    by (b ∷ bs) some =
        let n : length (b ∷ bs) - 1 ≡ length bs = omega arith in
        ap (λ (cs : List ℕ). line_of line ∷ said_in cs) (sym (ap (λ k. take k bs) n ∙ take_all (length bs) bs (omega arith)))
