-- The reading of a number goes no further than the next mark: a backslash ends every run that it takes.
use Rattle.std.proofs.Common.{◌≡◌, ℕ, ◌+◌, ◌-◌, nat_le, ◌==◌, Bool, true, false, ◌&&◌, cond, if◌then◌else◌, List, [], ◌∷◌, ◌++◌, length, take, drop, Option, Some, None, refl, ap, ◌∙◌, arith, length-append}
use Rattle.std.proofs.lemmas.List.{drop-append-le, take-append-le}
use Rattle.std.proofs.lemmas.List.Sums.{prefix_len-le-length}
use Rattle.std.specs.List.{prefix_len}
use Rattle.std.specs.Option.{option_and_then, option_map}
use Rattle.std.specs.Char.{is_ascii_digit, is_ascii_lowercase}
use Rattle.usfm_ref.specs.Numbers.{is_blank, number_of, ends_number, blanks_at, number_at, ended, lettered, chapter_at, verse_at, bridge_at, chapter_in, bridged, verse_in}
use Rattle.usfm_ref.specs.declared.number.VerseMark.{VerseMark}

-- what was read, before more that is not
abbrev before : {T : Type 0} → List ℕ → T × List ℕ → T × List ℕ
before more read = (read.0, read.1 ++ more)

-- a run that a backslash ends is as long before one as before the end
run-before : (p : ℕ → Bool) (front rest : List ℕ) → p 92 ≡ false → prefix_len p (front ++ 92 ∷ rest) ≡ prefix_len p front
run-before p [] rest h = rw h refl
run-before p (b ∷ front) rest h = ap (λ n. if p b then 1 + n else 0) (run-before p front rest h)

drop-before : (p : ℕ → Bool) (front more : List ℕ) → drop (prefix_len p front) (front ++ more) ≡ drop (prefix_len p front) front ++ more
drop-before p front more = drop-append-le (prefix_len p front) front more (prefix_len-le-length p front)

blanks_at-before : (front rest : List ℕ) → blanks_at (front ++ 92 ∷ rest) ≡ option_map (λ r. r ++ 92 ∷ rest) (blanks_at front)
unfolding blanks_at
blanks_at-before front rest =
    let run : prefix_len is_blank (front ++ 92 ∷ rest) ≡ prefix_len is_blank front = run-before is_blank front rest refl in
    rw (run, drop-before is_blank front (92 ∷ rest)) (by (nat_le 1 (prefix_len is_blank front)))
  where
    by : (e : Bool) → cond e (Some (drop (prefix_len is_blank front) front ++ 92 ∷ rest)) None
        ≡ option_map (λ r. r ++ 92 ∷ rest) (cond e (Some (drop (prefix_len is_blank front) front)) None)
    by true = refl
    by false = refl

number_at-before : (front rest : List ℕ) → number_at (front ++ 92 ∷ rest) ≡ option_map (before (92 ∷ rest)) (number_at front)
unfolding number_at
number_at-before front rest =
    let n = prefix_len is_ascii_digit front in
    let run : prefix_len is_ascii_digit (front ++ 92 ∷ rest) ≡ n = run-before is_ascii_digit front rest refl in
    let within = prefix_len-le-length is_ascii_digit front in
    let digits : take n (front ++ 92 ∷ rest) ≡ take n front = take-append-le n front (92 ∷ rest) within in
    rw (run, drop-before is_ascii_digit front (92 ∷ rest), digits)
    (by (number_of (take n front)) (drop n front) (nat_le 1 n && nat_le n 3))
  where
    by : (number : ℕ) (left : List ℕ) (e : Bool) → cond e (Some (number, left ++ 92 ∷ rest)) None
        ≡ option_map (before (92 ∷ rest)) (cond e (Some (number, left)) None)
    by number left true = refl
    by number left false = refl

ends-before : (front rest : List ℕ) → ends_number (front ++ 92 ∷ rest) ≡ ends_number front
ends-before [] rest = refl
ends-before (b ∷ front) rest = refl

ended-before : {T : Type 0} (value : T) (front rest : List ℕ)
    → ended value (front ++ 92 ∷ rest) ≡ option_map (before (92 ∷ rest)) (ended value front)
ended-before {T} value front rest = rw (ends-before front rest) (by (ends_number front))
  where
    by : (e : Bool) → cond e (Some (value, front ++ 92 ∷ rest)) None ≡ option_map (before (92 ∷ rest)) (cond e (Some (value, front)) None)
    by true = refl
    by false = refl

lettered-before : (n : ℕ) (front rest : List ℕ) → lettered n (front ++ 92 ∷ rest) ≡ option_map (before (92 ∷ rest)) (lettered n front)
lettered-before n [] rest = refl
lettered-before n (b ∷ front) rest = by (is_ascii_lowercase b)
  where
    part : Option ℕ → ℕ × Option ℕ
    part letter = (n, letter)

    by : (e : Bool) → cond e (ended (part (Some b)) (front ++ 92 ∷ rest)) (ended (part None) (b ∷ (front ++ 92 ∷ rest)))
        ≡ option_map (before (92 ∷ rest)) (cond e (ended (part (Some b)) front) (ended (part None) (b ∷ front)))
    by true = ended-before (part (Some b)) front rest
    by false = ended-before (part None) (b ∷ front) rest

chapter_at-before : (front rest : List ℕ) → chapter_at (front ++ 92 ∷ rest) ≡ option_map (before (92 ∷ rest)) (chapter_at front)
unfolding chapter_at
chapter_at-before front rest = ap (option_and_then (λ n. ended n.0 n.1)) (number_at-before front rest) ∙ by (number_at front)
  where
    by : (o : Option (ℕ × List ℕ)) → option_and_then (λ n. ended n.0 n.1) (option_map (before (92 ∷ rest)) o)
        ≡ option_map (before (92 ∷ rest)) (option_and_then (λ n. ended n.0 n.1) o)
    by None = refl
    by (Some n) = ended-before n.0 n.1 rest

verse_at-before : (front rest : List ℕ) → verse_at (front ++ 92 ∷ rest) ≡ option_map (before (92 ∷ rest)) (verse_at front)
unfolding verse_at
verse_at-before front rest = ap (option_and_then (λ n. lettered n.0 n.1)) (number_at-before front rest) ∙ by (number_at front)
  where
    by : (o : Option (ℕ × List ℕ)) → option_and_then (λ n. lettered n.0 n.1) (option_map (before (92 ∷ rest)) o)
        ≡ option_map (before (92 ∷ rest)) (option_and_then (λ n. lettered n.0 n.1) o)
    by None = refl
    by (Some n) = lettered-before n.0 n.1 rest

bridge_at-before : (front rest : List ℕ) → bridge_at (front ++ 92 ∷ rest) ≡ option_map (before (92 ∷ rest)) (bridge_at front)
unfolding bridge_at
bridge_at-before [] rest = refl
bridge_at-before (b ∷ front) rest = by (b == 45)
  where
    by : (e : Bool) → cond e (verse_at (front ++ 92 ∷ rest)) None ≡ option_map (before (92 ∷ rest)) (cond e (verse_at front) None)
    by true = verse_at-before front rest
    by false = refl

-- the number of a chapter before a mark is that before the end
pub chapter_in-before : (front rest : List ℕ) → chapter_in (front ++ 92 ∷ rest) ≡ chapter_in front
unfolding chapter_in
chapter_in-before front rest =
    ap (λ o. option_map (λ (c : ℕ × List ℕ). c.0) (option_and_then chapter_at o)) (blanks_at-before front rest) ∙ by (blanks_at front)
  where
    number : (o : Option (ℕ × List ℕ)) → option_map (λ (c : ℕ × List ℕ). c.0) (option_map (before (92 ∷ rest)) o)
        ≡ option_map (λ (c : ℕ × List ℕ). c.0) o
    number None = refl
    number (Some c) = refl

    by : (o : Option (List ℕ)) → option_map (λ (c : ℕ × List ℕ). c.0) (option_and_then chapter_at (option_map (λ r. r ++ 92 ∷ rest) o))
        ≡ option_map (λ (c : ℕ × List ℕ). c.0) (option_and_then chapter_at o)
    by None = refl
    by (Some bytes) = ap (option_map (λ (c : ℕ × List ℕ). c.0)) (chapter_at-before bytes rest) ∙ number (chapter_at bytes)

-- as much is read, where as much is left as before
same_length : (front after more : List ℕ) → length (front ++ more) - length (after ++ more) ≡ length front - length after
same_length front after more = omega (arith, length-append front more, length-append after more)

-- the verse before a mark is that before the end
pub verse_in-before : (front rest : List ℕ) → verse_in (front ++ 92 ∷ rest) ≡ verse_in front
unfolding verse_in
verse_in-before front rest =
    ap (λ o. option_map (mark (front ++ 92 ∷ rest)) (option_and_then verse_at o)) (blanks_at-before front rest) ∙ by (blanks_at front)
  where
    mark : List ℕ → (ℕ × Option ℕ) × List ℕ → VerseMark
    mark text v = bridged text v.0 v.1 (bridge_at v.1)

    bridge : (verse : ℕ × Option ℕ) (after : List ℕ) (o : Option ((ℕ × Option ℕ) × List ℕ))
        → bridged (front ++ 92 ∷ rest) verse (after ++ 92 ∷ rest) (option_map (before (92 ∷ rest)) o) ≡ bridged front verse after o
    bridge verse after None =
        ap (λ n. record { number = verse.0; letter = verse.1; last = None; length = n }) (same_length front after (92 ∷ rest))
    bridge verse after (Some b) =
        ap (λ n. record { number = verse.0; letter = verse.1; last = Some b.0; length = n }) (same_length front b.1 (92 ∷ rest))

    verse : (o : Option ((ℕ × Option ℕ) × List ℕ))
        → option_map (mark (front ++ 92 ∷ rest)) (option_map (before (92 ∷ rest)) o) ≡ option_map (mark front) o
    verse None = refl
    verse (Some v) =
        ap Some (ap (bridged (front ++ 92 ∷ rest) v.0 (v.1 ++ 92 ∷ rest)) (bridge_at-before v.1 rest)
        ∙ bridge v.0 v.1 (bridge_at v.1))

    by : (o : Option (List ℕ)) → option_map (mark (front ++ 92 ∷ rest)) (option_and_then verse_at (option_map (λ r. r ++ 92 ∷ rest) o))
        ≡ option_map (mark front) (option_and_then verse_at o)
    by None = refl
    by (Some bytes) = ap (option_map (mark (front ++ 92 ∷ rest))) (verse_at-before bytes rest) ∙ verse (verse_at bytes)
