-- Bytes cut at the first of a separator.
use Rattle.std.proofs.Common.{◌≡◌, ◌<◌, ◌≤◌, ◌+◌, ◌-◌, ℕ, suc, ◌==◌, Bool, true, false, not, cond, List, [], ◌∷◌, ◌++◌, length, take, drop, Option, Some, None, refl, sym, ap, ◌∙◌, subst, arith, take-append-drop}
use Rattle.std.specs.List.{list_all, prefix_len}
use Rattle.std.proofs.lemmas.Bool.{and_parts, and_from, not-true, eq-eqb, eqb-true}
use Rattle.std.proofs.lemmas.List.{take_all, append-nil}
use Rattle.conflict_answers.specs.Loops.Cuts.{Lacks, after_word}

-- a byte that is lacked is not there
pub not_first : (c b : ℕ) (bs : List ℕ) → Lacks c (b ∷ bs) → b ≡ c → ⊥
not_first c b bs lacks e =
    let no : (b == c) ≡ false = not-true (b == c) (and_parts (not (b == c)) (list_all (λ a. not (a == c)) bs) lacks).0 in
    let yes : (b == c) ≡ true = eq-eqb b c e in
    absurd cc

later : (c b : ℕ) (bs : List ℕ) → Lacks c (b ∷ bs) → Lacks c bs
later c b bs lacks = (and_parts (not (b == c)) (list_all (λ a. not (a == c)) bs) lacks).1

-- bytes are cut at the first separator in one way
pub cut_once : (c : ℕ) (x y r s : List ℕ) → Lacks c x → Lacks c y → x ++ c ∷ r ≡ y ++ c ∷ s → (x ≡ y) × (r ≡ s)
cut_once c [] [] r s lx ly e = (refl, cc)
cut_once c [] (b ∷ y) r s lx ly e = let same : b ≡ c = cc in absurd (not_first c b y ly same)
cut_once c (b ∷ x) [] r s lx ly e = let same : b ≡ c = cc in absurd (not_first c b x lx same)
cut_once c (a ∷ x) (b ∷ y) r s lx ly e =
    let first : a ≡ b = cc in
    let others : x ++ c ∷ r ≡ y ++ c ∷ s = cc in
    let rest = cut_once c x y r s (later c a x lx) (later c b y ly) others in
    ((λ i. first i ∷ rest.0 i), rest.1)

-- what has the separator does not lack it
pub has_it : (c : ℕ) (x r : List ℕ) → Lacks c (x ++ c ∷ r) → ⊥
has_it c [] r lacks = not_first c c r lacks refl
has_it c (b ∷ x) r lacks = has_it c x r (later c b (x ++ c ∷ r) lacks)

-- ---- how a cut is made

abbrev pub len : ℕ → List ℕ → ℕ
len c bs = prefix_len (λ b. not (b == c)) bs

take_more : (n b : ℕ) (bs : List ℕ) → take (1 + n) (b ∷ bs) ≡ b ∷ take n bs
take_more n b bs = let e : 1 + n ≡ suc n = omega arith in ap (λ k. take k (b ∷ bs)) e

drop_more : (n b : ℕ) (bs : List ℕ) → drop (1 + n) (b ∷ bs) ≡ drop n bs
drop_more n b bs = let e : 1 + n ≡ suc n = omega arith in ap (λ k. drop k (b ∷ bs)) e

lacking_by : (c b : ℕ) (bs : List ℕ) (t : Bool) → (b == c) ≡ t → Lacks c (take (len c bs) bs)
    → Lacks c (take (cond (not t) (1 + len c bs) 0) (b ∷ bs))
lacking_by c b bs true e h = refl
lacking_by c b bs false e h =
    subst (λ (xs : List ℕ). Lacks c xs) (sym (take_more (len c bs) b bs))
    (and_from (not (b == c)) (list_all (λ a. not (a == c)) (take (len c bs) bs)) (ap not e) h)

pub lacking : (c : ℕ) (bs : List ℕ) → Lacks c (take (len c bs) bs)
lacking c [] = refl
lacking c (b ∷ bs) = lacking_by c b bs (b == c) refl (lacking c bs)

-- the bytes are none, or begin with the separator
abbrev pub Begins : ℕ → List ℕ → Type 0
Begins c [] = Unit {0}
Begins c (b ∷ bs) = b ≡ c

begins_by : (c b : ℕ) (bs : List ℕ) (t : Bool) → (b == c) ≡ t → Begins c (drop (len c bs) bs)
    → Begins c (drop (cond (not t) (1 + len c bs) 0) (b ∷ bs))
begins_by c b bs true e h = eqb-true b c e
begins_by c b bs false e h = subst (λ (xs : List ℕ). Begins c xs) (sym (drop_more (len c bs) b bs)) h

pub begins : (c : ℕ) (bs : List ℕ) → Begins c (drop (len c bs) bs)
begins c [] = tt
begins c (b ∷ bs) = begins_by c b bs (b == c) refl (begins c bs)

-- ---- the two answers of a cut

module _ (c : ℕ) (bs front rest : List ℕ) (f : front ≡ take (len c bs) bs) (r : rest ≡ drop (len c bs) bs) where
  whole : bs ≡ front ++ rest
  whole = sym ((λ i. f i ++ r i) ∙ take-append-drop (len c bs) bs)

  front_lacks : Lacks c front
  front_lacks = subst (λ (xs : List ℕ). Lacks c xs) (sym f) (lacking c bs)

  rest_begins : Begins c rest
  rest_begins = subst (λ (xs : List ℕ). Begins c xs) (sym r) (begins c bs)

  -- where nothing is left, the separator is nowhere
  pub no_cut : length rest < 1 → (x y : List ℕ) → bs ≡ x ++ c ∷ y → ⊥
  no_cut none x y e = by rest whole none
    where
      by : (rest : List ℕ) → bs ≡ front ++ rest → length rest < 1 → ⊥
      by [] w n = has_it c x y (subst (λ (xs : List ℕ). Lacks c xs) (sym (append-nil front) ∙ sym w ∙ e) front_lacks)
      by (b ∷ more) w n = absurd (omega (arith, n))

  -- what comes after the separator
  abbrev pub after : List ℕ
  after = take (length rest - 1) (drop 1 rest)

  -- where something is left, the bytes are cut there
  pub cut_is : 1 ≤ length rest → bs ≡ front ++ c ∷ after
  cut_is some = whole ∙ by rest rest_begins some
    where
      by : (rest : List ℕ) → Begins c rest → 1 ≤ length rest → front ++ rest ≡ front ++ c ∷ take (length rest - 1) (drop 1 rest)
      by [] b n = absurd (omega (arith, n))
      by (x ∷ more) b n =
          let m : length (x ∷ more) - 1 ≡ length more = omega arith in
          let all : take (length (x ∷ more) - 1) more ≡ more = ap (λ k. take k more) m ∙ take_all (length more) more (omega arith) in
          (λ i. front ++ b i ∷ sym all i)

  pub cut_only : 1 ≤ length rest → (x y : List ℕ) → Lacks c x → bs ≡ x ++ c ∷ y → (front ≡ x) × (after ≡ y)
  cut_only some x y lacks e = cut_once c front x after y front_lacks lacks (sym (cut_is some) ∙ e)

-- ---- words, and what follows them

-- a word before a space or the end is cut in one way
pub word_once : (x y : List ℕ) (t u : Option (List ℕ)) → Lacks 32 x → Lacks 32 y → x ++ after_word t ≡ y ++ after_word u
    → (x ≡ y) × (t ≡ u)
word_once x y None None lx ly e = (sym (append-nil x) ∙ e ∙ append-nil y, refl)
word_once x y None (Some u) lx ly e = absurd (has_it 32 y u (subst (λ (xs : List ℕ). Lacks 32 xs) (sym (append-nil x) ∙ e) lx))
word_once x y (Some t) None lx ly e = absurd (has_it 32 x t (subst (λ (xs : List ℕ). Lacks 32 xs) (sym (append-nil y) ∙ sym e) ly))
word_once x y (Some t) (Some u) lx ly e = let both = cut_once 32 x y t u lx ly e in (both.0, ap Some both.1)
