-- Subsequences of lists of words, and that what two lists have in common at their front and end may be left off.
use Rattle.std.proofs.Common.{◌≡◌, ℕ, ◌+◌, ◌<◌, ◌≤◌, List, [], ◌∷◌, ◌++◌, length, sym, refl, ap, ◌∙◌, subst, ⊎_elim, inl, inr, arith, length-append}
use Rattle.std.proofs.str.Laws.{order}
use Rattle.word_diff.specs.Common.{IsSubsequence}

abbrev Words : Type 0
Words = List (List ℕ)

-- no words are taken from any
pub sub_nil : (ys : Words) → IsSubsequence [] ys
sub_nil [] = refl
sub_nil (y ∷ ys) = inl (sub_nil ys)

-- a subsequence is no longer
pub sub_length : (ys zs : Words) → IsSubsequence zs ys → length zs ≤ length ys
sub_length [] zs h = omega (arith, ap length h)
sub_length (y ∷ ys) zs h = ⊎_elim (λ skipped. omega (arith, sub_length ys zs skipped))
    (λ (t : (rest : Words) × (zs ≡ y ∷ rest) × IsSubsequence rest ys). omega (arith, sub_length ys t.0 t.2, ap length t.1))
    h

-- subsequences of two lists make one of both
pub sub_append : (xs ys a b : Words) → IsSubsequence a xs → IsSubsequence b ys → IsSubsequence (a ++ b) (xs ++ ys)
sub_append [] ys a b h k = subst (λ (l : Words). IsSubsequence (l ++ b) ys) (sym h) k
sub_append (x ∷ xs) ys a b h k = ⊎_elim (λ skipped. inl (sub_append xs ys a b skipped k))
    (λ (t : (rest : Words) × (a ≡ x ∷ rest) × IsSubsequence rest xs).
    inr (t.0 ++ b, ap (λ (l : Words). l ++ b) t.1, sub_append xs ys t.0 b t.2 k))
    h

-- zs, parted into what is taken from xs and what is taken from ys
pub record Parted (zs xs ys : Words) : Type 0 where
  pub front : Words
  pub back : Words
  pub join : zs ≡ front ++ back
  pub of_front : IsSubsequence front xs
  pub of_back : IsSubsequence back ys

-- a subsequence of two lists together has a part from each
pub sub_parted : (xs ys zs : Words) → IsSubsequence zs (xs ++ ys) → Parted zs xs ys
sub_parted [] ys zs h = record { front = []; back = zs; join = refl; of_front = refl; of_back = h }
sub_parted (x ∷ xs) ys zs h = ⊎_elim
    (λ skipped. let p = sub_parted xs ys zs skipped in
    let r : Parted zs (x ∷ xs) ys = record {
      front = p.front;
      back = p.back;
      join = p.join;
      of_front = inl p.of_front;
      of_back =
          p.of_back;
    } in r)
    (λ (t : (rest : Words) × (zs ≡ x ∷ rest) × IsSubsequence rest (xs ++ ys)).
    let p = sub_parted xs ys t.0 t.2 in
    let r : Parted zs (x ∷ xs) ys = record {
      front = x ∷ p.front;
      back = p.back;
      join = t.1 ∙ ap (λ (l : Words). x ∷ l) p.join;
      of_front = inr (p.front, refl, p.of_front);
      of_back = p.of_back;
    } in r)
    h

nil_front : (a c : Words) → a ++ c ≡ [] → a ≡ []
nil_front [] c h = refl
nil_front (x ∷ a) c h = absurd (cc)

-- the front of a subsequence is one
pub sub_front : (xs a c : Words) → IsSubsequence (a ++ c) xs → IsSubsequence a xs
sub_front [] a c h = nil_front a c h
sub_front (x ∷ xs) [] c h = sub_nil (x ∷ xs)
sub_front (x ∷ xs) (y ∷ a) c h = ⊎_elim (λ skipped. inl (sub_front xs (y ∷ a) c skipped))
    (λ (t : (rest : Words) × (y ∷ (a ++ c) ≡ x ∷ rest) × IsSubsequence rest xs).
    let e = t.1 in
    let first : y ≡ x = cc in
    let others : a ++ c ≡ t.0 = cc in
    inr (a, ap (λ (w : List ℕ). w ∷ a) first, sub_front xs a c (subst (λ (l : Words). IsSubsequence l xs) (sym others) t.2)))
    h

sub_tail : (xs : Words) (z : List ℕ) (zs : Words) → IsSubsequence (z ∷ zs) xs → IsSubsequence zs xs
sub_tail [] z zs h = absurd (cc)
sub_tail (x ∷ xs) z zs h = ⊎_elim (λ skipped. inl (sub_tail xs z zs skipped))
    (λ (t : (rest : Words) × (z ∷ zs ≡ x ∷ rest) × IsSubsequence rest xs).
    let e = t.1 in
    let others : t.0 ≡ zs = cc in
    inl (subst (λ (l : Words). IsSubsequence l xs) others t.2))
    h

-- and its end too
pub sub_back : (xs a c : Words) → IsSubsequence (a ++ c) xs → IsSubsequence c xs
sub_back xs [] c h = h
sub_back xs (y ∷ a) c h = sub_back xs a c (sub_tail xs y (a ++ c) h)

-- of two partings of a list, the longer front begins with the shorter one
front_in : (a b c d : Words) → a ++ b ≡ c ++ d → length a ≤ length c → (more : Words) × (c ≡ a ++ more)
front_in [] b c d e le = (c, refl)
front_in (x ∷ a) b [] d e le = absurd (omega arith)
front_in (x ∷ a) b (y ∷ c) d e le =
    let same : x ≡ y = cc in
    let others : a ++ b ≡ c ++ d = cc in
    let t = front_in a b c d others (omega arith) in
    (t.0, (λ i. sym same i ∷ t.1 i))

-- and the longer back ends with the shorter one
back_in : (a b c d : Words) → a ++ b ≡ c ++ d → length b ≤ length d → (more : Words) × (d ≡ more ++ b)
back_in a b [] d e le = (a, sym e)
back_in [] b (y ∷ c) d e le = absurd (omega (arith, ap length e, length-append c d))
back_in (x ∷ a) b (y ∷ c) d e le =
    let others : a ++ b ≡ c ++ d = cc in
    back_in a b c d others le

-- no common subsequence of xs and ys has more than n words
pub record AtMost (xs ys : Words) (n : ℕ) : Type 0 where
  pub bound : (zs : Words) → IsSubsequence zs xs → IsSubsequence zs ys → length zs ≤ n

-- what both begin with adds its length, and no more
pub at_most-front : (p xs ys : Words) (n : ℕ) → AtMost xs ys n → AtMost (p ++ xs) (p ++ ys) (length p + n)
at_most-front p xs ys n most = record {
  bound = λ zs h k.
      let s = sub_parted p xs zs h in
      let t = sub_parted p ys zs k in
      let same : s.front ++ s.back ≡ t.front ++ t.back = sym s.join ∙ t.join in
      ⊎_elim
      (λ (lt : length s.back < length t.back).
      let more = back_in s.front s.back t.front t.back same (omega arith) in
      let of_both : IsSubsequence s.back ys = sub_back ys more.0 s.back (subst (λ (l : Words). IsSubsequence l ys) more.1 t.of_back) in
      omega (arith, ap length s.join, length-append s.front s.back, sub_length p s.front s.of_front, most.bound s.back s.of_back of_both))
      (λ le.
      let more = back_in t.front t.back s.front s.back (sym same) le in
      let of_both : IsSubsequence t.back xs = sub_back xs more.0 t.back (subst (λ (l : Words). IsSubsequence l xs) more.1 s.of_back) in
      omega (arith, ap length t.join, length-append t.front t.back, sub_length p t.front t.of_front, most.bound t.back of_both t.of_back))
      (order (length s.back) (length t.back));
}

-- and so does what both end with
pub at_most-back : (e xs ys : Words) (n : ℕ) → AtMost xs ys n → AtMost (xs ++ e) (ys ++ e) (n + length e)
at_most-back e xs ys n most = record {
  bound = λ zs h k.
      let s = sub_parted xs e zs h in
      let t = sub_parted ys e zs k in
      let same : s.front ++ s.back ≡ t.front ++ t.back = sym s.join ∙ t.join in
      ⊎_elim
      (λ (lt : length s.front < length t.front).
      let more = front_in s.front s.back t.front t.back same (omega arith) in
      let of_both : IsSubsequence s.front ys = sub_front ys s.front more.0 (subst (λ (l : Words). IsSubsequence l ys) more.1 t.of_front) in
      omega (arith, ap length s.join, length-append s.front s.back, sub_length e s.back s.of_back, most.bound s.front s.of_front of_both))
      (λ le.
      let more = front_in t.front t.back s.front s.back (sym same) le in
      let of_both : IsSubsequence t.front xs = sub_front xs t.front more.0 (subst (λ (l : Words). IsSubsequence l xs) more.1 s.of_front) in
      omega (arith, ap length t.join, length-append t.front t.back, sub_length e t.back t.of_back, most.bound t.front of_both t.of_front))
      (order (length s.front) (length t.front));
}
