-- What the steps of a comparison make of both lists of words.
use Rattle.std.proofs.Common.{◌≡◌, ℕ, ◌+◌, ◌-◌, true, List, [], ◌∷◌, ◌++◌, length, take, drop, sym, refl, ap, ◌∙◌, subst, inl, inr, arith, cond, append_assoc, length-append, length-drop, take-append-drop, Bor}
use Rattle.std.proofs.lemmas.List.{append-nil, drop-drop}
use Rattle.std.proofs.lemmas.List.Sums.{common_prefix_len-le}
use Rattle.word_diff.specs.declared.part.Kind.{Kind}
use Rattle.word_diff.specs.declared.part.Kind.TheVariants.{Kept, Removed, Added}
use Rattle.word_diff.specs.Common.{IsSubsequence, IsCommonSubsequence, IsLongest, AreFew, AreMany, front_len, end_len, common_ends}
use Rattle.word_diff.specs.Kinds.{is_kept, is_new, is_old}
use Rattle.word_diff.specs.Parts.{Span, texts_of}
use Rattle.word_diff.specs.Steps.{AddsEach, AddsLongest, Compares, may_stand}
use Rattle.word_diff.specs.Table.{common_len}
use Rattle.word_diff.specs.Words.{same_word, texts}
use Rattle.word_diff.proofs.EndLemmas.{front_same, end_len-le, end_same, length-texts, texts-take, texts-drop}
use Rattle.word_diff.proofs.Lengths.{common_len-most}
use Rattle.word_diff.proofs.OrderLemmas.{stand_kept, stand_added, at_last_all, added_ordered, front_last, front_ordered}
use Rattle.word_diff.proofs.PartLemmas.{each_texts}
use Rattle.word_diff.proofs.Subsequences.{AtMost, at_most-front, at_most-back}

abbrev Words : Type 0
Words = List (List ℕ)

old_by : (k : Kind) (w : List ℕ) (kept old : Words) → IsSubsequence kept old
    → IsSubsequence (cond (is_kept k) (w ∷ kept) kept) (cond (is_old k) (w ∷ old) old)
old_by Kept w kept old h = inr (kept, refl, h)
old_by Removed w kept old h = inl h
old_by Added w kept old h = h

new_by : (k : Kind) (w : List ℕ) (kept new : Words) → IsSubsequence kept new
    → IsSubsequence (cond (is_kept k) (w ∷ kept) kept) (cond (is_new k) (w ∷ new) new)
new_by Kept w kept new h = inr (kept, refl, h)
new_by Removed w kept new h = h
new_by Added w kept new h = inl h

-- what is kept is taken from the old list
pub kept_old : (ss : List Span) → IsSubsequence (texts_of is_kept ss) (texts_of is_old ss)
kept_old [] = refl
kept_old (s ∷ ss) = old_by s.kind s.bytes (texts_of is_kept ss) (texts_of is_old ss) (kept_old ss)

-- and from the new one
pub kept_new : (ss : List Span) → IsSubsequence (texts_of is_kept ss) (texts_of is_new ss)
kept_new [] = refl
kept_new (s ∷ ss) = new_by s.kind s.bytes (texts_of is_kept ss) (texts_of is_new ss) (kept_new ss)

-- both lists have the same front and the same end
pub record Framed (xs ys front left right end : Words) : Type 0 where
  pub old : xs ≡ front ++ (left ++ end)
  pub new : ys ≡ front ++ (right ++ end)

framed_at : (xs : Words) (n e : ℕ) → xs ≡ take n xs ++ (take (length (drop n xs) - e) (drop n xs) ++ drop (length (drop n xs) - e)
    (drop n xs))
framed_at xs n e = sym
    (ap (λ (l : Words). take n xs ++ l) (take-append-drop (length (drop n xs) - e) (drop n xs)) ∙ take-append-drop n xs)

-- the common front, and the common end of the rest
pub framed : (xs ys : Words) → let n = front_len xs ys in let e = end_len (drop n xs) (drop n ys) in
    Framed xs ys (take n xs) (take (length (drop n xs) - e) (drop n xs)) (take (length (drop n ys) - e) (drop n ys))
    (drop (length (drop n xs) - e) (drop n xs))
framed xs ys =
    let n = front_len xs ys in
    let e = end_len (drop n xs) (drop n ys) in record {
      old = framed_at xs n e;
      new = framed_at ys n e
          ∙ (λ i. sym (front_same xs ys) i ++ (take (length (drop n ys) - e) (drop n ys) ++ sym (end_same (drop n xs) (drop n ys)) i));
    }

-- they are the front and the end that a long text is compared by
pub ends_are : (xs ys : Words) → let n = front_len xs ys in let e = end_len (drop n xs) (drop n ys) in
    common_ends xs ys ≡ take n xs ++ drop (length (drop n xs) - e) (drop n xs)
ends_are xs ys =
    let n = front_len xs ys in
    let e = end_len (drop n xs) (drop n ys) in
    let place : length xs - e ≡ n + (length (drop n xs) - e) =
    omega (arith, length-drop n xs, (common_prefix_len-le same_word xs ys).0, (end_len-le (drop n xs) (drop n ys)).0) in
    ap (λ (l : Words). take n xs ++ l) (ap (λ (k : ℕ). drop k xs) place ∙ sym (drop-drop (length (drop n xs) - e) n xs))

-- the steps are of these lists
pub record AreSteps (ss : List Span) (xs ys : Words) : Type 0 where
  pub old : texts_of is_old ss ≡ xs
  pub new : texts_of is_new ss ≡ ys

three : (front middle end : Words) → (front ++ middle) ++ end ≡ front ++ (middle ++ end)
three front middle end = append_assoc front middle end

-- what is kept in steps is common to both lists
pub steps_common : (ss : List Span) (xs ys : Words) → AreSteps ss xs ys → IsCommonSubsequence (texts_of is_kept ss) xs ys
steps_common ss xs ys are = record {
  of_first = subst (IsSubsequence (texts_of is_kept ss)) are.old (kept_old ss);
  of_second = subst (IsSubsequence (texts_of is_kept ss)) are.new (kept_new ss);
}

-- a front, a longest comparison and an end
pub longest_steps : (a b c : List Span) (xs ys front left right end : Words) → Framed xs ys front left right end
    → AddsEach [] a Kept front → AddsLongest a b left right → AddsEach b c Kept end → AreSteps c xs ys
longest_steps a b c xs ys front left right end f first middle last = record {
  old = each_texts last is_old ∙ ap (λ (l : Words). l ++ end) (middle.old ∙ ap (λ (l : Words). l ++ left) (each_texts first is_old))
      ∙ three front left end ∙ sym f.old;
  new = each_texts last is_new ∙ ap (λ (l : Words). l ++ end) (middle.new ∙ ap (λ (l : Words). l ++ right) (each_texts first is_new))
      ∙ three front right end ∙ sym f.new;
}

-- no common subsequence is longer than what they keep
pub longest_kept : (a b c : List Span) (xs ys front left right end : Words) → Framed xs ys front left right end
    → AddsEach [] a Kept front → AddsLongest a b left right → AddsEach b c Kept end
    → IsLongest (texts_of is_kept c) xs ys
longest_kept a b c xs ys front left right end f first middle last other common =
    let most : AtMost (front ++ (left ++ end)) (front ++ (right ++ end)) (length front + (common_len left right + length end)) =
    at_most-front front (left ++ end) (right ++ end) (common_len left right + length end)
    (at_most-back end left right (common_len left right) (common_len-most left right)) in
    let counted : length (texts_of is_kept c) ≡ length front + (common_len left right + length end) =
    omega (
      arith,
      ap length (each_texts last is_kept),
      length-append (texts_of is_kept b) end,
      middle.kept,
      ap length (each_texts first is_kept),
    ) in
    let le = most.bound other (subst (IsSubsequence other) f.old common.of_first) (subst (IsSubsequence other) f.new common.of_second) in
    omega (arith, le, counted)

-- a front, what is between on either side, and an end
pub ends_steps : (a b c d : List Span) (xs ys front left right end : Words) → Framed xs ys front left right end
    → AddsEach [] a Kept front → AddsEach a b Removed left → AddsEach b c Added right → AddsEach c d Kept end → AreSteps d xs ys
ends_steps a b c d xs ys front left right end f first removed added last = record {
  old = each_texts last is_old
      ∙ ap (λ (l : Words). l ++ end) (each_texts added is_old ∙ append-nil (texts_of is_old b) ∙ each_texts removed is_old
      ∙ ap (λ (l : Words). l ++ left) (each_texts first is_old))
      ∙ three front left end ∙ sym f.old;
  new = each_texts last is_new
      ∙ ap (λ (l : Words). l ++ end)
      (each_texts added is_new ∙ ap (λ (l : Words). l ++ right) (each_texts removed is_new ∙ append-nil (texts_of is_new a)
      ∙ each_texts first is_new))
      ∙ three front right end ∙ sym f.new;
}

-- keep the front and the end
pub ends_kept : (a b c d : List Span) (front left right end : Words)
    → AddsEach [] a Kept front → AddsEach a b Removed left → AddsEach b c Added right → AddsEach c d Kept end
    → texts_of is_kept d ≡ front ++ end
ends_kept a b c d front left right end first removed added last =
    each_texts last is_kept
    ∙ ap (λ (l : Words). l ++ end)
    (each_texts added is_kept ∙ append-nil (texts_of is_kept b) ∙ each_texts removed is_kept ∙ append-nil (texts_of is_kept a)
    ∙ each_texts first is_kept)

-- the parts that a comparison cuts both lists into
pub record Cut (old new front left right end : List (Bor (List ℕ))) : Type 0 where
  pub framed : Framed (texts old) (texts new) (texts front) (texts left) (texts right) (texts end)
  pub ends : common_ends (texts old) (texts new) ≡ texts front ++ texts end

-- the ends of what follows the front
pub rests_are : (old new front rest new_rest : List (Bor (List ℕ))) (f : ℕ) → f ≡ front_len (texts old) (texts new)
    → length front ≡ f → rest ≡ drop f old → new_rest ≡ drop (length front) new
    → (texts rest ≡ drop (front_len (texts old) (texts new)) (texts old)) × (texts new_rest ≡ drop (front_len (texts old) (texts new))
    (texts new))
rests_are old new front rest new_rest f f_is front_len rest_is new_rest_is = (
  ap texts rest_is ∙ texts-drop f old ∙ ap (λ (k : ℕ). drop k (texts old)) f_is,
  ap texts new_rest_is ∙ texts-drop (length front) new ∙ ap (λ (k : ℕ). drop k (texts new)) (front_len ∙ f_is),
)

-- they are cut as their common front and end say
pub cut_is : (old new front rest new_rest left right end : List (Bor (List ℕ))) (f e : ℕ) → f ≡ front_len (texts old) (texts new)
    → length front ≡ f → front ≡ take f old → rest ≡ drop f old → new_rest ≡ drop (length front) new
    → e ≡ end_len (texts rest) (texts new_rest) → left ≡ take (length rest - e) rest → end ≡ drop (length rest - e) rest
    → right ≡ take (length new_rest - e) new_rest → Cut old new front left right end
cut_is old new front rest new_rest left right end f e f_is long front_is rest_is new_rest_is e_is left_is end_is right_is =
    let xs = texts old in
    let ys = texts new in
    let n = front_len xs ys in
    let rests = rests_are old new front rest new_rest f f_is long rest_is new_rest_is in
    let len : e ≡ end_len (drop n xs) (drop n ys) = e_is ∙ (λ i. end_len (rests.0 i) (rests.1 i)) in
    let old_len : length rest ≡ length (drop n xs) = sym (length-texts rest) ∙ ap length rests.0 in
    let new_len : length new_rest ≡ length (drop n ys) = sym (length-texts new_rest) ∙ ap length rests.1 in
    let a : take n xs ≡ texts front = sym (ap texts front_is ∙ texts-take f old ∙ ap (λ (k : ℕ). take k xs) f_is) in
    let b : take (length (drop n xs) - end_len (drop n xs) (drop n ys)) (drop n xs) ≡ texts left =
    sym (ap texts left_is ∙ texts-take (length rest - e) rest ∙ (λ i. take (old_len i - len i) (rests.0 i))) in
    let c : take (length (drop n ys) - end_len (drop n xs) (drop n ys)) (drop n ys) ≡ texts right =
    sym (ap texts right_is ∙ texts-take (length new_rest - e) new_rest ∙ (λ i. take (new_len i - len i) (rests.1 i))) in
    let d : drop (length (drop n xs) - end_len (drop n xs) (drop n ys)) (drop n xs) ≡ texts end =
    sym (ap texts end_is ∙ texts-drop (length rest - e) rest ∙ (λ i. drop (old_len i - len i) (rests.0 i))) in
    let last = drop (length (drop n xs) - end_len (drop n xs) (drop n ys)) (drop n xs) in
    let right_part = take (length (drop n ys) - end_len (drop n xs) (drop n ys)) (drop n ys) in
    let left_part = take (length (drop n xs) - end_len (drop n xs) (drop n ys)) (drop n xs) in
    record {
      framed = subst (λ (w : Words). Framed xs ys (texts front) (texts left) (texts right) w) d
          (subst (λ (w : Words). Framed xs ys (texts front) (texts left) w last) c
          (subst (λ (w : Words). Framed xs ys (texts front) w right_part last) b
          (subst (λ (w : Words). Framed xs ys w left_part right_part last) a (framed xs ys))));
      ends = ends_are xs ys ∙ (λ i. a i ++ d i);
    }

-- the middle compared by the table
pub compares_longest : (a b c : List Span) (xs ys front left right end : Words) → Framed xs ys front left right end
    → AddsEach [] a Kept front → AddsLongest a b left right → AddsEach b c Kept end → AreFew xs ys → Compares c xs ys
compares_longest a b c xs ys front left right end f first middle last few =
    let steps = longest_steps a b c xs ys front left right end f first middle last in record {
      old = steps.old;
      new = steps.new;
      common = steps_common c xs ys steps;
      longest = λ _. longest_kept a b c xs ys front left right end f first middle last;
      ends = λ many. absurd (omega (arith, few, many));
      ordered = added_ordered b c Kept end last (middle.ordered (front_ordered a front first) (front_last a front first))
          (at_last_all (λ (k : Kind). may_stand k Kept ≡ true) stand_kept b);
    }

-- and the middle left as it is
pub compares_ends : (a b c d : List Span) (xs ys front left right end : Words) → Framed xs ys front left right end
    → common_ends xs ys ≡ front ++ end → AddsEach [] a Kept front → AddsEach a b Removed left → AddsEach b c Added right
    → AddsEach c d Kept end → AreMany xs ys → Compares d xs ys
compares_ends a b c d xs ys front left right end f ends first removed added last many =
    let steps = ends_steps a b c d xs ys front left right end f first removed added last in record {
      old = steps.old;
      new = steps.new;
      common = steps_common d xs ys steps;
      longest = λ few. absurd (omega (arith, few, many));
      ends = λ _. ends_kept a b c d front left right end first removed added last ∙ sym ends;
      ordered = added_ordered c d Kept end last
          (added_ordered b c Added right added
          (added_ordered a b Removed left removed (front_ordered a front first) (front_last a front first))
          (at_last_all (λ (k : Kind). may_stand k Added ≡ true) stand_added b))
          (at_last_all (λ (k : Kind). may_stand k Kept ≡ true) stand_kept c);
    }
