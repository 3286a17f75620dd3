-- The steps of two changes, joined: what is found is of both, and is found wherever there is one.
use Rattle.std.proofs.Common.{◌≡◌, ℕ, zero, suc, ◌<◌, ◌+◌, ◌-◌, Bool, true, false, ◌&&◌, List, [], ◌∷◌, ◌++◌, length, drop, refl, ap, sym, subst, ◌∙◌, append_assoc, append-nil, arith, cond, Option, None, Some}
use Rattle.std.proofs.lemmas.Bool.{and_parts, false≢true}
use Rattle.std.proofs.lemmas.List.{length-map}
use Rattle.std.proofs.lemmas.Option.{none-some, same_Some}
use Rattle.std.specs.Option.{option_map}
use Rattle.usfm_ref.proofs.Orders.{same_bytes-is, same_bytes-refl}
use Rattle.word_diff.specs.declared.part.Kind.{Kind}
use Rattle.word_diff.specs.declared.part.Kind.TheVariants as kinds
use Rattle.word_diff.specs.declared.part.Part.{Part}
use Rattle.word_diff.specs.Parts.{Span, span, spans}
use Rattle.word_diff.specs.Words.{joined, same_word}
use Rattle.word_merge.specs.Pieces.{Piece, are_apart, is_of_both, owner, stand_apart, words_where}
use Rattle.word_merge.specs.Steps.{AreOfBoth, is_step_of_one, is_step_of_other, kind_for_one, kind_for_other, one_steps, other_steps}
use Rattle.word_merge.specs.Merging.{NextView, Ends, Sticks, Goes, after, alone_by, both_text, goes, kept_word, merge, merged, next, of_kinds, of_word, onward}
use Rattle.word_merge.specs.declared.fate.Fate.{Fate}
use Rattle.word_merge.specs.declared.fate.Fate.TheVariants.{Kept, OneRemoves, OneAdds, OtherRemoves, OtherAdds}
use Rattle.word_merge.specs.declared.fate.Owner.{Owner}
use Rattle.word_merge.specs.declared.fate.Owner.TheVariants.{Nobody, One, Other}
use Rattle.word_merge.proofs.Fated.{piece, pieces_few}

abbrev step : Kind → List ℕ → Span
step kind w = record { kind = kind; bytes = w }

-- ---- what is found is of both

-- a word, and then the steps after the first, where it is one of them, are the steps
record Fits (before : Owner) (xs ys : List Span) (fate : Fate) (w : List ℕ) : Type 0 where
  one : cond (is_step_of_one fate) (step (kind_for_one fate) w ∷ after (is_step_of_one fate) xs) (after (is_step_of_one fate) xs) ≡ xs
  other :
      cond (is_step_of_other fate) (step (kind_for_other fate) w ∷ after (is_step_of_other fate) ys) (after (is_step_of_other fate) ys) ≡ ys
  apart : are_apart before (owner fate) ≡ true

abbrev IsGood : Owner → List Span → List Span → NextView → Type 0
IsGood before xs ys Ends = (xs ≡ []) × (ys ≡ [])
IsGood before xs ys Sticks = Unit {0}
IsGood before xs ys (Goes fate w) = Fits before xs ys fate w

goes_good : (before : Owner) (xs ys : List Span) (fate : Fate) (w : List ℕ)
    → cond (is_step_of_one fate) (step (kind_for_one fate) w ∷ after (is_step_of_one fate) xs) (after (is_step_of_one fate) xs) ≡ xs
    → cond (is_step_of_other fate) (step (kind_for_other fate) w ∷ after (is_step_of_other fate) ys) (after (is_step_of_other fate) ys) ≡ ys
    → IsGood before xs ys (goes before fate w)
goes_good before xs ys fate w one other = by (are_apart before (owner fate)) refl
  where
    by : (b : Bool) → are_apart before (owner fate) ≡ b → IsGood before xs ys (cond b (Goes fate w) Sticks)
    by true e = record { one = one; other = other; apart = e }
    by false e = tt

word_good : (before : Owner) (xs ys : List Span) (fate : Fate) (w v : List ℕ)
    → (w ≡ v →
    cond (is_step_of_one fate) (step (kind_for_one fate) w ∷ after (is_step_of_one fate) xs) (after (is_step_of_one fate) xs) ≡ xs)
    → (w ≡ v →
    cond (is_step_of_other fate) (step (kind_for_other fate) w ∷ after (is_step_of_other fate) ys) (after (is_step_of_other fate) ys)
    ≡ ys)
    → IsGood before xs ys (of_word before fate w v)
word_good before xs ys fate w v one other = by (same_word w v) refl
  where
    by : (b : Bool) → same_word w v ≡ b → IsGood before xs ys (cond b (goes before fate w) Sticks)
    by true e = let is = same_bytes-is w v e in goes_good before xs ys fate w (one is) (other is)
    by false e = tt

two_good : (before : Owner) (j k : Kind) (w v : List ℕ) (xs ys : List Span)
    → IsGood before (step j w ∷ xs) (step k v ∷ ys) (of_kinds before j k w v)
two_good before kinds.Kept kinds.Kept w v xs ys =
    word_good before _ _ Kept w v (λ e. refl) (λ e. ap (λ (u : List ℕ). step kinds.Kept u ∷ ys) e)
two_good before kinds.Kept kinds.Removed w v xs ys =
    word_good before _ _ OtherRemoves w v (λ e. refl) (λ e. ap (λ (u : List ℕ). step kinds.Removed u ∷ ys) e)
two_good before kinds.Kept kinds.Added w v xs ys = goes_good before _ _ OtherAdds v refl refl
two_good before kinds.Removed kinds.Kept w v xs ys =
    word_good before _ _ OneRemoves w v (λ e. refl) (λ e. ap (λ (u : List ℕ). step kinds.Kept u ∷ ys) e)
two_good before kinds.Removed kinds.Removed w v xs ys = tt
two_good before kinds.Removed kinds.Added w v xs ys = goes_good before _ _ OtherAdds v refl refl
two_good before kinds.Added kinds.Kept w v xs ys = goes_good before _ _ OneAdds w refl refl
two_good before kinds.Added kinds.Removed w v xs ys = goes_good before _ _ OneAdds w refl refl
two_good before kinds.Added kinds.Added w v xs ys = tt

one_good : (before : Owner) (k : Kind) (w : List ℕ) (xs : List Span) → IsGood before (step k w ∷ xs) [] (alone_by before k w OneAdds)
one_good before kinds.Kept w xs = tt
one_good before kinds.Removed w xs = tt
one_good before kinds.Added w xs = goes_good before _ _ OneAdds w refl refl

other_good : (before : Owner) (k : Kind) (w : List ℕ) (ys : List Span) → IsGood before [] (step k w ∷ ys) (alone_by before k w OtherAdds)
other_good before kinds.Kept w ys = tt
other_good before kinds.Removed w ys = tt
other_good before kinds.Added w ys = goes_good before _ _ OtherAdds w refl refl

next_good : (before : Owner) (xs ys : List Span) → IsGood before xs ys (next before xs ys)
next_good before [] [] = (refl, refl)
next_good before [] (y ∷ ys) = other_good before y.kind y.bytes ys
next_good before (x ∷ xs) [] = one_good before x.kind x.bytes xs
next_good before (x ∷ xs) (y ∷ ys) = two_good before x.kind y.kind x.bytes y.bytes xs ys

-- pieces are of these steps
pub record AreOf (before : Owner) (xs ys : List Span) (ss : List Piece) : Type 0 where
  pub one : one_steps ss ≡ xs
  pub other : other_steps ss ≡ ys
  pub apart : stand_apart before ss ≡ true

and_true : (a b : Bool) → a ≡ true → b ≡ true → (a && b) ≡ true
and_true a b p q = ap (λ (c : Bool). c && b) p ∙ q

more_of : (before : Owner) (xs ys : List Span) (fate : Fate) (w : List ℕ) (ss : List Piece) → Fits before xs ys fate w
    → AreOf (owner fate) (after (is_step_of_one fate) xs) (after (is_step_of_other fate) ys) ss → AreOf before xs ys (piece fate w ∷ ss)
more_of before xs ys fate w ss fits of = record {
  one = ap (λ (l : List Span). cond (is_step_of_one fate) (step (kind_for_one fate) w ∷ l) l) of.one ∙ fits.one;
  other = ap (λ (l : List Span). cond (is_step_of_other fate) (step (kind_for_other fate) w ∷ l) l) of.other ∙ fits.other;
  apart = and_true _ _ fits.apart of.apart;
}

-- what is found by this many looks is of the steps
abbrev Finds : ℕ → Type 0
Finds n = (before : Owner) (xs ys : List Span) (ss : List Piece) → merge n before xs ys ≡ Some ss → AreOf before xs ys ss

found_more : (n : ℕ) (before : Owner) (xs ys : List Span) (ss : List Piece) (fate : Fate) (w : List ℕ) (found : Option (List Piece))
    → Finds n
    → Fits before xs ys fate w → merge n (owner fate) (after (is_step_of_one fate) xs) (after (is_step_of_other fate) ys) ≡ found
    → option_map (λ (l : List Piece). piece fate w ∷ l) found ≡ Some ss → AreOf before xs ys ss
found_more n before xs ys ss fate w None finds fits m e = absurd (none-some ss e)
found_more n before xs ys ss fate w (Some later) finds fits m e =
    subst (AreOf before xs ys) (same_Some (piece fate w ∷ later) ss e)
    (more_of before xs ys fate w later fits
    (finds (owner fate) (after (is_step_of_one fate) xs) (after (is_step_of_other fate) ys) later m))

found_next : (n : ℕ) (before : Owner) (xs ys : List Span) (ss : List Piece) (v : NextView) → Finds n → IsGood before xs ys v
    → onward (merge n) xs ys v ≡ Some ss → AreOf before xs ys ss
found_next n before xs ys ss Ends finds good e =
    subst (AreOf before xs ys) (same_Some [] ss e) (record { one = sym good.0; other = sym good.1; apart = refl })
found_next n before xs ys ss Sticks finds good e = absurd (none-some ss e)
found_next n before xs ys ss (Goes fate w) finds good e =
    found_more n before xs ys ss fate w (merge n (owner fate) (after (is_step_of_one fate) xs) (after (is_step_of_other fate) ys))
    finds good refl e

pub found_of : (n : ℕ) (before : Owner) (xs ys : List Span) (ss : List Piece) → merge n before xs ys ≡ Some ss → AreOf before xs ys ss
unfolding merge
found_of zero before xs ys ss h = absurd (none-some ss h)
found_of (suc n) before xs ys ss h = found_next n before xs ys ss (next before xs ys) (found_of n) (next_good before xs ys) h

-- ---- and it is found

abbrev IsNotAdded : Kind → Type 0
IsNotAdded kinds.Kept = Unit {0}
IsNotAdded kinds.Removed = Unit {0}
IsNotAdded kinds.Added = ⊥

-- no step is added first
abbrev IsFree : List Span → Type 0
IsFree [] = Unit {0}
IsFree (s ∷ ss) = IsNotAdded s.kind

second : (a b : Bool) → (a && b) ≡ true → b ≡ true
second a b h = (and_parts a b h).1

-- after a change of the one nothing is added by the other
other_free : (ss : List Piece) → stand_apart One ss ≡ true → IsFree (other_steps ss)
other_free [] a = tt
other_free (s ∷ ss) a = by s.fate a (other_free ss)
  where
    by : (fate : Fate) → stand_apart One (piece fate s.bytes ∷ ss) ≡ true → (stand_apart One ss ≡ true → IsFree (other_steps ss))
        → IsFree (other_steps (piece fate s.bytes ∷ ss))
    by Kept b later = tt
    by OneRemoves b later = tt
    by OneAdds b later = later b
    by OtherRemoves b later = tt
    by OtherAdds b later = absurd (false≢true b)

-- nor by the one after a change of the other
one_free : (ss : List Piece) → stand_apart Other ss ≡ true → IsFree (one_steps ss)
one_free [] a = tt
one_free (s ∷ ss) a = by s.fate a (one_free ss)
  where
    by : (fate : Fate) → stand_apart Other (piece fate s.bytes ∷ ss) ≡ true → (stand_apart Other ss ≡ true → IsFree (one_steps ss))
        → IsFree (one_steps (piece fate s.bytes ∷ ss))
    by Kept b later = tt
    by OneRemoves b later = tt
    by OneAdds b later = absurd (false≢true b)
    by OtherRemoves b later = tt
    by OtherAdds b later = later b

goes_on : (before : Owner) (fate : Fate) (w : List ℕ) → are_apart before (owner fate) ≡ true → goes before fate w ≡ Goes fate w
goes_on before fate w h = ap (λ (b : Bool). cond b (Goes fate w) Sticks) h

word_goes : (before : Owner) (fate : Fate) (w : List ℕ) → are_apart before (owner fate) ≡ true → of_word before fate w w ≡ Goes fate w
word_goes before fate w h = ap (λ (b : Bool). cond b (goes before fate w) Sticks) (same_bytes-refl w) ∙ goes_on before fate w h

one_adds : (before : Owner) (w : List ℕ) (xs ys : List Span) → IsFree ys → are_apart before One ≡ true
    → next before (step kinds.Added w ∷ xs) ys ≡ Goes OneAdds w
one_adds before w xs [] free h = goes_on before OneAdds w h
one_adds before w xs (y ∷ ys) free h = by y.kind free
  where
    by : (k : Kind) → IsNotAdded k → of_kinds before kinds.Added k w y.bytes ≡ Goes OneAdds w
    by kinds.Kept f = goes_on before OneAdds w h
    by kinds.Removed f = goes_on before OneAdds w h
    by kinds.Added f = absurd f

other_adds : (before : Owner) (w : List ℕ) (xs ys : List Span) → IsFree xs → are_apart before Other ≡ true
    → next before xs (step kinds.Added w ∷ ys) ≡ Goes OtherAdds w
other_adds before w [] ys free h = goes_on before OtherAdds w h
other_adds before w (x ∷ xs) ys free h = by x.kind free
  where
    by : (k : Kind) → IsNotAdded k → of_kinds before k kinds.Added x.bytes w ≡ Goes OtherAdds w
    by kinds.Kept f = goes_on before OtherAdds w h
    by kinds.Removed f = goes_on before OtherAdds w h
    by kinds.Added f = absurd f

next_is : (before : Owner) (fate : Fate) (w : List ℕ) (ss : List Piece) → are_apart before (owner fate) ≡ true
    → stand_apart (owner fate) ss ≡ true → next before (one_steps (piece fate w ∷ ss)) (other_steps (piece fate w ∷ ss)) ≡ Goes fate w
next_is before Kept w ss h a = word_goes before Kept w h
next_is before OneRemoves w ss h a = word_goes before OneRemoves w h
next_is before OneAdds w ss h a = one_adds before w (one_steps ss) (other_steps ss) (other_free ss a) h
next_is before OtherRemoves w ss h a = word_goes before OtherRemoves w h
next_is before OtherAdds w ss h a = other_adds before w (one_steps ss) (other_steps ss) (one_free ss a) h

left_one : (fate : Fate) (w : List ℕ) (ss : List Piece) → after (is_step_of_one fate) (one_steps (piece fate w ∷ ss)) ≡ one_steps ss
left_one Kept w ss = refl
left_one OneRemoves w ss = refl
left_one OneAdds w ss = refl
left_one OtherRemoves w ss = refl
left_one OtherAdds w ss = refl

left_other : (fate : Fate) (w : List ℕ) (ss : List Piece) → after (is_step_of_other fate) (other_steps (piece fate w ∷ ss)) ≡ other_steps ss
left_other Kept w ss = refl
left_other OneRemoves w ss = refl
left_other OneAdds w ss = refl
left_other OtherRemoves w ss = refl
left_other OtherAdds w ss = refl

pub is_found : (n : ℕ) (before : Owner) (ss : List Piece) → stand_apart before ss ≡ true → length ss < n
    → merge n before (one_steps ss) (other_steps ss) ≡ Some ss
unfolding merge
is_found zero before ss a few = absurd (omega (arith, few))
is_found (suc n) before [] a few = refl
is_found (suc n) before (s ∷ ss) a few =
    let fate = s.fate in
    let w = s.bytes in
    let parts = and_parts (are_apart before (owner fate)) (stand_apart (owner fate) ss) a in
    let xs = one_steps (s ∷ ss) in
    let ys = other_steps (s ∷ ss) in
    let cons : Option (List Piece) → Option (List Piece) = option_map (λ (l : List Piece). s ∷ l) in
    ap (onward (merge n) xs ys) (next_is before fate w ss parts.0 parts.1)
    ∙ ap (λ (l : List Span). cons (merge n (owner fate) l (after (is_step_of_other fate) ys))) (left_one fate w ss)
    ∙ ap (λ (l : List Span). cons (merge n (owner fate) (one_steps ss) l)) (left_other fate w ss)
    ∙ ap cons (is_found n (owner fate) ss parts.1 (omega (arith, few)))

-- ---- what a caller needs of both

-- the pieces of what is found
pub pieces_found : (xs ys : List Span) (text : List ℕ) → merged xs ys ≡ Some text
    → (ss : List Piece) × (AreOfBoth xs ys ss) × (both_text ss ≡ text)
pieces_found xs ys text h = by (merge (length xs + length ys + 1) Nobody xs ys) refl h
  where
    by : (found : Option (List Piece)) → merge (length xs + length ys + 1) Nobody xs ys ≡ found
        → option_map both_text found ≡ Some text → (ss : List Piece) × (AreOfBoth xs ys ss) × (both_text ss ≡ text)
    by None m e = absurd (none-some text e)
    by (Some ss) m e =
        let of = found_of (length xs + length ys + 1) Nobody xs ys ss m in
        (ss, record { one = of.one; other = of.other; apart = of.apart }, same_Some (both_text ss) text e)

-- where there are pieces, something is found
pub none_found : (xs ys : List Span) → merged xs ys ≡ None → (ss : List Piece) → AreOfBoth xs ys ss → ⊥
none_found xs ys h ss of =
    let few : length ss < length xs + length ys + 1 =
    omega (arith, pieces_few ss, ap (λ (l : List Span). length l) of.one, ap (λ (l : List Span). length l) of.other) in
    let found = is_found (length xs + length ys + 1) Nobody ss of.apart few in
    let here : merge (length xs + length ys + 1) Nobody xs ys ≡ Some ss =
    sym (λ i. merge (length xs + length ys + 1) Nobody (of.one i) (of.other i)) ∙ found in
    none-some (both_text ss) (sym h ∙ ap (option_map both_text) here)

-- ---- what the loop keeps

-- where some are left to be found, the next is looked at
pub merge_at : (n : ℕ) (before : Owner) (xs ys : List Span) → 0 < n
    → merge n before xs ys ≡ onward (merge (n - 1)) xs ys (next before xs ys)
unfolding merge
merge_at zero before xs ys some = absurd (omega (arith, some))
merge_at (suc n) before xs ys some =
    let e : suc n - 1 ≡ n = omega arith in
    ap (λ (k : ℕ). onward (merge k) xs ys (next before xs ys)) (sym e)

mapped : (made rest : List ℕ) (fate : Fate) (w : List ℕ) (found : Option (List Piece))
    → option_map (λ (ss : List Piece). made ++ both_text ss) (option_map (λ (ss : List Piece). piece fate w ∷ ss) found)
    ≡ option_map (λ (ss : List Piece). (made ++ kept_word fate w) ++ both_text ss) found
mapped made rest fate w None = refl
mapped made rest fate w (Some ss) =
    ap (λ (t : List ℕ). Some (made ++ t)) (by (is_of_both fate)) ∙ ap Some (sym (append_assoc made (kept_word fate w) (both_text ss)))
  where
    by : (b : Bool) → joined (cond b (w ∷ words_where is_of_both ss) (words_where is_of_both ss)) ≡ cond b w [] ++ both_text ss
    by true = refl
    by false = refl

abbrev pub so_far : List ℕ → Option (List Piece) → Option (List ℕ)
so_far made found = option_map (λ (ss : List Piece). made ++ both_text ss) found

-- a word more
pub goes_step : (n : ℕ) (before : Owner) (xs ys : List Span) (fate : Fate) (w made more : List ℕ) (whole : Option (List ℕ)) → 0 < n
    → Goes fate w ≡ next before xs ys → more ≡ made ++ kept_word fate w → whole ≡ so_far made (merge n before xs ys)
    → whole ≡ so_far more (merge (n - 1) (owner fate) (after (is_step_of_one fate) xs) (after (is_step_of_other fate) ys))
goes_step n before xs ys fate w made more whole some is pushed so =
    so ∙ ap (so_far made) (merge_at n before xs ys some ∙ ap (onward (merge (n - 1)) xs ys) (sym is))
    ∙ mapped made [] fate w (merge (n - 1) (owner fate) (after (is_step_of_one fate) xs) (after (is_step_of_other fate) ys))
    ∙ ap (λ (t : List ℕ). so_far t (merge (n - 1) (owner fate) (after (is_step_of_one fate) xs) (after (is_step_of_other fate) ys)))
    (sym pushed)

-- nothing more
pub ends_so : (n : ℕ) (before : Owner) (xs ys : List Span) (made : List ℕ) (whole : Option (List ℕ)) → 0 < n
    → Ends ≡ next before xs ys → whole ≡ so_far made (merge n before xs ys) → Some made ≡ whole
ends_so n before xs ys made whole some is so =
    sym (so ∙ ap (so_far made) (merge_at n before xs ys some ∙ ap (onward (merge (n - 1)) xs ys) (sym is))
    ∙ ap Some (append-nil made))

-- nothing that is apart
pub sticks_so : (n : ℕ) (before : Owner) (xs ys : List Span) (made : List ℕ) (whole : Option (List ℕ)) → 0 < n
    → Sticks ≡ next before xs ys → whole ≡ so_far made (merge n before xs ys) → None ≡ whole
sticks_so n before xs ys made whole some is so =
    sym (so ∙ ap (so_far made) (merge_at n before xs ys some ∙ ap (onward (merge (n - 1)) xs ys) (sym is)))

none_left : (n : ℕ) (before : Owner) (xs ys : List Span) → n ≡ 0 → merge n before xs ys ≡ None
unfolding merge
none_left zero before xs ys e = refl
none_left (suc n) before xs ys e = absurd (omega (arith, e))

-- as many as there can be
pub all_looked : (n : ℕ) (before : Owner) (xs ys : List Span) (made : List ℕ) (whole : Option (List ℕ)) → n ≡ 0
    → whole ≡ so_far made (merge n before xs ys) → None ≡ whole
all_looked n before xs ys made whole e so = sym (so ∙ ap (so_far made) (none_left n before xs ys e))

-- at first
pub begins_so : (one other : List Part) (n : ℕ) (made : List ℕ) → n ≡ length one + length other + 1 → made ≡ []
    → merged (spans one) (spans other) ≡ so_far made (merge n Nobody (spans one) (spans other))
begins_so one other n made few none =
    let e : length (spans one) + length (spans other) + 1 ≡ n = omega (arith, few, length-map one span, length-map other span) in
    ap (λ (k : ℕ). option_map both_text (merge k Nobody (spans one) (spans other))) e
    ∙ ap (λ (t : List ℕ). so_far t (merge n Nobody (spans one) (spans other))) (sym none)

spans_after : (b : Bool) (parts : List Part) → spans (cond b (drop 1 parts) parts) ≡ after b (spans parts)
spans_after true [] = refl
spans_after true (part ∷ later) = refl
spans_after false parts = refl

-- a word more, and what is left of the steps then
pub goes_so : (n : ℕ) (before now : Owner) (xs xs_left ys ys_left : List Part) (b_one b_other : Bool) (fate : Fate) (w made more : List ℕ)
    (whole : Option (List ℕ)) → 0 < n → Goes fate w ≡ next before (spans xs) (spans ys) → more ≡ made ++ kept_word fate w
    → whole ≡ so_far made (merge n before (spans xs) (spans ys)) → now ≡ owner fate → b_one ≡ is_step_of_one fate
    → xs_left ≡ cond b_one (drop 1 xs) xs → b_other ≡ is_step_of_other fate → ys_left ≡ cond b_other (drop 1 ys) ys
    → whole ≡ so_far more (merge (n - 1) now (spans xs_left) (spans ys_left))
goes_so n before now xs xs_left ys ys_left b_one b_other fate w made more whole some is pushed so owned one xs_is other ys_is =
    let ones : spans xs_left ≡ after (is_step_of_one fate) (spans xs) =
    ap spans xs_is ∙ spans_after b_one xs ∙ ap (λ (b : Bool). after b (spans xs)) one in
    let others : spans ys_left ≡ after (is_step_of_other fate) (spans ys) =
    ap spans ys_is ∙ spans_after b_other ys ∙ ap (λ (b : Bool). after b (spans ys)) other in
    goes_step n before (spans xs) (spans ys) fate w made more whole some is pushed so
    ∙ sym (λ i. so_far more (merge (n - 1) (owned i) (ones i) (others i)))
