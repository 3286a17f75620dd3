-- A walk through two lists of words along the table.
use Rattle.std.proofs.Common.{◌≡◌, ℕ, ◌+◌, ◌<◌, ◌≤◌, Bool, true, false, List, [], ◌∷◌, ◌++◌, length, take, drop, get_or, sym, refl, ap, ◌∙◌, arith, cond, ◌⊎◌, append_assoc, length-append, take-append-drop, ⊎_elim, subst, inr}
use Rattle.std.specs.Prelude.{max}
use Rattle.std.proofs.lemmas.List.{append-nil, take_more, drop_more, drop_all}
use Rattle.std.specs.Cmp.Lexicographic.{same_text}
use Rattle.word_diff.specs.declared.part.Kind.{Kind}
use Rattle.word_diff.specs.declared.part.Kind.TheVariants.{Kept, Removed, Added}
use Rattle.word_diff.specs.Kinds.{is_kept, is_new, is_old}
use Rattle.word_diff.specs.Parts.{Span, texts_of}
use Rattle.word_diff.specs.Steps.{AddsEach, AddsLongest, AreOrdered, AtLast, MayRemove, each, may_stand}
use Rattle.word_diff.specs.Table.{common_len}
use Rattle.word_diff.specs.Words.{same_word}
use Rattle.word_diff.proofs.Lengths.{common_len-grows}
use Rattle.word_diff.proofs.OrderLemmas.{stand_kept, stand_added, at_last_push, at_last_map, at_last_all, ordered_push, added_ordered}
use Rattle.word_diff.proofs.PartLemmas.{each_texts, texts_of-append}
use Rattle.word_diff.proofs.Rows.{common_len-cons, common_len-nil, common_len-none}

abbrev Words : Type 0
Words = List (List ℕ)

by_first : (xs ys : Words) (i j : ℕ) → i < length xs → j < length ys → common_len (drop i xs) (drop j ys)
    ≡ cond (same_word (get_or xs i []) (get_or ys j [])) (common_len (drop (i + 1) xs) (drop (j + 1) ys) + 1)
    (max (common_len (drop (i + 1) xs) (drop j ys)) (common_len (drop i xs) (drop (j + 1) ys)))
by_first xs ys i j in_xs in_ys =
    let old = drop_more xs i [] in_xs in
    let new = drop_more ys j [] in_ys in
    (λ k. common_len (old k) (new k)) ∙ common_len-cons (get_or xs i []) (get_or ys j []) (drop (i + 1) xs) (drop (j + 1) ys)
    ∙ (λ k. cond (same_word (get_or xs i []) (get_or ys j [])) (common_len (drop (i + 1) xs) (drop (j + 1) ys) + 1)
    (max (common_len (drop (i + 1) xs) (sym new k)) (common_len (sym old k) (drop (j + 1) ys))))

-- the steps are in order, and where the last one added a word, one of the old list would be lost if it were removed next
pub record OrderedOn (now : List Span) (xs ys : Words) (i j : ℕ) : Type 0 where
  pub ordered : AreOrdered now
  pub last : AtLast (λ k. may_stand k Removed ≡ false → common_len (drop (i + 1) xs) (drop j ys) < common_len (drop i xs) (drop j ys)) now

-- how far a walk has come: what it added are the words before i and j, and no longer common subsequence is lost
pub record Walked (before now : List Span) (xs ys : Words) (i j : ℕ) : Type 0 where
  pub in_old : i ≤ length xs
  pub in_new : j ≤ length ys
  pub old : texts_of is_old now ≡ texts_of is_old before ++ take i xs
  pub new : texts_of is_new now ≡ texts_of is_new before ++ take j ys
  pub kept : length (texts_of is_kept now) + common_len (drop i xs) (drop j ys) ≡ length (texts_of is_kept before) + common_len xs ys
  pub order : AreOrdered before → AtLast MayRemove before → OrderedOn now xs ys i j

never : (A : Type 0) (b : Bool) → b ≡ true → b ≡ false → A
never A b is other = absurd (cc)

may_by : (b : Bool) → (b ≡ false → ⊥) → b ≡ true
may_by true h = refl
may_by false h = absurd (h refl)

-- what holds of a last step of a kind that may be followed by what is removed
not_added : (k kind : Kind) (A : Type 0) → k ≡ kind → may_stand kind Removed ≡ true → may_stand k Removed ≡ false → A
not_added k kind A is may other = never A (may_stand k Removed) (ap (λ (l : Kind). may_stand l Removed) is ∙ may) other

-- nothing is added before the first step
pub walked_none : (before : List Span) (xs ys : Words) → Walked before before xs ys 0 0
walked_none before xs ys = record {
  in_old = omega arith;
  in_new = omega arith;
  old = sym (append-nil (texts_of is_old before));
  new = sym (append-nil (texts_of is_new before));
  kept = refl;
  order = λ are last. record {
    ordered = are;
    last = at_last_map MayRemove _ (λ k may other. never _ (may_stand k Removed) may other) before last;
  };
}

taken_more : (before ws : Words) (now : Words) (i : ℕ) → i < length ws → now ≡ before ++ take i ws
    → now ++ get_or ws i [] ∷ [] ≡ before ++ take (i + 1) ws
taken_more before ws now i lt is =
    ap (λ (l : Words). l ++ get_or ws i [] ∷ []) is ∙ append_assoc before (take i ws) (get_or ws i [] ∷ [])
    ∙ ap (λ (l : Words). before ++ l) (sym (take_more ws i [] lt))

one_part : (p : Kind → Bool) (now : List Span) (part : Span) (kind : Kind) (w : List ℕ) → part.kind ≡ kind → part.bytes ≡ w
    → texts_of p (now ++ part ∷ []) ≡ texts_of p now ++ cond (p kind) (w ∷ []) []
one_part p now part kind w is bytes = texts_of-append p now (part ∷ []) ∙ (λ k. texts_of p now ++ cond (p (is k)) (bytes k ∷ []) [])

-- a word that is the same in both is kept
pub walked_kept : (before now : List Span) (xs ys : Words) (i j : ℕ) (part : Span) → Walked before now xs ys i j
    → i < length xs → j < length ys → same_word (get_or xs i []) (get_or ys j []) ≡ true → part.kind ≡ Kept → part.bytes ≡ get_or xs i []
    → Walked before (now ++ part ∷ []) xs ys (i + 1) (j + 1)
walked_kept before now xs ys i j part w in_xs in_ys same kind bytes =
    let equal : get_or xs i [] ≡ get_or ys j [] = same_text (get_or xs i []) (get_or ys j []) (sym same) in
    let num = by_first xs ys i j in_xs in_ys
    ∙ ap (λ (b : Bool). cond b (common_len (drop (i + 1) xs) (drop (j + 1) ys) + 1)
    (max (common_len (drop (i + 1) xs) (drop j ys)) (common_len (drop i xs) (drop (j + 1) ys)))) same in
    let old : texts_of is_old (now ++ part ∷ []) ≡ texts_of is_old now ++ get_or xs i [] ∷ [] =
    one_part is_old now part Kept (get_or xs i []) kind bytes in
    let new : texts_of is_new (now ++ part ∷ []) ≡ texts_of is_new now ++ get_or xs i [] ∷ [] =
    one_part is_new now part Kept (get_or xs i []) kind bytes in
    let kept : texts_of is_kept (now ++ part ∷ []) ≡ texts_of is_kept now ++ get_or xs i [] ∷ [] =
    one_part is_kept now part Kept (get_or xs i []) kind bytes in
    record {
      in_old = omega arith;
      in_new = omega arith;
      old = old ∙ taken_more (texts_of is_old before) xs (texts_of is_old now) i in_xs w.old;
      new = new ∙ ap (λ (x : List ℕ). texts_of is_new now ++ x ∷ []) equal
          ∙ taken_more (texts_of is_new before) ys (texts_of is_new now) j in_ys w.new;
      kept = omega (arith, w.kept, num, ap length kept, length-append (texts_of is_kept now) (get_or xs i [] ∷ []));
      order = λ are last. record {
        ordered = ordered_push now part (w.order are last).ordered
            (at_last_all (λ (k : Kind). may_stand k part.kind ≡ true) (λ k. ap (may_stand k) kind ∙ stand_kept k) now);
        last = at_last_push _ now part (λ other. not_added part.kind Kept _ kind refl other);
      };
    }

-- a word of the old list is removed where no less is in common without it
pub walked_removed : (before now : List Span) (xs ys : Words) (i j : ℕ) (part : Span) → Walked before now xs ys i j
    → i < length xs → j < length ys → same_word (get_or xs i []) (get_or ys j []) ≡ false
    → common_len (drop i xs) (drop (j + 1) ys) ≤ common_len (drop (i + 1) xs) (drop j ys)
    → part.kind ≡ Removed → part.bytes ≡ get_or xs i []
    → Walked before (now ++ part ∷ []) xs ys (i + 1) j
walked_removed before now xs ys i j part w in_xs in_ys other le kind bytes =
    let num = by_first xs ys i j in_xs in_ys
    ∙ ap (λ (b : Bool). cond b (common_len (drop (i + 1) xs) (drop (j + 1) ys) + 1)
    (max (common_len (drop (i + 1) xs) (drop j ys)) (common_len (drop i xs) (drop (j + 1) ys)))) other in
    let old : texts_of is_old (now ++ part ∷ []) ≡ texts_of is_old now ++ get_or xs i [] ∷ [] =
    one_part is_old now part Removed (get_or xs i []) kind bytes in
    let new : texts_of is_new (now ++ part ∷ []) ≡ texts_of is_new now ++ [] =
    one_part is_new now part Removed (get_or xs i []) kind bytes in
    let kept : texts_of is_kept (now ++ part ∷ []) ≡ texts_of is_kept now ++ [] =
    one_part is_kept now part Removed (get_or xs i []) kind bytes in
    record {
      in_old = omega arith;
      in_new = w.in_new;
      old = old ∙ taken_more (texts_of is_old before) xs (texts_of is_old now) i in_xs w.old;
      new = new ∙ append-nil (texts_of is_new now) ∙ w.new;
      kept = omega (arith, w.kept, num, ap length kept, length-append (texts_of is_kept now) []);
      order = λ are last. record {
        ordered = ordered_push now part (w.order are last).ordered
            (at_last_map _ (λ (k : Kind). may_stand k part.kind ≡ true)
            (λ k lost. ap (may_stand k) kind ∙ may_by (may_stand k Removed) (λ other. let less = lost other in
            omega (arith, less, num, le)))
            now (w.order are last).last);
        last = at_last_push _ now part (λ other. not_added part.kind Removed _ kind refl other);
      };
    }

-- and a word of the new one is added where less would be in common without the old one's
pub walked_added : (before now : List Span) (xs ys : Words) (i j : ℕ) (part : Span) → Walked before now xs ys i j
    → i < length xs → j < length ys → same_word (get_or xs i []) (get_or ys j []) ≡ false
    → common_len (drop (i + 1) xs) (drop j ys) < common_len (drop i xs) (drop (j + 1) ys)
    → part.kind ≡ Added → part.bytes ≡ get_or ys j []
    → Walked before (now ++ part ∷ []) xs ys i (j + 1)
walked_added before now xs ys i j part w in_xs in_ys other le kind bytes =
    let num = by_first xs ys i j in_xs in_ys
    ∙ ap (λ (b : Bool). cond b (common_len (drop (i + 1) xs) (drop (j + 1) ys) + 1)
    (max (common_len (drop (i + 1) xs) (drop j ys)) (common_len (drop i xs) (drop (j + 1) ys)))) other in
    let old : texts_of is_old (now ++ part ∷ []) ≡ texts_of is_old now ++ [] =
    one_part is_old now part Added (get_or ys j []) kind bytes in
    let new : texts_of is_new (now ++ part ∷ []) ≡ texts_of is_new now ++ get_or ys j [] ∷ [] =
    one_part is_new now part Added (get_or ys j []) kind bytes in
    let kept : texts_of is_kept (now ++ part ∷ []) ≡ texts_of is_kept now ++ [] =
    one_part is_kept now part Added (get_or ys j []) kind bytes in
    record {
      in_old = w.in_old;
      in_new = omega arith;
      old = old ∙ append-nil (texts_of is_old now) ∙ w.old;
      new = new ∙ taken_more (texts_of is_new before) ys (texts_of is_new now) j in_ys w.new;
      kept = omega (arith, w.kept, num, ap length kept, length-append (texts_of is_kept now) []);
      order = λ are last. record {
        ordered = ordered_push now part (w.order are last).ordered
            (at_last_all (λ (k : Kind). may_stand k part.kind ≡ true) (λ k. ap (may_stand k) kind ∙ stand_added k) now);
        last = at_last_push _ now part (λ _.
            let grows = common_len-grows (drop (i + 1) xs) (get_or ys j []) (drop (j + 1) ys) in
            let there = ap (common_len (drop (i + 1) xs)) (drop_more ys j [] in_ys) in
            omega (arith, le, grows, there));
      };
    }

-- where one list is at its end, nothing more is in common
pub none_left : (xs ys : Words) (i j : ℕ) → (length xs ≤ i) ⊎ (length ys ≤ j) → common_len (drop i xs) (drop j ys) ≡ 0
none_left xs ys i j over = ⊎_elim
    (λ past. ap (λ (l : Words). common_len l (drop j ys)) (drop_all i xs past) ∙ common_len-none (drop j ys))
    (λ past. ap (common_len (drop i xs)) (drop_all j ys past) ∙ common_len-nil (drop i xs))
    over

rest_added : (before ws now : Words) (i : ℕ) → now ≡ before ++ take i ws → now ++ drop i ws ≡ before ++ ws
rest_added before ws now i is =
    ap (λ (l : Words). l ++ drop i ws) is ∙ append_assoc before (take i ws) (drop i ws)
    ∙ ap (λ (l : Words). before ++ l) (take-append-drop i ws)

-- where nothing is left of the old list, or nothing is left to be lost, what is removed may come last
rest_ordered : (before now removed : List Span) (xs ys : Words) (i j : ℕ) → OrderedOn now xs ys i j
    → (length xs ≤ i) ⊎ (length ys ≤ j) → AddsEach now removed Removed (drop i xs) → AreOrdered removed
rest_ordered before now removed xs ys i j on over r = ⊎_elim
    (λ past. subst AreOrdered
    (sym (r.now_is ∙ ap (λ (l : Words). now ++ each Removed l) (drop_all i xs past) ∙ append-nil now)) on.ordered)
    (λ past. added_ordered now removed Removed (drop i xs) r on.ordered
    (at_last_map _ MayRemove (λ k lost. may_by (may_stand k Removed)
    (λ other. let less = lost other in omega (arith, less, none_left xs ys i j (inr past)))) now on.last))
    over

-- what is left of both lists ends the walk
pub walked_all : (before now removed added : List Span) (xs ys : Words) (i j : ℕ) → Walked before now xs ys i j
    → (length xs ≤ i) ⊎ (length ys ≤ j) → AddsEach now removed Removed (drop i xs) → AddsEach removed added Added (drop j ys)
    → AddsLongest before added xs ys
walked_all before now removed added xs ys i j w over r a = record {
  old = each_texts a is_old ∙ append-nil (texts_of is_old removed) ∙ each_texts r is_old
      ∙ rest_added (texts_of is_old before) xs (texts_of is_old now) i w.old;
  new = each_texts a is_new
      ∙ ap (λ (l : Words). l ++ drop j ys) (each_texts r is_new ∙ append-nil (texts_of is_new now))
      ∙ rest_added (texts_of is_new before) ys (texts_of is_new now) j w.new;
  kept = omega (
    arith,
    w.kept,
    none_left xs ys i j over,
    ap length (each_texts a is_kept ∙ append-nil (texts_of is_kept removed)
        ∙ each_texts r is_kept ∙ append-nil (texts_of is_kept now)),
  );
  ordered = λ are last. added_ordered removed added Added (drop j ys) a
      (rest_ordered before now removed xs ys i j (w.order are last) over r)
      (at_last_all (λ (k : Kind). may_stand k Added ≡ true) stand_added removed);
}
