-- Turns in the order of their segments: the run of one segment at their front, and what comes after it.
use Rattle.std.proofs.Common.{◌≡◌, ℕ, zero, suc, ◌<◌, ◌≤◌, ◌+◌, Bool, true, false, not, ◌&&◌, ◌||◌, List, [], ◌∷◌, ◌++◌, None, length, get_or, take, drop, arith, refl, sym, ap, subst, ◌∙◌}
use Rattle.std.specs.declared.cmp.Ordering.{Ordering}
use Rattle.std.specs.declared.cmp.Ordering.TheVariants.{Less, Equal, Greater}
use Rattle.std.specs.Ordering.{is_eq, is_lt, ordering_reverse}
use Rattle.std.specs.List.{list_all, list_any, AllByRecursion}
use Rattle.std.specs.List.Sorted.{IsSortedBy, IsPermutation}
use Rattle.std.specs.Cmp.{tied_itself, IsStrictWeakOrder}
use Rattle.std.proofs.Math.Seq.{drop-cons}
use Rattle.std.proofs.Math.ListN.{drop_of_length-le}
use Rattle.std.proofs.lemmas.Bool.{and_parts, and_from, cond-false}
use Rattle.std.proofs.lemmas.List.Folds.{list_any-append, list_any_more}
use Rattle.std.proofs.lemmas.List.Sorted.{list_any-IsPermutation, ranks_by, sorted_far}
use Rattle.usfm_ref.specs.Segments.{segment_cmp, same_segment}
use Rattle.usfm_ref.specs.declared.segment.Segment.{Segment}
use Rattle.usfm_ref.specs.Rising.{rises_by}
use Rattle.usfm_ref.proofs.Orders.{segment_total, segment_exact, same_segment-cmp}
use Rattle.usfm_ref.proofs.Sorted.{tied_back, parts}
use Rattle.op_core.specs.Ids.{Id, same_id}
use Rattle.op_core.specs.Ops.{Operation}
use Rattle.op_core.specs.Loops.Index.{is_in, change_at, shown_in, missing_in, register_of, IsChangeOf, Readies}
use Rattle.op_core.specs.Loops.Turns.{is_at, never_fall, arrives, is_named, AreTurnsOf}
use Rattle.op_core.specs.Loops.Changes.{change_for, IsChangeAt}
use Rattle.op_core.specs.declared.index.chapter.Chapter.{Chapter}
use Rattle.op_core.specs.declared.index.change.Change.{Change}
use Rattle.op_core.specs.declared.index.turns.Turn.{Turn}

-- ---- segments that tie, and segments before others

not_tied : (r : Ordering) → is_lt r ≡ true → is_eq r ≡ false
not_tied Less h = refl
not_tied Equal h = cc h
not_tied Greater h = refl

pub less_apart : (a b : Segment) → is_lt (segment_cmp a b) ≡ true → is_eq (segment_cmp b a) ≡ false
less_apart a b h = tied_back segment_cmp segment_total a b false (not_tied (segment_cmp a b) h)

pub same_itself : (a g : Segment) → a ≡ g → same_segment a g ≡ true
same_itself a g e = same_segment-cmp a g ∙ ap (λ (s : Segment). is_eq (segment_cmp s g)) e ∙ ap is_eq (tied_itself segment_total g)

after_apart : (a g : Segment) → is_lt (segment_cmp g a) ≡ true → same_segment a g ≡ false
after_apart a g h = same_segment-cmp a g ∙ less_apart g a h

-- ---- the run at the front

-- all of a run are of its segment
pub all_of_run : (g : Segment) (f : Turn → Bool) (ts : List Turn) → AllByRecursion (λ (t : Turn). t.segment ≡ g) ts
    → list_any (λ t. same_segment t.segment g && f t) ts ≡ list_any f ts
all_of_run g f [] h = refl
all_of_run g f (t ∷ ts) h = λ i. (same_itself t.segment g h.0 i && f t) || all_of_run g f ts h.1 i

-- none of what comes after it is
pub none_after : (g : Segment) (f : Turn → Bool) (ts : List Turn) → list_all (λ t. is_lt (segment_cmp g t.segment)) ts ≡ true
    → list_any (λ t. same_segment t.segment g && f t) ts ≡ false
none_after g f [] h = refl
none_after g f (t ∷ ts) h =
    let p = and_parts (is_lt (segment_cmp g t.segment)) (list_all (λ t. is_lt (segment_cmp g t.segment)) ts) h in
    λ i. (after_apart t.segment g p.0 i && f t) || none_after g f ts p.1 i

-- and none of a run is of another segment
pub none_other : (g k : Segment) (f : Turn → Bool) (ts : List Turn) → same_segment k g ≡ false
    → AllByRecursion (λ (t : Turn). t.segment ≡ k) ts → list_any (λ t. same_segment t.segment g && f t) ts ≡ false
none_other g k f [] e h = refl
none_other g k f (t ∷ ts) e h = λ i. ((ap (λ (s : Segment). same_segment s g) h.0 ∙ e) i && f t) || none_other g k f ts e h.1 i

or_false : (b : Bool) → (b || false) ≡ b
or_false true = refl
or_false false = refl

pub fall_drop : (n : ℕ) (ts : List Turn) → never_fall ts ≡ true → never_fall (drop n ts) ≡ true
fall_drop zero ts h = h
fall_drop (suc n) [] h = refl
fall_drop (suc n) (t ∷ ts) h =
    fall_drop n ts (and_parts (list_all (λ u. not (is_lt (segment_cmp u.segment t.segment))) ts) (never_fall ts) h).1

pub all_drop : {X : Type 0} (p : X → Bool) (n : ℕ) (xs : List X) → list_all p xs ≡ true → list_all p (drop n xs) ≡ true
all_drop p zero xs h = h
all_drop p (suc n) [] h = refl
all_drop p (suc n) (x ∷ xs) h = all_drop p n xs (and_parts (p x) (list_all p xs) h).1

-- what is not before a turn and does not tie with the one of the run comes after that
greater : (r : Ordering) → is_lt r ≡ false → is_eq r ≡ false → r ≡ Greater
greater Less h e = cc h
greater Equal h e = cc e
greater Greater h e = refl

-- from a turn that does not tie on, all come after
pub later_above : (first : Turn) (ts : List Turn) (n : ℕ) (t : Turn) → never_fall (first ∷ ts) ≡ true → n < length ts → t ≡ get_or ts n t
    → is_eq (segment_cmp t.segment first.segment) ≡ false
    → list_all (λ u. is_lt (segment_cmp first.segment u.segment)) (drop n ts) ≡ true
later_above first [] n t h l e f = absurd (omega arith)
later_above first (x ∷ ts) zero t h l e f =
    let q = and_parts (not (is_lt (segment_cmp x.segment first.segment)))
    (list_all (λ u. not (is_lt (segment_cmp u.segment first.segment))) ts) (and_parts _ (never_fall (x ∷ ts)) h).0 in
    let less : segment_cmp first.segment x.segment ≡ Less =
    before first.segment x.segment (flip _ q.0) (ap (λ (u : Turn). is_eq (segment_cmp u.segment first.segment)) (sym e) ∙ f) in
    and_from _ _ (ap is_lt less)
    (over first.segment x.segment less ts (and_parts _ (never_fall ts) (and_parts _ (never_fall (x ∷ ts)) h).1).0)
  where
    flip : (b : Bool) → not b ≡ true → b ≡ false
    flip true e = cc e
    flip false e = refl

    before : (a b : Segment) → is_lt (segment_cmp b a) ≡ false → is_eq (segment_cmp b a) ≡ false → segment_cmp a b ≡ Less
    before a b p q = segment_total.antisymm a b ∙ ap ordering_reverse (greater (segment_cmp b a) p q)

    -- what is not before x is after what is before x
    step : (a b c : Segment) → segment_cmp a b ≡ Less → is_lt (segment_cmp c b) ≡ false → is_lt (segment_cmp a c) ≡ true
    step a b c p q = by (segment_cmp c b) refl q
      where
        by : (r : Ordering) → segment_cmp c b ≡ r → is_lt r ≡ false → is_lt (segment_cmp a c) ≡ true
        by Less k n = cc n
        by Equal k n = ap is_lt (ap (segment_cmp a) (segment_exact c b k) ∙ p)
        by Greater k n = ap is_lt (segment_total.trans a b c p (segment_total.antisymm b c ∙ ap ordering_reverse k))

    over : (a b : Segment) → segment_cmp a b ≡ Less → (us : List Turn) → list_all (λ u. not (is_lt (segment_cmp u.segment b))) us ≡ true
        → list_all (λ u. is_lt (segment_cmp a u.segment)) us ≡ true
    over a b p [] k = refl
    over a b p (u ∷ us) k =
        let r = and_parts (not (is_lt (segment_cmp u.segment b))) (list_all (λ u. not (is_lt (segment_cmp u.segment b))) us) k in
        and_from _ _ (step a b u.segment p (flip _ r.0)) (over a b p us r.1)
later_above first (x ∷ ts) (suc n) t h l e f =
    let q = and_parts _ (never_fall (x ∷ ts)) h in
    let tail = and_parts _ (list_all (λ u. not (is_lt (segment_cmp u.segment first.segment))) ts) q.0 in
    later_above first ts n t (and_from _ _ tail.1 (and_parts _ (never_fall ts) q.1).1) (omega arith) e f

-- ---- turns that are left, after the run at their front

module _ (rest own later : List Turn) (g : Segment) (whole : rest ≡ own ++ later) (ours : AllByRecursion (λ (t : Turn). t.segment ≡ g) own)
    (above : list_all (λ t. is_lt (segment_cmp g t.segment)) later ≡ true) where
  -- at the run's segment
  pub at_run : (f : Turn → Bool) → list_any (λ t. same_segment t.segment g && f t) rest ≡ list_any f own
  at_run f =
      ap (list_any (λ (t : Turn). same_segment t.segment g && f t)) whole
      ∙ list_any-append (λ (t : Turn). same_segment t.segment g && f t) own later
      ∙ (λ i. all_of_run g f own ours i || none_after g f later above i) ∙ or_false (list_any f own)

  -- at any other
  pub at_other : (k : Segment) (f : Turn → Bool) → same_segment g k ≡ false
      → list_any (λ t. same_segment t.segment k && f t) rest ≡ list_any (λ t. same_segment t.segment k && f t) later
  at_other k f e =
      ap (list_any (λ (t : Turn). same_segment t.segment k && f t)) whole
      ∙ list_any-append (λ (t : Turn). same_segment t.segment k && f t) own later
      ∙ ap (λ b. b || list_any (λ (t : Turn). same_segment t.segment k && f t) later) (none_other k g f own e ours)

-- ---- changes of earlier segments

abbrev pub AreBelow : List Change → Segment → Type 0
AreBelow cs g = AllByRecursion (λ (c : Change). is_lt (segment_cmp (change_at c) g) ≡ true) cs

pub none_for : (g : Segment) (cs : List Change) → AreBelow cs g → change_for g cs ≡ None
none_for g [] h = refl
none_for g (c ∷ cs) h = cond-false _ _ _ (less_apart (change_at c) g h.0) ∙ none_for g cs h.1

pub each_push : {X : Type 0} (P : X → Type 0) (xs : List X) (x : X) (ys : List X) → ys ≡ xs ++ x ∷ [] → AllByRecursion P xs → P x
    → AllByRecursion P ys
each_push {X} P xs x ys e h p = subst (AllByRecursion P) (sym e) (push xs h)
  where
    push : (xs : List X) → AllByRecursion P xs → AllByRecursion P (xs ++ x ∷ [])
    push [] h = (p, tt)
    push (y ∷ ys) h = (h.0, push ys h.1)

pub each_weaker : {X : Type 0} (P Q : X → Type 0) (xs : List X) → ((x : X) → P x → Q x) → AllByRecursion P xs → AllByRecursion Q xs
each_weaker P Q [] f h = tt
each_weaker P Q (x ∷ xs) f h = (f x h.0, each_weaker P Q xs f h.1)

abbrev pub changes_rise : List Change → Bool
changes_rise = rises_by segment_cmp change_at

pub rise_push : (cs : List Change) (c : Change) (ds : List Change) → ds ≡ cs ++ c ∷ [] → changes_rise cs ≡ true → AreBelow cs (change_at c)
    → changes_rise ds ≡ true
rise_push cs c ds e h b = ap changes_rise e ∙ push cs h b
  where
    more : (p : Change → Bool) (xs : List Change) → list_all p xs ≡ true → p c ≡ true → list_all p (xs ++ c ∷ []) ≡ true
    more p [] h q = and_from _ _ q refl
    more p (x ∷ xs) h q = let r = and_parts (p x) (list_all p xs) h in and_from _ _ r.0 (more p xs r.1 q)

    push : (xs : List Change) → changes_rise xs ≡ true → AreBelow xs (change_at c) → changes_rise (xs ++ c ∷ []) ≡ true
    push [] h b = refl
    push (x ∷ xs) h b =
        let p = parts segment_cmp segment_total change_at x xs h in
        and_from _ _ (more (λ y. is_lt (segment_cmp (change_at x) (change_at y))) xs p.0 b.0) (push xs p.1 b.1)

-- ---- what a change is, told in other words

pub change_told : (held : List Operation) (g k : Segment) (a a' n n' : Id → Bool) (s s' m m' : List Id) (c : Change) → k ≡ g
    → ((q : Id) → a q ≡ a' q) → ((q : Id) → n q ≡ n' q) → s ≡ s' → m ≡ m' → IsChangeOf held g a n s m c → IsChangeOf held k a' n' s' m' c
change_told held g k a a' n n' s s' m m' c e fa fn fs fm h = record {
  place = h.place ∙ sym e;
  arrived = λ q. h.arrived q ∙ (λ i. (fa q i && not (fn q i)) && not (list_any (same_id q) (fm i)));
  leaving = λ q. h.leaving q ∙ (λ i. fn q i && list_any (same_id q) (fs i));
  lacking = λ q. h.lacking q ∙
      (λ i. (((fn q i && not (fa q i)) && not (list_any (same_id q) (fs i))) && not (list_any (same_id q) (fm i)))
      && not (is_in held (sym e i) q));
  found = λ q. h.found q ∙ (λ i. fa q i && list_any (same_id q) (fm i));
}

-- where the index keeps the same
pub are_ready : (held new : List Operation) (turns : List Turn) (before after : List Chapter) (cs : List Change) → Readies before after
    → AllByRecursion (IsChangeAt held new turns before) cs → AllByRecursion (IsChangeAt held new turns after) cs
are_ready held new turns before after cs r h =
    each_weaker (IsChangeAt held new turns before) (IsChangeAt held new turns after) cs (λ c k.
    change_told held (change_at c) (change_at c) (arrives new turns (change_at c)) (arrives new turns (change_at c))
    (is_named new turns (change_at c)) (is_named new turns (change_at c))
    (shown_in (register_of (change_at c) before)) (shown_in (register_of (change_at c) after))
    (missing_in (register_of (change_at c) before)) (missing_in (register_of (change_at c) after)) c
    refl (λ q. refl) (λ q. refl) (sym (r.shown (change_at c))) (sym (r.missing (change_at c))) k) h

-- ---- turns of operations, made and sorted

module _ (new : List Operation) (ts us : List Turn) (at : ℕ) (o : Operation) (t : Turn) (l : at < length new) (ho : o ≡ get_or new at o)
    (home : t.segment ≡ o.segment) (place : t.at ≡ at) (e : us ≡ ts ++ t ∷ []) where
  here_is : (f : Operation → Bool) → is_at f new t.at ≡ f o
  here_is f =
      ap (is_at f new) place ∙ ap (λ (xs : List Operation). list_any f (take 1 xs)) (drop-cons new at o l)
      ∙ ap (λ (x : Operation). f x || false) (sym ho) ∙ or_false (f o)

  turn_more : (p : Turn → Bool) (f : Operation → Bool) → p t ≡ f o → list_any p ts ≡ list_any f (take at new)
      → list_any p us ≡ list_any f (take (at + 1) new)
  turn_more p f s h =
      ap (list_any p) e ∙ list_any-append p ts (t ∷ []) ∙ (λ i. h i || (or_false (p t) ∙ s ∙ ap f ho) i) ∙ sym (list_any_more f new at o l)

  pub same_more : (p : Segment → Bool) (f : Operation → Bool)
      → list_any (λ t. p t.segment && is_at f new t.at) ts ≡ list_any (λ o. p o.segment && f o) (take at new)
      → list_any (λ t. p t.segment && is_at f new t.at) us ≡ list_any (λ o. p o.segment && f o) (take (at + 1) new)
  same_more p f h = turn_more (λ t. p t.segment && is_at f new t.at) (λ o. p o.segment && f o) (λ i. p (home i) && here_is f i) h

  pub each_more : (p : Segment → Bool) → list_any (λ t. p t.segment) ts ≡ list_any (λ o. p o.segment) (take at new)
      → list_any (λ t. p t.segment) us ≡ list_any (λ o. p o.segment) (take (at + 1) new)
  each_more p h = turn_more (λ t. p t.segment) (λ o. p o.segment) (ap p home) h

pub turns_rank : IsStrictWeakOrder (λ (t u : Turn). is_lt (segment_cmp t.segment u.segment))
turns_rank = ranks_by segment_total (λ (t : Turn). t.segment)

pub fall_sorted : (ts : List Turn) → IsSortedBy (λ (t u : Turn). is_lt (segment_cmp t.segment u.segment)) ts → never_fall ts ≡ true
fall_sorted ts h = far ts (λ i j d a b. sorted_far (λ (t u : Turn). is_lt (segment_cmp t.segment u.segment)) turns_rank ts h i j d a b)
  where
    all : (t : Turn) (us : List Turn) →
        ((j : ℕ) (d : Turn) → j < length us → is_lt (segment_cmp (get_or us j d).segment t.segment) ≡ false)
        → list_all (λ u. not (is_lt (segment_cmp u.segment t.segment))) us ≡ true
    all t [] k = refl
    all t (u ∷ us) k = and_from _ _ (ap not (k 0 u (omega arith))) (all t us (λ j d l. k (suc j) d (omega arith)))

    far : (us : List Turn) →
        ((i j : ℕ) (d : Turn) → i ≤ j → j < length us → is_lt (segment_cmp (get_or us j d).segment (get_or us i d).segment) ≡ false)
        → never_fall us ≡ true
    far [] k = refl
    far (u ∷ us) k = and_from _ _ (all u us (λ j d l. k 0 (suc j) d (omega arith) (omega arith)))
        (far us (λ i j d a b. k (suc i) (suc j) d (omega arith) (omega arith)))

-- the turns sorted are those of the same operations
pub sorted_turns : (new : List Operation) (ts us : List Turn)
    → ((p : Segment → Bool) (f : Operation → Bool) → list_any (λ t. p t.segment && is_at f new t.at) ts
    ≡ list_any (λ o. p o.segment && f o) new) → ((p : Segment → Bool) → list_any (λ t. p t.segment) ts ≡ list_any (λ o. p o.segment) new)
    → IsPermutation ts us → IsSortedBy (λ (t u : Turn). is_lt (segment_cmp t.segment u.segment)) us → AreTurnsOf new us
sorted_turns new ts us same each m s = record {
  same = λ p f. sym (list_any-IsPermutation (λ t. p t.segment && is_at f new t.at) ts us m) ∙ same p f;
  each = λ p. sym (list_any-IsPermutation (λ t. p t.segment) ts us m) ∙ each p;
  sorted = fall_sorted us s;
}

-- ---- ids gathered from turns

-- the operation of one turn more
pub comes_more : (new : List Operation) (f : Operation → Bool) (own : List Turn) (i : ℕ) (t : Turn) (a b c : Bool) → i < length own
    → t ≡ get_or own i t → a ≡ list_any (λ t. is_at f new t.at) (take i own) → is_at f new t.at ≡ b → c ≡ (a || b)
    → c ≡ list_any (λ t. is_at f new t.at) (take (i + 1) own)
comes_more new f own i t a b c l ht h e k =
    k ∙ (λ j. h j || (sym e ∙ ap (λ (u : Turn). is_at f new u.at) ht) j) ∙ sym (list_any_more (λ t. is_at f new t.at) own i t l)

-- where it is, and where there is none
pub got : (f : Operation → Bool) (new : List Operation) (at : ℕ) (o : Operation) → at < length new → o ≡ get_or new at o
    → is_at f new at ≡ f o
got f new at o l ho = ap (λ (xs : List Operation). list_any f (take 1 xs)) (drop-cons new at o l)
    ∙ ap (λ (x : Operation). f x || false) (sym ho) ∙ or_false (f o)

pub got_none : (f : Operation → Bool) (new : List Operation) (at : ℕ) → length new ≤ at → is_at f new at ≡ false
got_none f new at l = ap (λ (xs : List Operation). list_any f (take 1 xs)) (drop_of_length-le new l)
