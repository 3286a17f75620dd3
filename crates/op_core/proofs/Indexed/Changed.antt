-- The index after what new operations change of it.
use Rattle.std.proofs.Common.{◌≡◌, Bool, true, false, not, cond, ◌&&◌, ◌||◌, List, [], ◌∷◌, Option, Some, None, refl, sym, ap, subst, ◌∙◌}
use Rattle.std.specs.Ordering.{is_eq}
use Rattle.std.specs.List.{list_any, AllByRecursion}
use Rattle.std.specs.Cmp.{Equal-is}
use Rattle.std.proofs.lemmas.Bool.{true≢false}
use Rattle.usfm_ref.specs.Segments.{segment_cmp, same_segment}
use Rattle.usfm_ref.specs.declared.segment.Segment.{Segment}
use Rattle.usfm_ref.proofs.Orders.{segment_exact}
use Rattle.op_core.specs.Ids.{Id, same_id, ids_rise}
use Rattle.op_core.specs.Ops.{Operation, in_segment, names}
use Rattle.op_core.specs.Sets.{rises, get, join, IsOpSet}
use Rattle.op_core.specs.Shown.{is_replaced}
use Rattle.op_core.specs.Lists.{shown_ids}
use Rattle.op_core.specs.NextIds.{is_among}
use Rattle.op_core.specs.Loops.Index.{is_in, register_of, shown_in, missing_in, change_at, AreApart, IsIndex}
use Rattle.op_core.specs.Loops.Turns.{AreTurnsOf}
use Rattle.op_core.specs.Loops.Changes.{change_for, IsChangeAt, AreChanges, TakesIn, Taken, Settles}
use Rattle.op_core.specs.declared.index.register.Register.{Register}
use Rattle.op_core.specs.declared.index.chapter.Chapter.{Chapter}
use Rattle.op_core.specs.declared.index.change.Change.{Change}
use Rattle.op_core.specs.declared.index.turns.Turn.{Turn}
use Rattle.op_core.proofs.Sets.Union.{rises-join}
use Rattle.op_core.proofs.IdOrders.Inside.{is_of, in-get}
use Rattle.op_core.proofs.Indexed.Enrolled.{apart_at}
use Rattle.op_core.proofs.IdOrders.IdLists.{same_members}
use Rattle.op_core.proofs.Indexed.Kept.{any_shown, any_join, shown_ids_rise}

-- ---- tables

-- what a segment shows: h, held; r, held and named there; n, new; m, new and named
shown_table : (h r n m : Bool) → (n ≡ true → h ≡ false) → (((h && not r) && not (m && (h && not r))) || ((n && not m) && not (r && not h)))
    ≡ ((h || n) && not (r || m))
shown_table true r true m e = absurd (true≢false (e refl))
shown_table true true false m e = refl
shown_table true false false true e = refl
shown_table true false false false e = refl
shown_table false true true true e = refl
shown_table false true true false e = refl
shown_table false false true true e = refl
shown_table false false true false e = refl
shown_table false r false m e = refl

missing_table : (h r n m : Bool) →
    (((r && not h) && not (n && (r && not h))) || ((((m && not n) && not (h && not r)) && not (r && not h)) && not h))
    ≡ ((r || m) && not (h || n))
missing_table true true true true = refl
missing_table true true true false = refl
missing_table true true false true = refl
missing_table true true false false = refl
missing_table true false true true = refl
missing_table true false true false = refl
missing_table true false false true = refl
missing_table true false false false = refl
missing_table false true true true = refl
missing_table false true true false = refl
missing_table false true false m = refl
missing_table false false true true = refl
missing_table false false true false = refl
missing_table false false false true = refl
missing_table false false false false = refl

or_false : (b : Bool) → b ≡ (b || false)
or_false true = refl
or_false false = refl

-- ---- new operations, and those of one segment

-- where none is of the segment, none of the segment passes
none_in : (g : Segment) (f : Operation → Bool) (ops : List Operation) → list_any (in_segment g) ops ≡ false
    → list_any (λ o. in_segment g o && f o) ops ≡ false
none_in g f [] h = refl
none_in g f (o ∷ ops) h = by (none_in g f ops) (in_segment g o) refl h
  where
    by : (list_any (in_segment g) ops ≡ false → list_any (λ o. in_segment g o && f o) ops ≡ false) → (b : Bool) → in_segment g o ≡ b
        → (b || list_any (in_segment g) ops) ≡ false → ((in_segment g o && f o) || list_any (λ o. in_segment g o && f o) ops) ≡ false
    by rest true e h = absurd (true≢false h)
    by rest false e h = (λ i. (e i && f o) || rest h i)

-- what is new at a segment is not held there
new_unheld : (held new : List Operation) (g : Segment) (q : Id) → rises held ≡ true → rises new ≡ true → AreApart held new
    → is_in new g q ≡ true → is_in held g q ≡ false
new_unheld held new g q hh hn apart e = by (get new q) refl
  where
    by : (r : Option Operation) → get new q ≡ r → is_in held g q ≡ false
    by None k = absurd (true≢false (sym e ∙ in-get new g q hn ∙ ap (is_of g) k))
    by (Some z) k = in-get held g q hh ∙ ap (is_of g) (apart_at held new q z apart k)

-- the change that is found for a segment is one of them
found_has : (P : Change → Type 0) (g : Segment) (cs : List Change) (c : Change) → AllByRecursion P cs → change_for g cs ≡ Some c
    → P c × (g ≡ change_at c)
found_has P g [] c h e = cc e
found_has P g (x ∷ cs) c h e = by (found_has P g cs c h.1) (is_eq (segment_cmp g (change_at x))) refl e
  where
    same : (a b : Change) → Some a ≡ Some b → a ≡ b
    same a b k = cc k

    by : (change_for g cs ≡ Some c → P c × (g ≡ change_at c)) → (b : Bool) → is_eq (segment_cmp g (change_at x)) ≡ b
        → cond b (Some x) (change_for g cs) ≡ Some c → P c × (g ≡ change_at c)
    by rest true t k =
        let s : x ≡ c = same x c k in
        (subst P s h.0, segment_exact g (change_at x) ((Equal-is _).0 t) ∙ ap change_at s)
    by rest false t k = rest k

-- what the index keeps of a segment of the union
record KeptAt (held new : List Operation) (g : Segment) (r : Option Register) : Type 0 where
  pub shown_rises : ids_rise (shown_in r) ≡ true
  pub shown : (q : Id) → is_among (shown_in r) q ≡ ((is_in held g q || is_in new g q) && not (is_replaced held g q || is_replaced new g q))
  pub missing_rises : ids_rise (missing_in r) ≡ true
  pub missing : (q : Id) → is_among (missing_in r) q
      ≡ ((is_replaced held g q || is_replaced new g q) && not (is_in held g q || is_in new g q))

module _ (held new : List Operation) (turns : List Turn) (changes : List Change) (before after : List Chapter) (sh : IsOpSet held)
    (sn : IsOpSet new) (apart : AreApart held new) (index : IsIndex held before) (t : AreTurnsOf new turns)
    (are : AreChanges held new turns before changes) (s : Settles changes before after) where
  was_shown : (g : Segment) (q : Id) → is_among (shown_in (register_of g before)) q ≡ (is_in held g q && not (is_replaced held g q))
  was_shown g q = ap (list_any (same_id q)) (index.keeps.shown g) ∙ any_shown held g q

  was_risen : (g : Segment) → ids_rise (shown_in (register_of g before)) ≡ true
  was_risen g = ap ids_rise (index.keeps.shown g) ∙ shown_ids_rise held g sh.rising

  none : (g : Segment) → change_for g changes ≡ None → register_of g after ≡ register_of g before → KeptAt held new g (register_of g after)
  none g e same =
      let away : list_any (in_segment g) new ≡ false = sym (t.each (λ k. same_segment k g)) ∙ are.all g e in
      let no_new = λ (q : Id). none_in g (λ o. same_id q o.id) new away in
      let no_named = λ (q : Id). none_in g (λ o. names o q) new away in
      record {
        shown_rises = ap (λ (r : Option Register). ids_rise (shown_in r)) same ∙ was_risen g;
        shown = λ q. ap (λ (r : Option Register). is_among (shown_in r) q) same ∙ was_shown g q
            ∙ (λ i. or_false (is_in held g q) i && not (or_false (is_replaced held g q) i))
            ∙ (λ i. (is_in held g q || sym (no_new q) i) && not (is_replaced held g q || sym (no_named q) i));
        missing_rises = ap (λ (r : Option Register). ids_rise (missing_in r)) same ∙ index.keeps.rising g;
        missing = λ q. ap (λ (r : Option Register). is_among (missing_in r) q) same ∙ index.keeps.missing g q
            ∙ (λ i. or_false (is_replaced held g q) i && not (or_false (is_in held g q) i))
            ∙ (λ i. (is_replaced held g q || sym (no_named q) i) && not (is_in held g q || sym (no_new q) i));
      }

  at_change : (c : Change) → IsChangeAt held new turns before c
      → Taken c (register_of (change_at c) before) (register_of (change_at c) after)
      → KeptAt held new (change_at c) (register_of (change_at c) after)
  at_change c k n =
      let new_is = λ (q : Id). t.same (λ p. same_segment p (change_at c)) (λ o. same_id q o.id) in
      let named_is = λ (q : Id). t.same (λ p. same_segment p (change_at c)) (λ o. names o q) in
      let sb = λ (q : Id). sym (ap (λ (r : Option Register). is_among (shown_in r) q) n.was) ∙ was_shown (change_at c) q in
      let mb = λ (q : Id). sym (ap (λ (r : Option Register). is_among (missing_in r) q) n.was) ∙ index.keeps.missing (change_at c) q in
      record {
        shown_rises = ap (λ (r : Option Register). ids_rise (shown_in r)) n.is ∙ n.takes.shown_rises;
        shown = λ q. ap (λ (r : Option Register). is_among (shown_in r) q) n.is ∙ n.takes.shown q
            ∙ (λ i. (sb q i && not ((k.leaving q ∙ (λ j. named_is q j && was_shown (change_at c) q j)) i))
            || (k.arrived q ∙ (λ j. (new_is q j && not (named_is q j)) && not (index.keeps.missing (change_at c) q j))) i)
            ∙ shown_table (is_in held (change_at c) q) (is_replaced held (change_at c) q) (is_in new (change_at c) q)
            (is_replaced new (change_at c) q) (new_unheld held new (change_at c) q sh.rising sn.rising apart);
        missing_rises = ap (λ (r : Option Register). ids_rise (missing_in r)) n.is ∙ n.takes.missing_rises;
        missing = λ q. ap (λ (r : Option Register). is_among (missing_in r) q) n.is ∙ n.takes.missing q
            ∙ (λ i. (mb q i && not ((k.found q ∙ (λ j. new_is q j && index.keeps.missing (change_at c) q j)) i))
            || (k.lacking q ∙ (λ j. (((named_is q j && not (new_is q j)) && not (was_shown (change_at c) q j))
            && not (index.keeps.missing (change_at c) q j)) && not (is_in held (change_at c) q))) i)
            ∙ missing_table (is_in held (change_at c) q) (is_replaced held (change_at c) q) (is_in new (change_at c) q)
            (is_replaced new (change_at c) q);
      }

  kept_at : (g : Segment) → KeptAt held new g (register_of g after)
  kept_at g = by (change_for g changes) refl (s.is_now g)
    where
      by : (o : Option Change) → change_for g changes ≡ o → TakesIn o (register_of g before) (register_of g after)
          → KeptAt held new g (register_of g after)
      by None e k = none g e k
      by (Some c) e k =
          let f = found_has (IsChangeAt held new turns before) g changes c are.are e in
          subst (λ (x : Segment). KeptAt held new x (register_of x after)) (sym f.1)
          (at_change c f.0 (subst (λ (x : Segment). Taken c (register_of x before) (register_of x after)) f.1 k))

  in_union : (g : Segment) (q : Id) → is_in (join held new) g q ≡ (is_in held g q || is_in new g q)
  in_union g q = any_join (λ o. in_segment g o && same_id q o.id) held new sh.rising sn.rising apart

  named_in_union : (g : Segment) (q : Id) → is_replaced (join held new) g q ≡ (is_replaced held g q || is_replaced new g q)
  named_in_union g q = any_join (λ o. in_segment g o && names o q) held new sh.rising sn.rising apart

  pub index_enrolled : IsIndex (join held new) after
  index_enrolled = record {
    orderly = s.orderly;
    keeps = record {
      shown = λ g. same_members (shown_in (register_of g after)) (shown_ids (join held new) g) (kept_at g).shown_rises
          (shown_ids_rise (join held new) g (rises-join held new sh.rising)) (λ q.
          (kept_at g).shown q ∙ (λ i. sym (in_union g q) i && not (sym (named_in_union g q) i)) ∙ sym (any_shown (join held new) g q));
      rising = λ g. (kept_at g).missing_rises;
      missing = λ g q. (kept_at g).missing q ∙ (λ i. sym (named_in_union g q) i && not (sym (in_union g q) i));
    };
  }
