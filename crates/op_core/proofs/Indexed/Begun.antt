-- The index of operations where none was held, made by a walk over their turns.
use Rattle.std.proofs.Common.{◌≡◌, ℕ, ◌+◌, Bool, true, false, not, cond, ◌&&◌, List, [], ◌∷◌, ◌++◌, Option, Some, None, take, drop, refl, sym, ap, subst, ◌∙◌}
use Rattle.std.specs.Ordering.{is_eq, is_lt}
use Rattle.std.specs.List.{list_all, list_any, AllByRecursion}
use Rattle.std.specs.Cmp.{Equal-is, tied_itself}
use Rattle.std.proofs.lemmas.Bool.{and_parts}
use Rattle.std.proofs.lemmas.List.{take-append-drop}
use Rattle.usfm_ref.specs.Segments.{segment_cmp, same_segment}
use Rattle.usfm_ref.specs.declared.segment.Segment.{Segment}
use Rattle.usfm_ref.proofs.Orders.{segment_total, segment_exact, same_segment-cmp}
use Rattle.usfm_ref.proofs.Sorted.{tied_back}
use Rattle.op_core.specs.Ids.{Id, same_id}
use Rattle.op_core.specs.Ops.{Operation, names}
use Rattle.op_core.specs.Sets.{rises, join}
use Rattle.op_core.specs.Shown.{is_replaced}
use Rattle.op_core.specs.Lists.{shown_ids}
use Rattle.op_core.specs.Loops.Index.{register_of, shown_in, is_in, IsOrderly, IsIndex, Changes}
use Rattle.op_core.specs.Loops.Turns.{is_at, never_fall, comes, is_called, arrives, is_named, AreTurnsOf}
use Rattle.op_core.specs.Loops.Changes.{IsBegun}
use Rattle.op_core.specs.declared.index.register.Register.{Register}
use Rattle.op_core.specs.declared.index.chapter.Chapter.{Chapter}
use Rattle.op_core.specs.declared.index.turns.Turn.{Turn}
use Rattle.op_core.proofs.IdOrders.IdLists.{same_members}
use Rattle.op_core.proofs.Indexed.Kept.{any_shown, shown_ids_rise}
use Rattle.op_core.proofs.Indexed.Turned.{less_apart, fall_drop, all_drop, at_run, at_other}
use Rattle.op_core.proofs.Indexed.Runs.{own_is, later_is}
use Rattle.op_core.proofs.Sets.Fronts.{join_none}

-- what is so at a segment while these turns are left: a register is whole, and all that is left is after it; where there is none, all
-- turns of the segment are left
abbrev pub BegunAt : List Operation → List Turn → List Turn → Segment → Option Register → Type 0
BegunAt new turns rest g None = (f : Turn → Bool) → list_any (λ t. same_segment t.segment g && f t) turns
    ≡ list_any (λ t. same_segment t.segment g && f t) rest
BegunAt new turns rest g (Some r) =
    IsBegun (arrives new turns g) (is_named new turns g) (Some r) × (list_all (λ t. is_lt (segment_cmp g t.segment)) rest ≡ true)

pub record Begun (new : List Operation) (turns : List Turn) (now : List Chapter) (rest : List Turn) : Type 0 where
  pub orderly : IsOrderly now
  pub sorted : never_fall rest ≡ true
  pub each : (g : Segment) → BegunAt new turns rest g (register_of g now)

pub none_begun : (new : List Operation) (turns : List Turn) (now : List Chapter) → now ≡ [] → never_fall turns ≡ true
    → Begun new turns now turns
none_begun new turns now e s =
    subst (λ (cs : List Chapter). Begun new turns cs turns) (sym e) (record {
      orderly = record { heads = tt; homes = λ g k n. absurd (n refl); rising = refl; registers = λ g. refl };
      sorted = s;
      each = λ g f. refl;
    })

-- the segment of the first turn that is left has no register yet
pub none_yet : (new : List Operation) (turns : List Turn) (now : List Chapter) (rest others : List Turn) (first : Turn)
    → Begun new turns now rest → rest ≡ first ∷ others → register_of first.segment now ≡ None
none_yet new turns now rest others first w e = by (register_of first.segment now) (w.each first.segment)
  where
    by : (x : Option Register) → BegunAt new turns rest first.segment x → x ≡ None
    by None h = refl
    by (Some r) h =
        let after = and_parts (is_lt (segment_cmp first.segment first.segment))
        (list_all (λ t. is_lt (segment_cmp first.segment t.segment)) others)
        (sym (ap (list_all (λ (t : Turn). is_lt (segment_cmp first.segment t.segment))) e) ∙ h.1) in
        cc (sym (less_apart first.segment first.segment after.0) ∙ ap is_eq (tied_itself segment_total first.segment))

module _ (new : List Operation) (turns : List Turn) (now after : List Chapter) (rest others own later : List Turn) (first : Turn) (n : ℕ)
    (r : Register) (w : Begun new turns now rest) (e : rest ≡ first ∷ others) (o : own ≡ take (1 + n) rest) (l : later ≡ drop (1 + n) rest)
    (ours : AllByRecursion (λ (t : Turn). t.segment ≡ first.segment) (take n others))
    (above : list_all (λ t. is_lt (segment_cmp first.segment t.segment)) (drop n others) ≡ true)
    (is : IsBegun (comes new own) (is_called new own) (Some r)) (c : Changes first.segment r now after) where
  own_all : AllByRecursion (λ (t : Turn). t.segment ≡ first.segment) own
  own_all = subst (AllByRecursion (λ (t : Turn). t.segment ≡ first.segment)) (sym (o ∙ own_is rest others first n e)) (refl, ours)

  later_all : list_all (λ t. is_lt (segment_cmp first.segment t.segment)) later ≡ true
  later_all = ap (list_all (λ (t : Turn). is_lt (segment_cmp first.segment t.segment))) (l ∙ later_is rest others first n e) ∙ above

  whole : rest ≡ own ++ later
  whole = sym (take-append-drop (1 + n) rest) ∙ (λ i. sym o i ++ sym l i)

  at_own : (f : Turn → Bool) → list_any f own ≡ list_any (λ t. same_segment t.segment first.segment && f t) turns
  at_own f =
      sym (subst (BegunAt new turns rest first.segment) (none_yet new turns now rest others first w e) (w.each first.segment) f
      ∙ at_run rest own later first.segment whole own_all later_all f)

  begun : IsBegun (arrives new turns first.segment) (is_named new turns first.segment) (Some r)
  begun =
      let comes_is = λ (q : Id). at_own (λ t. is_at (λ x. same_id q x.id) new t.at) in
      let called_is = λ (q : Id). at_own (λ t. is_at (λ x. names x q) new t.at) in
      record {
        shown_rises = is.shown_rises;
        shown = λ q. is.shown q ∙ (λ i. comes_is q i && not (called_is q i));
        missing_rises = is.missing_rises;
        missing = λ q. is.missing q ∙ (λ i. called_is q i && not (comes_is q i));
      }

  each_now : (g : Segment) → BegunAt new turns later g (register_of g after)
  each_now g = subst (BegunAt new turns later g) (sym (c.is_now g)) (by (is_eq (segment_cmp g first.segment)) refl)
    where
      other : (x : Option Register) → is_eq (segment_cmp g first.segment) ≡ false → BegunAt new turns rest g x
          → BegunAt new turns later g x
      other None t h = λ f. h f ∙ at_other rest own later first.segment whole own_all later_all g f
          (same_segment-cmp first.segment g ∙ tied_back segment_cmp segment_total g first.segment false t)
      other (Some x) t h = (
        h.0,
        ap (list_all (λ (t : Turn). is_lt (segment_cmp g t.segment))) l
            ∙ all_drop (λ (t : Turn). is_lt (segment_cmp g t.segment)) (1 + n) rest h.1,
      )

      by : (b : Bool) → is_eq (segment_cmp g first.segment) ≡ b → BegunAt new turns later g (cond b (Some r) (register_of g now))
      by true t = subst (λ (k : Segment). BegunAt new turns later k (Some r)) (sym (segment_exact g first.segment ((Equal-is _).0 t)))
          (begun, later_all)
      by false t = other (register_of g now) t (w.each g)

  pub begun_more : Begun new turns after later
  begun_more = record { orderly = c.orderly; sorted = ap never_fall l ∙ fall_drop (1 + n) rest w.sorted; each = each_now }

-- no turn is left
pub begun_index : (new : List Operation) (turns : List Turn) (now : List Chapter) (rest : List Turn) → rises new ≡ true
    → AreTurnsOf new turns → rest ≡ [] → Begun new turns now rest → IsIndex new now
begun_index new turns now rest h t e w = record {
  orderly = w.orderly;
  keeps = record {
    shown = λ g. same_members (shown_in (register_of g now)) (shown_ids new g) (kept g).shown_rises (shown_ids_rise new g h)
        (λ q. (kept g).shown q ∙ sym (any_shown new g q));
    rising = λ g. (kept g).missing_rises;
    missing = λ g q. (kept g).missing q;
  };
}
  where
    kept : (g : Segment) → IsBegun (is_in new g) (is_replaced new g) (register_of g now)
    kept g = by (register_of g now) (w.each g)
      where
        new_is : (q : Id) → arrives new turns g q ≡ is_in new g q
        new_is q = t.same (λ p. same_segment p g) (λ o. same_id q o.id)

        named_is : (q : Id) → is_named new turns g q ≡ is_replaced new g q
        named_is q = t.same (λ p. same_segment p g) (λ o. names o q)

        by : (x : Option Register) → BegunAt new turns rest g x → IsBegun (is_in new g) (is_replaced new g) x
        by (Some r) k = record {
          shown_rises = k.0.shown_rises;
          shown = λ q. k.0.shown q ∙ (λ i. new_is q i && not (named_is q i));
          missing_rises = k.0.missing_rises;
          missing = λ q. k.0.missing q ∙ (λ i. named_is q i && not (new_is q i));
        }
        by None k =
            let away = λ (f : Turn → Bool). k f ∙ ap (list_any (λ (t : Turn). same_segment t.segment g && f t)) e in
            let no_new = λ (q : Id). sym (new_is q) ∙ away (λ t. is_at (λ x. same_id q x.id) new t.at) in
            let no_named = λ (q : Id). sym (named_is q) ∙ away (λ t. is_at (λ x. names x q) new t.at) in
            record {
              shown_rises = refl;
              shown = λ q. sym (λ i. no_new q i && not (no_named q i));
              missing_rises = refl;
              missing = λ q. sym (λ i. no_named q i && not (no_new q i));
            }

-- where nothing is held, the union is what is new
pub begun_enrolled : (held new : List Operation) (now : List Chapter) → held ≡ [] → rises new ≡ true → IsIndex new now
    → IsIndex (join held new) now
begun_enrolled held new now e h index =
    subst (λ (ops : List Operation). IsIndex ops now) (sym (ap (λ (ops : List Operation). join ops new) e ∙ join_none new h)) index
