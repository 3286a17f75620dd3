-- A walk over turns, run by run, and the changes that it gathers.
use Rattle.std.proofs.Common.{◌≡◌, ℕ, suc, ◌+◌, Bool, true, false, cond, ◌&&◌, ◌||◌, List, [], ◌∷◌, ◌++◌, Option, Some, None, take, drop, arith, refl, sym, ap, subst, ◌∙◌}
use Rattle.std.specs.Ordering.{is_eq, is_lt}
use Rattle.std.specs.List.{list_all, list_any, AllByRecursion}
use Rattle.std.specs.Option.{option_or}
use Rattle.std.proofs.lemmas.Bool.{and_parts}
use Rattle.std.proofs.lemmas.List.{take-append-drop}
use Rattle.std.proofs.lemmas.List.Folds.{find-append}
use Rattle.usfm_ref.specs.Segments.{segment_cmp, same_segment}
use Rattle.usfm_ref.specs.declared.segment.Segment.{Segment}
use Rattle.usfm_ref.proofs.Orders.{segment_total, same_segment-cmp}
use Rattle.usfm_ref.proofs.Sorted.{tied_back}
use Rattle.op_core.specs.Ids.{same_id}
use Rattle.op_core.specs.Ops.{Operation, names}
use Rattle.op_core.specs.Loops.Index.{change_at, shown_in, missing_in, register_of, IsOrderly, IsChangeOf, IsRisingChange, HasRoomIn, Readies}
use Rattle.op_core.specs.Loops.Turns.{is_at, never_fall, comes, is_called, arrives, is_named}
use Rattle.op_core.specs.Loops.Changes.{change_for, IsChangeAt, AreChanges, AllHaveRoom}
use Rattle.op_core.specs.declared.index.chapter.Chapter.{Chapter}
use Rattle.op_core.specs.declared.index.change.Change.{Change}
use Rattle.op_core.specs.declared.index.turns.Turn.{Turn}
use Rattle.op_core.proofs.Indexed.There.{readies_same, readies_more}
use Rattle.op_core.proofs.Indexed.Turned.{AreBelow, changes_rise, none_for, each_push, each_weaker, rise_push, change_told, are_ready, at_run, at_other, fall_drop, all_drop}

-- what is so while these turns are left
pub record Walked (held new : List Operation) (turns : List Turn) (first now : List Chapter) (changes : List Change)
    (rest : List Turn) : Type 0 where
  pub same : Readies first now
  pub sorted : never_fall rest ≡ true
  pub rising : changes_rise changes ≡ true
  pub each : AllByRecursion IsRisingChange changes
  pub are : AllByRecursion (IsChangeAt held new turns now) changes
  pub room : AllHaveRoom now changes
  pub below : AllByRecursion (λ (c : Change). list_all (λ t. is_lt (segment_cmp (change_at c) t.segment)) rest ≡ true) changes
  pub left : (g : Segment) → change_for g changes ≡ None → (f : Turn → Bool)
      → list_any (λ t. same_segment t.segment g && f t) turns ≡ list_any (λ t. same_segment t.segment g && f t) rest

pub walk_begins : (held new : List Operation) (turns : List Turn) (chapters : List Chapter) (changes : List Change) → changes ≡ []
    → IsOrderly chapters → never_fall turns ≡ true → Walked held new turns chapters chapters changes turns
walk_begins held new turns chapters changes e o s =
    subst (λ (cs : List Change). Walked held new turns chapters chapters cs turns) (sym e) (record {
      same = readies_same chapters o;
      sorted = s;
      rising = refl;
      each = tt;
      are = tt;
      room = tt;
      below = tt;
      left = λ g n f. refl;
    })

pub walk_ends : (held new : List Operation) (turns : List Turn) (first now : List Chapter) (changes : List Change) (rest : List Turn)
    → rest ≡ [] → Walked held new turns first now changes rest → AreChanges held new turns now changes
walk_ends held new turns first now changes rest e w = record {
  rising = w.rising;
  each = w.each;
  are = w.are;
  all = λ g n. whole g turns ∙ w.left g n (λ t. true) ∙ ap (list_any (λ (t : Turn). same_segment t.segment g && true)) e;
}
  where
    whole : (g : Segment) (ts : List Turn) → list_any (λ t. same_segment t.segment g) ts
        ≡ list_any (λ t. same_segment t.segment g && true) ts
    whole g [] = refl
    whole g (t ∷ ts) = λ i. one (same_segment t.segment g) i || whole g ts i
      where
        one : (b : Bool) → b ≡ (b && true)
        one true = refl
        one false = refl

-- the front of a list, its first one told apart
module _ (rest others : List Turn) (first : Turn) (n : ℕ) (e : rest ≡ first ∷ others) where
  next : 1 + n ≡ suc n
  next = omega arith

  pub own_is : take (1 + n) rest ≡ first ∷ take n others
  own_is = (λ i. take (next i) (e i))

  pub later_is : drop (1 + n) rest ≡ drop n others
  later_is = (λ i. drop (next i) (e i))

module _ (held new : List Operation) (turns : List Turn) (start now after : List Chapter) (changes more : List Change)
    (rest others own later : List Turn) (first : Turn) (n : ℕ) (c : Change) (w : Walked held new turns start now changes rest)
    (e : rest ≡ first ∷ others) (o : own ≡ take (1 + n) rest) (l : later ≡ drop (1 + n) rest)
    (ours : AllByRecursion (λ (t : Turn). t.segment ≡ first.segment) (take n others))
    (above : list_all (λ t. is_lt (segment_cmp first.segment t.segment)) (drop n others) ≡ true) (same : Readies now after)
    (is : IsChangeOf held first.segment (comes new own) (is_called new own) (shown_in (register_of first.segment after))
    (missing_in (register_of first.segment after)) c) (rises : IsRisingChange c) (room : HasRoomIn c (register_of first.segment after))
    (m : more ≡ changes ++ c ∷ []) where
  own_all : AllByRecursion (λ (t : Turn). t.segment ≡ first.segment) own
  own_all = subst (AllByRecursion (λ (t : Turn). t.segment ≡ first.segment)) (sym (o ∙ own_is rest others first n e)) (refl, ours)

  later_all : list_all (λ t. is_lt (segment_cmp first.segment t.segment)) later ≡ true
  later_all = ap (list_all (λ (t : Turn). is_lt (segment_cmp first.segment t.segment))) (l ∙ later_is rest others first n e) ∙ above

  whole : rest ≡ own ++ later
  whole = sym (take-append-drop (1 + n) rest) ∙ (λ i. sym o i ++ sym l i)

  -- each earlier change is of a segment before
  are_below : AreBelow changes first.segment
  are_below = each_weaker (λ (d : Change). list_all (λ t. is_lt (segment_cmp (change_at d) t.segment)) rest ≡ true)
      (λ (d : Change). is_lt (segment_cmp (change_at d) first.segment) ≡ true) changes (λ d h.
      (and_parts (is_lt (segment_cmp (change_at d) first.segment)) (list_all (λ t. is_lt (segment_cmp (change_at d) t.segment)) others)
      (sym (ap (list_all (λ (t : Turn). is_lt (segment_cmp (change_at d) t.segment))) e) ∙ h)).0) w.below

  none_yet : change_for first.segment changes ≡ None
  none_yet = none_for first.segment changes are_below

  at_own : (f : Turn → Bool) → list_any f own ≡ list_any (λ t. same_segment t.segment first.segment && f t) turns
  at_own f = sym (w.left first.segment none_yet f ∙ at_run rest own later first.segment whole own_all later_all f)

  is_change : IsChangeAt held new turns after c
  is_change = change_told held first.segment (change_at c) (comes new own) (arrives new turns (change_at c)) (is_called new own)
      (is_named new turns (change_at c))
      (shown_in (register_of first.segment after)) (shown_in (register_of (change_at c) after))
      (missing_in (register_of first.segment after)) (missing_in (register_of (change_at c) after)) c is.place
      (λ q. at_own (λ t. is_at (λ x. same_id q x.id) new t.at) ∙ ap (λ (g : Segment). arrives new turns g q) (sym is.place))
      (λ q. at_own (λ t. is_at (λ x. names x q) new t.at) ∙ ap (λ (g : Segment). is_named new turns g q) (sym is.place))
      (ap (λ (g : Segment). shown_in (register_of g after)) (sym is.place))
      (ap (λ (g : Segment). missing_in (register_of g after)) (sym is.place)) is

  still_left : (g : Segment) → change_for g more ≡ None → (f : Turn → Bool)
      → list_any (λ t. same_segment t.segment g && f t) turns ≡ list_any (λ t. same_segment t.segment g && f t) later
  still_left g none f =
      let apart = parted (change_for g changes) (is_eq (segment_cmp g (change_at c)))
      (sym (ap (change_for g) m ∙ find-append (λ (d : Change). is_eq (segment_cmp g (change_at d))) changes (c ∷ [])) ∙ none) in
      w.left g apart.0 f ∙ at_other rest own later first.segment whole own_all later_all g f
      (same_segment-cmp first.segment g ∙ tied_back segment_cmp segment_total g first.segment false
      (ap (λ (k : Segment). is_eq (segment_cmp g k)) (sym is.place) ∙ apart.1))
    where
      parted : (r : Option Change) (b : Bool) → option_or r (cond b (Some c) None) ≡ None → (r ≡ None) × (b ≡ false)
      parted None true h = cc h
      parted None false h = (refl, refl)
      parted (Some d) b h = cc h

  pub walk_on : Walked held new turns start after more later
  walk_on = record {
    same = readies_more start now after w.same same;
    sorted = ap never_fall l ∙ fall_drop (1 + n) rest w.sorted;
    rising = rise_push changes c more m w.rising (subst (AreBelow changes) (sym is.place) are_below);
    each = each_push IsRisingChange changes c more m w.each rises;
    are = each_push (IsChangeAt held new turns after) changes c more m (are_ready held new turns now after changes same w.are) is_change;
    room = each_push (λ (d : Change). HasRoomIn d (register_of (change_at d) after)) changes c more m
        (each_weaker (λ (d : Change). HasRoomIn d (register_of (change_at d) now))
        (λ (d : Change). HasRoomIn d (register_of (change_at d) after)) changes (λ d h. same.room (change_at d) d h) w.room)
        (subst (λ (g : Segment). HasRoomIn c (register_of g after)) (sym is.place) room);
    below = each_push (λ (d : Change). list_all (λ t. is_lt (segment_cmp (change_at d) t.segment)) later ≡ true) changes c more m
        (each_weaker (λ (d : Change). list_all (λ t. is_lt (segment_cmp (change_at d) t.segment)) rest ≡ true)
        (λ (d : Change). list_all (λ t. is_lt (segment_cmp (change_at d) t.segment)) later ≡ true) changes
        (λ d h. ap (list_all (λ (t : Turn). is_lt (segment_cmp (change_at d) t.segment))) l
        ∙ all_drop (λ (t : Turn). is_lt (segment_cmp (change_at d) t.segment)) (1 + n) rest h) w.below)
        (ap (λ (g : Segment). list_all (λ (t : Turn). is_lt (segment_cmp g t.segment)) later) is.place ∙ later_all);
    left = still_left;
  }
