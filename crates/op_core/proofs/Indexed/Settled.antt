-- Changes made one after the other, the last first.
use Rattle.std.proofs.Common.{◌≡◌, Bool, true, false, cond, List, [], ◌∷◌, ◌++◌, Option, Some, None, refl, sym, ap, subst, ◌∙◌}
use Rattle.std.specs.Ordering.{is_eq, is_lt}
use Rattle.std.specs.List.{list_all, AllByRecursion}
use Rattle.std.specs.Option.{option_or}
use Rattle.std.specs.Cmp.{Equal-is, tied_itself}
use Rattle.std.proofs.lemmas.Bool.{and_parts, and_from, cond-true}
use Rattle.std.proofs.lemmas.List.Folds.{find-append}
use Rattle.usfm_ref.specs.Segments.{segment_cmp}
use Rattle.usfm_ref.specs.declared.segment.Segment.{Segment}
use Rattle.usfm_ref.proofs.Orders.{segment_total, segment_exact}
use Rattle.usfm_ref.proofs.Sorted.{parts, each_found}
use Rattle.op_core.specs.Loops.Index.{register_of, change_at, IsOrderly, IsAt, Takes}
use Rattle.op_core.specs.Loops.Changes.{change_for, TakesIn, Taken, Settles}
use Rattle.op_core.specs.declared.index.register.Register.{Register}
use Rattle.op_core.specs.declared.index.chapter.Chapter.{Chapter}
use Rattle.op_core.specs.declared.index.change.Change.{Change}
use Rattle.op_core.proofs.Indexed.Turned.{AreBelow, changes_rise, none_for}

pub front : {X : Type 0} (P : X → Type 0) (xs : List X) (x : X) (all : List X) → all ≡ xs ++ x ∷ [] → AllByRecursion P all
    → AllByRecursion P xs × P x
front {X} P xs x all e h = parted xs (subst (AllByRecursion P) e h)
  where
    parted : (xs : List X) → AllByRecursion P (xs ++ x ∷ []) → AllByRecursion P xs × P x
    parted [] h = (tt, h.0)
    parted (y ∷ ys) h = let r = parted ys h.1 in ((h.0, r.0), r.1)

-- the register of a segment, while these changes are left: as it was where there is one, and else settled
abbrev pub Pending : Option Change → Option Change → Option Register → Option Register → Type 0
Pending None all before now = TakesIn all before now
Pending (Some c) all before now = now ≡ before

pub pending_first : (c : Option Change) (r : Option Register) → Pending c c r r
pending_first None r = refl
pending_first (Some c) r = refl

pub rise_front : (cs : List Change) (c : Change) (all : List Change) → all ≡ cs ++ c ∷ [] → changes_rise all ≡ true
    → (changes_rise cs ≡ true) × AreBelow cs (change_at c)
rise_front cs c all e h = parted cs (sym (ap changes_rise e) ∙ h)
  where
    both : (p : Change → Bool) (xs : List Change) → list_all p (xs ++ c ∷ []) ≡ true → (list_all p xs ≡ true) × (p c ≡ true)
    both p [] h = (refl, (and_parts (p c) true h).0)
    both p (x ∷ xs) h =
        let q = and_parts (p x) (list_all p (xs ++ c ∷ [])) h in
        let r = both p xs q.1 in
        (and_from _ _ q.0 r.0, r.1)

    parted : (xs : List Change) → changes_rise (xs ++ c ∷ []) ≡ true → (changes_rise xs ≡ true) × AreBelow xs (change_at c)
    parted [] h = (refl, tt)
    parted (x ∷ xs) h =
        let p = parts segment_cmp segment_total change_at x (xs ++ c ∷ []) h in
        let q = both (λ y. is_lt (segment_cmp (change_at x) (change_at y))) xs p.0 in
        let r = parted xs p.1 in
        (and_from _ _ q.0 r.0, (q.1, r.1))

pub found_all : (cs : List Change) → changes_rise cs ≡ true → AllByRecursion (λ (c : Change). change_for (change_at c) cs ≡ Some c) cs
found_all cs h = each_found segment_cmp segment_total change_at cs h

module _ (cs : List Change) (c : Change) (rest : List Change) (is : rest ≡ cs ++ c ∷ []) where
  for_rest : (g : Segment) → change_for g rest ≡ option_or (change_for g cs) (cond (is_eq (segment_cmp g (change_at c))) (Some c) None)
  for_rest g = ap (change_for g) is ∙ find-append (λ (d : Change). is_eq (segment_cmp g (change_at d))) cs (c ∷ [])

  module _ (rising : changes_rise rest ≡ true) where
    gone : change_for (change_at c) cs ≡ None
    gone = none_for (change_at c) cs (rise_front cs c rest is rising).1

    pub last_for : change_for (change_at c) rest ≡ Some c
    last_for = for_rest (change_at c) ∙
        ap (λ (r : Option Change). option_or r (cond (is_eq (segment_cmp (change_at c) (change_at c))) (Some c) None)) gone
        ∙ cond-true _ (Some c) None (ap is_eq (tied_itself segment_total (change_at c)))

    -- the segment's register is still as it was
    pub as_it_was : (all : Option Change) (r0 r1 : Option Register) → Pending (change_for (change_at c) rest) all r0 r1 → r1 ≡ r0
    as_it_was all r0 r1 p = by (change_for (change_at c) rest) last_for p
      where
        by : (o : Option Change) → o ≡ Some c → Pending o all r0 r1 → r1 ≡ r0
        by None e p = cc e
        by (Some d) e p = p

    pub pending_more : (all : List Change) (before now after : List Chapter) → change_for (change_at c) all ≡ Some c
        → IsAt (Takes c) (change_at c) now after →
        ((g : Segment) → Pending (change_for g rest) (change_for g all) (register_of g before) (register_of g now)) → (g : Segment)
        → Pending (change_for g cs) (change_for g all) (register_of g before) (register_of g after)
    pending_more all before now after found a h g = by (is_eq (segment_cmp g (change_at c))) refl
      where
        other : (o : Option Change) → option_or o None ≡ o
        other None = refl
        other (Some d) = refl

        here : g ≡ change_at c → Pending (change_for g cs) (change_for g all) (register_of g before) (register_of g after)
        here e =
            subst (λ (k : Segment). Pending (change_for k cs) (change_for k all) (register_of k before) (register_of k after)) (sym e) (
            let same = as_it_was (change_for (change_at c) all) (register_of (change_at c) before) (register_of (change_at c) now)
            (h (change_at c)) in
            let is_new : register_of (change_at c) after ≡ Some a.new =
            a.changes.is_now (change_at c) ∙ cond-true _ _ _ (ap is_eq (tied_itself segment_total (change_at c))) in
            let taken : Taken c (register_of (change_at c) before) (register_of (change_at c) after) =
            record { old = a.old; new = a.new; was = sym same ∙ a.was; is = is_new; takes = a.holds } in
            subst (λ (o : Option Change). Pending o (change_for (change_at c) all) (register_of (change_at c) before)
            (register_of (change_at c) after)) (sym gone)
            (subst (λ (o : Option Change). TakesIn o (register_of (change_at c) before) (register_of (change_at c) after))
            (sym found) taken))

        by : (b : Bool) → is_eq (segment_cmp g (change_at c)) ≡ b
            → Pending (change_for g cs) (change_for g all) (register_of g before) (register_of g after)
        by true t = here (segment_exact g (change_at c) ((Equal-is _).0 t))
        by false t =
            let stays : register_of g after ≡ register_of g now =
            a.changes.is_now g ∙ ap (λ b. cond b (Some a.new) (register_of g now)) t in
            let left : change_for g rest ≡ change_for g cs =
            for_rest g ∙ ap (λ b. option_or (change_for g cs) (cond b (Some c) None)) t ∙ other (change_for g cs) in
            subst (λ (r : Option Register). Pending (change_for g cs) (change_for g all) (register_of g before) r) (sym stays)
            (subst (λ (o : Option Change). Pending o (change_for g all) (register_of g before) (register_of g now)) left (h g))

-- none is left
pub settled : (rest all : List Change) (before after : List Chapter) → rest ≡ [] → IsOrderly after
    → ((g : Segment) → Pending (change_for g rest) (change_for g all) (register_of g before) (register_of g after))
    → Settles all before after
settled rest all before after e o h = record {
  orderly = o;
  is_now =
      λ g. subst (λ (cs : List Change). Pending (change_for g cs) (change_for g all) (register_of g before) (register_of g after)) e (h g);
}
