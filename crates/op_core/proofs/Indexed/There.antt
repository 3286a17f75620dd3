-- Whether a segment has a register, and registers put in.
use Rattle.std.proofs.Common.{◌≡◌, Bool, true, false, cond, List, [], Option, Some, None, Result, Ok, Err, OnOk, OnErr, refl, sym, ap, subst, ◌∙◌}
use Rattle.std.specs.Ordering.{is_eq}
use Rattle.std.specs.List.{list_any}
use Rattle.std.specs.Option.{is_some}
use Rattle.std.specs.Cmp.{Equal-is, tied_itself}
use Rattle.std.proofs.lemmas.Bool.{cond-true, true≢false}
use Rattle.usfm_ref.specs.Segments.{segment_cmp}
use Rattle.usfm_ref.specs.declared.segment.Segment.{Segment}
use Rattle.usfm_ref.proofs.Orders.{segment_total, segment_exact}
use Rattle.op_core.specs.Ids.{Id, same_id, ids_rise}
use Rattle.op_core.specs.Ops.{Operation}
use Rattle.op_core.specs.Loops.Index.{register_of, shown_in, missing_in, is_there, IsOrderly, IsIndex, Changes, Same, IsAt, IsSameBut, Readies, HasRoomIn}
use Rattle.op_core.specs.Sets.{rises}
use Rattle.op_core.specs.declared.index.register.Register.{Register}
use Rattle.op_core.specs.declared.index.chapter.Chapter.{Chapter}
use Rattle.op_core.specs.declared.index.change.Change.{Change}
use Rattle.op_core.proofs.Indexed.Kept.{shown_ids_rise}

-- what follows from either result
pub either : {T E : Type 0} {P Q C : Type 0} (r : Result T E) → (P → C) → (Q → C) → OnOk r P → OnErr r Q → C
either (Ok x) f g p q = f p
either (Err e) f g p q = g q

-- ---- whether there is a register

some_none : {X : Type 0} (r : Option X) → is_some r ≡ false → r ≡ None
some_none None e = refl
some_none (Some x) e = absurd (true≢false e)

pub not_there : (g : Segment) (chapters : List Chapter) → is_there g chapters ≡ false → register_of g chapters ≡ None
not_there g chapters e = some_none (register_of g chapters) e

pub there_now : (g h : Segment) (r : Register) (before after : List Chapter) → Changes g r before after → is_there h before ≡ true
    → is_there h after ≡ true
there_now g h r before after c t = ap is_some (c.is_now h) ∙ by (is_eq (segment_cmp h g))
  where
    by : (b : Bool) → is_some (cond b (Some r) (register_of h before)) ≡ true
    by true = refl
    by false = t

pub there_itself : (g : Segment) (r : Register) (before after : List Chapter) → Changes g r before after → is_there g after ≡ true
there_itself g r before after c = ap is_some (c.is_now g ∙ cond-true _ _ _ (ap is_eq (tied_itself segment_total g)))

pub there_same : (h : Segment) (before after : List Chapter) → Same before after → is_there h before ≡ true → is_there h after ≡ true
there_same h before after s t = ap is_some (s.is_now h) ∙ t

-- ---- an index that keeps the same, with more registers and room

pub readies_same : (cs : List Chapter) → IsOrderly cs → Readies cs cs
readies_same cs o = record { orderly = o; shown = λ g. refl; missing = λ g. refl; room = λ g c h. h }

pub readies_more : (a b c : List Chapter) → Readies a b → Readies b c → Readies a c
readies_more a b c h k = record {
  orderly = k.orderly;
  shown = λ g. k.shown g ∙ h.shown g;
  missing = λ g. k.missing g ∙ h.missing g;
  room = λ g x r. k.room g x (h.room g x r);
}

pub readies_like : (before after : List Chapter) → Same before after → Readies before after
readies_like before after s = record {
  orderly = s.orderly;
  shown = λ g. ap shown_in (s.is_now g);
  missing = λ g. ap missing_in (s.is_now g);
  room = λ g c r. subst (HasRoomIn c) (sym (s.is_now g)) r;
}

-- a register that keeps no id was put in
pub readies_put : (g : Segment) (r : Register) (before after : List Chapter) → Changes g r before after → register_of g before ≡ None
    → r.shown.items ≡ [] → r.missing.items ≡ [] → Readies before after
readies_put g r before after c none sh mi = record {
  orderly = c.orderly;
  shown = λ h. ap shown_in (c.is_now h) ∙ by shown_in sh refl h (is_eq (segment_cmp h g)) refl;
  missing = λ h. ap missing_in (c.is_now h) ∙ by missing_in mi refl h (is_eq (segment_cmp h g)) refl;
  room = λ h x k. subst (HasRoomIn x) (sym (c.is_now h)) (has h x (is_eq (segment_cmp h g)) refl k);
}
  where
    at : (h : Segment) → is_eq (segment_cmp h g) ≡ true → register_of h before ≡ None
    at h t = ap (λ (s : Segment). register_of s before) (segment_exact h g ((Equal-is _).0 t)) ∙ none

    by : (f : Option Register → List Id) → f (Some r) ≡ [] → f None ≡ [] → (h : Segment) (b : Bool) → is_eq (segment_cmp h g) ≡ b
        → f (cond b (Some r) (register_of h before)) ≡ f (register_of h before)
    by f e n h true t = e ∙ sym n ∙ sym (ap f (at h t))
    by f e n h false t = refl

    has : (h : Segment) (x : Change) (b : Bool) → is_eq (segment_cmp h g) ≡ b → HasRoomIn x (register_of h before)
        → HasRoomIn x (cond b (Some r) (register_of h before))
    has h x true t k = absurd (subst (HasRoomIn x) (at h t) k)
    has h x false t k = k

-- a register got room
pub readies_at : (g : Segment) (before after : List Chapter) → IsAt IsSameBut g before after → Readies before after
readies_at g before after a = record {
  orderly = a.changes.orderly;
  shown = λ h. ap shown_in (a.changes.is_now h) ∙ by shown_in a.holds.shown h (is_eq (segment_cmp h g)) refl;
  missing = λ h. ap missing_in (a.changes.is_now h) ∙ by missing_in a.holds.missing h (is_eq (segment_cmp h g)) refl;
  room = λ h x k. subst (HasRoomIn x) (sym (a.changes.is_now h)) (has h x (is_eq (segment_cmp h g)) refl k);
}
  where
    at : (h : Segment) → is_eq (segment_cmp h g) ≡ true → register_of h before ≡ Some a.old
    at h t = ap (λ (s : Segment). register_of s before) (segment_exact h g ((Equal-is _).0 t)) ∙ a.was

    by : (f : Option Register → List Id) → f (Some a.new) ≡ f (Some a.old) → (h : Segment) (b : Bool) → is_eq (segment_cmp h g) ≡ b
        → f (cond b (Some a.new) (register_of h before)) ≡ f (register_of h before)
    by f e h true t = e ∙ sym (ap f (at h t))
    by f e h false t = refl

    has : (h : Segment) (x : Change) (b : Bool) → is_eq (segment_cmp h g) ≡ b → HasRoomIn x (register_of h before)
        → HasRoomIn x (cond b (Some a.new) (register_of h before))
    has h x true t k = a.holds.room x (subst (HasRoomIn x) (at h t) k)
    has h x false t k = k

pub index_ready : (ops : List Operation) (before after : List Chapter) → IsIndex ops before → Readies before after → IsIndex ops after
index_ready ops before after h p = record {
  orderly = p.orderly;
  keeps = record {
    shown = λ k. p.shown k ∙ h.keeps.shown k;
    rising = λ k. subst (λ (ids : List Id). ids_rise ids ≡ true) (sym (p.missing k)) (h.keeps.rising k);
    missing = λ k q. ap (λ (ids : List Id). list_any (same_id q) ids) (p.missing k) ∙ h.keeps.missing k q;
  };
}

-- where there is room there is a register
pub has_there : (c : Change) (r : Option Register) → HasRoomIn c r → is_some r ≡ true
has_there c None h = absurd h
has_there c (Some x) h = refl

-- what an index that keeps the same shows and misses rises
pub ready_shown : (ops : List Operation) (before after : List Chapter) → rises ops ≡ true → IsIndex ops before → Readies before after
    → (g : Segment) → ids_rise (shown_in (register_of g after)) ≡ true
ready_shown ops before after h index r g = ap ids_rise (r.shown g ∙ index.keeps.shown g) ∙ shown_ids_rise ops g h

pub ready_missing : (ops : List Operation) (before after : List Chapter) → IsIndex ops before → Readies before after → (g : Segment)
    → ids_rise (missing_in (register_of g after)) ≡ true
ready_missing ops before after index r g = ap ids_rise (r.missing g) ∙ index.keeps.rising g
