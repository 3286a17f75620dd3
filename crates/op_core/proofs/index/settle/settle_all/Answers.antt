use Rattle.std.proofs.Common.{◌≡◌, arith, sym, subst, IsTrue, Option, Some}
use Rattle.std.proofs.lemmas.List.{nil_from_length}
use Rattle.op_core.specs.Ids.{ids_rise}
use Rattle.op_core.specs.Loops.Index.{register_of, change_at, shown_in, missing_in, HasRoomIn, IsRisingChange}
use Rattle.op_core.specs.Loops.Changes.{change_for}
use Rattle.op_core.specs.declared.index.register.Register.{Register}
use Rattle.op_core.specs.declared.index.change.Change.{Change}
use Rattle.op_core.proofs.Indexed.Settled.{front, rise_front, found_all, pending_first, as_it_was, pending_more, settled}
use Rattle.op_core.proofs.index.settle.settle_all.Goals as goal

pub changes-init : goal.changes-init
changes-init c = record {
  orderly = c.requires.orderly;
  rising = c.requires.rising;
  each = c.requires.each;
  found = found_all c.args.changes.items c.requires.rising;
  room = c.requires.room;
  pending = λ g. pending_first (change_for g c.args.changes.items) (register_of g c.args.chapters.now.items);
}

pub settle-requires-clause-shown : goal.settle-requires-clause-shown
settle-requires-clause-shown c =
    let h = c.changes.invariant in
    let x = c.in-Some.change in
    let same = as_it_was c.pop.new.self.items x c.changes.changes.items c.in-Some.ensures.items h.rising
    (change_for (change_at x) c.args.changes.items) (register_of (change_at x) c.args.chapters.now.items)
    (register_of (change_at x) c.changes.chapters.items) (h.pending (change_at x)) in
    subst (λ (r : Option Register). IsTrue (ids_rise (shown_in r))) (sym same) (c.requires.shown (change_at x))

pub settle-requires-clause-missing : goal.settle-requires-clause-missing
settle-requires-clause-missing c =
    let h = c.changes.invariant in
    let x = c.in-Some.change in
    let same = as_it_was c.pop.new.self.items x c.changes.changes.items c.in-Some.ensures.items h.rising
    (change_for (change_at x) c.args.changes.items) (register_of (change_at x) c.args.chapters.now.items)
    (register_of (change_at x) c.changes.chapters.items) (h.pending (change_at x)) in
    subst (λ (r : Option Register). IsTrue (ids_rise (missing_in r))) (sym same) (c.requires.missing (change_at x))

pub settle-requires-clause-change : goal.settle-requires-clause-change
settle-requires-clause-change c =
    (front IsRisingChange c.pop.new.self.items c.in-Some.change c.changes.changes.items c.in-Some.ensures.items c.changes.invariant.each).1

pub settle-requires-clause-room : goal.settle-requires-clause-room
settle-requires-clause-room c =
    let h = c.changes.invariant in
    let x = c.in-Some.change in
    let same = as_it_was c.pop.new.self.items x c.changes.changes.items c.in-Some.ensures.items h.rising
    (change_for (change_at x) c.args.changes.items) (register_of (change_at x) c.args.chapters.now.items)
    (register_of (change_at x) c.changes.chapters.items) (h.pending (change_at x)) in
    subst (HasRoomIn x) (sym same)
    (front (λ (d : Change). HasRoomIn d (register_of (change_at d) c.args.chapters.now.items)) c.pop.new.self.items x
    c.changes.changes.items c.in-Some.ensures.items h.room).1

pub changes-preserved : goal.changes-preserved
changes-preserved c =
    let h = c.changes.invariant in
    let x = c.in-Some.change in
    let cs = c.pop.new.self.items in
    let all = c.changes.changes.items in
    let is = c.in-Some.ensures.items in
    let found = front (λ (d : Change). change_for (change_at d) c.args.changes.items ≡ Some d) cs x all is h.found in
    record {
      orderly = c.settle.ensures.changes.orderly;
      rising = (rise_front cs x all is h.rising).0;
      each = (front IsRisingChange cs x all is h.each).0;
      found = found.0;
      room = (front (λ (d : Change). HasRoomIn d (register_of (change_at d) c.args.chapters.now.items)) cs x all is h.room).0;
      pending = pending_more cs x all is h.rising c.args.changes.items c.args.chapters.now.items c.changes.chapters.items _ found.1
          c.settle.ensures h.pending;
    }

pub returns : goal.returns
returns c =
    let none = nil_from_length c.changes.changes.items (omega (arith, c.in_default.ensures.cases.0, c.changes.changes.ok.0)) in
    settled c.changes.changes.items c.args.changes.items c.args.chapters.now.items c.changes.chapters.items none c.changes.invariant.orderly
    c.changes.invariant.pending
