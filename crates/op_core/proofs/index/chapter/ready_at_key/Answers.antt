use Rattle.std.proofs.Common.{arith, subst, refl, sym, ap, IsTrue, Option}
use Rattle.usfm_ref.specs.Segments.{segment}
use Rattle.op_core.specs.Ids.{ids_rise}
use Rattle.op_core.specs.NextIds.{is_among}
use Rattle.op_core.specs.Loops.Index.{shown_in, missing_in, HasRoomIn}
use Rattle.op_core.specs.declared.index.register.Register.{Register}
use Rattle.op_core.proofs.Indexed.Registers.{there_at, at_was, at_is, at_changes, key_now}
use Rattle.op_core.proofs.IdOrders.IdSets.{if_ok}
use Rattle.op_core.proofs.Indexed.Turned.{change_told}
use Rattle.op_core.proofs.index.chapter.ready_at_key.Goals as goal

pub index_mut-requires : goal.index_mut-requires
index_mut-requires c = let l = there_at c.args.segment.now.key c.args.registers.now.items c.place_register-at.result c.requires.rising
    (rw (← c.deref.ensures.value) c.place_register-at.ensures.place) c.requires.there in omega (arith, l, c.args.registers.now.ok.0)

pub ready-requires-clause-shown : goal.ready-requires-clause-shown
ready-requires-clause-shown c =
    let was = at_was c.args.segment.now.key c.args.registers.now.items c.place_register-at.result c.requires.rising
    (rw (← c.deref.ensures.value) c.place_register-at.ensures.place) c.index_mut.result.now c.index_mut.ensures.value c.requires.there
    in
    subst (λ (r : Option Register). IsTrue (ids_rise (shown_in r))) was c.requires.shown

pub ready-requires-clause-missing : goal.ready-requires-clause-missing
ready-requires-clause-missing c =
    let was = at_was c.args.segment.now.key c.args.registers.now.items c.place_register-at.result c.requires.rising
    (rw (← c.deref.ensures.value) c.place_register-at.ensures.place) c.index_mut.result.now c.index_mut.ensures.value c.requires.there
    in
    subst (λ (r : Option Register). IsTrue (ids_rise (missing_in r))) was c.requires.missing

pub returns-clause-same : goal.returns-clause-same
returns-clause-same c =
    let x = c.index_mut.result.now in
    let y = c.ready.new.self in
    record {
      old = x;
      new = y;
      was = at_was c.args.segment.now.key c.args.registers.now.items c.place_register-at.result c.requires.rising
          (rw (← c.deref.ensures.value) c.place_register-at.ensures.place) x c.index_mut.ensures.value c.requires.there;
      changes = at_changes c.args.segment.now.key c.args.registers.now.items c.place_register-at.result c.requires.rising
          (rw (← c.deref.ensures.value) c.place_register-at.ensures.place) x y c.index_mut.ensures.value c.requires.there
          c.ready.ensures.same.key;
      holds = c.ready.ensures.same;
    }

pub returns-clause-change : goal.returns-clause-change
returns-clause-change c =
    let x = c.index_mut.result.now in
    let was = at_was c.args.segment.now.key c.args.registers.now.items c.place_register-at.result c.requires.rising
    (rw (← c.deref.ensures.value) c.place_register-at.ensures.place) x c.index_mut.ensures.value c.requires.there in
    let is = at_is c.args.segment.now.key c.args.registers.now.items c.place_register-at.result c.requires.rising
    (rw (← c.deref.ensures.value) c.place_register-at.ensures.place) x c.index_mut.ensures.value c.requires.there in
    if_ok c.ready.result
    (λ ch k. change_told c.args.held.now (segment c.args.segment.now.book x.key) c.args.segment.now
    (is_among c.args.aside.now.arrived.items) (is_among c.args.aside.now.arrived.items) (is_among c.args.aside.now.named.items)
    (is_among c.args.aside.now.named.items)
    x.shown.items _ x.missing.items _ ch (ap (segment c.args.segment.now.book) (sym is)) (λ q. refl) (λ q. refl) (ap shown_in (sym was))
    (ap missing_in (sym was)) k) c.ready.ensures.change

pub returns-clause-room : goal.returns-clause-room
returns-clause-room c =
    let x = c.index_mut.result.now in
    let y = c.ready.new.self in
    let changes = at_changes c.args.segment.now.key c.args.registers.now.items c.place_register-at.result c.requires.rising
    (rw (← c.deref.ensures.value) c.place_register-at.ensures.place) x y c.index_mut.ensures.value c.requires.there
    c.ready.ensures.same.key in
    if_ok c.ready.result (λ ch k. subst (HasRoomIn ch) (sym (key_now c.args.segment.now.key y c.args.registers.now.items _ changes)) k)
    c.ready.ensures.room
