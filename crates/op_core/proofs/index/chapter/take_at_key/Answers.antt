use Rattle.std.proofs.Common.{arith, subst, IsTrue, Option}
use Rattle.op_core.specs.Ids.{ids_rise}
use Rattle.op_core.specs.Loops.Index.{register_at, shown_in, missing_in, HasRoomIn}
use Rattle.op_core.specs.declared.index.register.Register.{Register}
use Rattle.op_core.proofs.Indexed.Registers.{there_at, at_was, at_changes}
use Rattle.op_core.proofs.Indexed.There.{has_there}
use Rattle.op_core.proofs.index.chapter.take_at_key.Goals as goal

pub index_mut-requires : goal.index_mut-requires
index_mut-requires c =
    let there = has_there c.args.change (register_at c.args.change.key c.args.registers.now.items) c.requires.room in
    let l = there_at c.args.change.key c.args.registers.now.items c.place_register-at.result c.requires.rising
    (rw (← c.deref.ensures.value) c.place_register-at.ensures.place) there in omega (arith, l, c.args.registers.now.ok.0)

pub take-requires-clause-shown : goal.take-requires-clause-shown
take-requires-clause-shown c =
    let there = has_there c.args.change (register_at c.args.change.key c.args.registers.now.items) c.requires.room in
    let was = at_was c.args.change.key c.args.registers.now.items c.place_register-at.result c.requires.rising
    (rw (← c.deref.ensures.value) c.place_register-at.ensures.place) c.index_mut.result.now c.index_mut.ensures.value there in
    subst (λ (r : Option Register). IsTrue (ids_rise (shown_in r))) was c.requires.shown

pub take-requires-clause-missing : goal.take-requires-clause-missing
take-requires-clause-missing c =
    let there = has_there c.args.change (register_at c.args.change.key c.args.registers.now.items) c.requires.room in
    let was = at_was c.args.change.key c.args.registers.now.items c.place_register-at.result c.requires.rising
    (rw (← c.deref.ensures.value) c.place_register-at.ensures.place) c.index_mut.result.now c.index_mut.ensures.value there in
    subst (λ (r : Option Register). IsTrue (ids_rise (missing_in r))) was c.requires.missing

pub take-requires-clause-room : goal.take-requires-clause-room
take-requires-clause-room c =
    let there = has_there c.args.change (register_at c.args.change.key c.args.registers.now.items) c.requires.room in
    let was = at_was c.args.change.key c.args.registers.now.items c.place_register-at.result c.requires.rising
    (rw (← c.deref.ensures.value) c.place_register-at.ensures.place) c.index_mut.result.now c.index_mut.ensures.value there in
    subst (HasRoomIn c.args.change) was c.requires.room

pub returns : goal.returns
returns c =
    let x = c.index_mut.result.now in
    let y = c.take.new.self in
    let there = has_there c.args.change (register_at c.args.change.key c.args.registers.now.items) c.requires.room in
    record {
      old = x;
      new = y;
      was = at_was c.args.change.key c.args.registers.now.items c.place_register-at.result c.requires.rising
          (rw (← c.deref.ensures.value) c.place_register-at.ensures.place) x c.index_mut.ensures.value there;
      changes = at_changes c.args.change.key c.args.registers.now.items c.place_register-at.result c.requires.rising
          (rw (← c.deref.ensures.value) c.place_register-at.ensures.place) x y c.index_mut.ensures.value there c.take.ensures.key;
      holds = c.take.ensures;
    }
