use Rattle.std.proofs.Common.{sym, ap, ◌≡◌, ◌≤◌, ◌∙◌, true, is_ok, length, reverse, arith}
use Rattle.std.proofs.lemmas.Bool.{cond-true}
use Rattle.usfm_ref.specs.Keys.{head_of, key_cmp}
use Rattle.usfm_ref.proofs.Orders.{key_total, same_key-is}
use Rattle.usfm_ref.proofs.Sorted.{place}
use Rattle.op_core.specs.Loops.Index.{begins_above}
use Rattle.op_core.specs.declared.index.register.Register.{Register}
use Rattle.op_core.proofs.Indexed.Between.{rises_front}
use Rattle.op_core.proofs.Indexed.Laid.{keys_moved, key_more}
use Rattle.op_core.proofs.index.lay.merge_registers.Goals as goal

pub place_register-at-requires : goal.place_register-at-requires
place_register-at-requires c = record {
  rising = rw c.deref.ensures.value (rises_front key_cmp key_total
      (λ (r : Register). r.key) c.laying.registers.items (reverse c.laying.tail.items) c.laying.invariant.lays.rising);
}

pub laying-preserved-then-is_key_under : goal.laying-preserved-then-is_key_under
laying-preserved-then-is_key_under c =
    let h = c.laying.invariant in
    let m = c.move_after.ensures in
    let key = c.in-Some.segment.now.key in
    let n = c.place_register-at.result in
    let y : Register = c.new.result in
    let is : y.key ≡ key = c.new.ensures.key in
    let at : n ≡ place key_cmp key_total (λ (r : Register). r.key) y.key c.laying.registers.items = c.place_register-at.ensures.place
    ∙ (λ i. place key_cmp key_total (λ (r : Register). r.key) (sym is i) (c.deref.ensures.value i)) in
    let within : n ≤ length c.laying.registers.items = omega (arith, c.place_register-at.ensures.within, c.deref.ensures.len) in
    let under : begins_above key_cmp (λ (r : Register). r.key) y.key (reverse c.move_after.new.to.items) ≡ true =
    (λ i. begins_above key_cmp (λ (r : Register). r.key) (is i) (reverse (sym c.deref-then-is_of.ensures.value i)))
    ∙ sym c.is_key_under.ensures ∙ c.if-is_key_under.true in
    let home : head_of y.key ≡ c.args.head =
    ap head_of is ∙ same_key-is (head_of key) c.args.head (sym c.is_of.ensures ∙ c.if-is_of.true) in
    let went : is_ok c.push.result ≡ true = ap is_ok c.unwrap.ensures in
    let pushed = c.push.ensures.len ∙ cond-true _ _ _ went in
    record {
      lays = key_more c.args.head c.args.registers.now.items c.laying.registers.items c.laying.tail.items c.move_after.new.list.items
          c.move_after.new.to.items c.push.new.self.items n y within at m.left m.moved under home c.new.ensures.shown c.new.ensures.missing
          (c.push.ensures.items ∙ cond-true _ _ _ went) h.lays;
      room = omega (arith, h.room, m.left_len, m.moved_len, m.left_room, pushed, c.if-len-capacity.true);
      spare = omega (arith, h.spare, m.left_len, m.moved_len, m.moved_room, pushed, c.push.ensures.capacity, c.if-len-capacity-2.true);
    }

pub laying-preserved : goal.laying-preserved
laying-preserved c =
    let h = c.laying.invariant in
    let m = c.move_after.ensures in
    record {
      lays = keys_moved c.args.head c.args.registers.now.items c.laying.registers.items c.laying.tail.items c.move_after.new.list.items
          c.move_after.new.to.items c.place_register-at.result m.left m.moved h.lays;
      room = omega (arith, h.room, m.left_len, m.moved_len, m.left_room);
      spare = omega (arith, h.spare, m.left_len, m.moved_len, m.moved_room);
    }
