use Rattle.std.proofs.Common.{sym, ap, subst, ◌≡◌, ◌≤◌, ◌++◌, ◌∷◌, [], ◌∙◌, true, is_ok, List, drop, reverse, arith, None}
use Rattle.std.proofs.lemmas.Bool.{cond-true}
use Rattle.op_core.specs.Ops.{Operation}
use Rattle.op_core.specs.Sets.{rises, get}
use Rattle.op_core.specs.Loops.Index.{AreApart, IsBefore}
use Rattle.op_core.proofs.Indexed.Enrolled.{front_rises}
use Rattle.op_core.proofs.Sets.Merging.{place, all_last, join_last, rises_take, apart_left, before_left, union_more}
use Rattle.op_core.proofs.lists.merge.interleave.Goals as goal

pub move_after-requires-clause-room : goal.move_after-requires-clause-room
move_after-requires-clause-room c =
    let h = c.merging.invariant in
    let at : c.args.from ≤ place c.in-Some.op.id c.merging.ops.items = all_last
    (λ (o : Operation). c.args.from ≤ place o.id c.merging.ops.items) c.pop.new.self.items c.in-Some.op
    (subst (IsBefore c.args.from c.merging.ops.items) c.in-Some.ensures.items h.before) in
    let is = c.place_last-at.ensures.place ∙ (λ i. place (c.id.ensures.id i) (c.deref.ensures.value i)) in
    omega (arith, h.spare, at, is)

pub unwrap-requires : goal.unwrap-requires
unwrap-requires c =
    let h = c.merging.invariant in
    let at : c.args.from ≤ place c.in-Some.op.id c.merging.ops.items = all_last
    (λ (o : Operation). c.args.from ≤ place o.id c.merging.ops.items) c.pop.new.self.items c.in-Some.op
    (subst (IsBefore c.args.from c.merging.ops.items) c.in-Some.ensures.items h.before) in
    let is = c.place_last-at.ensures.place ∙ (λ i. place (c.id.ensures.id i) (c.deref.ensures.value i)) in
    c.push.ensures.succeeds (omega
    (arith, h.spare, at, is, c.in-Some.ensures.len, c.move_after.ensures.moved_len, c.move_after.ensures.moved_room))

pub merging-preserved : goal.merging-preserved
merging-preserved c =
    let h = c.merging.invariant in
    let o = c.in-Some.op in
    let n = c.place_last-at.result in
    let ys = c.pop.new.self.items in
    let ops = c.merging.ops.items in
    let is : n ≡ place o.id ops = c.place_last-at.ensures.place ∙ (λ i. place (c.id.ensures.id i) (c.deref.ensures.value i)) in
    let rising : rises (ys ++ o ∷ []) ≡ true = subst (λ (xs : List Operation). rises xs ≡ true) c.in-Some.ensures.items h.new_rises in
    let apart : AreApart ops (ys ++ o ∷ []) = subst (AreApart ops) c.in-Some.ensures.items h.apart in
    let before : IsBefore c.args.from ops (ys ++ o ∷ []) = subst (IsBefore c.args.from ops) c.in-Some.ensures.items h.before in
    let at : c.args.from ≤ place o.id ops = all_last (λ (p : Operation). c.args.from ≤ place p.id ops) ys o before in
    let none = all_last (λ (p : Operation). get ops p.id ≡ None) ys o apart in
    let went : is_ok c.push.result ≡ true = ap is_ok c.unwrap.ensures in
    let pushed = c.push.ensures.len ∙ cond-true _ _ _ went in
    let m = c.move_after.ensures in
    let tail : c.push.new.self.items ≡ (c.merging.tail.items ++ reverse (drop n ops)) ++ o ∷ [] = c.push.ensures.items
    ∙ cond-true _ _ _ went ∙ ap (λ (xs : List Operation). xs ++ o ∷ []) m.moved in
    record {
      rising = ap rises m.left ∙ rises_take ops n h.rising;
      new_rises = front_rises ys (o ∷ []) rising;
      apart = subst (λ (xs : List Operation). AreApart xs ys) (sym m.left) (apart_left ops ys o n apart);
      before = subst (λ (xs : List Operation). IsBefore c.args.from xs ys) (sym m.left)
          (before_left c.args.from n ops ys o (omega (arith, at, is))
          (omega (arith, c.place_last-at.ensures.within, c.deref.ensures.len)) before);
      room = omega (arith, h.room, m.left_len, m.moved_len, m.left_room, pushed, c.in-Some.ensures.len);
      spare =
          omega (arith, h.spare, m.left_len, m.moved_len, m.moved_room, pushed, c.in-Some.ensures.len, c.push.ensures.capacity);
      union = union_more ops c.move_after.new.list.items ys c.merging.new.items c.merging.tail.items c.push.new.self.items _ o n
          (join_last ops ys o n is h.rising rising none) m.left tail c.in-Some.ensures.items h.union;
    }
