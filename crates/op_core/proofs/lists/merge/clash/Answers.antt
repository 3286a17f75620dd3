use Rattle.std.proofs.Common.{sym, ap, ◌∙◌, Some}
use Rattle.op_core.proofs.Sets.SideBySide.{left_rises, right_rises, turn_less, turn_greater, turn_equal, turn_clash, ids_compare, none_left, from_empty}
use Rattle.op_core.proofs.lists.merge.clash.Goals as goal

pub returns-then-not-agrees : goal.returns-then-not-agrees
returns-then-not-agrees c =
    let i = c.pairs.invariant in
    ap Some c.id-then-not-agrees.ensures.id
    ∙ turn_clash c.args.held.now c.args.other.now c.pairs.left.now c.pairs.right.now _ _ _ _ c.in-Some.ensures.cases.0
    c.in-Some-split_first.ensures.cases.0 i.left i.right i.same
    (ids_compare c.in-Some.x.now c.in-Some-split_first.y.now _ _ _ c.id.ensures.id c.id-in-Some.ensures.id
    (sym c.in-Equal.is ∙ c.cmp.ensures)) (sym c.agrees.ensures ∙ c.if-not-agrees.true)

pub pairs-preserved-in-Less : goal.pairs-preserved-in-Less
pairs-preserved-in-Less c =
    let i = c.pairs.invariant in
    let el = c.in-Some.ensures.cases.0 in
    let er = c.in-Some-split_first.ensures.cases.0 in
    record {
      left = left_rises c.args.held.now c.args.other.now c.pairs.left.now c.pairs.right.now _ _ _ _ el er i.left i.right i.same;
      right = i.right;
      same = turn_less c.args.held.now c.args.other.now c.pairs.left.now c.pairs.right.now _ _ _ _ el er i.left i.right i.same
          (ids_compare c.in-Some.x.now c.in-Some-split_first.y.now _ _ _ c.id.ensures.id c.id-in-Some.ensures.id
          (sym c.in-Less.is ∙ c.cmp.ensures));
    }

pub pairs-preserved-in-Greater : goal.pairs-preserved-in-Greater
pairs-preserved-in-Greater c =
    let i = c.pairs.invariant in
    let el = c.in-Some.ensures.cases.0 in
    let er = c.in-Some-split_first.ensures.cases.0 in
    record {
      left = i.left;
      right = right_rises c.args.held.now c.args.other.now c.pairs.left.now c.pairs.right.now _ _ _ _ el er i.left i.right i.same;
      same = turn_greater c.args.held.now c.args.other.now c.pairs.left.now c.pairs.right.now _ _ _ _ el er i.left i.right i.same
          (ids_compare c.in-Some.x.now c.in-Some-split_first.y.now _ _ _ c.id.ensures.id c.id-in-Some.ensures.id
          (sym c.in-Greater.is ∙ c.cmp.ensures));
    }

pub pairs-preserved : goal.pairs-preserved
pairs-preserved c =
    let i = c.pairs.invariant in
    let el = c.in-Some.ensures.cases.0 in
    let er = c.in-Some-split_first.ensures.cases.0 in
    record {
      left = left_rises c.args.held.now c.args.other.now c.pairs.left.now c.pairs.right.now _ _ _ _ el er i.left i.right i.same;
      right = right_rises c.args.held.now c.args.other.now c.pairs.left.now c.pairs.right.now _ _ _ _ el er i.left i.right i.same;
      same = turn_equal c.args.held.now c.args.other.now c.pairs.left.now c.pairs.right.now _ _ _ _ el er i.left i.right i.same
          (ids_compare c.in-Some.x.now c.in-Some-split_first.y.now _ _ _ c.id.ensures.id c.id-in-Some.ensures.id
          (sym c.in-Equal.is ∙ c.cmp.ensures)) (sym c.agrees.ensures ∙ c.if-not-agrees.false);
    }

pub returns : goal.returns
returns c = none_left c.args.held.now c.args.other.now c.pairs.left.now c.pairs.right.now
    (from_empty _ c.in_default.ensures.cases) c.pairs.invariant.same
