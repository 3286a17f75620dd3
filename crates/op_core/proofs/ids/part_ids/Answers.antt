use Rattle.std.proofs.Common.{sym, ◌∙◌, not}
use Rattle.std.proofs.lemmas.List.{nil_from_length}
use Rattle.op_core.proofs.IdOrders.IdSets.{filter_rises, filter_members}
use Rattle.op_core.proofs.IdOrders.Parting.{part_less, part_greater, part_equal, none_left, right_lone, none_right, left_alone}
use Rattle.op_core.proofs.ids.part_ids.Goals as goal
use Rattle.op_core.specs.NextIds.{is_among}

pub pairs-preserved-in-Less : goal.pairs-preserved-in-Less
pairs-preserved-in-Less c =
    part_less c.args.ids.now c.args.others.now c.pairs.ids_alone.items
    c.pairs.others_alone.items c.pairs.left.now c.pairs.right.now c.pairs.invariant
    c.in-Some.x.now c.in-Some-split_first.y.now _ _ c.in-Some.ensures.cases.0 c.in-Some-split_first.ensures.cases.0
    c.push.new.self.items (sym c.cmp.ensures ∙ c.in-Less.is) c.in_ok-push-in-Less.ensures.items

pub pairs-preserved-in-Greater : goal.pairs-preserved-in-Greater
pairs-preserved-in-Greater c =
    part_greater c.args.ids.now c.args.others.now c.pairs.ids_alone.items
    c.pairs.others_alone.items c.pairs.left.now c.pairs.right.now c.pairs.invariant
    c.in-Some.x.now c.in-Some-split_first.y.now _ _ c.in-Some.ensures.cases.0 c.in-Some-split_first.ensures.cases.0
    c.push-in-Greater.new.self.items (sym c.cmp.ensures ∙ c.in-Greater.is) c.in_ok-push-in-Greater.ensures.items

pub pairs-preserved : goal.pairs-preserved
pairs-preserved c =
    part_equal c.args.ids.now c.args.others.now c.pairs.ids_alone.items
    c.pairs.others_alone.items c.pairs.left.now c.pairs.right.now c.pairs.invariant
    c.in-Some.x.now c.in-Some-split_first.y.now _ _ c.in-Some.ensures.cases.0 c.in-Some-split_first.ensures.cases.0
    (sym c.cmp.ensures ∙ c.in-Equal.is)

pub returns-in_default-split_first-clause-ids_rise : goal.returns-in_default-split_first-clause-ids_rise
returns-in_default-split_first-clause-ids_rise c =
    filter_rises (λ i. not (is_among c.args.others.now i)) c.args.ids.now c.extend_from_slice.new.self.items
    (left_alone c.args.ids.now c.args.others.now c.pairs.ids_alone.items
    c.pairs.others_alone.items c.pairs.left.now c.pairs.right.now c.pairs.invariant
    _ (nil_from_length c.pairs.right.now c.in_default-split_first.ensures.cases) c.in_ok-extend_from_slice.ensures.items) c.requires.ids

pub returns-in_default-split_first-clause-ids : goal.returns-in_default-split_first-clause-ids
returns-in_default-split_first-clause-ids c =
    filter_members (λ i. not (is_among c.args.others.now i)) c.args.ids.now c.extend_from_slice.new.self.items
    (left_alone c.args.ids.now c.args.others.now c.pairs.ids_alone.items
    c.pairs.others_alone.items c.pairs.left.now c.pairs.right.now c.pairs.invariant
    _ (nil_from_length c.pairs.right.now c.in_default-split_first.ensures.cases) c.in_ok-extend_from_slice.ensures.items)

pub returns-in_default-split_first-clause-others_rise : goal.returns-in_default-split_first-clause-others_rise
returns-in_default-split_first-clause-others_rise c =
    filter_rises (λ i. not (is_among c.args.ids.now i)) c.args.others.now c.pairs.others_alone.items
    (none_right c.args.ids.now c.args.others.now c.pairs.ids_alone.items
    c.pairs.others_alone.items c.pairs.left.now c.pairs.right.now c.pairs.invariant
    (nil_from_length c.pairs.right.now c.in_default-split_first.ensures.cases)) c.requires.others

pub returns-in_default-split_first-clause-others : goal.returns-in_default-split_first-clause-others
returns-in_default-split_first-clause-others c =
    filter_members (λ i. not (is_among c.args.ids.now i)) c.args.others.now c.pairs.others_alone.items
    (none_right c.args.ids.now c.args.others.now c.pairs.ids_alone.items
    c.pairs.others_alone.items c.pairs.left.now c.pairs.right.now c.pairs.invariant
    (nil_from_length c.pairs.right.now c.in_default-split_first.ensures.cases))

pub returns-clause-ids_rise : goal.returns-clause-ids_rise
returns-clause-ids_rise c =
    filter_rises (λ i. not (is_among c.args.others.now i)) c.args.ids.now c.pairs.ids_alone.items
    (none_left c.args.ids.now c.args.others.now c.pairs.ids_alone.items
    c.pairs.others_alone.items c.pairs.left.now c.pairs.right.now c.pairs.invariant
    (nil_from_length c.pairs.left.now c.in_default.ensures.cases)) c.requires.ids

pub returns-clause-ids : goal.returns-clause-ids
returns-clause-ids c =
    filter_members (λ i. not (is_among c.args.others.now i)) c.args.ids.now c.pairs.ids_alone.items
    (none_left c.args.ids.now c.args.others.now c.pairs.ids_alone.items
    c.pairs.others_alone.items c.pairs.left.now c.pairs.right.now c.pairs.invariant
    (nil_from_length c.pairs.left.now c.in_default.ensures.cases))

pub returns-clause-others_rise : goal.returns-clause-others_rise
returns-clause-others_rise c =
    filter_rises (λ i. not (is_among c.args.ids.now i)) c.args.others.now c.extend_from_slice-2.new.self.items
    (right_lone c.args.ids.now c.args.others.now c.pairs.ids_alone.items
    c.pairs.others_alone.items c.pairs.left.now c.pairs.right.now c.pairs.invariant
    _ (nil_from_length c.pairs.left.now c.in_default.ensures.cases) c.in_ok-extend_from_slice-2.ensures.items) c.requires.others

pub returns-clause-others : goal.returns-clause-others
returns-clause-others c =
    filter_members (λ i. not (is_among c.args.ids.now i)) c.args.others.now c.extend_from_slice-2.new.self.items
    (right_lone c.args.ids.now c.args.others.now c.pairs.ids_alone.items
    c.pairs.others_alone.items c.pairs.left.now c.pairs.right.now c.pairs.invariant
    _ (nil_from_length c.pairs.left.now c.in_default.ensures.cases) c.in_ok-extend_from_slice-2.ensures.items)
