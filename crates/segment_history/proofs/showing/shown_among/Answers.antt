use Rattle.std.proofs.Common.{map, reverse, arith, ap, ◌∙◌, filter, List}
use Rattle.std.proofs.lemmas.List.{take_all}
use Rattle.std.specs.Option.{option_copied}
use Rattle.op_core.specs.Ops.{Operation}
use Rattle.segment_history.specs.Changes.{shown_part}
use Rattle.segment_history.specs.Entries.{shown_text}
use Rattle.segment_history.specs.Loops.Showing.{is_left}
use Rattle.segment_history.proofs.ShownLists.{left_more, map_reversed}
use Rattle.segment_history.proofs.showing.shown_among.Goals as goal

pub loop-op-preserved : goal.loop-op-preserved
loop-op-preserved c =
    left_more c.args.ops.now (option_copied c.args.known) c.loop-op.op-index c.op-item.result c.loop-op-test.true c.op-item.is
    c.in_ok-named.named (map shown_text c.loop-op.texts.items) (map shown_text c.push_if_left.new.texts.items) c.in_ok-named.ensures
    c.in_ok-push_if_left.ensures c.loop-op.invariant

pub returns : goal.returns
returns c =
    ap (map shown_text) c.reverse.ensures.items ∙ map_reversed shown_text c.loop-op.texts.items
    ∙ ap reverse
    (c.loop-op.invariant
    ∙ ap (λ (os : List Operation). map shown_part (filter (is_left c.args.ops.now (option_copied c.args.known)) os))
    (take_all c.loop-op.op-index c.args.ops.now (omega (arith, c.loop-op-test.false))))
