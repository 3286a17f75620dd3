use Rattle.std.proofs.Common.{rules, ◌&&◌, ◌∙◌, ap, arith, take_all}
use Rattle.std.specs.Ordering.{is_lt}
use Rattle.std.specs.List.{list_any}
use Rattle.std.proofs.lemmas.List.Sorted.{answers_always}
use Rattle.usfm_ref.specs.Segments.{segment_cmp}
use Rattle.op_core.specs.Ops.{Operation}
use Rattle.op_core.specs.declared.index.turns.Turn.{Turn}
use Rattle.op_core.proofs.Indexed.Turned.{turns_rank, sorted_turns}
use Rattle.op_core.proofs.index.turns.turns_of.Goals as goal

pub returns : goal.returns
returns c =
    let whole = take_all c.loop-at.at c.args.new.now (omega arith) in
    let in_order = c.in_ok-sort_by.ensures.sorted (λ (t u : Turn). is_lt (segment_cmp t.segment u.segment)) turns_rank
    (answers_always _ _ _ (λ f a r f' k. search rules)) in
    sorted_turns c.args.new.now c.loop-at.turns.items c.sort_by.new.self.items
    (λ p f. c.loop-at.invariant.same p f ∙ ap (list_any (λ (o : Operation). p o.segment && f o)) whole)
    (λ p. c.loop-at.invariant.each p ∙ ap (list_any (λ (o : Operation). p o.segment)) whole) c.sort_by.ensures.permutation in_order
