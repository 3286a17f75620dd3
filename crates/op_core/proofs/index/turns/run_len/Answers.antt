use Rattle.std.proofs.Common.{◌≡◌, ◌∙◌, sym, ap, true, false}
use Rattle.std.specs.Ordering.{is_eq}
use Rattle.std.specs.Cmp.{Equal-is}
use Rattle.usfm_ref.specs.Segments.{segment_cmp}
use Rattle.usfm_ref.proofs.Orders.{segment_exact}
use Rattle.op_core.specs.declared.index.turns.Turn.{Turn}
use Rattle.op_core.proofs.Indexed.Enrolled.{all_more}
use Rattle.op_core.proofs.Indexed.Turned.{later_above}
use Rattle.op_core.proofs.index.turns.run_len.Goals as goal

pub loop-at-preserved : goal.loop-at-preserved
loop-at-preserved c =
    let t = c.index-turns-at.result in
    let tie : is_eq (segment_cmp t.segment c.args.first.now.segment) ≡ true =
    sym (c.is_eq.ensures ∙ ap is_eq c.order.ensures) ∙ c.if-not-is_eq.false in
    all_more (λ (u : Turn). u.segment ≡ c.args.first.now.segment) c.args.turns.now c.loop-at.at t c.loop-at-test.true c.index-turns-at.is
    c.loop-at.invariant (segment_exact t.segment c.args.first.now.segment ((Equal-is _).0 tie))

pub returns-then-not-is_eq-clause-later : goal.returns-then-not-is_eq-clause-later
returns-then-not-is_eq-clause-later c =
    let t = c.index-turns-at.result in
    let apart : is_eq (segment_cmp t.segment c.args.first.now.segment) ≡ false =
    sym (c.is_eq.ensures ∙ ap is_eq c.order.ensures) ∙ c.if-not-is_eq.true in
    later_above c.args.first.now c.args.turns.now c.loop-at.at t c.requires c.loop-at-test.true c.index-turns-at.is apart
