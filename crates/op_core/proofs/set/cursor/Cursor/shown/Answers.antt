use Rattle.std.proofs.Common.{List, sym, ap, ◌∙◌, ◌++◌, append-nil, take, take_all}
use Rattle.std.specs.Option.{option_to_list}
use Rattle.usfm_ref.specs.Segments.{segment}
use Rattle.op_core.specs.Ops.{Operation}
use Rattle.op_core.specs.Sets.{get}
use Rattle.op_core.specs.Shown.{is_shown, shown}
use Rattle.op_core.proofs.IdOrders.Listed.{held_filter, gets, gets_all, gets_more}
use Rattle.op_core.proofs.Walk.{map_pushed}
use Rattle.op_core.proofs.set.cursor.Cursor.shown.Goals.{in-Some+in_ok-push, in_default}
use Rattle.op_core.proofs.set.cursor.Cursor.shown.Goals as goal

pub loop-id-preserved : goal.loop-id-preserved
loop-id-preserved c =
    let held = c.args.self.now in
    let same = c.loop-id.invariant.0 in
    let found = ap (λ (ops : List Operation). get ops c.id-item.result) same in
    let more = gets_more held c.shown_ids-ids.result.now c.loop-id.id-index c.id-item.result c.loop-id-test.true c.id-item.is in
    elim c.match-find.branch [
      | in-Some+in_ok-push w ↦ (
        w.in-Some.ensures.same ∙ same,
        rw w.shown-is
            (map_pushed (λ op. op.now) c.loop-id.shown.items _ _ _ w.in_ok-push.ensures.items c.loop-id.invariant.1
            ∙ sym (more ∙ ap (λ r. gets held (take c.loop-id.id-index c.shown_ids-ids.result.now) ++ option_to_list r)
            (sym (w.in-Some.ensures.found ∙ found)))),
      )
      | in_default w ↦ (
        w.in_default.ensures.same ∙ same,
        rw w.shown-is
            (c.loop-id.invariant.1
            ∙ sym (more ∙ ap (λ r. gets held (take c.loop-id.id-index c.shown_ids-ids.result.now) ++ option_to_list r)
            (sym (w.in_default.ensures.found ∙ found)) ∙ append-nil _)),
      )
    ]

pub returns-clause-ops : goal.returns-clause-ops
returns-clause-ops c =
    let held = c.args.self.now in
    c.loop-id.invariant.1 ∙ ap (gets held)
    (take_all c.loop-id.id-index c.shown_ids-ids.result.now c.loop-id-test.false ∙ c.shown_ids-ids.ensures.ids)
    ∙ gets_all held (shown held (segment c.args.book c.args.key))
    (held_filter held (is_shown held (segment c.args.book c.args.key)) c.shown_ids-ids.ensures.set.rising)
