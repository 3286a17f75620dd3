use Rattle.std.proofs.Common.{sym, ap, ◌∙◌, Ok}
use Rattle.usfm_ref.specs.Segments.{segment}
use Rattle.replica_state.specs.States.{State}
use Rattle.replica_state.specs.Edits.{own_id}
use Rattle.replica_state.specs.Steps.{edited, Edited}
use Rattle.replica_state.proofs.Edits.{may_begin, edit_is}
use Rattle.replica_state.proofs.replica.Replica.edit.Goals as goal

pub make-requires-clause-fits : goal.make-requires-clause-fits
make-requires-clause-fits c =
    (may_begin c.args.self.now.held (segment c.args.book c.args.key) c.args.text.now (sym c.edit_fault.ensures ∙ c.in_default.is), tt)

pub returns-clause-step : goal.returns-clause-step
returns-clause-step c = λ _.
    let made = c.in_ok-make.ensures.ok in
    let id = c.own_id.ensures.id ∙ ap (λ (t : State). own_id t c.in-Some-first_number.number) made in
    ap (edited c.args.self.now) (edit_is c.args.self.now (segment c.args.book c.args.key) c.args.text.now c.in_ok-ids.ids.items
    c.in-Some-first_number.number (sym c.edit_fault.ensures ∙ c.in_default.is) c.in-Some-first_number.ensures.number c.in_ok-ids.ensures)
    ∙ (λ i. record { after = sym made i; reply = Edited (Ok (sym id i)) })
