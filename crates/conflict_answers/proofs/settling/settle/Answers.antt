use Rattle.std.proofs.Common.{◌∙◌, List, Some, refl, sym, ap, string_bytes}
use Rattle.std.specs.Option.{option_map}
use Rattle.op_core.specs.Ids.{Id}
use Rattle.replica_state.specs.Steps.{EditOver, step}
use Rattle.conflict_answers.proofs.Settlings.{settled_own, settled_taken}
use Rattle.conflict_answers.proofs.settling.settle.Goals as goal

pub returns-in-Own-clause-settled : goal.returns-in-Own-clause-settled
returns-in-Own-clause-settled c fine =
    let s = c.args.replica.now in
    let a = c.args.answer.now in
    let text = c.in-Own.text.now in
    settled_own s c.edit_over.new.self a text c.edit_over.result c.told_of.result c.told_of.ensures
    (λ e. ap (λ (ids : List Id). step s (EditOver a.segment text ids)) (sym c.deref.ensures.value) ∙ c.edit_over.ensures.step e)
    fine c.in-Own.text refl c.in-Own.is

pub returns-in-Some-clause-settled : goal.returns-in-Some-clause-settled
returns-in-Some-clause-settled c fine =
    let s = c.args.replica.now in
    let a = c.args.answer.now in
    let text = c.as_str.result.now in
    let shown = ap Some c.as_str.ensures.value ∙ sym (ap (option_map (λ t. string_bytes t)) c.in-Some.is)
    ∙ c.in_ok-shown_text-in-Take.ensures in
    settled_taken s c.edit_over-in-Some.new.self a text c.edit_over-in-Some.result c.told_of-in-Some.result c.told_of-in-Some.ensures
    (λ e. ap (λ (ids : List Id). step s (EditOver a.segment text ids)) (sym c.deref-in-Some.ensures.value)
    ∙ c.edit_over-in-Some.ensures.step e)
    fine c.in-Take.id c.in-Take.is shown
