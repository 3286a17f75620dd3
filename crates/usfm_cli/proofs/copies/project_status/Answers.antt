use Rattle.std.proofs.Common.{◌≡◌, List, Err, refl, sym, ap, ◌∙◌}
use Rattle.std.proofs.lemmas.Result.{err_from_is_err_and}
use Rattle.replica_state.specs.States.{State}
use Rattle.project_status.specs.Others.{OtherParts, status}
use Rattle.usfm_cli.proofs.OtherCopies.{first_of_all, refused_beside, stands_beside, wants_alone, files_refused}
use Rattle.usfm_cli.proofs.copies.project_status.Goals as goal

pub returns-in_err-others-clause-answer : goal.returns-in_err-others-clause-answer
returns-in_err-others-clause-answer c =
    let from = err_from_is_err_and c.from_residual-in_err-others.result c.from_residual-in_err-others.ensures.1 in
    rw (from.1, from.2) (λ e. refused_beside c.args.project.now c.in_ok-project.project c.args.folder.now c.args.files.now
    c.in_err-others.field-0.0 c.in_ok-project.ensures.read c.in_err-others.ensures e)

pub returns-in_err-project-clause-beside : goal.returns-in_err-project-clause-beside
returns-in_err-project-clause-beside c =
    let from = err_from_is_err_and c.from_residual.result c.from_residual.ensures.1 in
    rw (from.1, from.2) (λ s loads. wants_alone c.args.project.now s c.args.folder.now c.args.files.now c.in_err-project.field-0.0 loads
    c.in_err-project.ensures.refused (λ all m. c.in_err-project.ensures.full s loads all (ap Err m)))

pub returns-in_err-others-clause-beside : goal.returns-in_err-others-clause-beside
returns-in_err-others-clause-beside c =
    let from = err_from_is_err_and c.from_residual-in_err-others.result c.from_residual-in_err-others.ensures.1 in
    rw (from.1, from.2) (λ s loads. files_refused s c.args.folder.now c.args.files.now c.in_err-others.field-0.0 c.in_err-others.ensures)

pub returns-in_err-set-clause-beside : goal.returns-in_err-set-clause-beside
returns-in_err-set-clause-beside c =
    let from = err_from_is_err_and c.from_residual-in_err-set.result c.from_residual-in_err-set.ensures.1 in
    rw (from.1, from.2) (λ s loads. (refl, λ all. first_of_all c.args.files.now c.in_ok-others.others.items c.in_ok-others.ensures))

pub returns-in_err-status_text-clause-beside : goal.returns-in_err-status_text-clause-beside
returns-in_err-status_text-clause-beside c =
    let from = err_from_is_err_and c.from_residual-in_err-status_text.result c.from_residual-in_err-status_text.ensures.1 in
    rw (from.1, from.2) (λ s loads. (refl, λ all. first_of_all c.args.files.now c.in_ok-others.others.items c.in_ok-others.ensures))

pub returns-clause-beside : goal.returns-clause-beside
returns-clause-beside c = λ s loads.
    let same : c.in_ok-project.project ≡ s = cc (sym c.in_ok-project.ensures.read ∙ loads) in
    stands_beside s c.args.folder.now c.args.files.now c.in_ok-others.others.items c.name.result c.in_ok-set.set
    c.in_ok-status_text.field-0.items c.in_ok-others.ensures (c.name.ensures.name ∙ ap (λ (u : State). u.name) same)
    (c.in_ok-set.ensures ∙ ap (λ (u : State). u.held) same)
    (c.in_ok-status_text.ensures
    ∙ ap (λ (os : List OtherParts). status c.name.result c.in_ok-set.set c.args.folder.now os) c.deref.ensures.value)
