use Rattle.std.proofs.Common.{◌≡◌, true, Ok, sym, ap, ◌∙◌}
use Rattle.std.proofs.lemmas.Result.{err_from_is_err_and}
use Rattle.usfm_cli.specs.Histories.{is_like_project}
use Rattle.usfm_cli.proofs.LookingBack.{project_covers, project_refused, known_covers}
use Rattle.usfm_cli.proofs.history.covered_by.Goals as goal

pub returns-in_err-project : goal.returns-in_err-project
returns-in_err-project c =
    let begins : is_like_project c.args.bytes.now ≡ true = sym c.is_like_project.ensures ∙ c.if-is_like_project.true in
    let from = err_from_is_err_and c.from_residual.result c.from_residual.ensures.1 in
    rw (from.1, from.2) (project_refused c.args.bytes.now c.in_err-project.field-0.0 begins c.in_err-project.ensures.refused)

pub returns-then-is_like_project : goal.returns-then-is_like_project
returns-then-is_like_project c = λ other.
    let begins : is_like_project c.args.bytes.now ≡ true = sym c.is_like_project.ensures ∙ c.if-is_like_project.true in
    project_covers c.args.bytes.now (Ok c.in_ok-project.project) begins c.in_ok-project.ensures.read
    ∙ ap Ok (sym c.in_ok-summary.ensures.value)

pub returns : goal.returns
returns c =
    known_covers c.args.bytes.now (sym c.is_like_project.ensures ∙ c.if-is_like_project.false) c.known_of.result c.known_of.ensures
