use Rattle.std.proofs.Common.{sym, ap, arith}
use Rattle.std.proofs.lemmas.Result.{err_from_is_err_and}
use Rattle.project_file.specs.declared.fault.LoadFault.TheVariants.{BadProject}
use Rattle.project_file.specs.Projects.{after_front}
use Rattle.project_file.specs.Answers.{refusal_of}
use Rattle.project_file.proofs.Files.{not_refused, same_replica, read_is, is_file}
use Rattle.project_file.proofs.Refusals.{refuses, rest_is, full_takes_none}
use Rattle.project_file.proofs.project.judge.Goals as goal

pub returns-in_default-clause-only : goal.returns-in_default-clause-only
returns-in_default-clause-only c =
    λ s valid is. absurd (not_refused c.args.bytes.now BadProject (omega arith) (ap after_front (sym c.in_default.ensures)) s valid is)

pub returns-in_err-bundle-clause-only : goal.returns-in_err-bundle-clause-only
returns-in_err-bundle-clause-only c =
    let from = err_from_is_err_and c.from_residual.result c.from_residual.ensures.1 in
    rw (from.1, from.2) (λ s valid is.
    let rest = rest_is c.args.bytes.now c.in-Some.front.0 c.in-Some.front.1.now (sym c.in-Some.ensures) s valid is in
    ap refusal_of (c.in_err-bundle.ensures.only s.held valid.set valid.legal rest).0)

pub returns-in_err-bundle-clause-refused : goal.returns-in_err-bundle-clause-refused
returns-in_err-bundle-clause-refused c =
    let from = err_from_is_err_and c.from_residual.result c.from_residual.ensures.1 in
    rw (from.1, from.2) (refuses c.args.bytes.now c.in-Some.front.0 c.in-Some.front.1.now (sym c.in-Some.ensures) c.in_err-bundle.field-0.0
    c.in_err-bundle.ensures.exact)

pub returns-in_err-bundle-clause-full : goal.returns-in_err-bundle-clause-full
returns-in_err-bundle-clause-full c =
    let from = err_from_is_err_and c.from_residual.result c.from_residual.ensures.1 in
    rw (from.1, from.2) (λ s loads full e. full_takes_none c.args.bytes.now c.in-Some.front.0 c.in-Some.front.1.now (sym c.in-Some.ensures)
    s loads full c.in_err-bundle.field-0.0 c.in_err-bundle.ensures.exact (cc e))

pub returns-clause-read : goal.returns-clause-read
returns-clause-read c =
    read_is c.args.bytes.now c.in-Some.front.0 c.in-Some.front.1.now c.in_ok-bundle.bundle (sym c.in-Some.ensures)
    c.in_ok-bundle.ensures.exact

pub returns-clause-valid : goal.returns-clause-valid
returns-clause-valid c =
    (is_file c.args.bytes.now c.in-Some.front.0 c.in-Some.front.1.now c.in_ok-bundle.bundle (sym c.in-Some.ensures)
    c.in_ok-bundle.ensures.set c.in_ok-bundle.ensures.legal c.in_ok-bundle.ensures.spelled).valid

pub returns-clause-spelled : goal.returns-clause-spelled
returns-clause-spelled c =
    (is_file c.args.bytes.now c.in-Some.front.0 c.in-Some.front.1.now c.in_ok-bundle.bundle (sym c.in-Some.ensures)
    c.in_ok-bundle.ensures.set c.in_ok-bundle.ensures.legal c.in_ok-bundle.ensures.spelled).spelled

pub returns-clause-only : goal.returns-clause-only
returns-clause-only c = λ s valid is.
    same_replica c.args.bytes.now (record { name = c.in-Some.front.0; held = c.in_ok-bundle.bundle }) s (omega arith)
    (returns-clause-read c) valid is
