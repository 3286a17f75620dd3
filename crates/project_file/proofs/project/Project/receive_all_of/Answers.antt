use Rattle.std.proofs.Common.{◌∙◌}
use Rattle.std.proofs.lemmas.Result.{err_from_is_err_and}
use Rattle.op_core.specs.Sets.{clash}
use Rattle.project_file.proofs.Received.{refuses_memory}
use Rattle.project_file.proofs.project.Project.receive_all_of.Goals as goal

pub returns-in_err-bundle-clause-refused : goal.returns-in_err-bundle-clause-refused
returns-in_err-bundle-clause-refused c =
    let from = err_from_is_err_and c.from_residual-in_err-bundle.result c.from_residual-in_err-bundle.ensures.1 in
    let valid = c.name.ensures.valid in
    rw (from.1, from.2) (refuses_memory (clash c.args.self.now.held c.args.other.now.held) c.in_err-bundle.field-0.0
    (c.in_err-bundle.ensures.only c.args.other.now.held valid.set valid.legal
    (c.deref.ensures.value ∙ c.in_ok-bytes.ensures.spelled)).0)
