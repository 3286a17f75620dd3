use Rattle.std.proofs.Common.{Global, List, subst}
use Rattle.op_core.specs.Ops.{Operation}
use Rattle.usfm_cli.specs.Commands.{Gives, any_fault}
use Rattle.usfm_cli.specs.Copies.{progress_by}
use Rattle.usfm_cli.proofs.OverBooks.{seen_given, progress_same}
use Rattle.usfm_cli.proofs.copies.project_progress.Goals as goal
use Rattle.usfm_cli.proofs.copies.project_progress.Goals.{After-progress_by}

-- how far it is, is given of what the replica holds
gives : (c : After-progress_by)
    → Gives {A = Global} any_fault (progress_by c.in_ok-replica.replica.held c.args.book c.args.versification.now) c.progress_by.result
gives c =
    subst
    (λ (held : List Operation). Gives {A = Global} any_fault (progress_by held c.args.book c.args.versification.now) c.progress_by.result)
    c.set.ensures c.progress_by.ensures

pub returns-clause-answer : goal.returns-clause-answer
returns-clause-answer c =
    let file = c.args.versification.now in
    seen_given Global c.args.project.now c.args.book c.in_ok-replica.replica any_fault (λ held. progress_by held c.args.book file)
    c.progress_by.result c.in_ok-replica.ensures.seen
    (λ s. progress_same c.args.book s file) (gives (goal.at.returns-clause-answer c).After-progress_by)
