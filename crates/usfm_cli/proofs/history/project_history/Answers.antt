use Rattle.std.proofs.Common.{Global, List, Err, ap, subst}
use Rattle.op_core.specs.Ops.{Operation}
use Rattle.usfm_cli.specs.Commands.{Gives, no_fault}
use Rattle.usfm_cli.specs.Histories.{history_of}
use Rattle.usfm_cli.proofs.Loading.{loads_or_wants}
use Rattle.usfm_cli.proofs.LookingBack.{held_given, held_wants}
use Rattle.usfm_cli.proofs.history.project_history.Goals as goal
use Rattle.usfm_cli.proofs.history.project_history.Goals.{After-history_in}

-- the history is given of what the project holds
gives : (c : After-history_in) → Gives {A = Global} no_fault (history_of c.in_ok-judged.judged.held c.args.names.now) c.history_in.result
gives c =
    subst (λ (held : List Operation). Gives {A = Global} no_fault (history_of held c.args.names.now) c.history_in.result) c.held.ensures
    c.history_in.ensures

pub returns-in_err-judged-clause-memory : goal.returns-in_err-judged-clause-memory
returns-in_err-judged-clause-memory c = λ e s loads full.
    absurd (loads_or_wants c.args.project.now s c.in_err-judged.field-0.0 loads c.in_err-judged.ensures.refused
    (λ m. c.in_err-judged.ensures.full s loads full (ap Err m)))

pub returns-clause-answer : goal.returns-clause-answer
returns-clause-answer c =
    held_given Global c.args.project.now c.in_ok-judged.judged no_fault (λ held. history_of held c.args.names.now) c.history_in.result
    c.in_ok-judged.ensures.read (gives (goal.at.returns-clause-answer c).After-history_in)

pub returns-clause-memory : goal.returns-clause-memory
returns-clause-memory c = λ e s loads full.
    held_wants Global c.args.project.now c.in_ok-judged.judged s no_fault (λ held. history_of held c.args.names.now) c.history_in.result
    c.in_ok-judged.ensures.read (gives (goal.at.returns-clause-memory c).After-history_in) e loads
