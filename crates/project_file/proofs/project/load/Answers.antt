use Rattle.std.proofs.Common.{◌≡◌, Err, sym, ap, subst, ◌∙◌, Ok, arith}
use Rattle.std.proofs.lemmas.Result.{err_from_is_err_and}
use Rattle.op_core.specs.Thinned.{all_full}
use Rattle.replica_state.specs.Receives.{lacked}
use Rattle.replica_state.specs.States.{State, IsState}
use Rattle.project_file.specs.declared.fault.LoadFault.TheVariants.{Memory}
use Rattle.project_file.specs.Projects.{project}
use Rattle.project_file.proofs.Files.{no_clash, held_is, read_once, same_replica}
use Rattle.project_file.proofs.Refusals.{copies}
use Rattle.project_file.proofs.project.load.Goals as goal

pub returns-in_err-project-clause-nothing_held : goal.returns-in_err-project-clause-nothing_held
returns-in_err-project-clause-nothing_held c =
    let from = err_from_is_err_and c.from_residual.result c.from_residual.ensures.1 in
    rw (from.1, from.2) (λ s loads none e.
    let memory : c.in_err-project.field-0.0 ≡ Memory = cc e in c.in_err-project.ensures.full s loads (ap all_full none) (ap Err memory))

pub returns-in-Err-Memory-clause-refused : goal.returns-in-Err-Memory-clause-refused
returns-in-Err-Memory-clause-refused c = copies c.args.bytes.now _ c.in_ok-project.ensures.read

pub returns-in-Err-Memory-clause-nothing_held : goal.returns-in-Err-Memory-clause-nothing_held
returns-in-Err-Memory-clause-nothing_held c = λ s loads none e.
    let is = ap (λ (t : State). t.held) (c.project.view_is ∙ read_once c.args.bytes.now _ s c.in_ok-project.ensures.read loads) in
    c.in-Err-Memory.ensures.nothing_new (ap (lacked c.new-replica.result.held) (is ∙ none)) (ap Err c.in-Err-Memory.field-0-is)

pub unreachable-requires : goal.unreachable-requires
unreachable-requires c =
    no_clash _ c.new-replica.result c.project.inside.bundle c.in-Err-Clash.field-0-0 c.new-replica.ensures
    (rw c.in-Err-Clash.field-0-is at c.in-Err-Clash.ensures.refused)

pub returns-in-Ok-clause-loaded : goal.returns-in-Ok-clause-loaded
returns-in-Ok-clause-loaded c =
    let is = held_is c.project.inside.name c.project.inside.bundle c.receive.new.self c.new-replica.result c.project.invariant.valid.set
    c.in-Ok.ensures.ok c.new-replica.ensures ∙ c.project.view_is in
    c.in_ok-project.ensures.read ∙ ap Ok (sym is)

pub returns-in-Ok-clause-valid : goal.returns-in-Ok-clause-valid
returns-in-Ok-clause-valid c =
    let is = held_is c.project.inside.name c.project.inside.bundle c.receive.new.self c.new-replica.result c.project.invariant.valid.set
    c.in-Ok.ensures.ok c.new-replica.ensures ∙ c.project.view_is in
    subst IsState (sym is) c.in_ok-project.ensures.valid

pub returns-in-Ok-clause-spelled : goal.returns-in-Ok-clause-spelled
returns-in-Ok-clause-spelled c =
    let is = held_is c.project.inside.name c.project.inside.bundle c.receive.new.self c.new-replica.result c.project.invariant.valid.set
    c.in-Ok.ensures.ok c.new-replica.ensures ∙ c.project.view_is in
    c.in_ok-project.ensures.spelled ∙ ap project (sym is)

pub returns-in-Ok-clause-only : goal.returns-in-Ok-clause-only
returns-in-Ok-clause-only c = λ s valid is.
    let held = held_is c.project.inside.name c.project.inside.bundle c.receive.new.self c.new-replica.result c.project.invariant.valid.set
    c.in-Ok.ensures.ok c.new-replica.ensures ∙ c.project.view_is in
    same_replica c.args.bytes.now c.receive.new.self s (omega arith) (c.in_ok-project.ensures.read ∙ ap Ok (sym held)) valid is
