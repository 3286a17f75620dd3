use Rattle.std.proofs.Common.{◌≡◌, Global, Ok, Err, IfOk, IsTrue, subst, sym, ap, ◌∙◌, arith}
use Rattle.std.proofs.lemmas.Result.{err_from_is_err_and}
use Rattle.project_file.specs.Projects.{project_at}
use Rattle.replica_state.specs.States.{State}
use Rattle.usfm_cli.specs.Commands.{is_late, only_tells, outcome, MayWantMemory}
use Rattle.usfm_cli.specs.Projects.{Written, executed, state_or}
use Rattle.usfm_cli.specs.declared.command.Command.{Command}
use Rattle.usfm_cli.proofs.DeltasMade.{delta_is, stays, file_stays, if_so}
use Rattle.usfm_cli.proofs.Received.{received_is}
use Rattle.usfm_cli.proofs.Loading.{loads_or_wants, refused_wants, refused_for}
use Rattle.usfm_cli.proofs.Seen.{copies, refused_all, seen_wants, told_all, changed_all, told_state, changed_state}
use Rattle.usfm_cli.proofs.projects.exec.Goals as goal

pub returns-in-Receive-clause-answer : goal.returns-in-Receive-clause-answer
returns-in-Receive-clause-answer c = λ e.
    ap (executed c.args.project.now) c.in-Receive.is ∙ received_is (project_at c.args.project.now) c.in-Receive.bytes
    ∙ c.receive_into.ensures.answer e

pub returns-in-Receive-clause-memory : goal.returns-in-Receive-clause-memory
returns-in-Receive-clause-memory c = λ e s loads place.
    subst (λ (k : Command). MayWantMemory (is_late k) (outcome s k)) (sym c.in-Receive.is)
    (c.receive_into.ensures.memory e s loads place.full)

pub returns-in-Receive-clause-after : goal.returns-in-Receive-clause-after
returns-in-Receive-clause-after c =
    subst (λ (k : Command). IfOk c.receive_into.result (λ made. (s : State) → project_at c.args.project.now ≡ Ok s
    → project_at made.project ≡ Ok (state_or s (outcome s k)))) (sym c.in-Receive.is) c.receive_into.ensures.after

pub returns-in-Thin-clause-answer : goal.returns-in-Thin-clause-answer
returns-in-Thin-clause-answer c = λ e. ap (executed c.args.project.now) c.in-Thin.is ∙ c.thin_in.ensures.answer e

pub returns-in-Thin-clause-memory : goal.returns-in-Thin-clause-memory
returns-in-Thin-clause-memory c = λ e s loads place.
    subst (λ (k : Command). MayWantMemory (is_late k) (outcome s k)) (sym c.in-Thin.is) tt

pub returns-in-Thin-clause-after : goal.returns-in-Thin-clause-after
returns-in-Thin-clause-after c =
    subst (λ (k : Command). IfOk c.thin_in.result (λ made. (s : State) → project_at c.args.project.now ≡ Ok s
    → project_at made.project ≡ Ok (state_or s (outcome s k)))) (sym c.in-Thin.is) c.thin_in.ensures.after

pub returns-in-Send-clause-answer : goal.returns-in-Send-clause-answer
returns-in-Send-clause-answer c = λ e. ap (executed c.args.project.now) c.in-Send.is ∙ c.send_of.ensures.answer e

pub returns-in-Send-clause-memory : goal.returns-in-Send-clause-memory
returns-in-Send-clause-memory c = λ e s loads place.
    subst (λ (k : Command). MayWantMemory (is_late k) (outcome s k)) (sym c.in-Send.is) tt

pub returns-in-Send-clause-unchanged : goal.returns-in-Send-clause-unchanged
returns-in-Send-clause-unchanged c =
    if_so (IsTrue (only_tells c.args.command.now)) (λ (made : Written). made.project ≡ c.args.project.now) c.send_of.result
    c.send_of.ensures.unchanged

pub returns-in-Send-clause-after : goal.returns-in-Send-clause-after
returns-in-Send-clause-after c =
    file_stays c.args.project.now c.args.command.now (λ s. ap (λ (k : Command). state_or s (outcome s k)) c.in-Send.is)
    c.send_of.result c.send_of.ensures.unchanged

pub returns-in-Summary-clause-answer : goal.returns-in-Summary-clause-answer
returns-in-Summary-clause-answer c = λ e. ap (executed c.args.project.now) c.in-Summary.is ∙ c.summary_of.ensures.answer e

pub returns-in-Summary-clause-memory : goal.returns-in-Summary-clause-memory
returns-in-Summary-clause-memory c = λ e s loads place.
    subst (λ (k : Command). MayWantMemory (is_late k) (outcome s k)) (sym c.in-Summary.is) tt

pub returns-in-Summary-clause-unchanged : goal.returns-in-Summary-clause-unchanged
returns-in-Summary-clause-unchanged c =
    if_so (IsTrue (only_tells c.args.command.now)) (λ (made : Written). made.project ≡ c.args.project.now) c.summary_of.result
    c.summary_of.ensures.unchanged

pub returns-in-Summary-clause-after : goal.returns-in-Summary-clause-after
returns-in-Summary-clause-after c =
    file_stays c.args.project.now c.args.command.now (λ s. ap (λ (k : Command). state_or s (outcome s k)) c.in-Summary.is)
    c.summary_of.result c.summary_of.ensures.unchanged

pub returns-in-Delta-clause-answer : goal.returns-in-Delta-clause-answer
returns-in-Delta-clause-answer c = λ e.
    ap (executed c.args.project.now) c.in-Delta.is ∙ delta_is (project_at c.args.project.now) c.in-Delta.summary
    ∙ c.delta_of.ensures.answer e

pub returns-in-Delta-clause-memory : goal.returns-in-Delta-clause-memory
returns-in-Delta-clause-memory c = λ e s loads place.
    subst (λ (k : Command). MayWantMemory (is_late k) (outcome s k)) (sym c.in-Delta.is) (c.delta_of.ensures.memory e s loads place.full)

pub returns-in-Delta-clause-unchanged : goal.returns-in-Delta-clause-unchanged
returns-in-Delta-clause-unchanged c =
    if_so (IsTrue (only_tells c.args.command.now)) (λ (made : Written). made.project ≡ c.args.project.now) c.delta_of.result
    c.delta_of.ensures.unchanged

pub returns-in-Delta-clause-after : goal.returns-in-Delta-clause-after
returns-in-Delta-clause-after c =
    file_stays c.args.project.now c.args.command.now
    (λ s. ap (λ (k : Command). state_or s (outcome s k)) c.in-Delta.is ∙ stays s _) c.delta_of.result c.delta_of.ensures.unchanged

pub returns-in_err-replica-clause-memory : goal.returns-in_err-replica-clause-memory
returns-in_err-replica-clause-memory c = λ e s loads place.
    let none = place.nothing_copied
    (copies c.args.command.now c.in_default.not-Receive c.in_default.not-Thin c.in_default.not-Send c.in_default.not-Summary
    c.in_default.not-Delta) in
    absurd (loads_or_wants c.args.project.now s c.in_err-replica.field-0.0 loads c.in_err-replica.ensures.refused
    (λ m. c.in_err-replica.ensures.nothing_seen s loads place.full none (ap Err m)))

pub returns-in_err-output-clause-answer : goal.returns-in_err-output-clause-answer
returns-in_err-output-clause-answer c =
    let from = err_from_is_err_and c.from_residual-in_err-output.result c.from_residual-in_err-output.ensures.1 in
    rw (from.1, from.2) (λ e. refused_all c.args.project.now c.args.command.now c.in_ok-replica.replica c.in_ok-replica.ensures.seen
    c.in_err-output.field-0.0
    (refused_for Global (is_late c.args.command.now) (outcome c.in_ok-replica.replica c.args.command.now) c.obey.new.replica
    c.in_err-output.field-0.0 c.in_err-output.ensures (λ m. e (ap Err m))))

pub returns-in_err-output-clause-memory : goal.returns-in_err-output-clause-memory
returns-in_err-output-clause-memory c =
    let from = err_from_is_err_and c.from_residual-in_err-output.result c.from_residual-in_err-output.ensures.1 in
    rw (from.1, from.2) (λ e s loads place.
    seen_wants c.args.project.now c.args.command.now c.in_ok-replica.replica c.in_ok-replica.ensures.seen (is_late c.args.command.now)
    s loads
    (refused_wants Global (is_late c.args.command.now) (outcome c.in_ok-replica.replica c.args.command.now) c.obey.new.replica
    c.in_err-output.field-0.0 c.in_err-output.ensures (cc e)))

pub returns-then-only_tells-clause-answer : goal.returns-then-only_tells-clause-answer
returns-then-only_tells-clause-answer c = λ _.
    told_all c.args.project.now c.args.command.now c.in_ok-replica.replica c.in_ok-replica.ensures.seen c.obey.new.replica
    c.in_ok-output.output.items c.in_ok-output.ensures (λ i. omega (arith, c.type_inv.project i))
    (sym c.only_tells.ensures ∙ c.if-only_tells.true)
    ∙ ap Ok (sym c.telling.ensures)

pub returns-then-only_tells-clause-after : goal.returns-then-only_tells-clause-after
returns-then-only_tells-clause-after c = λ s loads.
    ap (λ (w : Written). project_at w.project) c.telling.ensures
    ∙ told_state c.args.project.now c.args.command.now c.in_ok-replica.replica c.in_ok-replica.ensures.seen c.obey.new.replica
    c.in_ok-output.output.items c.in_ok-output.ensures s (sym c.only_tells.ensures ∙ c.if-only_tells.true) loads

pub returns-clause-answer : goal.returns-clause-answer
returns-clause-answer c = λ _.
    changed_all c.args.project.now c.args.command.now c.in_ok-replica.replica c.in_ok-replica.ensures.seen c.obey.new.replica
    c.in_ok-output.output.items c.in_ok-output.ensures c.in_ok-made.made.items
    (sym c.only_tells.ensures ∙ c.if-only_tells.false) c.in_ok-made.ensures.spelled

pub returns-clause-after : goal.returns-clause-after
returns-clause-after c = λ s loads.
    c.in_ok-made.ensures.again
    ∙ ap Ok (changed_state c.args.project.now c.args.command.now c.in_ok-replica.replica c.in_ok-replica.ensures.seen
    c.obey.new.replica c.in_ok-output.output.items c.in_ok-output.ensures s (sym c.only_tells.ensures ∙ c.if-only_tells.false) loads)
