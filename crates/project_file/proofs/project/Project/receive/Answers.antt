use Rattle.std.proofs.Common.{◌≡◌, ℕ, ◌-◌, List, ◌++◌, length, subst, ap, ◌∙◌, arith}
use Rattle.bundle_codec.specs.Spelling.{bundle}
use Rattle.op_core.specs.Sets.{join}
use Rattle.replica_state.specs.Receives.{lacked}
use Rattle.replica_state.specs.States.{State, IsState}
use Rattle.replica_state.specs.Steps.{with_ops}
use Rattle.project_file.specs.Projects.{project}
use Rattle.project_file.proofs.Files.{read_again}
use Rattle.project_file.proofs.Received.{union_length, fronted, state_after}
use Rattle.project_file.proofs.project.Project.receive.Goals as goal

pub overflow_sub-result : goal.overflow_sub-result
overflow_sub-result c =
    let more = union_length c.self.inside.bundle c.args.bundle.now c.self.invariant.valid.set.rising c.ops.ensures.set.rising
    c.in_ok-file.ensures.agrees in
    omega (arith, more, c.in_ok-file.ensures.count, c.len.ensures)

pub returns-clause-spelled : goal.returns-clause-spelled
returns-clause-spelled c =
    c.in_ok-file.ensures.joined
    ∙ ap (λ (w : List ℕ). w ++ bundle (join c.self.inside.bundle c.args.bundle.now)) c.in_ok-front.ensures
    ∙ fronted (with_ops (record { name = c.self.inside.name; held = c.self.inside.bundle }) c.args.bundle.now)
    ∙ ap (λ (t : State). project (with_ops t c.args.bundle.now)) c.self.view_is

pub returns-clause-again : goal.returns-clause-again
returns-clause-again c =
    let was : State = record { name = c.self.inside.name; held = c.self.inside.bundle } in
    let valid = state_after was c.args.bundle.now c.self.invariant.valid c.in_ok-file.ensures.set c.in_ok-file.ensures.legal in
    read_again c.in_ok-file.file.items (with_ops c.args.self.now c.args.bundle.now)
    (omega (arith, c.in_ok-file.file.ok.0, c.in_ok-file.file.small))
    (subst (λ (t : State). IsState (with_ops t c.args.bundle.now)) c.self.view_is valid)
    (returns-clause-spelled c)

pub returns-clause-new : goal.returns-clause-new
returns-clause-new c =
    let more = union_length c.self.inside.bundle c.args.bundle.now c.self.invariant.valid.set.rising c.ops.ensures.set.rising
    c.in_ok-file.ensures.agrees in
    let new : c.in_ok-file.count - c.len.result ≡ length (lacked c.self.inside.bundle c.args.bundle.now) =
    omega (arith, more, c.in_ok-file.ensures.count, c.len.ensures) in
    new ∙ ap (λ (t : State). length (lacked t.held c.args.bundle.now)) c.self.view_is
