use Rattle.std.proofs.Common.{◌≡◌, ℕ, List, ◌++◌, length, filter, IfOk, sym, ap, subst, ◌∙◌}
use Rattle.std.proofs.lemmas.Result.{IfOk-weaker}
use Rattle.bundle_codec.specs.Spelling.{bundle}
use Rattle.op_core.specs.Thinned.{is_left_out, thin}
use Rattle.replica_state.specs.States.{State, IsState}
use Rattle.replica_state.specs.Steps.{Thinned, without_replaced_texts}
use Rattle.project_file.specs.Projects.{project}
use Rattle.project_file.proofs.Received.{counted_read_again, fronted, thinned_state}
use Rattle.project_file.proofs.project.Project.thin.Goals as goal

pub returns-clause-spelled : goal.returns-clause-spelled
returns-clause-spelled c =
    let file = ap (λ (w : List ℕ). w ++ bundle (thin c.self.inside.bundle)) c.in_ok-front_for.ensures
    ∙ fronted (without_replaced_texts (record { name = c.self.inside.name; held = c.self.inside.bundle }))
    ∙ ap (λ (t : State). project (without_replaced_texts t)) c.self.view_is in
    subst (λ (w : List ℕ). IfOk c.thin_after.result (λ made. made.0.items ≡ w)) file c.thin_after.ensures.thin

pub returns-clause-again : goal.returns-clause-again
returns-clause-again c =
    let valid = thinned_state (record { name = c.self.inside.name; held = c.self.inside.bundle }) c.self.invariant.valid in
    counted_read_again c.thin_after.result (without_replaced_texts c.args.self.now)
    (subst (λ (t : State). IsState (without_replaced_texts t)) c.self.view_is valid) (returns-clause-spelled c)

pub returns-clause-count : goal.returns-clause-count
returns-clause-count c =
    IfOk-weaker c.thin_after.result _ _
    (λ made counted. ap Thinned (sym (counted ∙ ap (λ (t : State). length (filter (is_left_out t.held) t.held)) c.self.view_is)))
    c.thin_after.ensures.count
