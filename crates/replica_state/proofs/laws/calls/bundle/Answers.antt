use Rattle.std.proofs.Common.{◌≡◌}
use Rattle.op_core.specs.Lists.{is_held}
use Rattle.bundle_codec.specs.Spelling.{bundle}
use Rattle.replica_state.specs.World.{Bundles}
use Rattle.replica_state.specs.World.Calls.{IsSending}
use Rattle.replica_state.proofs.World.Calls.{of_answer, sends}
use Rattle.replica_state.proofs.World.Held.{all_ids}
use Rattle.replica_state.proofs.laws.calls.bundle.Goals as goal

pub returns : goal.returns
returns c =
    let s = c.args.replica.now in
    let valid = c.name.ensures.valid in
    of_answer (λ bytes. bytes.items ≡ bundle s.held) (λ bytes. IsSending (Bundles s.name (is_held s.held)) s s.held bytes.items)
    (λ bytes spelled. sends s (is_held s.held) s.held bytes.items (all_ids s.held valid.set.rising) valid.legal spelled)
    c.bundle.result c.bundle.ensures.spelled
