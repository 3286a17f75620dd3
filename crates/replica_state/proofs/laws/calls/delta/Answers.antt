use Rattle.std.proofs.Common.{◌≡◌}
use Rattle.op_core.specs.Lists.{is_held}
use Rattle.bundle_codec.specs.Spelling.{bundle}
use Rattle.bundle_codec.specs.Summaries.{outside}
use Rattle.replica_state.specs.World.{Bundles}
use Rattle.replica_state.specs.World.Calls.{IsSending}
use Rattle.replica_state.proofs.World.Calls.{of_answer, sends, lacking_ids, lacking_legal}
use Rattle.replica_state.proofs.laws.calls.delta.Goals as goal

pub returns : goal.returns
returns c =
    let s = c.args.replica.now in
    let lacking = outside c.args.summary.now s.held in
    let valid = c.name.ensures.valid in
    of_answer (λ bytes. bytes.items ≡ bundle lacking) (λ bytes. IsSending (Bundles s.name (is_held lacking)) s lacking bytes.items)
    (λ bytes spelled. sends s (is_held lacking) lacking bytes.items (lacking_ids s.held c.args.summary.now valid.set.rising)
    (lacking_legal s.held c.args.summary.now valid.set.rising valid.legal) spelled)
    c.delta.result c.delta.ensures.spelled
