use Rattle.std.proofs.Common.{◌≡◌, ◌++◌}
use Rattle.bundle_codec.proofs.views.view.OpView.replaced_ids.Given as goal

abbrev pub invariant-loop-id : goal.invariant-loop-id
invariant-loop-id l = l.ids.items ++ l.id-iterator ≡ l.self.replaced
