use Rattle.sealed_bundle.proofs.Changes.{other_bundle}
use Rattle.sealed_bundle.proofs.laws.changed_bundle_is_refused.Goals as goal

pub returns : goal.returns
returns _ = other_bundle
