use Rattle.bundle_codec.proofs.Groupings.{gives_the_same}
use Rattle.bundle_codec.proofs.laws.groupings_give_the_same.Goals as goal

pub returns : goal.returns
returns _ x y z a b c = gives_the_same x y z a b c
