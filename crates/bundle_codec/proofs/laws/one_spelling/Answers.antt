use Rattle.bundle_codec.proofs.OneSpelling.{one_spelling}
use Rattle.bundle_codec.proofs.laws.one_spelling.Goals as goal

pub returns : goal.returns
returns c = λ a b rest others s t m n e. one_spelling a b rest others (s, m) (t, n) e
