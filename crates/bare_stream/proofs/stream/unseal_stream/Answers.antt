use Rattle.std.proofs.Common.{◌≡◌, ℕ, List, Ok, subst}
use Rattle.bare_stream.specs.Streams.{unsealed_stream}
use Rattle.bare_stream.proofs.stream.unseal_stream.Goals as goal

pub returns-else-has_seal-clause-ok : goal.returns-else-has_seal-clause-ok
returns-else-has_seal-clause-ok c =
    subst (λ (w : List ℕ). unsealed_stream w ≡ Ok w) c.deref.ensures.value (c.has_seal.ensures.bare c.if-has_seal.false)
