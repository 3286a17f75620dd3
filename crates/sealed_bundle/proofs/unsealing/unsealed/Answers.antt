use Rattle.std.proofs.Common.{sym, ◌∙◌}
use Rattle.sealed_bundle.proofs.Openings.{bare_is_none}
use Rattle.sealed_bundle.proofs.unsealing.unsealed.Goals as goal

pub returns-else-is_sealed-clause-sealed : goal.returns-else-is_sealed-clause-sealed
returns-else-is_sealed-clause-sealed c =
    λ bundle is. absurd (bare_is_none c.args.bytes.now bundle (sym c.is_sealed.ensures ∙ c.if-is_sealed.false) is)
