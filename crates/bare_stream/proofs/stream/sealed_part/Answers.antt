use Rattle.std.proofs.Common.{sym, ◌∙◌}
use Rattle.std.specs.Prelude.{Ok}
use Rattle.bare_stream.proofs.Parts.{behind_seal, ends_within}
use Rattle.bare_stream.proofs.stream.sealed_part.Goals as goal

pub returns-in-Ok-clause-ok : goal.returns-in-Ok-clause-ok
returns-in-Ok-clause-ok c =
    let parts = behind_seal c.args.bytes.now c.in-Ok.bundle.now c.in-Ok.field-0-1.now c.in-Ok.ensures.parts in
    c.in-Ok.ensures.exact ∙ (λ i. Ok (sym parts.0 i, sym parts.1 i))

pub returns-in-Ok-clause-within : goal.returns-in-Ok-clause-within
returns-in-Ok-clause-within c =
    ends_within c.args.bytes.now c.in-Ok.bundle.now c.in-Ok.field-0-1.now c.in-Ok.ensures.within c.in-Ok.ensures.parts
