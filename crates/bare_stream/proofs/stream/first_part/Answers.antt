use Rattle.std.proofs.Common.{arith}
use Rattle.bare_stream.proofs.Parts.{some_bundle}
use Rattle.bare_stream.proofs.stream.first_part.Goals as goal

pub returns-in-Ok-clause-some : goal.returns-in-Ok-clause-some
returns-in-Ok-clause-some c = omega (arith, c.in-Ok.ensures.length, some_bundle c.in-Ok.field-0-0)
