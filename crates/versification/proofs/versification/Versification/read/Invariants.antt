use Rattle.std.proofs.Common.{length}
use Rattle.std.specs.Option.{option_map}
use Rattle.versification.specs.Loops.Tables.{said_left}
use Rattle.versification.specs.Versifications.{said_of}
use Rattle.versification.proofs.Kept.{Keeps}
use Rattle.versification.proofs.versification.Versification.read.Given as goal

abbrev pub invariant-lines : goal.invariant-lines
invariant-lines l = Keeps (said_of l.fn.file) l.named.items l.books l.left_out l.number (said_left (option_map (λ b. b.now) l.left))

abbrev pub decreases-lines : goal.decreases-lines
decreases-lines l = length (said_left (option_map (λ b. b.now) l.left))
