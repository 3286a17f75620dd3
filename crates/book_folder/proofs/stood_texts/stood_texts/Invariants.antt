use Rattle.std.proofs.Common.{◌≡◌, length, map}
use Rattle.std.specs.Option.{option_or}
use Rattle.op_core.specs.Ops.{Operation}
use Rattle.book_folder.specs.Taking.{stood_view}
use Rattle.book_folder.specs.Bases as bases
use Rattle.book_folder.specs.StoodTexts.{text_under}
use Rattle.book_folder.proofs.stood_texts.stood_texts.Given as goal

abbrev pub invariant-stood : goal.invariant-stood
invariant-stood l =
    (o : Operation) → option_or (text_under l.texts o) (bases.stood_text (map stood_view l.left) o)
    ≡ bases.stood_text (map stood_view l.stood) o

abbrev pub decreases-stood : goal.decreases-stood
decreases-stood l = length l.left
