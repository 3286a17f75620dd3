use Rattle.plain_line.proofs.LineLemmas.{line_is_plain}
use Rattle.plain_line.proofs.LossyLemmas.{lossy_is_text}
use Rattle.plain_line.proofs.laws.no_control_character_is_left_of_bytes.Goals as goal

pub returns : goal.returns
returns c = line_is_plain _ (lossy_is_text c.args.bytes.now)
