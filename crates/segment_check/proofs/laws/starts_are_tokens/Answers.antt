use Rattle.segment_check.proofs.FindingLaws.{starts_are_tokens}
use Rattle.segment_check.proofs.laws.starts_are_tokens.Goals as goal

pub returns : goal.returns
returns c = starts_are_tokens
