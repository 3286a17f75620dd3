use Rattle.std.proofs.Common.{◌∙◌}
use Rattle.usfm_token.proofs.TokenLemmas.{first_backslash}
use Rattle.usfm_token.proofs.scan.text_len.Goals as goal

pub returns : goal.returns
returns c = c.unwrap_or.ensures ∙ first_backslash c.args.bytes.now c.memchr.result c.memchr.ensures
