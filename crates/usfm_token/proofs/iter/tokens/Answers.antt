use Rattle.std.proofs.Common.{ap}
use Rattle.std.proofs.lemmas.Iterator.Consumers.{YieldsList-from_first, map_from_collect}
use Rattle.std.proofs.lemmas.Result.{IfOk-weaker}
use Rattle.usfm_token.specs.Tokens.{tokens_of}
use Rattle.usfm_token.specs.View.{lexeme, lexemes, rest_of}
use Rattle.usfm_token.proofs.TokenLaws.{are_tokens}
use Rattle.usfm_token.proofs.iter.tokens.Goals as goal

pub returns-clause-cut : goal.returns-clause-cut
returns-clause-cut c =
    IfOk-weaker c.collect.result _ _ (λ list is. are_tokens (lexemes list.items) c.args.text.now is)
    (map_from_collect _ c.collect.ensures.ran (YieldsList-from_first lexeme (λ s. tokens_of (rest_of s)) _ (ap tokens_of c.new.ensures)))
