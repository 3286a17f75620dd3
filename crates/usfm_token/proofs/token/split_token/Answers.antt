use Rattle.std.proofs.Common.{ap, sym, ◌∙◌, get_or}
use Rattle.usfm_token.specs.View.{mark_parts}
use Rattle.usfm_token.proofs.TokenLemmas.{tokens_of-mark, tokens_of-text}
use Rattle.usfm_token.proofs.token.split_token.Goals as goal

pub returns-then-as_bytes-eq92 : goal.returns-then-as_bytes-eq92
returns-then-as_bytes-eq92 c =
    tokens_of-mark c.args.text.now c.split_front.result.1.now (mark_parts c.split_front.result.0) c.split_front.ensures.after
    (ap (λ l. get_or l 0 0) (sym c.as_bytes.ensures.value) ∙ c.if-as_bytes-eq92.true) c.split_front.ensures.mark

pub returns-else-as_bytes-eq92 : goal.returns-else-as_bytes-eq92
returns-else-as_bytes-eq92 c =
    tokens_of-text c.args.text.now c.split_text.result.1.now c.split_text.result.0.now c.split_text.ensures.after c.requires
    (λ is. c.if-as_bytes-eq92.false (ap (λ l. get_or l 0 0) c.as_bytes.ensures.value ∙ is)) c.split_text.ensures.text
