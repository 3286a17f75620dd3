use Rattle.std.proofs.Common.{◌≡◌}
use Rattle.std.specs.List.{list_any}
use Rattle.usfm_token.specs.Tokens.{tokens_of}
use Rattle.usfm_token.specs.View.{rest_of}
use Rattle.covered_verses.specs.Covers.{is_inked}
use Rattle.covered_verses.proofs.written.is_any_inked.Given as goal

-- none of the tokens so far
abbrev pub invariant-loop-token : goal.invariant-loop-token
invariant-loop-token l =
    list_any is_inked (tokens_of (rest_of l.token-iterator)) ≡ list_any is_inked (tokens_of (rest_of l.fn.tokens))
