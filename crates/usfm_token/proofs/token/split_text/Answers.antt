use Rattle.std.proofs.Common.{sym, subst, ◌∙◌, ap}
use Rattle.std.specs.Str.{IsCharBoundary}
use Rattle.std.specs.List.{position_or_len}
use Rattle.usfm_token.specs.Tokens.{is_backslash}
use Rattle.usfm_token.proofs.TokenLemmas.{boundary_before_backslash}
use Rattle.usfm_token.proofs.token.split_text.Goals as goal

pub split_at-requires : goal.split_at-requires
split_at-requires c =
    subst (IsCharBoundary c.args.text.now) (sym (c.text_len.ensures ∙ ap (position_or_len is_backslash) c.as_bytes.ensures.value))
    (boundary_before_backslash c.args.text.now c.utf8.text)
