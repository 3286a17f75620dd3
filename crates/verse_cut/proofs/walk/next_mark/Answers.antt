use Rattle.std.proofs.Common.{◌≡◌, ◌∙◌, sym, ap, ◌+◌, ◌-◌, length, take, drop, arith, length-drop}
use Rattle.std.proofs.lemmas.List.{take_all, drop-drop}
use Rattle.std.specs.List.{position_or_len}
use Rattle.usfm_token.specs.Tokens.{is_backslash}
use Rattle.usfm_token.proofs.TokenLemmas.{first_backslash}
use Rattle.verse_cut.proofs.walk.next_mark.Goals as goal

pub returns : goal.returns
returns c =
    let bytes = c.as_bytes.result.now in
    let all : take (length c.as_bytes.result.now - 1) (drop 1 c.as_bytes.result.now) ≡ drop 1 c.args.text.now =
    take_all (length bytes - 1) (drop 1 bytes) (omega (arith, length-drop 1 c.as_bytes.result.now))
    ∙ ap (drop 1) c.as_bytes.ensures.value in
    let passed = c.unwrap_or-passed.ensures ∙ first_backslash _ c.memchr.result c.memchr.ensures ∙ ap (position_or_len is_backslash) all in
    c.split_at.ensures.back ∙ ap (λ n. drop (1 + n) c.args.text.now) passed
    ∙ sym (drop-drop (position_or_len is_backslash (drop 1 c.args.text.now)) 1 c.args.text.now)
