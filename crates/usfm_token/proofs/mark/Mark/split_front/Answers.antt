use Rattle.std.proofs.Common.{arith, ap, sym, ◌∙◌, ◌<◌, ◌==◌, get_or, length, take, drop, subst}
use Rattle.std.specs.Str.{IsCharBoundary}
use Rattle.std.specs.List.{prefix_len}
use Rattle.usfm_token.specs.Tokens.{is_name_byte}
use Rattle.usfm_token.proofs.TokenLemmas.{boundary_past_ascii, some_from_read, boundary_after_name, SplitsMark, split_mark-join, split_mark-slice, split_mark-boundary, split_mark-parts, split_mark-named}
use Rattle.usfm_token.proofs.mark.Mark.split_front.Goals as goal
use Rattle.usfm_token.proofs.mark.Mark.split_front.Goals.{After-strip_byte-closing}

-- what the steps said of one another
splits : (c : After-strip_byte-closing)
    → SplitsMark c.args.text.now c.strip_byte-nested.result.1.now c.split_at.result.0.now c.split_at.result.1.now
    c.strip_byte-closing.result.1.now c.strip_byte-nested.result.0 c.strip_byte-closing.result.0
splits c =
    let len = c.name_len.ensures ∙ ap (prefix_len is_name_byte) c.as_bytes.ensures.value in
    record {
      backslash = c.requires;
      nested_is = c.strip_byte-nested.ensures.found ∙ ap (λ l. get_or l 0 0 == 43) c.range_from.ensures.value;
      plus = sym c.range_from.ensures.value ∙ c.strip_byte-nested.ensures.rest;
      name_is = c.split_at.ensures.front ∙ ap (λ n. take n c.strip_byte-nested.result.1.now) len;
      after_name_is = c.split_at.ensures.back ∙ ap (λ n. drop n c.strip_byte-nested.result.1.now) len;
      closing_is = c.strip_byte-closing.ensures.found;
      star = c.strip_byte-closing.ensures.rest;
    }

pub range_from-requires : goal.range_from-requires
range_from-requires c =
    let some : 0 < length c.args.text.now = some_from_read c.args.text.now 92 (omega arith) c.requires in
    λ _. boundary_past_ascii c.args.text.now c.utf8.text some (omega arith)

pub split_at-requires : goal.split_at-requires
split_at-requires c =
    let len = c.name_len.ensures ∙ ap (prefix_len is_name_byte) c.as_bytes.ensures.value in
    subst (IsCharBoundary c.strip_byte-nested.result.1.now) (sym len)
    (boundary_after_name c.strip_byte-nested.result.1.now c.strip_byte-nested.ensures.utf8)

pub split_at-requires-2 : goal.split_at-requires-2
split_at-requires-2 c =
    split_mark-boundary (splits (goal.at.split_at-requires-2 c).After-strip_byte-closing) c.strip_byte-closing.ensures.utf8

pub invariant_of-mark : goal.invariant_of-mark
invariant_of-mark c =
    let s = splits (goal.at.invariant_of-mark c).After-strip_byte-closing in
    record { spelled = c.split_at-2.ensures.front ∙ split_mark-slice s; named = split_mark-named s }

pub returns-clause-mark : goal.returns-clause-mark
returns-clause-mark c = sym (split_mark-parts (splits (goal.at.returns-clause-mark c).After-strip_byte-closing))

pub returns-clause-after : goal.returns-clause-after
returns-clause-after c = sym (split_mark-join (splits (goal.at.returns-clause-after c).After-strip_byte-closing))
