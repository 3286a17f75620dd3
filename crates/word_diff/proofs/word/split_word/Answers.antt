use Rattle.std.proofs.Common.{◌++◌, take, get_or, sym, ap, ◌∙◌, subst, eqb-true, take-append-drop}
use Rattle.std.specs.List.{prefix_len}
use Rattle.std.specs.Str.{IsCharBoundary}
use Rattle.usfm_ref.specs.Numbers.{is_blank}
use Rattle.usfm_token.proofs.TokenLemmas.{not_true}
use Rattle.word_diff.specs.Words.{is_plain}
use Rattle.word_diff.proofs.WordLemmas.{boundary_after_blanks, boundary_after_plain, words_of-mark, words_of-blanks, words_of-plain}
use Rattle.word_diff.proofs.word.split_word.Goals as goal

pub split_at-requires : goal.split_at-requires
split_at-requires c =
    subst (IsCharBoundary c.args.text.now) (sym (c.blanks_len.ensures ∙ ap (prefix_len is_blank) c.as_bytes-bytes.ensures.value))
    (boundary_after_blanks c.args.text.now c.utf8.text)

pub split_at-requires-else-is_blank : goal.split_at-requires-else-is_blank
split_at-requires-else-is_blank c =
    subst (IsCharBoundary c.args.text.now) (sym (c.plain_len.ensures ∙ ap (prefix_len is_plain) c.as_bytes-bytes.ensures.value))
    (boundary_after_plain c.args.text.now)

pub returns-then-bytes-eq92 : goal.returns-then-bytes-eq92
returns-then-bytes-eq92 c =
    words_of-mark c.args.text.now c.split_mark.result.1.now c.split_mark.result.0.now c.split_mark.ensures.join c.requires
    (ap (λ l. get_or l 0 0) (sym c.as_bytes-bytes.ensures.value) ∙ c.if-bytes-eq92.true) c.split_mark.ensures.word

pub returns-then-is_blank : goal.returns-then-is_blank
returns-then-is_blank c =
    let text = c.args.text.now in
    let len = c.blanks_len.ensures ∙ ap (prefix_len is_blank) c.as_bytes-bytes.ensures.value in
    words_of-blanks text c.split_at.result.1.now c.split_at.result.0.now
    ((λ i. c.split_at.ensures.front i ++ c.split_at.ensures.back i) ∙ take-append-drop c.blanks_len.result text) c.requires
    (ap (λ l. is_blank (get_or l 0 0)) (sym c.as_bytes-bytes.ensures.value) ∙ sym c.is_blank.ensures ∙ c.if-is_blank.true)
    (c.split_at.ensures.front ∙ ap (λ n. take n text) len)

pub returns-else-is_blank : goal.returns-else-is_blank
returns-else-is_blank c =
    let text = c.args.text.now in
    let at = c.split_at-else-is_blank in
    let len = c.plain_len.ensures ∙ ap (prefix_len is_plain) c.as_bytes-bytes.ensures.value in
    words_of-plain text at.result.1.now at.result.0.now
    ((λ i. at.ensures.front i ++ at.ensures.back i) ∙ take-append-drop c.plain_len.result text) c.requires
    (not_true _ (λ is. c.if-bytes-eq92.false (ap (λ l. get_or l 0 0) c.as_bytes-bytes.ensures.value ∙ eqb-true _ _ is)))
    (ap (λ l. is_blank (get_or l 0 0)) (sym c.as_bytes-bytes.ensures.value) ∙ sym c.is_blank.ensures ∙ c.if-is_blank.false)
    (at.ensures.front ∙ ap (λ n. take n text) len)
