use Rattle.std.proofs.Common.{◌≡◌, ◌++◌, ap, sym, ◌∙◌, arith, rules, append_assoc, string_bytes}
use Rattle.std.specs.List.{before_first}
use Rattle.book_folder.specs.Likes.{with_ends, without_last_cr}
use Rattle.book_folder.proofs.Ends.{is_lf, with_ends_line}
use Rattle.book_folder.proofs.likes.push_with_ends.Goals as goal

-- the line, its end and what is left of the text make what was left before
pub lines-preserved : goal.lines-preserved
lines-preserved c =
    let end = c.args.end.now in
    let made = string_bytes c.lines.made in
    let line = c.without_last_cr.result.now in
    let rest = with_ends end c.in-Some.rest.now in
    let at = c.in-Some.ensures.byte (omega arith) (λ w o h. h) in
    let left = with_ends_line end c.lines.left.now at.2 in
    let whole : line ++ end ++ rest ≡ with_ends end c.lines.left.now =
    ap (λ l. l ++ end ++ rest) (c.without_last_cr.ensures ∙ ap without_last_cr at.0)
    ∙ ap (λ r. without_last_cr (before_first is_lf c.lines.left.now) ++ end ++ with_ends end r) at.1
    ∙ sym left in
    let put = c.in_ok-push_str-2.ensures.bytes ∙ ap (λ b. b ++ end) c.in_ok-push_str.ensures.bytes in (
      search rules,
      ap (λ b. b ++ rest) (put ∙ append_assoc made line end) ∙ append_assoc made (line ++ end) rest
          ∙ ap (λ t. made ++ t) whole ∙ c.lines.invariant.1,
    )
