use Rattle.std.proofs.Common.{◌≡◌, ◌++◌, ◌∙◌, ap, sym, arith, rules, append_assoc, map}
use Rattle.book_folder.specs.Naming.{book_name_view, name_in, names_in}
use Rattle.book_folder.specs.Taking.{listed}
use Rattle.book_folder.proofs.NameLines.{names_in_line}
use Rattle.book_folder.proofs.names.names_in.Goals as goal

-- the names before a line, that of the line, and those of what is left of the text are those of all
pub lines-preserved : goal.lines-preserved
lines-preserved c =
    let made = map book_name_view c.lines.names.items in
    let line = c.in-Some.line.now in
    let rest = names_in c.in-Some.rest.now in
    let at = c.in-Some.ensures.byte (omega arith) (λ w o h. h) in
    let left : listed (name_in line) ++ rest ≡ names_in c.lines.left.now =
    (λ i. listed (name_in (at.0 i)) ++ names_in (at.1 i)) ∙ sym (names_in_line c.lines.left.now at.2) in (
      search rules,
      ap (λ n. n ++ rest) c.in_ok-push_name_in.ensures ∙ append_assoc made (listed (name_in line)) rest
          ∙ ap (λ n. made ++ n) left ∙ c.lines.invariant.1,
    )
