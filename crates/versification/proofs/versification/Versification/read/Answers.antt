use Rattle.std.proofs.Common.{◌≡◌, ◌≤◌, ◌∙◌, ◌∷◌, List, ℕ, Bor, Option, Some, length, sym, ap, subst, arith}
use Rattle.std.specs.Option.{option_map}
use Rattle.versification.specs.Lines.{Said, line_of}
use Rattle.versification.specs.LineViews.{line_view}
use Rattle.versification.specs.Loops.Tables.{said_left}
use Rattle.versification.specs.Versifications.{said_of, said_in}
use Rattle.versification.proofs.Kept.{Keeps, keeps_none, keeps_line, lines_within}
use Rattle.versification.proofs.versification.Versification.read.Goals as goal

pub lines-init : goal.lines-init
unfolding said_of
lines-init c =
    subst
    (λ (bytes : List ℕ).
    Keeps (said_of c.args.file.now) c.new-named.result.items c.new-books.result c.new-left_out.result 0 (said_in bytes))
    (sym c.after_feff.ensures)
    (keeps_none (said_of c.args.file.now) c.new-named.result.items c.new-books.result c.new-left_out.result
    c.new-named.ensures.items c.new-books.ensures.empty c.new-left_out.ensures.empty)

pub overflow_add-number : goal.overflow_add-number
overflow_add-number c =
    let file = c.args.file.now in
    let bytes = c.in-Some.bytes.now in
    let keeps = subst (λ (left : Option (Bor (List ℕ))).
    Keeps (said_of file) c.lines.named.items c.lines.books c.lines.left_out c.lines.number (said_left (option_map (λ b. b.now) left)))
    c.in-Some.is c.lines.invariant in
    let n : c.lines.number ≤ length file = lines_within file c.lines.number bytes keeps.count in
    omega (arith, n)

pub lines-preserved : goal.lines-preserved
lines-preserved c =
    let all = said_of c.args.file.now in
    let later = said_left (option_map {T = Bor (List ℕ)} {U = List ℕ} (λ b. b.now) c.split_line.result.1) in
    let keeps = subst (λ (left : Option (Bor (List ℕ))).
    Keeps all c.lines.named.items c.lines.books c.lines.left_out c.lines.number (said_left (option_map (λ b. b.now) left)))
    c.in-Some.is c.lines.invariant in
    let line : line_of c.split_line.result.0.now ≡ Some (line_view c.in-Some-2.said) =
    sym c.in_ok-said.ensures ∙ ap (option_map line_view) c.in-Some-2.is in
    let first = c.split_line.ensures ∙ ap (λ (s : Option Said). s ∷ later) line in
    keeps_line (line_view c.in-Some-2.said) later c.keep.new.named.items c.keep.new.books c.keep.new.left_out
    (subst (Keeps all c.lines.named.items c.lines.books c.lines.left_out c.lines.number) first keeps)
    c.in_ok-keep-in-Some-2.ensures.named c.in_ok-keep-in-Some-2.ensures.books c.in_ok-keep-in-Some-2.ensures.left_out
