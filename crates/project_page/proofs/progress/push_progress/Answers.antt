use Rattle.std.proofs.Common.{◌≡◌, ◌++◌, List, map, ap, ◌∙◌, arith}
use Rattle.std.specs.List.{flat_map}
use Rattle.std.proofs.lemmas.List.{take_all}
use Rattle.project_page.specs.Pages as pages
use Rattle.project_page.specs.Parts.{book_view}
use Rattle.project_page.specs.Said.{said}
use Rattle.project_page.specs.declared.parts.BookProgress.{BookProgress}
use Rattle.project_page.specs.declared.markup.TheConstants as html
use Rattle.project_page.proofs.Appended.{joined}
use Rattle.project_page.proofs.progress.push_progress.Goals as goal

pub returns : goal.returns
unfolding pages.progress
returns c =
    let all = flat_map (pages.book_row said) (map book_view c.args.books.now) in
    let looped : c.loop-book.page.items ≡ c.push_html.new.page.items ++ all =
    c.loop-book.invariant
    ∙ ap (λ (bs : List BookProgress). c.push_html.new.page.items ++ flat_map (pages.book_row said) (map book_view bs))
    (take_all c.loop-book.book-index c.args.books.now (omega (arith, c.loop-book-test.false))) in
    joined c.args.page.now.items html.PROGRESS.now all c.in_ok-push_html.ensures looped
