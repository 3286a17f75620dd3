use Rattle.std.proofs.Common.{◌++◌, List, ℕ, ap, ◌∙◌}
use Rattle.std.proofs.lemmas.Result.{on_ok_weaker}
use Rattle.project_page.specs.Pages as pages
use Rattle.project_page.specs.declared.markup.TheConstants as html
use Rattle.project_page.proofs.Appended.{joined}
use Rattle.project_page.proofs.progress.push_chapter.Goals as goal

pub returns : goal.returns
unfolding pages.chapter_cell
returns c =
    let chapter = c.args.chapter.now in
    let end = html.CHAPTER_END.now in
    let verses = pages.numbered html.CHAPTER_VERSES.now chapter.verses in
    let written = pages.numbered html.CHAPTER_WRITTEN.now chapter.written in
    let number = pages.numbered html.CHAPTER_NUMBER.now chapter.chapter in
    let one = c.in_ok-push_number.ensures
    ∙ ap (λ (n : ℕ). c.push_html-2.new.page.items ++ pages.numbered html.CHAPTER_NUMBER.now n) c.from.ensures in
    let two = c.in_ok-push_number-2.ensures
    ∙ ap (λ (n : ℕ). c.push_number.new.page.items ++ pages.numbered html.CHAPTER_WRITTEN.now n) c.from-2.ensures in
    let three = c.in_ok-push_number-3.ensures
    ∙ ap (λ (n : ℕ). c.push_number-2.new.page.items ++ pages.numbered html.CHAPTER_VERSES.now n) c.from-3.ensures in
    let shaded = c.in_ok-push_html-2.ensures ∙ ap (λ (t : List ℕ). c.push_html.new.page.items ++ t) c.shade.ensures in
    on_ok_weaker c.push_html-3.result (λ last.
    joined c.args.page.now.items html.CHAPTER.now (pages.shade chapter ++ (number ++ (written ++ (verses ++ end))))
    c.in_ok-push_html.ensures
    (joined c.push_html.new.page.items (pages.shade chapter) (number ++ (written ++ (verses ++ end))) shaded
    (joined c.push_html-2.new.page.items number (written ++ (verses ++ end)) one
    (joined c.push_number.new.page.items written (verses ++ end) two
    (joined c.push_number-2.new.page.items verses end three last)))))
    c.push_html-3.ensures
