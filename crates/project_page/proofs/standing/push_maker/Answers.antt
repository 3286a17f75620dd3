use Rattle.std.proofs.Common.{◌++◌, List, ℕ, ap, ◌∙◌}
use Rattle.std.proofs.lemmas.Result.{on_ok_weaker}
use Rattle.project_page.specs.Pages as pages
use Rattle.plain_line.specs.declared.text.CarriageReturn.TheVariants.{LeftOut}
use Rattle.project_page.specs.Said.{said}
use Rattle.project_page.specs.declared.markup.TheConstants as html
use Rattle.project_page.proofs.Appended.{joined}
use Rattle.project_page.proofs.standing.push_maker.Goals as goal

pub returns : goal.returns
unfolding pages.maker_row
returns c =
    let name = c.args.maker.now.name in
    let row = pages.row html.MAKER_COUNT.now c.args.maker.now.count in
    let spoken = c.in_ok-push_name.ensures
    ∙ ap (λ (t : List ℕ). c.push_html.new.page.items ++ said LeftOut t) c.text.ensures.text in
    on_ok_weaker c.push_row.result (λ last. joined c.args.page.now.items html.MAKER.now (said LeftOut name ++ row) c.in_ok-push_html.ensures
    (joined c.push_html.new.page.items (said LeftOut name) row spoken last)) c.push_row.ensures
