use Rattle.std.proofs.Common.{◌++◌, List, ℕ, ap, ◌∙◌}
use Rattle.std.proofs.lemmas.Result.{on_ok_weaker}
use Rattle.project_page.specs.Pages as pages
use Rattle.plain_line.specs.declared.text.CarriageReturn.TheVariants.{LeftOut}
use Rattle.project_page.specs.Said.{said}
use Rattle.project_page.specs.declared.markup.TheConstants as html
use Rattle.project_page.proofs.Appended.{joined}
use Rattle.project_page.proofs.standing.push_front.Goals as goal

pub returns : goal.returns
unfolding pages.front
returns c =
    let name = c.args.name.now in
    let end = html.ROW_END.now in
    let one = c.in_ok-push_name.ensures
    ∙ ap (λ (t : List ℕ). c.push_html.new.page.items ++ said LeftOut t) c.text.ensures.text in
    let two = c.in_ok-push_name-2.ensures
    ∙ ap (λ (t : List ℕ). c.push_html-2.new.page.items ++ said LeftOut t) c.text-2.ensures.text in
    on_ok_weaker c.push_html-3.result (λ last.
    joined c.args.page.now.items html.HEAD.now (said LeftOut name ++ (html.BODY.now ++ (said LeftOut name ++ end)))
    c.in_ok-push_html.ensures
    (joined c.push_html.new.page.items (said LeftOut name) (html.BODY.now ++ (said LeftOut name ++ end)) one
    (joined c.push_name.new.page.items html.BODY.now (said LeftOut name ++ end) c.in_ok-push_html-2.ensures
    (joined c.push_html-2.new.page.items (said LeftOut name) end two last)))) c.push_html-3.ensures
