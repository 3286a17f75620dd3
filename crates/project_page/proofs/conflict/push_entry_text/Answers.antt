use Rattle.std.proofs.Common.{◌==◌, ◌++◌, Bool, List, cond, sym, ap, ◌∙◌}
use Rattle.std.proofs.lemmas.Result.{on_ok_weaker}
use Rattle.std.specs.List.{flat_map}
use Rattle.word_diff.specs.declared.part.Part.{Part}
use Rattle.project_page.specs.Pages as pages
use Rattle.project_page.specs.Said.{said}
use Rattle.project_page.specs.declared.markup.TheConstants as html
use Rattle.project_page.proofs.Appended.{joined}
use Rattle.project_page.proofs.conflict.push_entry_text.Goals as goal

pub returns : goal.returns
unfolding pages.entry_text
returns c =
    let entry = c.args.entry.now in
    let end = html.LINE_END.now in
    let parts = flat_map (pages.part_on said (entry.number == 1)) entry.parts.items in
    let side = c.in_ok-push_side.ensures
    ∙ ap (λ (ps : List Part). c.push_html-2.new.page.items ++ flat_map (pages.part_on said (entry.number == 1)) ps)
    c.deref.ensures.value in
    on_ok_weaker c.push_html-3.result (λ last.
    joined c.args.page.now.items html.TEXT.now (parts ++ end) c.in_ok-push_html.ensures
    (joined c.push_html-2.new.page.items parts end side last)
    ∙ ap (λ (b : Bool). c.args.page.now.items ++ cond b html.NO_TEXT.now (html.TEXT.now ++ (parts ++ end)))
    (sym c.if-has_no_text.false ∙ c.has_no_text.ensures)) c.push_html-3.ensures
