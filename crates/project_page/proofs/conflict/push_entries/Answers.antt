use Rattle.std.proofs.Common.{◌≡◌, ◌++◌, List, ap, ◌∙◌, arith}
use Rattle.std.proofs.lemmas.List.{take_all}
use Rattle.std.proofs.lemmas.Result.{on_ok_weaker}
use Rattle.std.specs.List.{flat_map}
use Rattle.op_core.specs.Shown.{picked}
use Rattle.conflict_settling.specs.Entries.{views}
use Rattle.conflict_settling.specs.declared.sides.Entry.{Entry}
use Rattle.project_page.specs.Pages as pages
use Rattle.project_page.specs.Said.{said}
use Rattle.project_page.specs.declared.markup.TheConstants as html
use Rattle.project_page.proofs.Appended.{joined}
use Rattle.project_page.proofs.conflict.push_entries.Goals as goal

pub returns : goal.returns
unfolding pages.texts
returns c =
    let all = flat_map (pages.entry said (picked c.args.picked.now)) (views c.args.entries.now) in
    let looped : c.loop-entry.page.items ≡ c.push_html.new.page.items ++ all =
    c.loop-entry.invariant
    ∙ ap (λ (es : List Entry). c.push_html.new.page.items ++ flat_map (pages.entry said (picked c.args.picked.now)) (views es))
    (take_all c.loop-entry.entry-index c.args.entries.now (omega (arith, c.loop-entry-test.false))) in
    on_ok_weaker c.push_html-2.result (λ last.
    joined c.args.page.now.items html.TEXTS.now (all ++ html.DIV_END.now) c.in_ok-push_html.ensures
    (joined c.push_html.new.page.items all html.DIV_END.now looped last)) c.push_html-2.ensures
