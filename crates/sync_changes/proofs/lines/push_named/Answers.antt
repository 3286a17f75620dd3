use Rattle.std.proofs.Common.{◌≡◌, ℕ, List, OnOk, subst}
use Rattle.sync_changes.proofs.Listed.{appended}
use Rattle.sync_changes.specs.Lines.{named_line}
use Rattle.sync_changes.proofs.FewLines.{few_told}
use Rattle.sync_changes.proofs.lines.push_named.Goals as goal

pub loop-item-preserved : goal.loop-item-preserved
loop-item-preserved c =
    appended (named_line c.args.word.now) c.first_few-few.result.now c.loop-item.item-index c.item-item.result c.args.text.now.items
    c.loop-item.text.items c.push_names_at.new.text.items c.loop-item-test.true c.item-item.is c.in_ok-push_names_at.ensures
    c.loop-item.invariant

pub returns : goal.returns
returns c =
    subst (λ (told : List ℕ). OnOk c.push_more.result (c.push_more.new.text.items ≡ told))
    (few_told (named_line c.args.word.now) c.args.items.now c.first_few-few.result.now c.loop-item.item-index c.args.text.now.items
    c.loop-item.text.items c.loop-item-test.false c.first_few-few.ensures c.loop-item.invariant)
    c.push_more.ensures
