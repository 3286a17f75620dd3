use Rattle.std.proofs.Common.{sym, ◌∙◌}
use Rattle.sync_changes.proofs.Olds.{shown_not, shown_more}
use Rattle.sync_changes.proofs.older.push_shown.Goals as goal

pub returns-then-lacks_book : goal.returns-then-lacks_book
returns-then-lacks_book c =
    shown_not c.args.segment.now c.args.old.now c.args.sets.now.items (sym c.lacks_book.ensures ∙ c.if-lacks_book.true)

pub returns : goal.returns
returns c =
    shown_more c.args.segment.now c.args.old.now c.args.sets.now.items c.push.new.self.items _ c.deref.result.now
    (sym c.lacks_book.ensures ∙ c.if-lacks_book.false) (c.deref.ensures.value ∙ c.in_ok-ids.ensures) c.in_ok-set_of.ensures
    c.in_ok-push.ensures.items
