use Rattle.std.proofs.Common.{rules, map, is_some, sym, ap, ◌∙◌}
use Rattle.book_folder.specs.Files.{file_view}
use Rattle.book_folder.specs.Taking.{stood_view}
use Rattle.book_folder.specs.Wanted.{wishes_view}
use Rattle.book_folder.proofs.Twice.Untouched.{untouched_taken}
use Rattle.book_folder.proofs.taking.take_in.Goals as goal

pub returns-then-is_untouched : goal.returns-then-is_untouched
returns-then-is_untouched c =
    untouched_taken c.args.replica.now c.args.beside.now.base.now c.args.beside.now.older.now (wishes_view c.args.beside.now.wishes.now)
    (map stood_view c.args.stood.now.items) (file_view c.args.file.now) c.in_ok-text.text.now c.deref.result.now
    c.is_untouched.ensures.replica c.is_untouched.ensures.base c.in_ok-text.ensures (search rules)
    (sym c.in_ok-was.ensures.has ∙ ap is_some c.in-Some.is) (sym c.is_untouched.ensures.untouched ∙ c.if-is_untouched.true)
