use Rattle.std.proofs.Common.{rules, ◌+◌, drop}
use Rattle.book_reports.proofs.Marks.{parts_length}
use Rattle.book_reports.proofs.mark.mark_len.Goals as goal

pub returns-clause-value : goal.returns-clause-value
returns-clause-value c =
    parts_length (drop (c.args.start + 1) c.args.text.now) c.split_at-2.result.1.now c.split_at-3.result.1.now
    c.optional_len-plus.result c.name_len-name.result c.optional_len.result (search rules) (search rules) c.name_len-name.ensures.value
    c.split_at-3.ensures.back c.optional_len.ensures.value
