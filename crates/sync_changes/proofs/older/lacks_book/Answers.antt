use Rattle.std.proofs.Common.{not, ap, ◌∙◌}
use Rattle.std.specs.BTreeSet.{contains}
use Rattle.sync_changes.proofs.Olds.{cmp_is}
use Rattle.sync_changes.proofs.older.lacks_book.Goals as goal

pub returns : goal.returns
returns c = ap not (c.contains.ensures ∙ (λ i. contains (cmp_is i) c.args.old.now.books c.args.segment.now.book))
