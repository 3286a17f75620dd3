use Rattle.sync_changes.proofs.Olds.{older_more}
use Rattle.sync_changes.proofs.older.older_of.Goals as goal

pub loop-bundle-preserved : goal.loop-bundle-preserved
loop-bundle-preserved c =
    older_more c.args.bundles.now c.args.segments.now c.loop-bundle.bundle-index c.bundle-item.result
    (record { books = c.in_ok-books.books; gathered = c.in_ok-gathered.gathered })
    c.loop-bundle.olds.items c.push.new.self.items c.loop-bundle-test.true c.bundle-item.is
    c.in_ok-books.ensures c.in_ok-gathered.ensures c.in_ok-push.ensures.items c.loop-bundle.invariant
