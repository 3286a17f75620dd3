use Rattle.std.proofs.Common.{◌≡◌, ◌++◌, map, filter, ◌&&◌}
use Rattle.book_folder.specs.StoodTexts.{text_under}
use Rattle.book_folder.specs.Bases as bases
use Rattle.book_folder.proofs.bases.found_ops.Given as goal

abbrev pub invariant-loop-op : goal.invariant-loop-op
invariant-loop-op l =
    (l.cursor ≡ l.replica.held)
    × (map (λ op. op.now) l.ops.items
    ++ filter (λ o. bases.shows l.replica.held o && bases.is_text (text_under l.texts o) o) l.op-iterator
    ≡ filter (λ o. bases.shows l.replica.held o && bases.is_text (text_under l.texts o) o) l.replica.held)
