use Rattle.std.proofs.Common.{◌≡◌, ◌++◌, map, filter, ◌&&◌}
use Rattle.std.specs.Option.{is_none}
use Rattle.book_folder.specs.StoodTexts.{text_under}
use Rattle.book_folder.specs.Bases as bases
use Rattle.book_folder.proofs.bases.kept_ops.Given as goal

abbrev pub invariant-loop-op : goal.invariant-loop-op
invariant-loop-op l =
    (l.cursor ≡ l.base.held)
    × (map (λ op. op.now) l.ops.items
    ++ filter (λ o. bases.shows l.base.held o && is_none (text_under l.texts o)) l.op-iterator
    ≡ filter (λ o. bases.shows l.base.held o && is_none (text_under l.texts o)) l.base.held)
