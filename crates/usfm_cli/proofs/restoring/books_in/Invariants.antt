use Rattle.std.proofs.Common.{◌≡◌, map, take}
use Rattle.usfm_cli.proofs.restoring.books_in.Given as goal

abbrev pub invariant-loop-edit : goal.invariant-loop-edit
invariant-loop-edit l = l.books.items ≡ map (λ e. e.segment.book) (take l.edit-index l.edits)
