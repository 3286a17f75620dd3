use Rattle.std.proofs.Common.{◌≡◌, ◌+◌, ◌++◌, length, map}
use Rattle.std.specs.List.{enumerate_from, filter_map}
use Rattle.book_folder.specs.Done as done
use Rattle.book_folder.proofs.done.push_bundles.Given as goal

abbrev pub invariant-bundles : goal.invariant-bundles
invariant-bundles l =
    (map done.line_view l.lines.items ++ filter_map (done.bundle_line l.named l.own) (enumerate_from l.at l.left)
    ≡ map done.line_view l.fn.lines.items ++ done.bundle_lines l.named l.own l.counts)
    × (l.at + length l.left ≡ length l.counts)

abbrev pub decreases-bundles : goal.decreases-bundles
decreases-bundles l = length l.left
