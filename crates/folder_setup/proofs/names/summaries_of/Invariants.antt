use Rattle.std.proofs.Common.{◌≡◌, ◌++◌, length, map}
use Rattle.std.specs.List.{filter_map}
use Rattle.folder_setup.specs.Names as names
use Rattle.folder_setup.proofs.names.summaries_of.Given as goal

abbrev pub invariant-known : goal.invariant-known
invariant-known l =
    l.made.items ++ filter_map names.summary_in (map (λ b. b.now) l.left)
    ≡ filter_map names.summary_in (map (λ b. b.now) l.known)

abbrev pub decreases-known : goal.decreases-known
decreases-known l = length l.left
