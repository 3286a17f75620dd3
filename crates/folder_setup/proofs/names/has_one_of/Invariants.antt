use Rattle.std.proofs.Common.{◌≡◌}
use Rattle.std.specs.List.{list_any}
use Rattle.folder_setup.specs.Names as names
use Rattle.folder_setup.proofs.names.has_one_of.Given as goal

abbrev pub invariant-loop-view : goal.invariant-loop-view
invariant-loop-view l = list_any (names.is_of l.name) l.view-iterator ≡ list_any (names.is_of l.name) l.bundle
