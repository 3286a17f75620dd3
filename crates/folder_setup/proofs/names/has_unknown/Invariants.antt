use Rattle.std.proofs.Common.{◌≡◌}
use Rattle.std.specs.Prelude.{◌&&◌}
use Rattle.std.specs.List.{list_any}
use Rattle.folder_setup.specs.Names as names
use Rattle.folder_setup.proofs.names.has_unknown.Given as goal

abbrev pub invariant-loop-view : goal.invariant-loop-view
invariant-loop-view l =
    list_any (λ o. names.is_of l.name o && names.is_unknown l.known o) l.view-iterator
    ≡ list_any (λ o. names.is_of l.name o && names.is_unknown l.known o) l.bundle
