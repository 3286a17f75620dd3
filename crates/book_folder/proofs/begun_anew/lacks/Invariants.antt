use Rattle.std.proofs.Common.{◌≡◌}
use Rattle.book_folder.specs.BegunAnew as anew
use Rattle.book_folder.proofs.begun_anew.lacks.Given as goal

abbrev pub invariant-loop-view : goal.invariant-loop-view
invariant-loop-view l = anew.lacks l.project.held l.view-iterator ≡ anew.lacks l.project.held l.bundle
