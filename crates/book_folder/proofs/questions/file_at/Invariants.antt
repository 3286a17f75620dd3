use Rattle.std.proofs.Common.{◌≡◌, length}
use Rattle.std.specs.Prelude.{nat_eq}
use Rattle.std.specs.List.{find}
use Rattle.book_folder.specs.Files.{files_view}
use Rattle.book_folder.proofs.questions.file_at.Given as goal

abbrev pub invariant-files : goal.invariant-files
invariant-files l = find (λ f. nat_eq f.at l.at) (files_view l.left) ≡ find (λ f. nat_eq f.at l.at) (files_view l.files)

abbrev pub decreases-files : goal.decreases-files
decreases-files l = length l.left
