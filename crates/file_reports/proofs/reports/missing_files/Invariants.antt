use Rattle.std.proofs.Common.{◌≡◌, take}
use Rattle.versification.specs.Views.{verses_in}
use Rattle.file_reports.specs.Files.{missing}
use Rattle.file_reports.proofs.reports.missing_files.Given as goal

abbrev pub invariant-loop-file : goal.invariant-loop-file
invariant-loop-file l = l.bytes.items ≡ missing (verses_in l.versification) (take l.file-index l.files)
