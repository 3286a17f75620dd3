use Rattle.std.proofs.Common.{◌≡◌, take}
use Rattle.sty_sheet.specs.Views.{records_of}
use Rattle.file_reports.specs.Files.{checked}
use Rattle.file_reports.proofs.reports.check_files.Given as goal

abbrev pub invariant-loop-file : goal.invariant-loop-file
invariant-loop-file l = l.bytes.items ≡ checked l.form (records_of l.sheet) (take l.file-index l.files)
