use Rattle.std.proofs.Common.{◌≡◌, take}
use Rattle.book_reports.specs.Forms.{findings_in}
use Rattle.book_reports.proofs.formed.findings_in.Given as goal

abbrev pub invariant-loop-finding : goal.invariant-loop-finding
invariant-loop-finding l =
    (l.walk ≡ l.text) × (l.bytes.items ≡ findings_in l.places l.set_off l.file l.book l.text (take l.finding-index l.found))
