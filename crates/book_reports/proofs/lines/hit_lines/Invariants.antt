use Rattle.std.proofs.Common.{◌≡◌, take}
use Rattle.concordance.specs.Views.{hits_view}
use Rattle.book_reports.specs.Lines.{hit_lines}
use Rattle.book_reports.proofs.lines.hit_lines.Given as goal

abbrev pub invariant-loop-hit : goal.invariant-loop-hit
invariant-loop-hit l = l.bytes.items ≡ hit_lines l.book (hits_view (take l.hit-index l.hits))
