use Rattle.std.proofs.Common.{◌≡◌, take}
use Rattle.concordance.specs.Views.{hits_view}
use Rattle.book_reports.specs.Forms.{hits_in}
use Rattle.book_reports.proofs.formed.hits_in.Given as goal

abbrev pub invariant-loop-hit : goal.invariant-loop-hit
invariant-loop-hit l =
    (l.walk ≡ l.text)
    × (l.bytes.items ≡ hits_in l.places l.set_off l.file l.book l.text (hits_view (take l.hit-index l.hits)))
