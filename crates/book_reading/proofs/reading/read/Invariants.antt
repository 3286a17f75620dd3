use Rattle.std.proofs.Common.{◌≡◌, length}
use Rattle.usfm_tree.specs.SheetViews.{styles_of}
use Rattle.usfm_tree.specs.WalkViews.{events_ahead}
use Rattle.book_reading.specs.Loops.GatheringViews.{reading_with}
use Rattle.book_reading.specs.Readings.{reading_of}
use Rattle.book_reading.proofs.reading.read.Given as goal

abbrev pub invariant-loop-walk : goal.invariant-loop-walk
invariant-loop-walk l =
    reading_with (styles_of l.sheet) l.gathering (events_ahead l.walk) ≡ reading_of (styles_of l.sheet) l.text

abbrev pub decreases-loop-walk : goal.decreases-loop-walk
decreases-loop-walk l = length (events_ahead l.walk)
