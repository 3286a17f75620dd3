use Rattle.std.proofs.Common.{◌≡◌, [], length}
use Rattle.sty_sheet.specs.Views.{records_of}
use Rattle.usfm_tree.specs.Reading.{tree_of}
use Rattle.usfm_tree.specs.SheetViews.{styles_of}
use Rattle.usfm_tree.specs.WalkViews.{events_ahead, records_by}
use Rattle.segment_check.specs.Loops.TreeViews.{seen_in}
use Rattle.segment_check.specs.Loops.Sightings.{seen_with}
use Rattle.segment_check.proofs.sighting.see_marks.Given as goal

abbrev pub invariant-loop-walk : goal.invariant-loop-walk
invariant-loop-walk l =
    let sheet = records_of l.sheet in record {
      records : records_by l.walk ≡ sheet;
      seen : seen_with sheet l.sighting (events_ahead l.walk) ≡ seen_in sheet [] (tree_of (styles_of l.sheet) l.text);
    }

abbrev pub decreases-loop-walk : goal.decreases-loop-walk
decreases-loop-walk l = length (events_ahead l.walk)
