use Rattle.std.proofs.Common.{◌≡◌, [], None, length}
use Rattle.sty_sheet.specs.Views.{records_of}
use Rattle.usfm_tree.specs.Reading.{tree_of}
use Rattle.usfm_tree.specs.SheetViews.{styles_of}
use Rattle.usfm_tree.specs.WalkViews.{events_ahead, records_by}
use Rattle.concordance.specs.Loops.Gathered.{EventsFit}
use Rattle.concordance.specs.Loops.Reading.{inside_of, leaves_from}
use Rattle.concordance.specs.Loops.LeafViews.{leaves_with}
use Rattle.concordance.proofs.plain.plain_leaves.Given as goal

abbrev pub invariant-loop-walk : goal.invariant-loop-walk
invariant-loop-walk l =
    let sheet = records_of l.sheet in record {
      fit : EventsFit (events_ahead l.walk);
      records : records_by l.walk ≡ sheet;
      leaves : leaves_with sheet l.gathering (events_ahead l.walk)
          ≡ leaves_from sheet (inside_of sheet []) None (tree_of (styles_of l.sheet) l.text);
    }

abbrev pub decreases-loop-walk : goal.decreases-loop-walk
decreases-loop-walk l = length (events_ahead l.walk)
