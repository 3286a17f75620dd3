-- What a contract sees of a walk over a tree.
use Rattle.std.specs.Prelude.{List, length}
use Rattle.sty_sheet.specs.Records.{Record}
use Rattle.sty_sheet.specs.Views.{records_of}
use Rattle.usfm_token.specs.View.{rest_of}
use Rattle.usfm_tree.specs.Events.{Event, events_left}
use Rattle.usfm_tree.specs.Loops.ReaderViews.{opens_in}
use Rattle.usfm_tree.specs.SheetViews.{styles_of}
use Rattle.usfm_tree.specs.Loops.TakenViews.{left_of}
use Rattle.usfm_tree.specs.declared.walk.TreeWalk.{TreeWalk}

-- what a walk has still to meet
abbrev pub events_ahead : TreeWalk → List Event
events_ahead w =
    events_left (styles_of w.sheet.now) (opens_in w.open_nodes.items)
    (left_of (length w.source.now) (rest_of w.tokens))

-- the records of the sheet that it goes by
abbrev pub records_by : TreeWalk → List Record
records_by w = records_of w.sheet.now
