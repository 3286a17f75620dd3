use Rattle.std.proofs.Common.{◌∙◌, ap, length}
use Rattle.usfm_tree.specs.Events.{events_of, events_left}
use Rattle.usfm_tree.specs.Loops.ReaderViews.{opens_in}
use Rattle.usfm_tree.specs.SheetViews.{styles_of}
use Rattle.usfm_tree.specs.Loops.TakenViews.{left_of}
use Rattle.usfm_tree.proofs.ReadingLemmas.{whole_left}
use Rattle.usfm_tree.proofs.walk.TreeWalk.new.Goals as goal

pub returns-clause-events : goal.returns-clause-events
returns-clause-events c =
    let S = styles_of c.args.sheet.now in
    let source = c.args.source.now in
    (λ i. events_left S (opens_in (c.new-2.ensures.items i)) (left_of (length source) (c.new.ensures i)))
    ∙ ap events_of (whole_left S source)
