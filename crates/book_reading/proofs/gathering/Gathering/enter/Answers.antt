use Rattle.std.proofs.Common.{◌∙◌, ap}
use Rattle.std.proofs.lemmas.Result.{on_ok_weaker}
use Rattle.usfm_tree.specs.SheetViews.{styles_of}
use Rattle.book_reading.specs.Loops.Gathered.{attributes_may_end}
use Rattle.book_reading.specs.Loops.GatheringViews.{places, waiting_of}
use Rattle.book_reading.proofs.Steps.{settle_step}
use Rattle.book_reading.proofs.gathering.Gathering.enter.Goals as goal

pub returns : goal.returns
returns c =
    let old = c.args.self.now in
    let new = c.settle.new.self in
    let kept = c.in_ok-settle.ensures in
    let may = c.attributes_may_end-may_end.ensures ∙ ap (λ p. attributes_may_end p c.args.entry) c.innermost.ensures in
    on_ok_weaker c.enter_settled.result
    (λ h later. h later
    ∙ settle_step (styles_of c.args.sheet.now) old.written new.written (places old) (places new) old.lead new.lead
    (waiting_of old) (waiting_of new) later c.args.entry c.attributes_may_end-may_end.result kept.waiting kept.around kept.lead may
    kept.runs)
    c.enter_settled.ensures
