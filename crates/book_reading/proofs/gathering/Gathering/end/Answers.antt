use Rattle.std.proofs.Common.{◌≡◌, ◌-◌, ◌∙◌, ap, drop, take, length, arith}
use Rattle.book_reading.specs.Loops.GatheringViews.{places, waiting_of}
use Rattle.book_reading.proofs.Steps.{views, places_take, end_step}
use Rattle.book_reading.proofs.gathering.Gathering.end.Goals as goal

pub returns-in_ok-settle : goal.returns-in_ok-settle
returns-in_ok-settle c =
    λ styles later.
    (let old = c.args.self.now in
    let kept = c.in_ok-settle.ensures in
    let items = c.settle.new.self.around.items in
    let around =
    ap views c.truncate.ensures.items
    ∙ ap (λ k. views (take k items))
    (let s = c.saturating_sub.ensures in let l = c.len.ensures in let is : c.saturating_sub.result
    ≡ length items - c.args.count = omega arith in is)
    ∙ places_take c.args.count items ∙ ap (drop c.args.count) kept.around in
    end_step styles old.written c.settle.new.self.written (places old) _ old.lead _ (waiting_of old) _ later
    c.args.count (omega arith) kept.waiting around kept.lead kept.runs)
