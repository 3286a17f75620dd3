use Rattle.std.proofs.Common.{refl, sym}
use Rattle.op_core.specs.NextIds.{is_among}
use Rattle.op_core.specs.Loops.Index.{register_of, shown_in, missing_in}
use Rattle.op_core.specs.Loops.Turns.{comes, is_called}
use Rattle.op_core.proofs.IdOrders.IdSets.{if_ok}
use Rattle.op_core.proofs.Indexed.There.{readies_more, readies_at, ready_shown, ready_missing}
use Rattle.op_core.proofs.Indexed.Turned.{change_told}
use Rattle.op_core.proofs.index.ready.ready_run.Goals as goal

pub ready-requires-clause-orderly : goal.ready-requires-clause-orderly
ready-requires-clause-orderly c = c.lay.ensures.same.orderly

pub ready-requires-clause-shown : goal.ready-requires-clause-shown
ready-requires-clause-shown c = ready_shown c.args.held.now c.args.chapters.now.items c.lay.new.chapters.items c.requires.held
    c.requires.index c.lay.ensures.same c.args.segment.now

pub ready-requires-clause-missing : goal.ready-requires-clause-missing
ready-requires-clause-missing c = ready_missing c.args.held.now c.args.chapters.now.items c.lay.new.chapters.items c.requires.index
    c.lay.ensures.same c.args.segment.now

pub returns-clause-same : goal.returns-clause-same
returns-clause-same c = readies_more c.args.chapters.now.items c.lay.new.chapters.items c.ready.new.chapters.items c.lay.ensures.same
    (readies_at c.args.segment.now c.lay.new.chapters.items c.ready.new.chapters.items c.ready.ensures.same)

pub returns-clause-change : goal.returns-clause-change
returns-clause-change c =
    let g = c.args.segment.now in
    let r = readies_at g c.lay.new.chapters.items c.ready.new.chapters.items c.ready.ensures.same in
    if_ok c.ready.result
    (λ ch k. change_told c.args.held.now g g (is_among c.gather_arrived.new.ids.items) (comes c.args.new.now c.args.own.now)
    (is_among c.gather_named.new.ids.items) (is_called c.args.new.now c.args.own.now)
    (shown_in (register_of g c.lay.new.chapters.items)) (shown_in (register_of g c.ready.new.chapters.items))
    (missing_in (register_of g c.lay.new.chapters.items)) (missing_in (register_of g c.ready.new.chapters.items)) ch
    refl c.in_ok-gather_arrived.ensures.members c.in_ok-gather_named.ensures.members (sym (r.shown g)) (sym (r.missing g)) k)
    c.ready.ensures.change
