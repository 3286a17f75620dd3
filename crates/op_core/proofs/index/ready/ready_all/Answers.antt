use Rattle.std.proofs.lemmas.List.{nil_from_length}
use Rattle.op_core.proofs.Indexed.There.{readies_more}
use Rattle.op_core.proofs.Indexed.Runs.{walk_on, walk_ends}
use Rattle.op_core.proofs.index.ready.ready_all.Goals as goal

pub returns-in_err-change-clause-same : goal.returns-in_err-change-clause-same
returns-in_err-change-clause-same c = readies_more c.args.chapters.now.items c.runs.chapters.items c.ready_run.new.chapters.items
    c.runs.invariant.same c.ready_run.ensures.same

pub returns-in_err-push-clause-same : goal.returns-in_err-push-clause-same
returns-in_err-push-clause-same c = readies_more c.args.chapters.now.items c.runs.chapters.items c.ready_run.new.chapters.items
    c.runs.invariant.same c.ready_run.ensures.same

pub runs-preserved : goal.runs-preserved
runs-preserved c =
    walk_on c.args.held.now c.args.new.now c.args.turns.now c.args.chapters.now.items c.runs.chapters.items c.ready_run.new.chapters.items
    c.runs.changes.items c.push.new.self.items
    c.runs.rest.now c.in-Some.others.now c.split_at.result.0.now c.split_at.result.1.now c.in-Some.first.now c.run_len-len.result
    c.in_ok-change.change
    c.runs.invariant c.in-Some.ensures.cases.0 c.split_at.ensures.front c.split_at.ensures.back c.run_len-len.ensures.own
    c.run_len-len.ensures.later
    c.ready_run.ensures.same c.in_ok-change.ensures.change c.in_ok-change.ensures.rising c.in_ok-change.ensures.room
    c.in_ok-push.ensures.items

pub returns-clause-changes : goal.returns-clause-changes
returns-clause-changes c = walk_ends c.args.held.now c.args.new.now c.args.turns.now c.args.chapters.now.items c.runs.chapters.items
    c.runs.changes.items c.runs.rest.now (nil_from_length c.runs.rest.now c.in_default.ensures.cases) c.runs.invariant
