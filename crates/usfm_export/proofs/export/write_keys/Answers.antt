use Rattle.std.proofs.Common.{List, ap, ◌∙◌}
use Rattle.std.proofs.lemmas.Result.{err_from_is_err_and}
use Rattle.op_core.specs.CutsBack.{picked_at}
use Rattle.op_core.specs.Ops.{Operation}
use Rattle.op_core.specs.Shown.{picked_text}
use Rattle.usfm_export.proofs.Exporting.{written_start, written_more, written_front, written_end}
use Rattle.usfm_export.proofs.export.write_keys.Goals as goal

pub loop-key-init : goal.loop-key-init
loop-key-init g c =
    let taken = g.W.ByteSink.taken in
    record {
      cursor = c.cursor-cursor.ensures ∙ c.set.ensures;
      written = written_start c.args.replica.now.held c.args.book _ (taken c.args.sink.now)
          (c.into_iter-key-iterator.ensures.into_iter_gives ∙ c.exported_keys-key-items.ensures);
      failures = λ i. g.W.ByteSink.failures c.args.sink.now;
    }

pub returns-in_err-gone-clause-front : goal.returns-in_err-gone-clause-front
returns-in_err-gone-clause-front g c =
    let taken = g.W.ByteSink.taken in
    let held = c.args.replica.now.held in
    let text = ap picked_text c.pick.ensures.picked
    ∙ ap (λ (ops : List Operation). picked_at ops c.args.book c.in-Some.key) c.loop-key.invariant.cursor in
    let fault = err_from_is_err_and c.from_residual.result c.from_residual.ensures.1 in
    rw (fault.1, fault.2) (written_front held c.args.book c.in-Some.key c.loop-key.key-iterator c.next.new.self c.in-Some.ensures.steps
    _ text (taken c.args.sink.now) (taken c.loop-key.sink) (taken c.write_picked.new.sink) c.loop-key.gone
    c.in_err-gone.field-0.0.gone c.loop-key.invariant.written c.in_err-gone.ensures.front)

pub loop-key-preserved : goal.loop-key-preserved
loop-key-preserved g c =
    let taken = g.W.ByteSink.taken in
    let held = c.args.replica.now.held in
    let text = ap picked_text c.pick.ensures.picked
    ∙ ap (λ (ops : List Operation). picked_at ops c.args.book c.in-Some.key) c.loop-key.invariant.cursor in
    record {
      cursor = c.pick.ensures.same ∙ c.loop-key.invariant.cursor;
      written = written_more held c.args.book c.in-Some.key c.loop-key.key-iterator c.next.new.self c.in-Some.ensures.steps
          _ text (taken c.args.sink.now) (taken c.loop-key.sink) (taken c.write_picked.new.sink) c.loop-key.gone
          c.in_ok-gone.gone c.loop-key.invariant.written c.in_ok-gone.ensures.all;
      failures = c.in_ok-gone.ensures.failed ∙ c.loop-key.invariant.failures;
    }

pub returns-clause-all : goal.returns-clause-all
returns-clause-all g c =
    written_end c.args.replica.now.held c.args.book c.loop-key.key-iterator (g.W.ByteSink.taken c.args.sink.now)
    (g.W.ByteSink.taken c.loop-key.sink) c.loop-key.gone c.in-None.ensures.steps.0 c.loop-key.invariant.written
