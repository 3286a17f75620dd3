use Rattle.std.proofs.Common.{List, ℕ, subst, ◌∙◌}
use Rattle.usfm_cli.specs.Folding.{AnswersBundles}
use Rattle.usfm_cli.proofs.RefusedStreams.{of_stream}
use Rattle.usfm_cli.proofs.fold.fold_stream.Goals as goal

pub returns-clause-folds : goal.returns-clause-folds
returns-clause-folds g c =
    let read = c.in_ok-input.ensures.read in
    let before = g.W.ByteSink.taken c.args.sink.now in
    let after = g.W.ByteSink.taken c.fold_bundles.new.sink in
    let folds = c.fold_bundles.ensures.folds in
    record {
      given = read.given;
      consumed = read.consumed;
      reads = read.reads;
      answered = of_stream c.args.book read.given (g.R.ByteSource.to_come c.read_to_end.new.source) before after
          c.fold_bundles.result read.answered.1 read.answered.2
          (subst (λ (input : List ℕ). AnswersBundles c.args.book input before after c.fold_bundles.result)
          (c.deref.ensures.value ∙ read.answered.0) folds);
    }
