use Rattle.std.proofs.Common.{◌≡◌, ◌∙◌, ap}
use Rattle.op_core.specs.Lists.{ids_of}
use Rattle.bundle_codec.specs.Summaries.{IsSummaryOf, summary_of}
use Rattle.bundle_codec.proofs.Holding.{if_ok}
use Rattle.bundle_codec.proofs.SoFar.{walked_rise, walked_valid, summed}
use Rattle.bundle_codec.proofs.Told.{same_as_told}
use Rattle.bundle_codec.proofs.summaries.Summary.of_bundle.Goals as goal

pub of_ids-requires-clause-rising : goal.of_ids-requires-clause-rising
of_ids-requires-clause-rising c =
    walked_rise c.args.bundle.now c.of_bundle.ensures.set c.of.result (c.of.ensures ∙ ap ids_of c.of_bundle.ensures.ops)

pub of_ids-requires-clause-each : goal.of_ids-requires-clause-each
of_ids-requires-clause-each c =
    walked_valid c.args.bundle.now c.of_bundle.ensures.set c.of.result (c.of.ensures ∙ ap ids_of c.of_bundle.ensures.ops)

pub returns-clause-exact : goal.returns-clause-exact
returns-clause-exact c =
    summed c.args.bundle.now c.of_bundle.ensures.set c.of.result (c.of.ensures ∙ ap ids_of c.of_bundle.ensures.ops) c.of_ids.result
    c.of_ids.ensures.form c.of_ids.ensures.exactly

pub returns-clause-value : goal.returns-clause-value
returns-clause-value c =
    if_ok c.of_ids.result (IsSummaryOf c.args.bundle.now) (λ s. s ≡ summary_of c.args.bundle.now)
    (λ s h. same_as_told c.args.bundle.now c.of_bundle.ensures.set s h) (returns-clause-exact c)
