use Rattle.std.proofs.Common.{[], Ok, inr, ap, sym, ◌∙◌}
use Rattle.std.proofs.lemmas.Result.{err_from_is_err_and}
use Rattle.usfm_cli.specs.Combining.{bundle_or}
use Rattle.usfm_cli.specs.Streams.{union_in}
use Rattle.usfm_cli.proofs.Combined.{has_union}
use Rattle.usfm_cli.proofs.CombinedStreams.{refused_stream}
use Rattle.usfm_cli.proofs.combine.combine_stream.Goals as goal

pub returns-in_err-gathered-clause-refused : goal.returns-in_err-gathered-clause-refused
returns-in_err-gathered-clause-refused c =
    let from = err_from_is_err_and c.from_residual.result c.from_residual.ensures.1 in
    rw (from.1, from.2) (refused_stream c.args.input.now c.in_err-gathered.field-0.0 c.in_err-gathered.ensures.refused)

pub returns-in_err-bundle-clause-refused : goal.returns-in_err-bundle-clause-refused
returns-in_err-bundle-clause-refused c =
    let from = err_from_is_err_and c.from_residual-in_err-bundle.result c.from_residual-in_err-bundle.ensures.1 in
    rw (from.1, from.2) (inr (has_union (union_in [] c.args.input.now) _ c.in_ok-gathered.ensures.ok))

pub returns-clause-combined : goal.returns-clause-combined
returns-clause-combined c = ap bundle_or c.in_ok-gathered.ensures.ok ∙ ap Ok (sym c.in_ok-bundle.ensures)
