use Rattle.std.proofs.Common.{[], Ok, ap, sym, ◌∙◌}
use Rattle.std.proofs.lemmas.Result.{err_from_is_err_and}
use Rattle.usfm_cli.specs.Combining.{bytes_of, bundle_or, union_of}
use Rattle.usfm_cli.proofs.Combined.{has_union}
use Rattle.usfm_cli.proofs.combine.combine_bundles.Goals as goal

pub returns-in_err-bundle-clause-refused : goal.returns-in_err-bundle-clause-refused
returns-in_err-bundle-clause-refused c =
    let from = err_from_is_err_and c.from_residual-in_err-bundle.result c.from_residual-in_err-bundle.ensures.1 in
    rw (from.1, from.2) (has_union (union_of 0 [] (bytes_of c.args.bundles.now)) _ c.in_ok-gathered.ensures.ok)

pub returns-clause-combined : goal.returns-clause-combined
returns-clause-combined c = ap bundle_or c.in_ok-gathered.ensures.ok ∙ ap Ok (sym c.in_ok-bundle.ensures)
