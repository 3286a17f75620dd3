use Rattle.std.proofs.Common.{drop, suc, refl}
use Rattle.std.proofs.lemmas.Result.{err_from_is_err_and}
use Rattle.usfm_cli.specs.Loops.Gathered.{held_in}
use Rattle.usfm_cli.proofs.Unions.{leads_end, left_is_shorter, some_left, none_left, way_start, way_on}
use Rattle.usfm_cli.proofs.Unions.{refused_bundle, refused_bytes}
use Rattle.usfm_cli.proofs.fold.gather_all.Goals as goal

pub bundles-init : goal.bundles-init
bundles-init c = (record { rising = refl; each = tt }, 0, refl, way_start c.args.input.now)

pub returns-in_err-bundle-clause-refused : goal.returns-in_err-bundle-clause-refused
returns-in_err-bundle-clause-refused c =
    let some = some_left c.bundles.rest.now c.is_empty.result c.is_empty.ensures c.bundles-test.true in
    let fault = err_from_is_err_and c.from_residual.result c.from_residual.ensures.1 in
    rw (fault.1, fault.2) (refused_bytes c.args.input.now c.bundles.invariant.1 (held_in c.bundles.gathered) c.bundles.rest.now
    c.bundles.invariant.3 some c.in_err-bundle.field-0.0 c.in_err-bundle.ensures.exact)

pub returns-in_err-gathered-clause-refused : goal.returns-in_err-gathered-clause-refused
returns-in_err-gathered-clause-refused c =
    let some = some_left c.bundles.rest.now c.is_empty.result c.is_empty.ensures c.bundles-test.true in
    let fault = err_from_is_err_and c.from_residual-in_err-gathered.result c.from_residual-in_err-gathered.ensures.1 in
    rw (fault.1, fault.2) (refused_bundle c.args.input.now c.bundles.invariant.1 (held_in c.bundles.gathered) c.in_ok-bundle.bundle
    c.bundles.rest.now _ c.bundles.invariant.3 some c.in_ok-bundle.ensures.exact c.in_err-gathered.field-0.0
    (c.in_err-gathered.ensures.refused c.bundles.invariant.1 c.bundles.invariant.2))

pub split_at-requires : goal.split_at-requires
split_at-requires c = (left_is_shorter c.bundles.rest.now c.in_ok-bundle.length c.in_ok-bundle.bundle c.in_ok-bundle.ensures.spelled
    c.in_ok-bundle.ensures.length).0

pub bundles-smaller : goal.bundles-smaller
bundles-smaller c =
    let shorter = left_is_shorter c.bundles.rest.now c.in_ok-bundle.length c.in_ok-bundle.bundle c.in_ok-bundle.ensures.spelled
    c.in_ok-bundle.ensures.length in
    rw c.split_at.ensures.back shorter.1

pub bundles-preserved : goal.bundles-preserved
bundles-preserved c =
    let some = some_left c.bundles.rest.now c.is_empty.result c.is_empty.ensures c.bundles-test.true in
    let shorter = left_is_shorter c.bundles.rest.now c.in_ok-bundle.length c.in_ok-bundle.bundle c.in_ok-bundle.ensures.spelled
    c.in_ok-bundle.ensures.length in
    let rest = drop c.in_ok-bundle.length c.bundles.rest.now in
    let before = c.bundles.invariant.1 in
    let on = way_on c.args.input.now before (held_in c.bundles.gathered) c.in_ok-bundle.bundle c.bundles.rest.now rest
    c.bundles.invariant.3 some c.in_ok-bundle.ensures.exact c.in_ok-gathered.ensures.agrees shorter.1 in (
      c.in_ok-gathered.ensures.set,
      suc before,
      c.in_ok-gathered.ensures.count before c.bundles.invariant.2,
      rw (c.in_ok-gathered.ensures.ok, c.split_at.ensures.back) on,
    )

pub returns-clause-ok : goal.returns-clause-ok
returns-clause-ok c =
    leads_end (held_in c.bundles.gathered) c.bundles.rest.now _
    (none_left c.bundles.rest.now c.is_empty.result c.is_empty.ensures c.bundles-test.false)
    c.bundles.invariant.3.leads
