use Rattle.std.proofs.Common.{◌≡◌, ◌++◌, ◌∷◌, [], ◌-◌, ◌+◌, Ok, Some, Vec, Global, subst}
use Rattle.std.specs.Option.{IsSomeAnd, option_copied}
use Rattle.std.proofs.lemmas.Result.{err_from_is_err_and}
use Rattle.bundle_codec.specs.Reading.{many_at, ahead}
use Rattle.bundle_codec.specs.Summaries.{NameRanges}
use Rattle.bundle_codec.specs.SummaryReading.{name_ranges_at, after_name, names_at}
use Rattle.bundle_codec.proofs.Loops.{goes_on, fails, is_done}
use Rattle.bundle_codec.proofs.SummaryLoops.{after_kept, kept_done, if_some, kept_more, named_so, named_fails, name_kept}
use Rattle.bundle_codec.proofs.summaries.reading.names_of.Goals as goal

pub returns-in_err-name-clause-rest : goal.returns-in_err-name-clause-rest
returns-in_err-name-clause-rest c =
    let p = err_from_is_err_and c.from_residual.result c.from_residual.ensures.1 in
    rw (p.1, p.2) (fails name_ranges_at after_name c.args.count c.loop.counter
    (option_copied c.loop.before) c.loop.rest.now c.in_err-name.field-0.0
    (ahead (names_at c.args.count c.args.bytes.now)) c.loop-test.true
    (named_fails (name_ranges_at (option_copied c.loop.before) c.loop.rest.now) c.in_err-name.field-0.0 c.in_err-name.ensures.rest)
    c.loop.invariant.0)

pub loop-preserved : goal.loop-preserved
loop-preserved c =
    let k = named_so (name_ranges_at (option_copied c.loop.before) c.loop.rest.now) c.in_ok-name.name.now c.in_ok-name.left.now
    c.in_ok-name.ensures.rest in (
      subst (λ n. ahead (many_at name_ranges_at after_name (c.args.count - (c.loop.counter + 1)) (Some n) c.in_ok-name.left.now)
          ≡ ahead (names_at c.args.count c.args.bytes.now)) k.named
          (goes_on name_ranges_at after_name c.args.count c.loop.counter
          (option_copied c.loop.before) c.loop.rest.now k.one c.in_ok-name.left.now
          (ahead (names_at c.args.count c.args.bytes.now)) c.loop-test.true k.is_read c.loop.invariant.0),
      kept_more
          (λ (v : Vec NameRanges Global). names_at c.args.count c.args.bytes.now
          ≡ after_kept v.items (many_at name_ranges_at after_name (c.args.count - c.loop.counter)
          (option_copied c.loop.before) c.loop.rest.now))
          (λ (v : Vec NameRanges Global). names_at c.args.count c.args.bytes.now
          ≡ after_kept v.items (many_at name_ranges_at after_name (c.args.count - (c.loop.counter + 1))
          (Some c.in_ok-name.name.now) c.in_ok-name.left.now))
          (λ (old : Vec NameRanges Global) (new : Vec NameRanges Global). IsSomeAnd c.in_ok-name.name_ranges
          (λ k. new.items ≡ old.items ++ k ∷ []))
          c.loop.kept c.with_name_ranges-kept.result
          (λ old new p r. name_kept c.args.count c.loop.counter
          (option_copied c.loop.before) c.loop.rest.now c.in_ok-name.name.now c.in_ok-name.left.now c.in_ok-name.name_ranges old.items
          new.items (names_at c.args.count c.args.bytes.now) c.loop-test.true c.in_ok-name.ensures.rest c.in_ok-name.ensures.kept r p)
          c.loop.invariant.1 c.with_name_ranges-kept.ensures,
    )

pub returns-clause-rest : goal.returns-clause-rest
returns-clause-rest c = is_done name_ranges_at after_name c.args.count c.loop.counter (option_copied c.loop.before) c.loop.rest.now
    (ahead (names_at c.args.count c.args.bytes.now)) c.loop-test.false c.loop.invariant.0

pub returns-clause-kept : goal.returns-clause-kept
returns-clause-kept c = if_some
    (λ (v : Vec NameRanges Global). names_at c.args.count c.args.bytes.now
    ≡ after_kept v.items (many_at name_ranges_at after_name (c.args.count - c.loop.counter) (option_copied c.loop.before) c.loop.rest.now))
    (λ (v : Vec NameRanges Global). names_at c.args.count c.args.bytes.now ≡ Ok (v.items, c.loop.rest.now))
    c.loop.kept
    (λ v p. kept_done name_ranges_at after_name c.args.count c.loop.counter (option_copied c.loop.before) c.loop.rest.now v.items
    (names_at c.args.count c.args.bytes.now) c.loop-test.false p)
    c.loop.invariant.1
