use Rattle.std.proofs.Common.{◌≡◌, Ok, Vec, Global, arith}
use Rattle.std.specs.Option.{option_copied}
use Rattle.bundle_codec.specs.declared.summaries.range.NumberRange.{NumberRange}
use Rattle.bundle_codec.specs.SummaryReading.{ranges_at}
use Rattle.bundle_codec.proofs.SummaryLoops.{some_is}
use Rattle.bundle_codec.proofs.SummaryReads.{name_is_read, some_read, each_read, apart_read}
use Rattle.bundle_codec.proofs.summaries.reading.name_ranges_of.Goals as goal

pub made_name-requires : goal.made_name-requires
made_name-requires c = name_is_read (option_copied c.args.before) c.args.bytes.now c.in_ok-name.name.now c.in_ok-name.rest.now
    (λ i. omega (arith, c.type_inv.bytes i)) c.in_ok-name.ensures

pub new-requires-clause-some : goal.new-requires-clause-some
new-requires-clause-some c = some_read
    (option_copied c.args.before) c.args.bytes.now c.in_ok-name.name.now c.in_ok-name.rest.now c.in_ok-count.count c.in_ok-count.rest.now
    c.in-Some.ranges.items c.in_ok-ranges.rest.now (λ i. omega (arith, c.type_inv.bytes i)) c.in_ok-name.ensures c.in_ok-count.ensures
    (some_is (λ (v : Vec NumberRange Global). ranges_at c.in_ok-count.count c.in_ok-count.rest.now ≡ Ok (v.items, c.in_ok-ranges.rest.now))
    c.in_ok-ranges.ranges c.in-Some.ranges c.in-Some.is c.in_ok-ranges.ensures.kept) c.if-count-eq0.false

pub new-requires-clause-each : goal.new-requires-clause-each
new-requires-clause-each c = each_read
    (option_copied c.args.before) c.args.bytes.now c.in_ok-name.name.now c.in_ok-name.rest.now c.in_ok-count.count c.in_ok-count.rest.now
    c.in-Some.ranges.items c.in_ok-ranges.rest.now (λ i. omega (arith, c.type_inv.bytes i)) c.in_ok-name.ensures c.in_ok-count.ensures
    (some_is (λ (v : Vec NumberRange Global). ranges_at c.in_ok-count.count c.in_ok-count.rest.now ≡ Ok (v.items, c.in_ok-ranges.rest.now))
    c.in_ok-ranges.ranges c.in-Some.ranges c.in-Some.is c.in_ok-ranges.ensures.kept)

pub new-requires-clause-apart : goal.new-requires-clause-apart
new-requires-clause-apart c = apart_read
    (option_copied c.args.before) c.args.bytes.now c.in_ok-name.name.now c.in_ok-name.rest.now c.in_ok-count.count c.in_ok-count.rest.now
    c.in-Some.ranges.items c.in_ok-ranges.rest.now (λ i. omega (arith, c.type_inv.bytes i)) c.in_ok-name.ensures c.in_ok-count.ensures
    (some_is (λ (v : Vec NumberRange Global). ranges_at c.in_ok-count.count c.in_ok-count.rest.now ≡ Ok (v.items, c.in_ok-ranges.rest.now))
    c.in_ok-ranges.ranges c.in-Some.ranges c.in-Some.is c.in_ok-ranges.ensures.kept)
