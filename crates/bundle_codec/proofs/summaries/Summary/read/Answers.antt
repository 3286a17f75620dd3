use Rattle.std.proofs.Common.{◌≡◌, Ok, Vec, Global, arith}
use Rattle.bundle_codec.specs.Summaries.{NameRanges}
use Rattle.bundle_codec.specs.SummaryReading.{summary_at}
use Rattle.bundle_codec.proofs.SummaryLoops.{some_is}
use Rattle.bundle_codec.proofs.SummaryWholes.{is_nil, not_nil, read_is, some_names, none_refused, none_followed, read_fails, read_goes_on, read_ends, read_gives}
use Rattle.bundle_codec.proofs.summaries.Summary.read.Goals as goal

pub returns-in_default-clause-refused : goal.returns-in_default-clause-refused
returns-in_default-clause-refused c = none_refused c.args.bytes.now (omega arith) c.in_default.field-0 c.in_default.ensures.rest

pub returns-then-not-is_empty-clause-refused : goal.returns-then-not-is_empty-clause-refused
returns-then-not-is_empty-clause-refused c =
    none_followed c.args.bytes.now (omega arith) c.in-Ok.rest.now c.in-Ok.ensures.rest (not_nil c.in-Ok.rest.now c.if-not-is_empty.ensures)

pub invariant_of-result : goal.invariant_of-result
invariant_of-result c =
    (read_is c.args.bytes.now (λ i. omega (arith, c.type_inv.bytes i)) c.in-Some.names.items c.in-Ok.rest.now
    (is_nil c.in-Ok.rest.now c.if-not-is_empty.ensures)
    (some_is (λ (v : Vec NameRanges Global). summary_at c.args.bytes.now ≡ Ok (v.items, c.in-Ok.rest.now)) c.in-Ok.names c.in-Some.names
    c.in-Some.is c.in-Ok.ensures.kept)).0

pub returns-in-None-clause-refused : goal.returns-in-None-clause-refused
returns-in-None-clause-refused c = some_names c.args.bytes.now (λ i. omega (arith, c.type_inv.bytes i)) c.in-Ok.rest.now
    (is_nil c.in-Ok.rest.now c.if-not-is_empty.ensures) c.in-Ok.ensures.rest

pub returns-in-Some-clause-form : goal.returns-in-Some-clause-form
returns-in-Some-clause-form c =
    (read_is c.args.bytes.now (λ i. omega (arith, c.type_inv.bytes i)) c.in-Some.names.items c.in-Ok.rest.now
    (is_nil c.in-Ok.rest.now c.if-not-is_empty.ensures)
    (some_is (λ (v : Vec NameRanges Global). summary_at c.args.bytes.now ≡ Ok (v.items, c.in-Ok.rest.now)) c.in-Ok.names c.in-Some.names
    c.in-Some.is c.in-Ok.ensures.kept)).0

pub returns-in-Some-clause-spelled : goal.returns-in-Some-clause-spelled
returns-in-Some-clause-spelled c =
    (read_is c.args.bytes.now (λ i. omega (arith, c.type_inv.bytes i)) c.in-Some.names.items c.in-Ok.rest.now
    (is_nil c.in-Ok.rest.now c.if-not-is_empty.ensures)
    (some_is (λ (v : Vec NameRanges Global). summary_at c.args.bytes.now ≡ Ok (v.items, c.in-Ok.rest.now)) c.in-Ok.names c.in-Some.names
    c.in-Some.is c.in-Ok.ensures.kept)).1

pub returns-in_default-clause-none : goal.returns-in_default-clause-none
returns-in_default-clause-none c = read_fails (summary_at c.args.bytes.now) c.in_default.field-0 c.in_default.ensures.rest

pub returns-then-not-is_empty-clause-none : goal.returns-then-not-is_empty-clause-none
returns-then-not-is_empty-clause-none c =
    read_goes_on (summary_at c.args.bytes.now) c.in-Ok.rest.now c.in-Ok.ensures.rest (not_nil c.in-Ok.rest.now c.if-not-is_empty.ensures)

pub returns-in-None-clause-none : goal.returns-in-None-clause-none
returns-in-None-clause-none c =
    read_ends (summary_at c.args.bytes.now) c.in-Ok.rest.now c.in-Ok.ensures.rest (is_nil c.in-Ok.rest.now c.if-not-is_empty.ensures)

pub returns-in-Some-clause-exact : goal.returns-in-Some-clause-exact
returns-in-Some-clause-exact c =
    read_gives (summary_at c.args.bytes.now) c.in-Some.names.items c.in-Ok.rest.now (is_nil c.in-Ok.rest.now c.if-not-is_empty.ensures)
    (some_is (λ (v : Vec NameRanges Global). summary_at c.args.bytes.now ≡ Ok (v.items, c.in-Ok.rest.now)) c.in-Ok.names c.in-Some.names
    c.in-Some.is c.in-Ok.ensures.kept)
