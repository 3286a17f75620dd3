use Rattle.std.proofs.Common.{sym, ◌∙◌, arith}
use Rattle.bundle_codec.proofs.NameHalves.{around_low, around_high, around_found, around_none}
use Rattle.bundle_codec.proofs.summaries.name_ranges.find_name.Goals as goal

pub halves-preserved-in-Less : goal.halves-preserved-in-Less
halves-preserved-in-Less c = around_low c.args.name.now c.args.names.now c.requires.rising c.halves.low c.halves.high _
    c.index-names-middle.result c.halves.invariant (omega arith) (omega arith) c.index-names-middle.is
    (sym c.order.ensures ∙ c.in-Less.is)

pub returns-in-Equal-clause-found : goal.returns-in-Equal-clause-found
returns-in-Equal-clause-found c = sym (around_found c.args.name.now c.args.names.now c.requires.rising c.halves.low c.halves.high _
    c.index-names-middle.result c.halves.invariant (omega arith) (omega arith) c.index-names-middle.is
    (sym c.order.ensures ∙ c.in-Equal.is))

pub halves-preserved : goal.halves-preserved
halves-preserved c = around_high c.args.name.now c.args.names.now c.requires.rising c.halves.low c.halves.high _
    c.index-names-middle.result c.halves.invariant (omega arith) (omega arith) c.index-names-middle.is
    (sym c.order.ensures ∙ c.in-Greater.is)

pub returns-clause-found : goal.returns-clause-found
returns-clause-found c = sym (around_none c.args.name.now c.args.names.now c.requires.rising c.halves.low c.halves.high c.halves.invariant
    c.halves-test.false)
