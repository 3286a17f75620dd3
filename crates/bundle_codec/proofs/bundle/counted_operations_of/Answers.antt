use Rattle.std.proofs.Common.{List, Ok, ap, sym, subst, ◌∙◌, arith}
use Rattle.std.specs.List.{flat_map}
use Rattle.op_core.specs.Ops.{Operation}
use Rattle.bundle_codec.specs.Spelling.{operation}
use Rattle.bundle_codec.specs.Views.{operations_in, SpellsSet}
use Rattle.bundle_codec.proofs.Seen.{counted_parts, left_fits, own_part, own_spells}
use Rattle.bundle_codec.proofs.bundle.counted_operations_of.Goals as goal

pub overflow_sub-operations : goal.overflow_sub-operations
overflow_sub-operations c =
    let p = counted_parts c.args.full c.args.bytes.now c.in_ok-count.count c.in_ok-count.operations.now c.in_ok-left.left.now
    (λ i. omega (arith, c.type_inv.bytes i)) c.in_ok-count.ensures c.in_ok-left.ensures in
    left_fits c.in_ok-count.operations.now (flat_map operation p.ops) c.in_ok-left.left.now p.own

pub returns-clause-spells : goal.returns-clause-spells
returns-clause-spells c =
    let p = counted_parts c.args.full c.args.bytes.now c.in_ok-count.count c.in_ok-count.operations.now c.in_ok-left.left.now
    (λ i. omega (arith, c.type_inv.bytes i)) c.in_ok-count.ensures c.in_ok-left.ensures in
    subst (SpellsSet c.in_ok-count.count) (sym c.split_at.ensures.front)
    (own_spells c.args.full c.args.bytes.now c.in_ok-count.count c.in_ok-count.operations.now c.in_ok-left.left.now p)

pub returns-clause-reads : goal.returns-clause-reads
returns-clause-reads c =
    let p = counted_parts c.args.full c.args.bytes.now c.in_ok-count.count c.in_ok-count.operations.now c.in_ok-left.left.now
    (λ i. omega (arith, c.type_inv.bytes i)) c.in_ok-count.ensures c.in_ok-left.ensures in
    let own = ap (operations_in c.in_ok-count.count) c.split_at.ensures.front
    ∙ own_part c.args.full c.args.bytes.now c.in_ok-count.count c.in_ok-count.operations.now c.in_ok-left.left.now p in
    p.read ∙ ap (λ (ops : List Operation). Ok (ops, c.in_ok-left.left.now)) (sym own)
