use Rattle.std.proofs.Common.{arith}
use Rattle.bundle_codec.proofs.FieldSteps.{text_length, text_block, text_is}
use Rattle.bundle_codec.proofs.judging.operation.counted_text_in.Goals as goal

pub u64_in-len-requires : goal.u64_in-len-requires
u64_in-len-requires c = text_length c.args.bytes.now (λ i. omega (arith, c.type_inv.bytes i)) c.requires

pub block_in-requires : goal.block_in-requires
block_in-requires c = text_block c.args.bytes.now (λ i. omega (arith, c.type_inv.bytes i)) c.requires _ _ c.u64_in-len.ensures

pub returns : goal.returns
returns c = text_is c.args.bytes.now
    (λ i. omega (arith, c.type_inv.bytes i)) c.requires _ _ c.u64_in-len.ensures _ _ c.block_in.ensures
