use Rattle.std.proofs.Common.{arith}
use Rattle.bundle_codec.proofs.Steps.{id_number, id_length, id_name, id_is, id_valid}
use Rattle.bundle_codec.proofs.judging.ids.id_in.Goals as goal

pub u64_in-number-requires : goal.u64_in-number-requires
u64_in-number-requires c = id_number c.args.bytes.now (λ i. omega (arith, c.type_inv.bytes i)) c.requires

pub u8_in-len-requires : goal.u8_in-len-requires
u8_in-len-requires c = id_length c.args.bytes.now (λ i. omega (arith, c.type_inv.bytes i)) c.requires _ _ c.u64_in-number.ensures

pub block_in-requires : goal.block_in-requires
block_in-requires c =
    id_name c.args.bytes.now (λ i. omega (arith, c.type_inv.bytes i)) c.requires _ _ c.u64_in-number.ensures _ _ c.u8_in-len.ensures

pub returns : goal.returns
returns c = record {
  value = id_is c.args.bytes.now
      (λ i. omega (arith, c.type_inv.bytes i)) c.requires _ _ c.u64_in-number.ensures _ _ c.u8_in-len.ensures _ _ c.block_in.ensures;
  valid = id_valid c.args.bytes.now
      (λ i. omega (arith, c.type_inv.bytes i)) c.requires _ _ c.u64_in-number.ensures _ _ c.u8_in-len.ensures _ _ c.block_in.ensures;
}
