use Rattle.std.proofs.Common.{arith}
use Rattle.bundle_codec.proofs.Steps.{op_id, op_code, op_key, op_ids, op_body, op_text, op_is}
use Rattle.bundle_codec.proofs.views.walk.fields_in.Goals as goal

pub id_in-requires : goal.id_in-requires
id_in-requires c = op_id c.args.bytes.now (λ i. omega (arith, c.type_inv.bytes i)) c.requires

pub block_in-requires : goal.block_in-requires
block_in-requires c = op_code c.args.bytes.now (λ i. omega (arith, c.type_inv.bytes i)) c.requires _ _ c.id_in.ensures.value

pub key_in-requires : goal.key_in-requires
key_in-requires c =
    op_key c.args.bytes.now (λ i. omega (arith, c.type_inv.bytes i)) c.requires _ _ c.id_in.ensures.value _ _ c.block_in.ensures

pub replaced_in-requires : goal.replaced_in-requires
replaced_in-requires c = op_ids c.args.bytes.now
    (λ i. omega (arith, c.type_inv.bytes i)) c.requires _ _ c.id_in.ensures.value _ _ c.block_in.ensures _ _ c.key_in.ensures

pub body_in-requires : goal.body_in-requires
body_in-requires c = op_body c.args.bytes.now
    (λ i. omega (arith, c.type_inv.bytes i)) c.requires _ _ c.id_in.ensures.value _ _ c.block_in.ensures _ _ c.key_in.ensures _ _
    c.replaced_in.ensures.value

pub text_in-text-requires : goal.text_in-text-requires
text_in-text-requires c = op_text c.args.bytes.now
    (λ i. omega (arith, c.type_inv.bytes i)) c.requires _ _ c.id_in.ensures.value _ _ c.block_in.ensures _ _ c.key_in.ensures _ _
    c.replaced_in.ensures.value _ _ c.body_in.ensures

pub returns-clause-value : goal.returns-clause-value
returns-clause-value c =
    rw c.text_in-text.ensures
    (op_is c.args.bytes.now (λ i. omega (arith, c.type_inv.bytes i)) c.requires _ _ c.id_in.ensures.value _ _ c.block_in.ensures _ _
    c.key_in.ensures _ _ c.replaced_in.ensures.value _ _ c.body_in.ensures)
