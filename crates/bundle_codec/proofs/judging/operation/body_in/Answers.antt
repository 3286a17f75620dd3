use Rattle.std.proofs.Common.{arith}
use Rattle.bundle_codec.proofs.FieldSteps.{body_tag, body_none, body_text, body_is}
use Rattle.bundle_codec.proofs.judging.operation.body_in.Goals as goal

pub u8_in-tag-requires : goal.u8_in-tag-requires
u8_in-tag-requires c = body_tag c.args.bytes.now (λ i. omega (arith, c.type_inv.bytes i)) c.requires

pub counted_text_in-requires : goal.counted_text_in-requires
counted_text_in-requires c =
    body_text c.args.bytes.now (λ i. omega (arith, c.type_inv.bytes i)) c.requires _ _ c.u8_in-tag.ensures c.if-tag-eq0.false

pub returns-then-tag-eq0 : goal.returns-then-tag-eq0
returns-then-tag-eq0 c =
    body_none c.args.bytes.now (λ i. omega (arith, c.type_inv.bytes i)) c.requires _ _ c.u8_in-tag.ensures c.if-tag-eq0.true

pub returns : goal.returns
returns c = body_is c.args.bytes.now
    (λ i. omega (arith, c.type_inv.bytes i)) c.requires _ _ c.u8_in-tag.ensures c.if-tag-eq0.false _ _ c.counted_text_in.ensures
