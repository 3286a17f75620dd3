use Rattle.std.proofs.Common.{arith}
use Rattle.bundle_codec.proofs.FieldSteps.{key_chapter, key_place, key_is}
use Rattle.bundle_codec.proofs.judging.keys.key_in.Goals as goal

pub u16_in-chapter-requires : goal.u16_in-chapter-requires
u16_in-chapter-requires c = key_chapter c.args.bad c.args.bytes.now (λ i. omega (arith, c.type_inv.bytes i)) c.requires

pub place_in-place-requires : goal.place_in-place-requires
place_in-place-requires c =
    key_place c.args.bad c.args.bytes.now (λ i. omega (arith, c.type_inv.bytes i)) c.requires _ _ c.u16_in-chapter.ensures

pub returns : goal.returns
returns c = key_is c.args.bad c.args.bytes.now
    (λ i. omega (arith, c.type_inv.bytes i)) c.requires _ _ c.u16_in-chapter.ensures _ _ c.place_in-place.ensures
