use Rattle.std.proofs.Common.{arith}
use Rattle.bundle_codec.proofs.FieldSteps.{place_kind, place_verse, place_letter, is_head, is_plain_verse, is_lettered_verse}
use Rattle.bundle_codec.proofs.judging.keys.place_in.Goals.{then-letter-eq0, else-letter-eq0}
use Rattle.bundle_codec.proofs.judging.keys.place_in.Goals as goal

pub u8_in-kind-requires : goal.u8_in-kind-requires
u8_in-kind-requires c = place_kind c.args.bad c.args.bytes.now (λ i. omega (arith, c.type_inv.bytes i)) c.requires

pub u16_in-number-requires : goal.u16_in-number-requires
u16_in-number-requires c =
    place_verse c.args.bad c.args.bytes.now (λ i. omega (arith, c.type_inv.bytes i)) c.requires _ _ c.u8_in-kind.ensures

pub u8_in-letter-requires : goal.u8_in-letter-requires
u8_in-letter-requires c = place_letter c.args.bad c.args.bytes.now
    (λ i. omega (arith, c.type_inv.bytes i)) c.requires _ _ c.u8_in-kind.ensures _ _ c.u16_in-number.ensures

pub returns-then-kind-eq0 : goal.returns-then-kind-eq0
returns-then-kind-eq0 c = is_head c.args.bad c.args.bytes.now
    (λ i. omega (arith, c.type_inv.bytes i)) c.requires _ _ c.u8_in-kind.ensures _ _ c.u16_in-number.ensures _ _ c.u8_in-letter.ensures
    c.if-kind-eq0.true

pub returns : goal.returns
returns c = elim c.if-letter-eq0.branch [
  | then-letter-eq0 w ↦ rw w.letter-is
      (is_plain_verse c.args.bad c.args.bytes.now
      (λ i. omega (arith, c.type_inv.bytes i)) c.requires _ _ c.u8_in-kind.ensures _ _ c.u16_in-number.ensures _ _ c.u8_in-letter.ensures
      c.if-kind-eq0.false w.if-letter-eq0.true)
  | else-letter-eq0 w ↦ rw w.letter-is
      (is_lettered_verse c.args.bad c.args.bytes.now
      (λ i. omega (arith, c.type_inv.bytes i)) c.requires _ _ c.u8_in-kind.ensures _ _ c.u16_in-number.ensures _ _ c.u8_in-letter.ensures
      c.if-kind-eq0.false w.if-letter-eq0.false)
]
