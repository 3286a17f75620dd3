use Rattle.std.proofs.Common.{length, ap, arith}
use Rattle.std.proofs.lemmas.Bool.{and_parts}
use Rattle.command_faults.proofs.LineLengths.{digits_of_id, bytes_of_name}
use Rattle.command_faults.proofs.fault_lines.push_id.Goals as goal

pub push_number-requires : goal.push_number-requires
push_number-requires c =
    omega (arith, c.push_text.ensures.len, c.requires, digits_of_id c.id.inside.number (and_parts _ _ c.id.invariant).0)

pub push_text-requires-2 : goal.push_text-requires-2
push_text-requires-2 c = omega (
  arith,
  c.push_text.ensures.len,
  c.push_number.ensures.len,
  c.requires,
  digits_of_id c.id.inside.number
      (and_parts _ _ c.id.invariant).0,
)

pub push_text-requires-3 : goal.push_text-requires-3
push_text-requires-3 c =
    omega (
      arith,
      c.push_text.ensures.len,
      c.push_number.ensures.len,
      c.push_text-2.ensures.len,
      c.requires,
      digits_of_id
          c.id.inside.number (and_parts _ _ c.id.invariant).0,
      bytes_of_name c.id.inside.name c.text.ensures.valid,
      ap length
          c.text.ensures.text,
    )

pub returns-clause-short : goal.returns-clause-short
returns-clause-short c =
    omega (
      arith,
      c.push_text.ensures.len,
      c.push_number.ensures.len,
      c.push_text-2.ensures.len,
      c.push_text-3.ensures.len,
      c.requires,
      digits_of_id c.id.inside.number
          (and_parts _ _ c.id.invariant).0,
      bytes_of_name c.id.inside.name c.text.ensures.valid,
      ap length c.text.ensures.text,
    )
