use Rattle.std.proofs.Common.{arith}
use Rattle.command_faults.proofs.LineLengths.{digits_of_fault}
use Rattle.command_faults.proofs.fault_lines.numbered.Goals as goal

pub push_number-requires : goal.push_number-requires
push_number-requires c = omega (arith, c.new-line.ensures.len, c.push_text.ensures.len, digits_of_fault c.args.number c.requires)

pub returns-clause-short : goal.returns-clause-short
returns-clause-short c =
    omega (arith, c.new-line.ensures.len, c.push_text.ensures.len, c.push_number.ensures.len, digits_of_fault c.args.number c.requires)
