use Rattle.std.proofs.Common.{arith}
use Rattle.command_faults.proofs.LineLengths.{digits_of_count}
use Rattle.command_faults.proofs.fault_lines.push_count.Goals as goal

pub push_number-requires : goal.push_number-requires
push_number-requires c = omega (arith, c.push_text.ensures.len, c.requires, digits_of_count c.args.count c.ranges.count.fits)

pub returns-clause-short : goal.returns-clause-short
returns-clause-short c =
    omega (arith, c.push_text.ensures.len, c.push_number.ensures.len, c.requires, digits_of_count c.args.count c.ranges.count.fits)
