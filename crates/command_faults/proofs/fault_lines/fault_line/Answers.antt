use Rattle.std.proofs.Common.{ℕ, length, ap, ◌∙◌, arith}
use Rattle.std.specs.Fmt.{decimal}
use Rattle.command_faults.specs.Lines.{fault_number}
use Rattle.command_faults.proofs.LineLengths.{digits_below_100}
use Rattle.command_faults.proofs.fault_lines.fault_line.Goals as goal

pub push_id-requires : goal.push_id-requires
push_id-requires c =
    let number = c.fault_number.ensures.number ∙ ap fault_number c.in-Clash.is in
    omega (arith, c.numbered-line.ensures.len, ap (λ (n : ℕ). length (decimal n)) number, digits_below_100 51 (omega arith))

pub push_id-requires-in-NotShown : goal.push_id-requires-in-NotShown
push_id-requires-in-NotShown c =
    let number = c.fault_number.ensures.number ∙ ap fault_number c.in-NotShown.is in
    omega (arith, c.numbered-line.ensures.len, ap (λ (n : ℕ). length (decimal n)) number, digits_below_100 83 (omega arith))

pub push_id-requires-in-LeftOut : goal.push_id-requires-in-LeftOut
push_id-requires-in-LeftOut c =
    let number = c.fault_number.ensures.number ∙ ap fault_number c.in-LeftOut.is in
    omega (arith, c.numbered-line.ensures.len, ap (λ (n : ℕ). length (decimal n)) number, digits_below_100 84 (omega arith))
