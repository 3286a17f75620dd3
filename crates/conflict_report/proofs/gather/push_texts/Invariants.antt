use Rattle.std.proofs.Common.{◌≡◌, ◌++◌, take}
use Rattle.std.specs.List.{flat_map}
use Rattle.conflict_report.specs.Loops.Parts.{bytes_of}
use Rattle.conflict_report.specs.Reports.{text_lines}
use Rattle.conflict_report.proofs.gather.push_texts.Given as goal

-- the texts so far, each with its line
abbrev pub invariant-loop-op : goal.invariant-loop-op
invariant-loop-op l =
    bytes_of l.parts.items ≡ bytes_of l.fn.parts.items ++ flat_map (λ op. text_lines op.now) (take l.op-index l.texts)
