use Rattle.std.proofs.Common.{◌≡◌, ◌++◌, take}
use Rattle.std.specs.List.{flat_map}
use Rattle.op_core.specs.Shown.{picked}
use Rattle.conflict_settling.specs.Entries.{views}
use Rattle.conflict_settling.specs.Questions.{entry_lines}
use Rattle.conflict_settling.proofs.question.push_entries.Given as goal

-- the entries so far
abbrev pub invariant-loop-entry : goal.invariant-loop-entry
invariant-loop-entry l =
    l.bytes.items ≡ l.fn.bytes.items ++ flat_map (entry_lines l.manner (picked l.picked)) (views (take l.entry-index l.entries))
