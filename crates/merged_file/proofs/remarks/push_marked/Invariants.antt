use Rattle.std.proofs.Common.{◌≡◌, ◌++◌, take}
use Rattle.std.specs.List.{flat_map}
use Rattle.usfm_ref.specs.Segments.{segment}
use Rattle.merged_file.specs.Remarks as remarks
use Rattle.merged_file.proofs.remarks.push_marked.Given as goal

-- the remarks of the texts so far
abbrev pub invariant-loop-op : goal.invariant-loop-op
invariant-loop-op l =
    l.made.items
    ≡ l.initial.made.items ++ flat_map (λ op. remarks.remarks_of (segment l.book l.key) op.now) (take l.op-index l.others)
