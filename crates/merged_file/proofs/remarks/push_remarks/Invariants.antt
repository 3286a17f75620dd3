use Rattle.std.proofs.Common.{◌≡◌, ◌++◌, length}
use Rattle.std.specs.List.{flat_map}
use denote.Text.{Utf8}
use denote.Shadow.{shadow}
use Rattle.usfm_ref.specs.Segments.{segment}
use Rattle.merged_file.specs.Remarks as remarks
use Rattle.merged_file.proofs.LineParts.{parts}
use Rattle.merged_file.proofs.remarks.push_remarks.Given as goal

-- the remarks so far, and those of what is left, are the remarks of the text
abbrev pub invariant-lines : goal.invariant-lines
invariant-lines l =
    let g = segment l.fn.book l.fn.key in
    shadow (Utf8 l.left)
    × (l.made.items ++ flat_map (remarks.remark g l.op.id.name) (parts l.left)
    ≡ l.fn.made.items ++ remarks.remarks_of g l.op)

abbrev pub decreases-lines : goal.decreases-lines
decreases-lines l = length l.left
