use Rattle.std.proofs.Common.{◌≡◌, take}
use Rattle.std.specs.List.{flat_map}
use Rattle.usfm_cli.specs.Commands.{shown_line}
use Rattle.usfm_cli.proofs.steps.shown_lines.Given as goal

abbrev pub invariant-loop-op : goal.invariant-loop-op
invariant-loop-op l = l.bytes.items ≡ flat_map (λ op. shown_line op.now) (take l.op-index l.op-items)
