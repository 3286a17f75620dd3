use Rattle.std.proofs.Common.{◌≡◌, take, map}
use denote.Text.{Utf8}
use denote.Shadow.{shadow}
use Rattle.op_core.specs.Shown.{last, text_if_any}
use Rattle.replica_state.proofs.since.greatest_text.Given as goal

abbrev pub invariant-loop-op : goal.invariant-loop-op
invariant-loop-op l = shadow (Utf8 l.text) × (l.text ≡ text_if_any (last (map (λ op. op.now) (take l.op-index l.ops))))
