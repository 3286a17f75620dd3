use Rattle.std.proofs.Common.{◌≡◌, map, take}
use Rattle.segment_history.specs.Entries.{shown_text}
use Rattle.segment_history.proofs.restore.turned_ids.Given as goal

abbrev pub invariant-loop-one : goal.invariant-loop-one
invariant-loop-one l = l.ids.items ≡ map (λ s. s.id) (map shown_text (take l.one-index l.shown))
