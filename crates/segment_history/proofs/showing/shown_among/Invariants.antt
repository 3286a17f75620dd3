use Rattle.std.proofs.Common.{◌≡◌, map, filter, take}
use Rattle.std.specs.Option.{option_copied}
use Rattle.segment_history.specs.Changes.{shown_part}
use Rattle.segment_history.specs.Entries.{shown_text}
use Rattle.segment_history.specs.Loops.Showing.{is_left}
use Rattle.segment_history.proofs.showing.shown_among.Given as goal

abbrev pub invariant-loop-op : goal.invariant-loop-op
invariant-loop-op l =
    map shown_text l.texts.items ≡ map shown_part (filter (is_left l.ops (option_copied l.known)) (take l.op-index l.ops))
