use Rattle.std.proofs.Common.{◌≡◌, ◌++◌, map, take}
use Rattle.segment_history.specs.ChangeLines.{texts_lines}
use Rattle.segment_history.specs.Entries.{shown_text}
use Rattle.segment_history.proofs.change_lines.push_texts.Given as goal

abbrev pub invariant-loop-one : goal.invariant-loop-one
invariant-loop-one l =
    l.text.items ≡ l.fn.text.items ++ texts_lines l.word (map shown_text (take l.one-index l.shown))
