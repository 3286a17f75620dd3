use Rattle.std.proofs.Common.{◌≡◌, ◌++◌, length, string_bytes}
use Rattle.std.specs.List.{flat_map}
use Rattle.book_reading.specs.Views.{runs_view}
use Rattle.plain_reading.specs.Paragraphs.{in_note}
use Rattle.plain_reading.proofs.ink.note_ink.Given as goal

-- what is written so far, and of the runs that are left
abbrev pub invariant-runs : goal.invariant-runs
invariant-runs l = string_bytes l.ink ++ flat_map in_note (runs_view l.rest) ≡ flat_map in_note (runs_view l.fn.runs)

abbrev pub decreases-runs : goal.decreases-runs
decreases-runs l = length l.rest
