use Rattle.book_reading.specs.Readings.{reading_of}
use Rattle.book_reading.proofs.NoteLemmas.{notes_hold}
use Rattle.book_reading.proofs.Placed.{reading_placed}
use Rattle.book_reading.proofs.laws.notes_hold_all.Goals as goal

pub returns : goal.returns
returns c styles s = notes_hold (reading_of styles s) (reading_placed styles s)
