-- What private functions keep of a reading on a walk.
use Rattle.std.specs.Prelude.{List, ◌++◌, map, reverse, Option}
use Rattle.std.specs.Option.{option_map}
use Rattle.usfm_tree.specs.Events.{Event}
use Rattle.usfm_tree.specs.Reading.{Styles}
use Rattle.book_reading.specs.Loops.Gathered as gathered
use Rattle.book_reading.specs.Readings.{RunParts, runs_of}
use Rattle.book_reading.specs.Stretches as stretches
use Rattle.book_reading.specs.Stretches.{Stretch}
use Rattle.book_reading.specs.Views.{runs_view}
use Rattle.book_reading.specs.declared.gathering.Gathering.{Gathering}
use Rattle.book_reading.specs.declared.gathering.Waiting.{Waiting}
use Rattle.book_reading.specs.declared.place.Place.{Place}
use Rattle.book_reading.specs.declared.written.Written.{Written}

-- a place, with the bytes of its style
abbrev pub place_view : Place → stretches.Place
place_view p = record {
  in_note = p.in_note;
  style = p.style.now;
  has_attributes = p.has_attributes;
}

-- the runs so far, and those of stretches that come after them
abbrev pub runs_with : Written → List Stretch → List RunParts
runs_with w later = runs_view w.runs.items ++ runs_of w.notes later

-- a text that waits, with its bytes
abbrev pub waiting_view : Waiting → gathered.Waiting
waiting_view w = record { lead = w.lead; text = w.text.now }

-- the text that waits, if any
abbrev pub waiting_of : Gathering → Option gathered.Waiting
waiting_of g = option_map waiting_view g.waiting

-- the open nodes, the innermost first
abbrev pub places : Gathering → List stretches.Place
places g = map place_view (reverse g.around.items)

-- what a walk still gives which has this to meet
abbrev pub ahead : Styles → Gathering → List Event → List Stretch
ahead styles g events = gathered.gathered styles (places g) g.lead (waiting_of g) events

-- the runs so far, and those that a walk still gives which has this to meet
abbrev pub reading_with : Styles → Gathering → List Event → List RunParts
reading_with styles g events = runs_with g.written (ahead styles g events)
