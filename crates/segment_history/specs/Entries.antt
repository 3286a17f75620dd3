-- What an entry says is kept of its operation.
use Rattle.segment_history.specs.Histories.{KeptPart, Whole, TextLeftOut, NotHeld}
use Rattle.segment_history.specs.Changes.{ShownParts}
use Rattle.segment_history.specs.declared.changed.ShownText.{ShownText}
use Rattle.segment_history.specs.declared.entry.Kept.{Kept}
use Rattle.segment_history.specs.declared.entry.Kept.TheVariants.{Text, Thinned, Awaited}

-- what is kept, without where its text lies in memory
abbrev pub kept_part : Kept → KeptPart
kept_part (Text text) = Whole text.now
kept_part Thinned = TextLeftOut
kept_part Awaited = NotHeld

-- an operation that is shown, without where its text lies in memory
abbrev pub shown_text : ShownText → ShownParts
shown_text s = record { id = s.id; kept = kept_part s.kept }
