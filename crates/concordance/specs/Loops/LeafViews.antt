-- What private functions keep of leaves on a walk, and of pieces on the way.
use Rattle.std.specs.Prelude.{List, ◌++◌, map, reverse, Option}
use Rattle.std.specs.Option.{option_map}
use Rattle.usfm_token.specs.Tokens.{MarkParts}
use Rattle.usfm_token.specs.View.{mark_parts}
use Rattle.sty_sheet.specs.Records.{Record}
use Rattle.usfm_tree.specs.Events.{Event}
use Rattle.verse_cut.specs.Pieces.{PieceParts}
use Rattle.verse_cut.specs.Views.{pieces_view}
use Rattle.concordance.specs.Loops.Gathered.{gathered}
use Rattle.concordance.specs.Passages as passages
use Rattle.concordance.specs.declared.plain.Enclosure.{Enclosure}
use Rattle.concordance.specs.declared.places.Places.{Places}
use Rattle.concordance.specs.declared.plain.Gathering.{Gathering}
use Rattle.concordance.specs.declared.passage.Passage.{Passage}

-- a passage with its bytes
abbrev pub passage_view : Passage → passages.Passage
passage_view p = record { start = p.start; text = p.text.now }

-- passages, each with its bytes
abbrev pub passages_view : List Passage → List passages.Passage
passages_view ps = map passage_view ps

-- the mark directly before what comes next
abbrev pub mark_before : Gathering → Option MarkParts
mark_before g = option_map mark_parts g.before

-- the text that waits, with its attributes
abbrev pub waiting_of : Gathering → Option passages.Passage
waiting_of g = option_map passage_view g.waiting

-- the open nodes, the innermost first
abbrev pub enclosures : Gathering → List Enclosure
enclosures g = reverse g.around.items

-- the leaves so far, and those that a walk still gives which has this to meet
abbrev pub leaves_with : List Record → Gathering → List Event → List passages.Passage
leaves_with sheet g events =
    passages_view g.leaves.items ++ gathered sheet (enclosures g) (mark_before g)
    (waiting_of g) events

-- the pieces from the one on that holds the place last asked for
abbrev pub pieces_left : Places → List PieceParts
pieces_left p = pieces_view p.pieces.now
