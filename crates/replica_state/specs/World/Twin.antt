-- The twin of a list of events (this project's own rule): the same events, without thinnings.
use Rattle.std.specs.Prelude.{Bool, true, false, List, [], ◌∷◌, if◌then◌else◌}
use Rattle.op_core.specs.Thinned.{is_legal, of_ids}
use Rattle.replica_state.specs.World.{World, Event, Edits, EditsOver, Imports, Thins, Summarizes}
use Rattle.replica_state.specs.World.{Bundles, Receives, ReceivesCut, FindsNoMemory, world}

-- whether the event leaves out no text
abbrev pub keeps_texts : Event → Bool
keeps_texts (Edits name g text) = true
keeps_texts (EditsOver name g text given) = true
keeps_texts (Imports name file) = true
keeps_texts (Thins name) = false
keeps_texts (Summarizes name) = true
keeps_texts (Bundles name kept) = true
keeps_texts (Receives name k) = true
keeps_texts (ReceivesCut name k length) = true
keeps_texts (FindsNoMemory name) = true

-- whether the twin has the event: it is no thinning, no receiving of a cut bundle, no call that
-- finds no memory, and no bundle that is not made
abbrev pub is_twins : World → Event → Bool
is_twins w (Edits name g text) = true
is_twins w (EditsOver name g text given) = true
is_twins w (Imports name file) = true
is_twins w (Thins name) = false
is_twins w (Summarizes name) = true
is_twins w (Bundles name kept) = is_legal (of_ids kept (w.held name))
is_twins w (Receives name k) = true
is_twins w (ReceivesCut name k length) = false
is_twins w (FindsNoMemory name) = false

-- the same events without the thinnings and what changes nothing. So each bundle of the twin holds
-- the operations of the same ids in full, and is at the same place among all.
abbrev pub twin : List Event → List Event
twin [] = []
twin (e ∷ past) = if is_twins (world past) e then e ∷ twin past else twin past
