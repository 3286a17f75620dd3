-- Which command made what a file holds, and what its copy had in view then, after every schedule of
-- commands (this project's own rule).
use Rattle.std.specs.Prelude.{◌≡◌, ℕ, true, false, List, [], ◌∷◌, ◌++◌, None, Some, Result, Ok, Err}
use Rattle.usfm_ref.specs.declared.segment.Segment.{Segment}
use Rattle.op_core.specs.Ids.{Id}
use Rattle.op_core.specs.Ops.{Operation, names}
use Rattle.op_core.specs.Sets.{get, join}
use Rattle.op_core.specs.Lists.{shown_ids}
use Rattle.op_core.specs.NextIds.{is_among}
use Rattle.bundle_codec.specs.declared.fault.WholeFault.{WholeFault}
use Rattle.bundle_codec.specs.Joining.{whole_at}
use Rattle.replica_state.specs.States.{State}
use Rattle.replica_state.specs.World.Schedules.{Holds, IsOrThinned}
use Rattle.project_file.specs.Projects.{project, project_at}
use Rattle.usfm_cli.specs.Schedules.{FileCommand, files, AreDone, IsFileOf}
use Rattle.usfm_cli.specs.Schedules.Relays.{if_edit}
use Rattle.usfm_cli.specs.declared.command.Command.{Command}
use Rattle.usfm_cli.specs.declared.command.Command.TheVariants.{ImportSince}

-- the ids that a file shows in a segment once the set of a bundle is received into it; none where
-- there is no such set
abbrev pub shown_with : State → Result (List Operation) WholeFault → Segment → List Id
shown_with s (Ok base) g = shown_ids (join s.held base) g
shown_with s (Err fault) g = []

-- The ids that are in view of a segment where a command is given: those that the file shows; and of
-- an import since a base those that it shows with the base received into it.
abbrev pub in_view : State → Command → Segment → List Id
in_view s (ImportSince file base) g = shown_with s (whole_at base.now) g
in_view s command g = shown_ids s.held g

-- A command makes an operation, and sees what it names: it is an edit or an import at the copy of
-- the operation's name; the copy's file, as it is read before, has no operation of its id; after
-- the command it is that of a replica that has it, perhaps without its text; and each id that the
-- operation names was in view of its segment before.
pub record Makes (past : List FileCommand) (c : FileCommand) (o : Operation) : Type 0 where
  pub edits : if_edit c.command false ≡ false
  pub own_name : o.id.name ≡ c.name
  pub before : State
  pub read : project_at ((files past).file c.name) ≡ Ok before
  pub new : get before.held o.id ≡ None
  pub seen : (id : Id) → names o id ≡ true →
      is_among (in_view before c.command o.segment) id ≡ true
  pub after : State
  pub made : (files (c ∷ past)).file c.name ≡ project after
  pub held : Holds after.held o

-- one of the commands made the operation
pub record WasMade (commands : List FileCommand) (o : Operation) : Type 0 where
  pub later : List FileCommand
  pub command : FileCommand
  pub past : List FileCommand
  pub here : commands ≡ later ++ command ∷ past
  pub makes : Makes past command o

-- What a file holds one of the commands made, an edit or an import at the copy of its name, and at
-- most its text is left out since. What it names was in view there before that command.
abbrev pub NamesWhatWasShown : Type 0
NamesWhatWasShown =
    (commands : List FileCommand) (name : List ℕ) (s : State) (id : Id) (x : Operation) →
    AreDone commands → IsFileOf (files commands) name s → get s.held id ≡ Some x →
    (o : Operation) × WasMade commands o × IsOrThinned x o
