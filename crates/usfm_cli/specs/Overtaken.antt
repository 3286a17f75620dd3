-- What an edit may replace whose text is typed while the project changes (this project's own rule).
use Rattle.std.specs.Prelude.{Bool, List, filter, Result, Ok, Err}
use Rattle.std.specs.List.{list_all}
use Rattle.usfm_ref.specs.declared.segment.Segment.{Segment}
use Rattle.op_core.specs.Ids.{Id}
use Rattle.op_core.specs.Lists.{shown_ids}
use Rattle.op_core.specs.NextIds.{is_among}
use Rattle.replica_state.specs.States.{State}
use Rattle.project_file.specs.declared.fault.LoadFault.{LoadFault}
use Rattle.command_faults.specs.Faults.{of_loading}
use Rattle.command_faults.specs.declared.fault.Fault.{Fault}
use Rattle.usfm_cli.specs.declared.overtaken.StillShown.{StillShown}

-- ids of operations, and whether a segment shows no others
pub record Still : Type 0 where
  pub ids : List Id
  pub is_all : Bool

-- the ids that a segment showed before and shows now, and whether it showed before all that it
-- shows now
abbrev pub still_in : State → State → Segment → Still
still_in before now g = record {
  ids = filter (is_among (shown_ids now.held g)) (shown_ids before.held g);
  is_all = list_all (is_among (shown_ids before.held g)) (shown_ids now.held g);
}

-- the same of two projects that were read, first the one before; or why one is none
abbrev pub still_shown : Result State LoadFault → Result State LoadFault → Segment
    → Result Still Fault
still_shown (Ok before) (Ok now) g = Ok (still_in before now g)
still_shown (Ok before) (Err fault) g = Err (of_loading fault)
still_shown (Err fault) now g = Err (of_loading fault)

-- what is answered, by its parts
abbrev pub still : StillShown → Still
still answer = record { ids = answer.ids.items; is_all = answer.is_all }

-- what is answered so, or the refusal
abbrev pub as_still : Result StillShown Fault → Result Still Fault
as_still (Ok answer) = Ok (still answer)
as_still (Err fault) = Err fault
