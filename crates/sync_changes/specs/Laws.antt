-- Laws of what a sync changed (this project's own rule).
use Rattle.std.specs.Prelude.{◌≡◌, Bool, true, false, List, [], map}
use Rattle.usfm_ref.specs.declared.segment.Segment.{Segment}
use Rattle.op_core.specs.Ids.{Id}
use Rattle.op_core.specs.Ops.{Operation}
use Rattle.op_core.specs.Sets.{IsOpSet}
use Rattle.op_core.specs.Thinned.{of_ids}
use Rattle.bundle_codec.specs.Summaries.{NameRanges, IsSummaryOf, covers}
use Rattle.segment_history.specs.Loops.Gathering.{is_one_of}
use Rattle.sync_changes.specs.Changes.{by_files, brought, shown_texts, came}
use Rattle.sync_changes.specs.declared.files.FileEdits.{FileEdits}

-- A segment that is not among those where something came in shows the same texts without the edits
-- that the files made as the known operations show by themselves, where none of these edits was
-- known.
abbrev pub UnlistedShowsSame : Type 0
UnlistedShowsSame =
    (held : List Operation) (knows : Id → Bool) (files : FileEdits) (g : Segment) →
    ((id : Id) → knows id ≡ true → by_files files id ≡ false) →
    is_one_of (map (λ c. c.segment) (came held knows files)) g ≡ false →
    shown_texts (of_ids knows held) g ≡ shown_texts (of_ids (brought files) held) g

-- Where all is known that is held, nothing came in.
abbrev pub NothingNewNothingCame : Type 0
NothingNewNothingCame = (held : List Operation) (s : List NameRanges) (files : FileEdits) →
    IsOpSet held → IsSummaryOf held s → came held (covers s) files ≡ []
