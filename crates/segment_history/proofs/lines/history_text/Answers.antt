use Rattle.std.proofs.Common.{◌++◌, ◌∙◌}
use Rattle.std.specs.List.{flat_map}
use Rattle.segment_history.specs.Histories.{history}
use Rattle.segment_history.specs.Lines.{history_lines}
use Rattle.segment_history.proofs.Appending.{flat_mapped}
use Rattle.segment_history.proofs.lines.history_text.Goals as goal

pub returns : goal.returns
returns c =
    c.in_ok-push_histories.ensures
    ∙ (λ i. c.new-text.ensures.items i ++ flat_map history_lines ((c.deref.ensures.value ∙ c.in_ok-told.ensures) i))
    ∙ flat_mapped history_lines (history c.args.bundle.now) c.args.segments.now
