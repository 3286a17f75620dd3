use Rattle.std.proofs.Common.{ap, ◌∙◌}
use Rattle.usfm_ref.specs.declared.segment.Segment.{Segment}
use Rattle.op_core.specs.Ids.{ids_rise}
use Rattle.op_core.specs.Loops.Index.{register_of, shown_in}
use Rattle.op_core.proofs.index.is_past.Goals as goal

pub has_id-requires : goal.has_id-requires
has_id-requires c = record {
  rising = ap ids_rise (c.shown_of-shown.ensures.found
      ∙ ap (λ (g : Segment). shown_in (register_of g c.args.chapters.now)) c.segment.ensures) ∙ c.requires.rising;
}
