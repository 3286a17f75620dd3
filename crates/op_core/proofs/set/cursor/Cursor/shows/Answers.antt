use Rattle.std.proofs.Common.{ap, ◌∙◌}
use Rattle.op_core.specs.Ids.{ids_rise}
use Rattle.op_core.specs.Lists.{shown_ids}
use Rattle.op_core.specs.NextIds.{is_among}
use Rattle.op_core.proofs.Indexed.Kept.{shown_ids_rise}
use Rattle.op_core.proofs.set.cursor.Cursor.shows.Goals as goal

pub has_id-requires : goal.has_id-requires
has_id-requires c = record {
  rising = ap ids_rise (c.shown_of-ids.ensures.found ∙ c.index.ensures.index.keeps.shown c.segment.result)
      ∙ shown_ids_rise c.self.inside.set.now c.segment.result c.index.ensures.set.rising;
}

pub returns-clause-shows : goal.returns-clause-shows
returns-clause-shows c =
    c.has_id.ensures.found
    ∙ ap (λ ids. is_among ids c.id.result) (c.shown_of-ids.ensures.found ∙ c.index.ensures.index.keeps.shown c.segment.result)
    ∙ (λ i. is_among (shown_ids (c.self.view_is i) (c.segment.ensures i)) (c.id.ensures.id i))
