use Rattle.std.proofs.Common.{ap, ◌∙◌}
use Rattle.usfm_ref.specs.Segments.{segment}
use Rattle.conflict_settling.specs.Before.{text_before}
use Rattle.conflict_settling.specs.Filled.{HeldBook}
use Rattle.conflict_settling.proofs.Parted.{filled_rise, before_is}
use Rattle.conflict_settling.proofs.book_texts.BookTexts.before.Goals as goal

pub last_before-requires : goal.last_before-requires
last_before-requires c =
    let texts = c.self.inside in
    record {
      rising = filled_rise texts.replica.now.held texts.book c.deref.result.now (c.deref.ensures.value ∙ c.self.invariant);
    }

pub returns : goal.returns
returns c =
    let texts = c.self.inside in
    c.picked_at.ensures
    ∙ before_is texts.replica.now.held texts.book c.deref.result.now (c.deref.ensures.value ∙ c.self.invariant) c.args.key
    c.last_before.result c.last_before.ensures
    ∙ ap (λ (t : HeldBook). text_before t.held (segment t.book c.args.key)) c.self.view_is
