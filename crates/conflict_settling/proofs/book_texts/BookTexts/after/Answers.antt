use Rattle.std.proofs.Common.{ap, ◌∙◌}
use Rattle.usfm_ref.specs.Segments.{segment}
use Rattle.conflict_settling.specs.After.{text_after}
use Rattle.conflict_settling.specs.Filled.{HeldBook}
use Rattle.conflict_settling.proofs.Parted.{filled_rise, after_is}
use Rattle.conflict_settling.proofs.book_texts.BookTexts.after.Goals as goal

pub first_after-requires : goal.first_after-requires
first_after-requires c =
    let texts = c.self.inside in
    record {
      rising = filled_rise texts.replica.now.held texts.book c.deref.result.now (c.deref.ensures.value ∙ c.self.invariant);
    }

pub returns : goal.returns
returns c =
    let texts = c.self.inside in
    c.picked_at.ensures
    ∙ after_is texts.replica.now.held texts.book c.deref.result.now (c.deref.ensures.value ∙ c.self.invariant) c.args.key
    c.first_after.result c.first_after.ensures
    ∙ ap (λ (t : HeldBook). text_after t.held (segment t.book c.args.key)) c.self.view_is
