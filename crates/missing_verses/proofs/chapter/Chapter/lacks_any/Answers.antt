use Rattle.std.proofs.Common.{◌∙◌, ◌||◌, sym}
use Rattle.versification.specs.Views.{verses_in}
use Rattle.missing_verses.specs.Numbers.{is_extra}
use Rattle.missing_verses.proofs.Below.{any_below_none, any_below_more}
use Rattle.missing_verses.proofs.chapter.Chapter.lacks_any.Goals as goal

pub loop-number-init : goal.loop-number-init
loop-number-init c =
    let self = c.args.self.now in
    sym (any_below_none (is_extra (verses_in self.versification.now) self.book self.number c.args.one.now))

pub loop-number-preserved : goal.loop-number-preserved
loop-number-preserved c =
    let self = c.args.self.now in
    let p = is_extra (verses_in self.versification.now) self.book self.number c.args.one.now in
    (λ i. c.loop-number.invariant i || c.lacks-found.ensures i) ∙ sym (any_below_more p c.loop-number.number)
