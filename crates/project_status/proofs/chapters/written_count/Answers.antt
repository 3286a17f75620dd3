use Rattle.std.proofs.Common.{◌+◌, ◌∙◌, arith, sym, ap}
use Rattle.versification.specs.Views.{verses_in}
use Rattle.project_status.specs.Progress.{in_chapter, is_done}
use Rattle.project_status.proofs.Counts.{one_if, count_none, count_next}
use Rattle.project_status.proofs.chapters.written_count.Goals as goal

pub loop-before-init : goal.loop-before-init
loop-before-init c =
    let v = verses_in c.args.versification.now in
    let p = is_done v c.args.book c.args.chapter (in_chapter c.args.chapter c.args.verses.now) in (sym (count_none p), omega arith)

pub loop-before-preserved : goal.loop-before-preserved
loop-before-preserved c =
    let p = is_done (verses_in c.args.versification.now) c.args.book c.args.chapter (in_chapter c.args.chapter c.args.verses.now) in
    let inv = c.loop-before.invariant in
    let small = c.one_if-count.ensures.small in (
      (λ i. inv.0 i + (c.one_if-count.ensures.value ∙ ap one_if c.is_done.ensures) i) ∙ sym (count_next p c.loop-before.before),
      omega (arith, inv.1, small),
    )
