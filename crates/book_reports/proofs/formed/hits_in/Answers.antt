use Rattle.std.proofs.Common.{sym, subst, arith}
use Rattle.concordance.specs.Views.{hit_view}
use Rattle.book_reports.specs.Loops.Places.{HitFits}
use Rattle.book_reports.proofs.Within.{hit_fits}
use Rattle.book_reports.proofs.formed.hits_in.Goals as goal

pub push_end-requires : goal.push_end-requires
push_end-requires c =
    let fits =
    subst (λ h. HitFits c.args.text.now (hit_view h)) (sym c.hit-item.is)
    (hit_fits c.args.text.now c.args.hits.now c.loop-hit.hit-index c.hit-item.result c.requires c.loop-hit-test.true) in
    omega (arith, fits)
