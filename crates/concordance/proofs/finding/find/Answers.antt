use Rattle.std.proofs.Common.{sym, subst, map, arith, false-eqb}
use Rattle.sty_sheet.specs.Views.{records_of}
use Rattle.concordance.specs.Hits.{passage_of}
use Rattle.concordance.specs.Passages.{StandApart}
use Rattle.concordance.proofs.Holding.{hits_apart}
use Rattle.concordance.proofs.finding.find.Goals as goal

pub returns-clause-apart : goal.returns-clause-apart
returns-clause-apart c =
    subst (λ hs. StandApart c.args.text.now 0 (map passage_of hs)) (sym c.in_ok-hits.ensures.hits)
    (hits_apart (records_of c.args.sheet.now) c.args.text.now c.args.needle.now (omega (arith, false-eqb _ 0 c.if-is_empty.ensures)))
