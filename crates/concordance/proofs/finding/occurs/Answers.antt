use Rattle.std.proofs.Common.{ℕ, List, sym, subst, ◌∙◌}
use Rattle.memchr.specs.Find.{FindsNeedle}
use Rattle.concordance.proofs.Absent.{found_somewhere, found_nowhere}
use Rattle.concordance.proofs.finding.occurs.Goals as goal
use Rattle.concordance.proofs.finding.occurs.Goals.{After-is_some}

found : (c : After-is_some) → FindsNeedle c.args.text.now c.args.needle.now 0 c.find.result
found c =
    subst (λ (needle : List ℕ). FindsNeedle c.args.text.now needle 0 c.find.result) c.as_bytes-2.ensures.value
    (subst (λ (text : List ℕ). FindsNeedle text c.as_bytes-2.result.now 0 c.find.result) c.as_bytes.ensures.value c.find.ensures)

pub returns-clause-yes : goal.returns-clause-yes
returns-clause-yes c h =
    found_somewhere c.args.text.now c.args.needle.now c.find.result (found (goal.at.returns-clause-yes c).After-is_some)
    (sym c.is_some.ensures ∙ h)

pub returns-clause-no : goal.returns-clause-no
returns-clause-no c h =
    found_nowhere c.args.text.now c.args.needle.now c.find.result (found (goal.at.returns-clause-no c).After-is_some)
    (sym c.is_some.ensures ∙ h)
