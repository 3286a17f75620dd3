use Rattle.concordance.proofs.Holding.{fits_at}
use Rattle.concordance.proofs.finding.occurrences.Goals as goal

pub push_occurrences-requires-clause-fits : goal.push_occurrences-requires-clause-fits
push_occurrences-requires-clause-fits c = fits_at c.args.passages.now c.loop-passage.passage-index _ c.requires.fit c.loop-passage-test.true
