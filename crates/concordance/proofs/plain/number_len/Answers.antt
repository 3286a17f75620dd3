use Rattle.std.proofs.lemmas.Str.{IsCharBoundary-start}
use Rattle.concordance.proofs.plain.number_len.Goals as goal

pub returns-in_default-clause-boundary : goal.returns-in_default-clause-boundary
returns-in_default-clause-boundary c = IsCharBoundary-start c.args.text.now c.utf8.text

pub returns-in_default-2-clause-boundary : goal.returns-in_default-2-clause-boundary
returns-in_default-2-clause-boundary c = IsCharBoundary-start c.args.text.now c.utf8.text
