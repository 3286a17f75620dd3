use Rattle.std.proofs.Common.{sym, ap, ◌∙◌, arith}
use Rattle.std.specs.Prelude.{is_some}
use Rattle.memchr.proofs.lemmas.ValueLemmas.{FindsNeedle-value}
use Rattle.sealed_bundle.specs.Seals.{magic}
use Rattle.bare_stream.proofs.Plain.{bare_stays}
use Rattle.bare_stream.proofs.stream.has_seal.Goals as goal

pub returns-clause-exact : goal.returns-clause-exact
unfolding magic
returns-clause-exact c = c.is_some.ensures ∙ ap is_some (FindsNeedle-value c.args.bytes.now magic c.find.result c.find.ensures)

pub returns-clause-bare : goal.returns-clause-bare
returns-clause-bare c = λ none. bare_stays c.args.bytes.now (λ i. omega (arith, c.type_inv.bytes i)) (sym (returns-clause-exact c) ∙ none)
