use Rattle.bundle_codec.proofs.SoFar.{summary_form, summary_covers}
use Rattle.bundle_codec.proofs.summaries.Summary.of_ids.Goals as goal

pub listed-requires : goal.listed-requires
listed-requires c = c.in_ok-held.ensures.each

pub invariant_of-result : goal.invariant_of-result
invariant_of-result c = summary_form c.args.ids c.in_ok-held.held c.in_ok-names.names.items c.in_ok-names.ensures.names
    c.in_ok-held.ensures c.in_ok-names.ensures.valid

pub returns-clause-form : goal.returns-clause-form
returns-clause-form c = summary_form c.args.ids c.in_ok-held.held c.in_ok-names.names.items c.in_ok-names.ensures.names
    c.in_ok-held.ensures c.in_ok-names.ensures.valid

pub returns-clause-exactly : goal.returns-clause-exactly
returns-clause-exactly c = summary_covers c.args.ids c.in_ok-held.held c.in_ok-names.names.items c.in_ok-names.ensures.names
    c.in_ok-held.ensures
