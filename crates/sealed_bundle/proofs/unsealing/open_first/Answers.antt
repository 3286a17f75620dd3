use Rattle.sealed_bundle.proofs.Openings.{first_within, first_parts}
use Rattle.sealed_bundle.proofs.unsealing.open_first.Goals as goal

pub returns-clause-within : goal.returns-clause-within
returns-clause-within c = first_within c.args.bytes.now c.in_ok-header.header.now c.in_ok-header.rest.now c.judge_first.result
    c.in_ok-header.ensures

pub returns-clause-parts : goal.returns-clause-parts
returns-clause-parts c = first_parts c.args.bytes.now c.in_ok-header.header.now c.in_ok-header.rest.now c.stated_length.result
    c.stated_digest.result.now c.judge_first.result c.in_ok-header.ensures c.judge_first.ensures
