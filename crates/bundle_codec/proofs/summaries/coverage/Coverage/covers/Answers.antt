use Rattle.std.proofs.Common.{ap, sym, ◌∙◌, Some, None, List}
use Rattle.bundle_codec.specs.declared.summaries.range.NumberRange.{NumberRange}
use Rattle.bundle_codec.specs.Summaries.{has_number}
use Rattle.bundle_codec.proofs.Covered.{covered_is, named}
use Rattle.bundle_codec.proofs.summaries.coverage.Coverage.covers.Goals as goal

pub returns-in_default-clause-answer : goal.returns-in_default-clause-answer
returns-in_default-clause-answer c = sym (covered_is c.args.id.now c.as_bytes-name.result.now c.id.inside.number c.args.self.now
    c.self.inside.names.now None c.self.invariant.0.rising c.self.view_is
    (named (c.as_bytes-name.ensures.value ∙ c.text.ensures.text) c.id.view_is) c.in_default.ensures.found)

pub returns-in_default-find_range-clause-answer : goal.returns-in_default-find_range-clause-answer
returns-in_default-find_range-clause-answer c =
    c.in_default-find_range.ensures
    ∙ ap (λ (rs : List NumberRange). has_number rs c.id.inside.number) c.ranges-2.ensures.ranges
    ∙ sym (covered_is c.args.id.now c.as_bytes-name.result.now c.id.inside.number c.args.self.now c.self.inside.names.now
    (Some c.in-Some.name_ranges.now) c.self.invariant.0.rising c.self.view_is
    (named (c.as_bytes-name.ensures.value ∙ c.text.ensures.text) c.id.view_is) c.in-Some.ensures.found)

pub returns-clause-answer : goal.returns-clause-answer
returns-clause-answer c =
    c.in-Some-find_range.ensures
    ∙ ap (λ (rs : List NumberRange). has_number rs c.id.inside.number) c.ranges-2.ensures.ranges
    ∙ sym (covered_is c.args.id.now c.as_bytes-name.result.now c.id.inside.number c.args.self.now c.self.inside.names.now
    (Some c.in-Some.name_ranges.now) c.self.invariant.0.rising c.self.view_is
    (named (c.as_bytes-name.ensures.value ∙ c.text.ensures.text) c.id.view_is) c.in-Some.ensures.found)
