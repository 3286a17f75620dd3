use Rattle.std.proofs.Common.{ap, sym, ◌∙◌, Some, None, List}
use Rattle.bundle_codec.specs.declared.summaries.range.NumberRange.{NumberRange}
use Rattle.bundle_codec.specs.Summaries.{has_number}
use Rattle.bundle_codec.proofs.Covered.{covered_is, named}
use Rattle.bundle_codec.proofs.summaries.Summary.covers.Goals as goal

pub returns-in-None : goal.returns-in-None
returns-in-None c = sym (covered_is c.args.id.now c.as_bytes.result.now c.id.inside.number c.args.self.now c.deref.result.now None
    (rw c.deref.ensures.value c.self.invariant.rising) (c.deref.ensures.value ∙ c.self.view_is)
    (named (c.as_bytes.ensures.value ∙ c.text.ensures.text) c.id.view_is) c.in-None.ensures.found)

pub returns-in-Some : goal.returns-in-Some
returns-in-Some c =
    c.is_some.ensures ∙ c.find_range.ensures
    ∙ ap (λ (rs : List NumberRange). has_number rs c.id.inside.number) c.ranges-in-Some.ensures.ranges
    ∙ sym (covered_is c.args.id.now c.as_bytes.result.now c.id.inside.number c.args.self.now c.deref.result.now
    (Some c.in-Some.name_ranges.now) (rw c.deref.ensures.value c.self.invariant.rising) (c.deref.ensures.value ∙ c.self.view_is)
    (named (c.as_bytes.ensures.value ∙ c.text.ensures.text) c.id.view_is) c.in-Some.ensures.found)
