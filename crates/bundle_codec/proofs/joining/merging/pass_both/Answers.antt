use Rattle.std.proofs.Common.{not, sym, ap, ◌∙◌}
use Rattle.bundle_codec.proofs.Merges.{meets_thinned, lent_some}
use Rattle.bundle_codec.proofs.joining.merging.pass_both.Goals as goal

pub returns-then-is_none : goal.returns-then-is_none
returns-then-is_none c = record {
  x = c.in_ok-one.one;
  y = c.in_ok-other.other;
  left = c.in_ok-one.ensures;
  right = c.in_ok-other.ensures;
  met = meets_thinned c.in_ok-one.one c.in_ok-other.other
      (sym (lent_some c.text.result c.in_ok-other.other.text c.text.ensures) ∙ c.is_none.ensures ∙ ap not c.if-is_none.true);
}
