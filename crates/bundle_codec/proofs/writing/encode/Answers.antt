use Rattle.std.proofs.Common.{◌++◌, ap, arith, ◌∙◌}
use Rattle.bundle_codec.specs.Spelling.{bundle}
use Rattle.bundle_codec.proofs.Wholes.{whole_reads}
use Rattle.bundle_codec.proofs.writing.encode.Goals as goal

pub returns-clause-again : goal.returns-clause-again
returns-clause-again c = whole_reads c.in_ok-bytes.bytes.items (record {
  ops = c.args.set.now;
  set = c.iter.ensures.set;
  legal = c.iter.ensures.legal;
  spelled = c.in_ok-bytes.ensures ∙ ap (λ front. front ++ bundle c.args.set.now) c.new.ensures.items;
  short = omega (arith, c.in_ok-bytes.bytes.ok.0, c.in_ok-bytes.bytes.small);
})
