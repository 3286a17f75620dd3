use Rattle.std.proofs.Common.{length, sym, ap, ◌∙◌, arith}
use Rattle.bundle_codec.specs.Spelling.{operation}
use Rattle.bundle_codec.specs.Views.{lent}
use Rattle.bundle_codec.proofs.Heads.{front_is, tag_takes, text_takes}
use Rattle.bundle_codec.proofs.views.view.OpView.head.Goals.{in-None, in-Some}
use Rattle.bundle_codec.proofs.views.view.OpView.head.Goals as goal

pub returns-clause-bytes : goal.returns-clause-bytes
returns-clause-bytes c =
    c.split_at.ensures.front
    ∙ front_is c.args.self.now c.self.inside.bytes.now c.match-text.body (c.self.invariant.bytes_are ∙ ap operation c.self.view_is)
    (elim c.match-text.branch [
      | in-None w ↦ w.body-is ∙ tag_takes c.args.self.now.text (sym (ap lent w.in-None.is) ∙ c.text.ensures)
      | in-Some w ↦ w.body-is ∙ text_takes c.args.self.now.text w.in-Some.text.now (sym (ap lent w.in-Some.is) ∙ c.text.ensures)
    ])

pub returns-clause-short : goal.returns-clause-short
returns-clause-short c = omega (arith, ap length (c.self.invariant.bytes_are ∙ ap operation c.self.view_is), c.self.told.0)
