use Rattle.std.proofs.Common.{sym, ap, ◌∙◌}
use Rattle.usfm_ref.specs.Books.{same_bytes}
use Rattle.bundle_codec.specs.Views.{lent}
use Rattle.bundle_codec.proofs.Heads.{same_heads, agree_bare, left_none, right_none}
use Rattle.bundle_codec.proofs.views.view.OpView.agrees.Goals.{in_default-via-in-Some+in_default, in_default-via-in_default}
use Rattle.bundle_codec.proofs.views.view.OpView.agrees.Goals as goal

pub returns-in_default : goal.returns-in_default
returns-in_default c =
    c.eq.ensures
    ∙ (λ i. same_bytes (c.head.ensures.bytes i) (c.head-in_default.ensures.bytes i))
    ∙ same_heads c.args.self.now c.args.other.now c.head.ensures.valid c.head-in_default.ensures.valid
    c.head.ensures.short
    ∙ agree_bare c.args.self.now c.args.other.now
    (elim c.in_default.branch [
      | in_default-via-in-Some+in_default w ↦
          right_none c.args.self.now.text c.args.other.now.text (sym (ap lent w.in_default.is-1) ∙ c.text-2.ensures)
      | in_default-via-in_default w ↦ left_none c.args.self.now.text c.args.other.now.text
          (sym (ap lent w.in_default.is-0) ∙ c.text.ensures)
    ])
