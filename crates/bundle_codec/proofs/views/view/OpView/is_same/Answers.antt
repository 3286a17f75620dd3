use Rattle.std.proofs.Common.{length, ap, ◌∙◌, arith}
use Rattle.usfm_ref.specs.Books.{same_bytes}
use Rattle.op_core.specs.Ops.{same_op}
use Rattle.bundle_codec.specs.Views.{op_view}
use Rattle.bundle_codec.proofs.OneSpelling.{same_spellings}
use Rattle.bundle_codec.proofs.views.view.OpView.is_same.Goals as goal

pub returns : goal.returns
returns c =
    let x = c.self.invariant in
    let y = c.other.invariant in
    c.eq.ensures
    ∙ (λ i. same_bytes (x.bytes_are i) (y.bytes_are i))
    ∙ same_spellings (op_view c.self.inside.fields) (op_view c.other.inside.fields) x.fits y.fits
    (omega (arith, ap length x.bytes_are, c.self.told.0))
    ∙ (λ i. same_op (c.self.view_is i) (c.other.view_is i))
