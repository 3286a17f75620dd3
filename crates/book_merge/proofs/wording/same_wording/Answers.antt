use Rattle.std.proofs.Common.{◌∙◌}
use Rattle.usfm_ref.specs.Books.{same_bytes}
use Rattle.book_merge.proofs.WordingSteps.{same_backwards}
use Rattle.book_merge.proofs.wording.same_wording.Goals as goal

pub returns : goal.returns
returns c =
    c.are_same.ensures
    ∙ (λ i. same_bytes (c.as_slice.ensures.value i) (c.as_slice-2.ensures.value i))
    ∙ same_backwards c.in_ok-one.one.items c.in_ok-other.other.items
    ∙ (λ i. same_bytes (c.in_ok-one.ensures i) (c.in_ok-other.ensures i))
