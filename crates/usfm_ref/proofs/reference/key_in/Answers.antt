use Rattle.std.proofs.Common.{sym}
use Rattle.std.proofs.lemmas.Bool.{and_from, le-leb}
use Rattle.usfm_ref.proofs.Spellings.{place_in-some}
use Rattle.usfm_ref.proofs.reference.key_in.Goals as goal

pub invariant_of-result : goal.invariant_of-result
invariant_of-result c = and_from _ _ (le-leb c.in_ok-chapter.chapter 999 c.in_ok-chapter.ensures.within)
    (place_in-some _ _ (sym c.in_ok-place.ensures)).is_place
