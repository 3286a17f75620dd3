use Rattle.std.proofs.Common.{◌≡◌, ℕ, List, Option, Bor, true, subst}
use Rattle.std.proofs.lemmas.Str.{IsUtf8-from_is_utf8}
use Rattle.bundle_codec.specs.Reading.{may_be_utf8}
use Rattle.bundle_codec.specs.Views.{lent}
use Rattle.bundle_codec.proofs.views.walk.text_in.Goals as goal

pub from_utf8_unchecked-requires : goal.from_utf8_unchecked-requires
from_utf8_unchecked-requires c = IsUtf8-from_is_utf8 c.in-Some.bytes.now
    (subst (λ (b : Option (Bor (List ℕ))). may_be_utf8 (lent b) ≡ true) c.in-Some.is c.requires)
