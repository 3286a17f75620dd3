use Rattle.std.proofs.Common.{◌∙◌, ap, List, ℕ, Bor}
use Rattle.std.specs.BTreeMap.{get}
use Rattle.std.specs.Option.{option_map}
use Rattle.usfm_ref.specs.Segments.{segment}
use Rattle.book_folder.proofs.TextsUnder.{cmp_is}
use Rattle.book_folder.proofs.stood_texts.stood_text.Goals as goal

pub returns : goal.returns
returns c =
    ap (option_map {T = Bor (List ℕ)} {U = List ℕ} (λ t. t.now))
    (c.copied.ensures ∙ c.get.ensures.value
    ∙ (λ i. get (cmp_is i) c.args.texts.now (segment (c.book.ensures i) (c.key.ensures i))))
