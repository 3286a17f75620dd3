use Rattle.std.proofs.Common.{chars, sym, refl, ap, ◌∙◌, encode_utf8_all}
use Rattle.std.proofs.lemmas.Str.{encodes-chars}
use Rattle.unicode_normalization.proofs.IterLemmas.{Spells-chars}
use Rattle.concordance.proofs.form.Form.of.Goals as goal

pub returns-in-Yes : goal.returns-in-Yes
returns-in-Yes c =
    sym (ap encode_utf8_all (c.in-Yes.ensures.yes (chars c.args.run.now)
    (Spells-chars c.chars.result _ c.utf8.run c.chars.ensures.rest) refl)
    ∙ encodes-chars c.args.run.now c.utf8.run)
