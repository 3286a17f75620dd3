use Rattle.std.proofs.Common.{◌∙◌, ap, sym, subst}
use Rattle.std.specs.Str.{IsCharBoundary}
use Rattle.sty_sheet.proofs.WordLemmas.{boundary_after_blanks}
use Rattle.book_reading.specs.Leads.{blank_length}
use Rattle.book_reading.proofs.lead.split_blanks.Goals as goal

pub split_at-requires : goal.split_at-requires
split_at-requires c =
    subst (IsCharBoundary c.args.text.now) (sym (c.blanks_len.ensures.value ∙ ap blank_length c.as_bytes.ensures.value))
    (boundary_after_blanks c.args.text.now c.utf8.text)
