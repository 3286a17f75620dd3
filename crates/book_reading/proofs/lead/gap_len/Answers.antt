use Rattle.std.proofs.Common.{◌∙◌, ap, sym, subst, ⊎_elim}
use Rattle.std.proofs.lemmas.Str.{IsCharBoundary-start}
use Rattle.std.specs.Prelude.{◌+◌}
use Rattle.std.specs.Str.{IsCharBoundary}
use Rattle.sty_sheet.proofs.WordLemmas.{boundary_after_blanks}
use Rattle.book_reading.specs.Leads.{blank_length, sign_length, after_blanks, gap_length}
use Rattle.book_reading.proofs.LeadLemmas.{boundary_after_gap}
use Rattle.book_reading.specs.declared.lead.Lead.{Lead}
use Rattle.book_reading.proofs.lead.gap_len.Goals as goal

pub returns-in-Nothing-clause-boundary : goal.returns-in-Nothing-clause-boundary
returns-in-Nothing-clause-boundary c = IsCharBoundary-start c.args.text.now c.utf8.text

pub returns-in-Blanks : goal.returns-in-Blanks
returns-in-Blanks c =
    let text = c.args.text.now in
    let gap = λ (lead : Lead). gap_length lead text in
    let is = c.blanks_len.ensures.value ∙ ap blank_length c.as_bytes.ensures.value in
    record {
      value =
          is ∙ ⊎_elim (λ h. ap gap (sym h)) (λ others. ⊎_elim (λ h. ap gap (sym h)) (λ h. ap gap (sym h)) others)
          c.in-Blanks.is;
      boundary = subst (IsCharBoundary text) (sym is) (boundary_after_blanks text c.utf8.text);
    }

pub returns-in-Sign : goal.returns-in-Sign
returns-in-Sign c =
    let text = c.args.text.now in
    let is =
    c.signed_len.ensures ∙ ap (λ bs. blank_length bs + sign_length (after_blanks bs)) c.as_bytes-in-Sign.ensures.value in
    record {
      value = is ∙ ap (λ lead. gap_length lead text) (sym c.in-Sign.is);
      boundary = subst (IsCharBoundary text) (sym is) (boundary_after_gap text c.utf8.text);
    }
