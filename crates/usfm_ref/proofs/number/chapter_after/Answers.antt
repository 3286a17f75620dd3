use Rattle.std.proofs.Common.{◌∙◌, sym}
use Rattle.usfm_ref.proofs.Readings.{chapter_in-of, chapter_reads, chapter_in-no_blanks, chapter_in-no_number, chapter_in-number}
use Rattle.usfm_ref.proofs.Ranges.{chapter_small}
use Rattle.usfm_ref.proofs.number.chapter_after.Goals as goal

pub returns-in_err-bytes-clause-value : goal.returns-in_err-bytes-clause-value
returns-in_err-bytes-clause-value c =
    c.from_residual.ensures ∙ sym (chapter_in-no_blanks _ (rw (← c.as_bytes.ensures.value) c.in_err-bytes.ensures))

pub returns-in_err-bytes-clause-only : goal.returns-in_err-bytes-clause-only
returns-in_err-bytes-clause-only c = λ number h. returns-in_err-bytes-clause-value c ∙ chapter_in-of _ number h

pub returns-in_err-number-clause-value : goal.returns-in_err-number-clause-value
returns-in_err-number-clause-value c = c.from_residual-in_err-number.ensures
    ∙ sym (chapter_in-no_number _ _ (rw (← c.as_bytes.ensures.value) c.in_ok-bytes.ensures) c.in_err-number.ensures)

pub returns-in_err-number-clause-only : goal.returns-in_err-number-clause-only
returns-in_err-number-clause-only c = λ number h. returns-in_err-number-clause-value c ∙ chapter_in-of _ number h

pub returns-clause-value : goal.returns-clause-value
returns-clause-value c = c.then_some.ensures
    ∙ (rw c.ends_number.ensures
    (sym (chapter_in-number _ _ _ _ (rw (← c.as_bytes.ensures.value) c.in_ok-bytes.ensures) c.in_ok-number.ensures)))

pub returns-clause-reads : goal.returns-clause-reads
returns-clause-reads c = chapter_reads _ _ (returns-clause-value c)

pub returns-clause-only : goal.returns-clause-only
returns-clause-only c = λ number h. returns-clause-value c ∙ chapter_in-of _ number h

pub returns-clause-in_range : goal.returns-clause-in_range
returns-clause-in_range c = chapter_small _ _ (returns-clause-value c)
