use Rattle.std.proofs.Common.{◌≡◌, ◌∙◌, ℕ, Option, sym, Some, ap, ◌≤◌, length, arith}
use Rattle.usfm_ref.specs.Numbers.{blanks_at, bridged}
use Rattle.usfm_ref.proofs.Readings.{verse_in-of, verse_reads, verse_in-no_blanks, verse_in-no_verse, verse_in-verse, within_text, within_bridge}
use Rattle.usfm_ref.proofs.Ranges.{mark_is_verse, mark_is_last, read_ends_between}
use Rattle.usfm_ref.proofs.number.verse_after.Goals as goal
use Rattle.usfm_ref.proofs.number.verse_after.Goals.{in-Some, in-None}

pub returns-in_err-bytes-clause-value : goal.returns-in_err-bytes-clause-value
returns-in_err-bytes-clause-value c =
    c.from_residual.ensures ∙ sym (verse_in-no_blanks _ (rw (← c.as_bytes.ensures.value) c.in_err-bytes.ensures))

pub returns-in_err-bytes-clause-only : goal.returns-in_err-bytes-clause-only
returns-in_err-bytes-clause-only c = λ mark h. returns-in_err-bytes-clause-value c ∙ verse_in-of _ mark h

pub returns-in_err-number-clause-value : goal.returns-in_err-number-clause-value
returns-in_err-number-clause-value c = c.from_residual-in_err-number.ensures
    ∙ sym (verse_in-no_verse _ _ (rw (← c.as_bytes.ensures.value) c.in_ok-bytes.ensures) c.in_err-number.ensures)

pub returns-in_err-number-clause-only : goal.returns-in_err-number-clause-only
returns-in_err-number-clause-only c = λ mark h. returns-in_err-number-clause-value c ∙ verse_in-of _ mark h

pub overflow_sub-result : goal.overflow_sub-result
overflow_sub-result c =
    let within : length c.in_ok-number.after.now ≤ length c.args.text.now = within_text _ _ _ _
    (rw (← c.as_bytes.ensures.value) c.in_ok-bytes.ensures) c.in_ok-number.ensures in
    elim c.match-bridge_at.branch [
      | in-Some w ↦ rw w.last-is
          (omega (arith, within_bridge _ _ _ w.in-Some.ensures))
      | in-None w ↦ rw w.last-is within
    ]

pub returns-clause-value : goal.returns-clause-value
returns-clause-value c =
    let verse : ℕ × Option ℕ = (c.in_ok-number.number, c.in_ok-number.letter) in
    let after = c.in_ok-number.after.now in
    let blanks : blanks_at c.args.text.now ≡ Some c.in_ok-bytes.bytes.now = rw (← c.as_bytes.ensures.value) c.in_ok-bytes.ensures in
    let read = verse_in-verse c.args.text.now c.in_ok-bytes.bytes.now verse after blanks c.in_ok-number.ensures in
    elim c.match-bridge_at.branch [
      | in-Some w ↦ rw w.last-is (sym (read ∙ ap (λ b. Some (bridged c.args.text.now verse after b)) w.in-Some.ensures))
      | in-None w ↦ rw w.last-is (sym (read ∙ ap (λ b. Some (bridged c.args.text.now verse after b)) w.in-None.ensures))
    ]

pub returns-clause-reads : goal.returns-clause-reads
returns-clause-reads c = verse_reads _ _ (returns-clause-value c)

pub returns-clause-only : goal.returns-clause-only
returns-clause-only c = λ mark h. returns-clause-value c ∙ verse_in-of _ mark h

pub returns-clause-in_range : goal.returns-clause-in_range
returns-clause-in_range c = mark_is_verse _ _ (returns-clause-reads c)

pub returns-clause-last_in_range : goal.returns-clause-last_in_range
returns-clause-last_in_range c = mark_is_last _ _ (returns-clause-reads c)

pub returns-clause-boundary : goal.returns-clause-boundary
returns-clause-boundary c = read_ends_between _ _ c.utf8.text (returns-clause-reads c)
