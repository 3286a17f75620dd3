use Rattle.std.proofs.Common.{sym, ◌∙◌}
use Rattle.usfm_ref.specs.Books.{same_bytes}
use Rattle.verse_cut.specs.Views.{pieces_view}
use Rattle.replica_state.proofs.Imports.{line_stays}
use Rattle.replica_state.proofs.KeyLists.{piece_verses}
use Rattle.replica_state.proofs.import.is_due.Goals as goal

pub returns-then-is_same-clause-due : goal.returns-then-is_same-clause-due
returns-then-is_same-clause-due c =
    line_stays c.args.cursor.now c.args.book (pieces_view c.args.pieces.now) c.args.key c.in-ChapterLine.chapter
    c.in-ChapterLine.ensures.picked c.has_verse.result
    (sym (c.is_same.ensures ∙ (λ i. same_bytes ((c.bytes.ensures.value ∙ c.chapter_line.ensures) i)
    (c.piece_at-piece.ensures i))) ∙ c.if-is_same.true)
    (c.has_verse.ensures ∙ sym (piece_verses c.args.key.chapter c.args.pieces.now))
