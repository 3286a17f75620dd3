use Rattle.std.proofs.Common.{◌∙◌, ◌++◌, List, ℕ, sym, ap}
use Rattle.verse_cut.specs.Pieces.{PieceParts}
use Rattle.verse_cut.specs.Views.{pieces_view}
use Rattle.versification.specs.Views.{verses_in}
use Rattle.missing_verses.specs.Numbers.{of_chapter}
use Rattle.missing_verses.specs.Lines.{chapter_lines, lines_of}
use Rattle.missing_verses.proofs.Below.{below_none, below_more}
use Rattle.missing_verses.proofs.missing.missing_in_book.Goals as goal

pub loop-chapter-init : goal.loop-chapter-init
loop-chapter-init c =
    c.new-bytes.ensures.items
    ∙ sym (below_none (chapter_lines (verses_in c.args.versification.now) c.args.book c.args.text.now))

pub loop-chapter-preserved : goal.loop-chapter-preserved
loop-chapter-preserved c =
    let v = verses_in c.args.versification.now in
    let n = c.loop-chapter.chapter in
    let old = c.loop-chapter.bytes.items in
    c.in_ok-push_lines.ensures
    ∙ ap (λ (ps : List PieceParts). old ++ lines_of v c.args.book n (of_chapter n ps))
    (ap pieces_view c.deref.ensures.value ∙ c.in_ok-pieces.ensures.value)
    ∙ ap (λ (xs : List ℕ). xs ++ chapter_lines v c.args.book c.args.text.now n) c.loop-chapter.invariant
    ∙ sym (below_more (chapter_lines v c.args.book c.args.text.now) n)
