use Rattle.std.proofs.Common.{◌≡◌, ◌++◌, List, map}
use Rattle.std.specs.List.{flat_map}
use Rattle.book_reading.specs.Blocks.{notes_of}
use Rattle.book_reading.specs.Views.{blocks_left, notes_left, chapter_view}
use Rattle.plain_reading.specs.Loops.{page_with}
use Rattle.plain_reading.specs.Paragraphs.{Paragraph, block_paragraphs, note_paragraph, chapter_paragraphs}
use Rattle.plain_reading.proofs.page.Page.push_chapter.Given as goal

-- the page so far, with the blocks that are left, and the notes
abbrev pub invariant-loop-block : goal.invariant-loop-block
invariant-loop-block l =
    (later : List Paragraph)
    → page_with l.self
    (flat_map block_paragraphs (blocks_left l.block-iterator) ++ (map note_paragraph (notes_of (chapter_view l.chapter)) ++ later))
    ≡ page_with l.fn.self (chapter_paragraphs (chapter_view l.chapter) ++ later)

-- the page so far, with the notes that are left
abbrev pub invariant-loop-note : goal.invariant-loop-note
invariant-loop-note l =
    (later : List Paragraph)
    → page_with l.self (map note_paragraph (notes_left l.note-iterator) ++ later)
    ≡ page_with l.fn.self (chapter_paragraphs (chapter_view l.chapter) ++ later)
