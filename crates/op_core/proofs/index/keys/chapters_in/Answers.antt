use Rattle.std.proofs.Common.{not, List, take, drop, ap, ◌∙◌}
use Rattle.std.specs.List.{position_or_len, prefix_len}
use Rattle.std.specs.Ordering.{is_lt}
use Rattle.usfm_ref.specs.Books.{same_bytes}
use Rattle.usfm_ref.specs.Keys.{KeyParts}
use Rattle.usfm_ref.specs.Segments.{segment, segment_cmp}
use Rattle.op_core.specs.Loops.Index.{home_of, chapter_of, chapter_keys}
use Rattle.op_core.specs.declared.index.chapter.Chapter.{Chapter}
use Rattle.op_core.proofs.Indexed.BookChapters.{book_chapters}
use Rattle.op_core.proofs.index.keys.chapters_in.Goals as goal

pub returns : goal.returns
returns c =
    let book = c.args.book in
    let chapters = c.args.chapters.now in
    let keys : List Chapter → List KeyParts = λ ls. chapter_keys book (take (prefix_len (λ d. same_bytes d.book book) ls) ls) in
    ap (chapter_keys book) c.split_at-2.ensures.front
    ∙ ap (λ n. chapter_keys book (take n c.split_at.result.1.now)) c.count_in.ensures.count
    ∙ ap keys
    (c.split_at.ensures.back
    ∙ ap (λ n. drop n chapters)
    (c.place_chapter-from.ensures.place
    ∙ ap (λ k. position_or_len (λ d. not (is_lt (segment_cmp (home_of d) (chapter_of (segment book k))))) chapters)
    c.chapter_head.ensures))
    ∙ book_chapters book chapters c.requires
