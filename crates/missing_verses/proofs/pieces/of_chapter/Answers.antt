use Rattle.std.proofs.Common.{◌∙◌, ◌==◌, List, ap, take}
use Rattle.std.specs.Prelude.{not}
use Rattle.std.specs.List.{prefix_len, position_or_len}
use Rattle.std.specs.Ordering.{is_lt}
use Rattle.usfm_ref.specs.Keys.{KeyParts, key_cmp}
use Rattle.verse_cut.specs.Views.{pieces_view}
use Rattle.verse_cut.specs.declared.cutter.Piece.{Piece}
use Rattle.missing_verses.proofs.Chapters.{chapter_between}
use Rattle.missing_verses.proofs.pieces.of_chapter.Goals as goal

pub returns : goal.returns
returns c =
    let xs = c.args.pieces.now in
    let n = c.before-2.result in
    let m = c.within.result in
    let back = c.split_at.ensures.back in
    ap pieces_view (c.split_at-2.ensures.front ∙ ap (λ (ys : List Piece). take m ys) back)
    ∙ chapter_between c.args.chapter xs c.requires.rising n m
    (c.before-2.ensures.value
    ∙ ap (λ (k : KeyParts). position_or_len (λ (x : Piece). not (is_lt (key_cmp x.key k))) xs) c.chapter_head.ensures)
    (c.within.ensures.value ∙ ap (λ (ys : List Piece). prefix_len (λ (x : Piece). x.key.chapter == c.args.chapter) ys) back)
