use Rattle.std.proofs.Common.{◌++◌, ◌∷◌, [], ℕ, List, take, sym, ap, ◌∙◌}
use Rattle.std.specs.List.{flat_map}
use Rattle.std.proofs.lemmas.List.{flat_map_more, take_more}
use Rattle.versification.specs.Views.{verses_in}
use Rattle.usfm_cli.specs.Missing.{text_lines, text_of}
use Rattle.usfm_cli.proofs.missing.Look.lines.Goals as goal

pub loop-book-preserved : goal.loop-book-preserved
loop-book-preserved c =
    let self = c.args.self.now in
    let held = c.args.replica.now.held in
    let f = λ (book : List ℕ). text_lines (verses_in self.versification.now) self.parts.now self.all book (text_of held book) in
    let books = c.deref-book-items.result.now in
    let n = c.loop-book.book-index in
    let book = c.book-item.result in
    c.in_ok-push_book.ensures
    ∙ ap (λ (xs : List ℕ). xs ++ f book) c.loop-book.invariant
    ∙ flat_map_more f [] (take n books) book
    ∙ ap (flat_map f) (ap (λ (b : List ℕ). take n books ++ b ∷ []) c.book-item.is ∙ sym (take_more books n book c.loop-book-test.true))
