use Rattle.std.proofs.Common.{◌≡◌, ◌++◌, map}
use Rattle.std.specs.Vec.Iter.{into_iter_items}
use Rattle.sty_sheet.specs.Views.{records_of}
use Rattle.book_reports.specs.BookWords.{in_book}
use Rattle.book_reports.specs.declared.words.BookWord.{BookWord}
use Rattle.book_reports.proofs.words.push_words.Given as goal

-- the words so far, and those that are left
abbrev pub invariant-loop-word : goal.invariant-loop-word
invariant-loop-word l =
    l.words.items ++ map (λ w. (let one : BookWord = record { book = l.book; word = w } in one)) (into_iter_items l.word-iterator)
    ≡ l.initial.words.items ++ in_book (records_of l.sheet) l.book l.text
