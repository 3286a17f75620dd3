-- The words of several books (this project's own rule): each word of each book, by the forms, and
-- those of one form in the order in which they come.
use Rattle.std.specs.Prelude.{ℕ, List, [], ◌∷◌, ◌++◌, map, filter}
use Rattle.std.specs.List.{flat_map}
use Rattle.std.specs.Str.{bytes_eq}
use Rattle.sty_sheet.specs.Records.{Record}
use Rattle.usfm_ref.specs.References.{key_text}
use Rattle.usfm_ref.specs.Rising.{rising}
use Rattle.concordance.specs.Words.{form_cmp, words_of}
use Rattle.book_reports.specs.declared.words.BookWord.{BookWord}

-- the words of the text of a book
abbrev pub in_book : List Record → List ℕ → List ℕ → List BookWord
in_book sheet book text = map (λ w. record { book = book; word = w }) (words_of sheet text)

-- words in the order of their forms, those of one form in the order in which they come
abbrev pub by_form : List BookWord → List BookWord
by_form words =
    flat_map (λ form. filter (λ w. bytes_eq form w.word.form) words)
    (rising form_cmp (map (λ w. w.word.form) words))

-- a word: its form, its book and each of its keys after a space, as a line
abbrev pub word_line : BookWord → List ℕ
word_line w =
    w.word.form ++ 32 ∷ w.book ++ flat_map (λ k. 32 ∷ key_text k) w.word.keys ++ 10 ∷ []

-- a line for each word
abbrev pub word_lines : List BookWord → List ℕ
word_lines words = flat_map word_line words
