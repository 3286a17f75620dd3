-- Whether a reference stands in words as two of them, word after word.
use Rattle.std.proofs.Common.{◌≡◌, ℕ, ◌+◌, ◌<◌, Bool, true, false, ◌&&◌, ◌||◌, List, [], ◌∷◌, drop, length, map, get_or, drop-cons, add-one}
use Rattle.std.proofs.Common.{sym, ap, ◌∙◌}
use Rattle.usfm_ref.specs.Books.{is_book_code}
use Rattle.command_line.specs.Words.{is_key, begin_with_key, has_split_reference}

-- whether one stands in words, or a key comes first where a book's code was before them
abbrev pub split_in : Bool → List (List ℕ) → Bool
split_in after words = (after && begin_with_key words) || has_split_reference words

module _ {X : Type 0} (text : X → List ℕ) (words : List X) where
  -- a reference stands in the words where one does from this word on
  abbrev pub SplitFrom : ℕ → Bool → Type 0
  SplitFrom n after = has_split_reference (map text words) ≡ split_in after (map text (drop n words))

  -- none stands in no words
  pub none_left : (n : ℕ) (after : Bool) → SplitFrom n after → drop n words ≡ [] → has_split_reference (map text words) ≡ false
  none_left n true from none = from ∙ ap (λ (left : List X). split_in true (map text left)) none
  none_left n false from none = from ∙ ap (λ (left : List X). split_in false (map text left)) none

  module _ (n : ℕ) (after : Bool) (from : SplitFrom n after) (word : X) (within : n < length words) (is : word ≡ get_or words n word) where
    from_word : has_split_reference (map text words)
        ≡ ((after && is_key (text word)) || has_split_reference (text word ∷ map text (drop (n + 1) words)))
    from_word =
        from ∙ ap (λ (left : List X). split_in after (map text left))
        (drop-cons words n word within ∙ (λ j. sym is j ∷ drop (sym (add-one n) j) words))

    -- this word is the key
    pub key_found : after && is_key (text word) ≡ true → has_split_reference (map text words) ≡ true
    key_found found = from_word ∙ (λ i. found i || has_split_reference (text word ∷ map text (drop (n + 1) words)))

    -- it is not, and may be the book of the next one
    pub word_passed : after && is_key (text word) ≡ false → SplitFrom (n + 1) (is_book_code (text word))
    word_passed passed = from_word ∙ (λ i. passed i || has_split_reference (text word ∷ map text (drop (n + 1) words)))
