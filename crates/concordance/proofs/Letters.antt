-- ASCII's word characters are its letters.
use mathlib.Core.Bool.{beq}
use Rattle.std.proofs.Common.{◌≡◌, ℕ, ◌<◌, ◌||◌, refl}
use Rattle.std.specs.Char.{is_ascii_alphabetic}
use Rattle.ucd_table.proofs.Facts.{Stepped-below, same_from_beq}
use Rattle.ucd_table.proofs.Stepped.{zip_stepped}
use Rattle.ucd_category.specs.GeneralCategory.{general_category}
use Rattle.ucd_category.proofs.Computing.{ucd_category}
use Rattle.ucd_category.proofs.GeneralCategoryLemmas.{general_category_stepped}
use Rattle.ucd_derived.specs.Binary.{is_alphabetic}
use Rattle.ucd_derived.proofs.BinaryLemmas.{is_alphabetic_stepped}
use Rattle.ucd_derived.proofs.Computing.{ucd_derived}
use Rattle.concordance.specs.Words.{is_combining, is_word_char}

-- of ASCII the word characters are the letters
pub ascii_word_char : (c : ℕ) → c < 128 → is_ascii_alphabetic c ≡ is_word_char c
unfolding ucd_category ucd_derived
ascii_word_char c below =
    let steps = zip_stepped (λ a g. a || is_combining g) is_alphabetic general_category is_alphabetic_stepped general_category_stepped in
    same_from_beq _ _ (Stepped-below is_word_char steps (λ x v. beq (is_ascii_alphabetic x) v) 128 refl c below)
