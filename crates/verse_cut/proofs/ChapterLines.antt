-- The line of a chapter fits its head.
use Rattle.std.proofs.Common.{◌≡◌, ◌≢◌, ℕ, ◌≤◌, true, false, not, ◌==◌, List, [], ◌∷◌, ◌++◌, length, take, sym, refl, ap, ◌∙◌, subst, arith, rules, inr, option_map}
use Rattle.std.proofs.lemmas.Bool.{and_parts, and_from, and_left, ne_eqb}
use Rattle.std.proofs.lemmas.Bool.Decides.{nat_tests}
use Rattle.std.proofs.lemmas.Fmt.{digits_decimal}
use Rattle.std.proofs.lemmas.List.{append-nil, take_at}
use Rattle.std.proofs.lemmas.List.Folds.{list_all-append}
use Rattle.std.specs.Char.{is_ascii_digit}
use Rattle.std.specs.Fmt.{decimal}
use Rattle.std.specs.List.{list_all, before_first}
use Rattle.usfm_ref.specs.Keys.{chapter_head, book_head, same_key}
use Rattle.usfm_ref.specs.Numbers.{number_of}
use Rattle.usfm_ref.proofs.Runs.{prefix_len-run}
use Rattle.usfm_ref.proofs.Spellings.{chapter_in-decimal, numerals}
use Rattle.usfm_token.specs.Tokens.{mark, words, mark_after, is_backslash, tokens_of}
use Rattle.usfm_token.proofs.TokenLemmas.{tokens_of-nil, tokens_of-cons, tokens_of-text}
use Rattle.verse_cut.specs.Fits.{FitsBy}
use Rattle.verse_cut.specs.Reading.{leads}
use Rattle.verse_cut.specs.Joins.{chapter_line, ChapterLinesFit}
use Rattle.verse_cut.proofs.Quiet.{leads_from, lead_with}

digit_plain : (b : ℕ) → is_ascii_digit b ≡ true → not (is_backslash b) ≡ true
digit_plain b h = grind (arith, nat_tests)

digits_plain : (ds : List ℕ) → list_all is_ascii_digit ds ≡ true → list_all (λ b. not (is_backslash b)) ds ≡ true
digits_plain [] h = refl
digits_plain (d ∷ ds) h =
    let p = and_parts (is_ascii_digit d) (list_all is_ascii_digit ds) h in
    and_from (not (is_backslash d)) (list_all (λ b. not (is_backslash b)) ds) (digit_plain d p.0) (digits_plain ds p.1)

-- what has no backslash is one text
one_text : (b : ℕ) (bs : List ℕ) → list_all (λ x. not (is_backslash x)) (b ∷ bs) ≡ true → b ≢ 92 → tokens_of (b ∷ bs) ≡ words (b ∷ bs) ∷ []
one_text b bs plain first =
    let run = prefix_len-run (λ x. not (is_backslash x)) (b ∷ bs) [] plain refl in
    let whole : before_first is_backslash ((b ∷ bs) ++ []) ≡ b ∷ bs = ap (λ n. take n ((b ∷ bs) ++ [])) run
    ∙ take_at (b ∷ bs) [] (length (b ∷ bs)) refl in
    let is : b ∷ bs ≡ before_first is_backslash (b ∷ bs) = sym whole ∙ ap (before_first is_backslash) (append-nil (b ∷ bs)) in
    tokens_of-text (b ∷ bs) [] (b ∷ bs) (append-nil (b ∷ bs)) (omega arith) first is ∙ ap (λ ts. words (b ∷ bs) ∷ ts) tokens_of-nil

-- the text of a chapter line after its mark
abbrev number_text : ℕ → List ℕ
number_text n = 32 ∷ (decimal n ++ 10 ∷ [])

number_plain : (n : ℕ) → n ≤ 999 → list_all (λ x. not (is_backslash x)) (number_text n) ≡ true
number_plain n h =
    list_all-append (λ x. not (is_backslash x)) (decimal n) (10 ∷ [])
    ∙ and_from (list_all (λ x. not (is_backslash x)) (decimal n)) true
    (digits_plain (decimal n) (digits_decimal numerals n (omega arith))) refl

line_tokens : (n : ℕ) → n ≤ 999 → tokens_of (chapter_line n) ≡ mark (mark_after (99 ∷ number_text n)) ∷ words (number_text n) ∷ []
line_tokens n h =
    tokens_of-cons 92 (99 ∷ number_text n)
    ∙ ap (λ ts. mark (mark_after (99 ∷ number_text n)) ∷ ts)
    (one_text 32 (decimal n ++ 10 ∷ []) (number_plain n h) (λ e. absurd (omega arith)))

line_leads : (n : ℕ) → n ≤ 999 → leads (chapter_head n) (tokens_of (chapter_line n)) ≡ true
line_leads n h =
    ap (leads (chapter_head n)) (line_tokens n h)
    ∙ leads_from (chapter_head n) (mark (mark_after (99 ∷ number_text n))) (words (number_text n) ∷ [])
    (ap (option_map chapter_head) (chapter_in-decimal (32 ∷ []) n (10 ∷ []) refl h refl)) refl

not_nought : (n : ℕ) → 1 ≤ n → same_key (chapter_head n) book_head ≡ false
not_nought n h = and_left (n == 0) true (ne_eqb n 0 (λ e. omega arith))

-- the line of a chapter fits its head
pub chapter_lines_fit : ChapterLinesFit
chapter_lines_fit book n some small =
    subst (FitsBy book (chapter_head n) (chapter_line n)) (sym (not_nought n some))
    (inr (lead_with (chapter_head n) (chapter_line n) (line_leads n small)))
