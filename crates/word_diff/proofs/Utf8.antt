-- Words of a text that is UTF-8.
use Rattle.std.proofs.Common.{◌≡◌, ℕ, ◌<◌, ◌≤◌, Bool, true, false, List, [], ◌∷◌, ◌++◌, length, take, drop, get_or, sym, refl, ap, ◌∙◌, subst, ⊎_elim, arith, IsUtf8, cond, ◌==◌, length-append}
use Rattle.std.proofs.lemmas.Bool.Decides.{nat_tests}
use Rattle.std.proofs.lemmas.List.{take_at, get_or_past}
use Rattle.std.proofs.lemmas.List.Folds.{length-prefix_len}
use Rattle.std.proofs.lemmas.Str.{IsCharBoundary-from_take, IsUtf8-from_ascii, IsUtf8-drop, IsAscii-append}
use Rattle.std.proofs.lemmas.Str.Ascii.{IsAscii-nil}
use Rattle.std.proofs.str.Laws.{order}
use Rattle.std.specs.List.{prefix_len, take_while}
use Rattle.std.specs.Str.{IsCharBoundary, IsAscii}
use Rattle.usfm_ref.specs.Numbers.{is_blank}
use Rattle.usfm_token.specs.Tokens.{AreNameBytes, after_plus, is_name_byte, optional_byte, mark_after, mark_bytes, IsMark}
use Rattle.usfm_token.proofs.TokenLemmas.{front_named}
use Rattle.word_diff.specs.Words.{is_plain, first_word, words_of, joined}
use Rattle.word_diff.proofs.WordLemmas.{boundary_after_blanks, boundary_after_plain, words_of-nil, words_of-cons}
use Rattle.word_diff.proofs.WordLaws.{word_front, joined-words_of}

name_ascii : (b : ℕ) → is_name_byte b ≡ true → b < 128
name_ascii b h = grind (arith, nat_tests)

names_ascii : (name : List ℕ) → AreNameBytes name → IsAscii name
names_ascii name are i = ⊎_elim
    (λ within. name_ascii (get_or name i 0) (are i within))
    (λ past. let none = get_or_past name i 0 past in omega arith)
    (order i (length name))

one_ascii : (b : ℕ) → b < 128 → IsAscii (b ∷ [])
one_ascii b lt i = ⊎_elim
    (λ (within : i < 1). let first : i ≡ 0 = omega arith in rw first lt)
    (λ past. let none = get_or_past (b ∷ []) i 0 past in omega arith)
    (order i 1)

optional_ascii : (present : Bool) (b : ℕ) → b < 128 → IsAscii (optional_byte present b)
optional_ascii true b lt = one_ascii b lt
optional_ascii false b lt = IsAscii-nil

-- a mark is ASCII
mark_ascii : (nested closing : Bool) (name : List ℕ) → AreNameBytes name
    → IsAscii (92 ∷ (optional_byte nested 43 ++ (name ++ optional_byte closing 42)))
mark_ascii nested closing name are =
    IsAscii-append (92 ∷ []) (optional_byte nested 43 ++ (name ++ optional_byte closing 42)) (one_ascii 92 (omega arith))
    (IsAscii-append (optional_byte nested 43) (name ++ optional_byte closing 42) (optional_ascii nested 43 (omega arith))
    (IsAscii-append name (optional_byte closing 42) (names_ascii name are) (optional_ascii closing 42 (omega arith))))

mark_boundary : (b : ℕ) (bs : List ℕ) → (b == 92) ≡ true → IsUtf8 (b ∷ bs)
    → b ∷ bs ≡ mark_bytes (mark_after bs) ++ drop (length (mark_bytes (mark_after bs))) (b ∷ bs)
    → IsCharBoundary (b ∷ bs) (length (mark_bytes (mark_after bs)))
mark_boundary b bs h utf8 front =
    let w = mark_bytes (mark_after bs) in
    let is : IsMark (mark_after bs) = front_named (after_plus bs) in
    let within : length w ≤ length (b ∷ bs) = omega (arith, ap length front, length-append w (drop (length w) (b ∷ bs))) in
    let taken : take (length w) (b ∷ bs) ≡ w = ap (take (length w)) front ∙ take_at w (drop (length w) (b ∷ bs)) (length w) refl in
    IsCharBoundary-from_take (b ∷ bs) (length w) utf8 within
    (subst IsUtf8 (sym taken) (IsUtf8-from_ascii w (mark_ascii (mark_after bs).nested (mark_after bs).closing (mark_after bs).name is)))

run_boundary : (p : ℕ → Bool) (s : List ℕ) → IsCharBoundary s (prefix_len p s) → IsCharBoundary s (length (take_while p s))
run_boundary p s h = subst (IsCharBoundary s) (sym (length-prefix_len p s)) h

boundary_by : (b : ℕ) (bs : List ℕ) (e f : Bool) → (b == 92) ≡ e → IsUtf8 (b ∷ bs)
    → let w = cond e (mark_bytes (mark_after bs)) (cond f (take_while is_blank (b ∷ bs)) (take_while is_plain (b ∷ bs))) in
    b ∷ bs ≡ w ++ drop (length w) (b ∷ bs) → IsCharBoundary (b ∷ bs) (length w)
boundary_by b bs true f h utf8 front = mark_boundary b bs h utf8 front
boundary_by b bs false true h utf8 front = run_boundary is_blank (b ∷ bs) (boundary_after_blanks (b ∷ bs) utf8)
boundary_by b bs false false h utf8 front = run_boundary is_plain (b ∷ bs) (boundary_after_plain (b ∷ bs))

-- a text may be cut after its first word
first_boundary : (b : ℕ) (bs : List ℕ) → IsUtf8 (b ∷ bs) → IsCharBoundary (b ∷ bs) (length (first_word b bs))
first_boundary b bs utf8 = boundary_by b bs (b == 92) (is_blank b) refl utf8 (word_front b bs)

-- what follows some words of a text is a text
pub utf8_rest : (us vs : List (List ℕ)) (s : List ℕ) → IsUtf8 s → words_of s ≡ us ++ vs → IsUtf8 (joined vs)
utf8_rest [] vs s utf8 is = subst IsUtf8 (sym (joined-words_of s) ∙ ap joined is) utf8
utf8_rest (u ∷ us) vs [] utf8 is = absurd (let none = words_of-nil in cc)
utf8_rest (u ∷ us) vs (b ∷ bs) utf8 is =
    let k = length (first_word b bs) in
    let step = words_of-cons b bs in
    let rest : words_of (drop k (b ∷ bs)) ≡ us ++ vs = cc in
    utf8_rest us vs (drop k (b ∷ bs)) (IsUtf8-drop (b ∷ bs) k utf8 (first_boundary b bs utf8)) rest
