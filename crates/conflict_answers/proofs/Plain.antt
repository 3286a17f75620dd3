-- The bytes of numbers, names, ids, books and keys: above the comma, and ASCII.
use Rattle.std.proofs.Common.{◌≡◌, ◌<◌, ◌≤◌, ◌^◌, ℕ, nat_lt, nat_le, ◌==◌, Bool, true, not, ◌&&◌, IsTrue, List, [], ◌∷◌, ◌++◌, Option, Some, None, refl, arith, ◌∙◌}
use Rattle.std.specs.Char.{is_ascii_digit}
use Rattle.std.specs.Fmt.{decimal}
use Rattle.std.specs.List.{list_all}
use Rattle.std.specs.Option.{option_to_list}
use Rattle.std.specs.Str.{IsAscii, IsUtf8}
use Rattle.std.proofs.lemmas.Bool.{and_parts, and_from}
use Rattle.std.proofs.lemmas.Bool.Decides.{nat_tests}
use Rattle.std.proofs.lemmas.Fmt.{digits_decimal}
use Rattle.std.proofs.lemmas.List.Folds.{list_all-append}
use Rattle.std.proofs.lemmas.Str.{IsUtf8-from_ascii}
use Rattle.std.proofs.lemmas.Str.Ascii.{IsAscii-nil, IsAscii-cons}
use Rattle.usfm_ref.specs.Books.{is_book_code, is_code_char}
use Rattle.usfm_ref.specs.Keys.{KeyParts, is_key, is_place, is_letter}
use Rattle.usfm_ref.specs.References.{key_text, place_text}
use Rattle.usfm_ref.specs.declared.key.Place.{Place}
use Rattle.usfm_ref.specs.declared.key.Place.TheVariants.{Head, Verse}
use Rattle.usfm_ref.proofs.Spellings.{numerals}
use Rattle.op_core.specs.Ids.{Id, id_text, is_id, is_number}
use Rattle.op_core.specs.Names.{is_name, is_name_char}
use Rattle.conflict_answers.specs.Loops.Cuts.{Lacks}

abbrev pub is_plain : ℕ → Bool
is_plain b = nat_lt 44 b && nat_lt b 128

abbrev pub ArePlain : List ℕ → Type 0
ArePlain bs = list_all is_plain bs ≡ true

pub all_weaker : (p q : ℕ → Bool) (bs : List ℕ) → ((b : ℕ) → p b ≡ true → q b ≡ true) → list_all p bs ≡ true → list_all q bs ≡ true
all_weaker p q [] w h = refl
all_weaker p q (b ∷ bs) w h =
    let both = and_parts (p b) (list_all p bs) h in and_from (q b) (list_all q bs) (w b both.0) (all_weaker p q bs w both.1)

pub plain_append : (xs ys : List ℕ) → ArePlain xs → ArePlain ys → ArePlain (xs ++ ys)
plain_append xs ys hx hy = list_all-append is_plain xs ys ∙ and_from (list_all is_plain xs) (list_all is_plain ys) hx hy

-- what is plain lacks spaces, line feeds and the like
pub plain_lacks : (c : ℕ) (bs : List ℕ) → c ≤ 44 → ArePlain bs → Lacks c bs
plain_lacks c bs small h = all_weaker is_plain (λ b. not (b == c)) bs (λ b e. grind (arith, nat_tests)) h

plain_ascii : (bs : List ℕ) → ArePlain bs → IsAscii bs
plain_ascii [] h = IsAscii-nil
plain_ascii (b ∷ bs) h =
    let both = and_parts (is_plain b) (list_all is_plain bs) h in
    let below : b < 128 = grind (arith, nat_tests) in
    IsAscii-cons b bs below (plain_ascii bs both.1)

-- and it is text
pub plain_utf8 : (bs : List ℕ) → ArePlain bs → IsUtf8 bs
plain_utf8 bs h = IsUtf8-from_ascii bs (plain_ascii bs h)

pub decimal_plain : (n : ℕ) → n < 2 ^ 64 → ArePlain (decimal n)
decimal_plain n h = all_weaker is_ascii_digit is_plain (decimal n) (λ b e. grind (arith, nat_tests)) (digits_decimal numerals n h)

name_plain : (name : List ℕ) → list_all is_name_char name ≡ true → ArePlain name
name_plain name h = all_weaker is_name_char is_plain name (λ b e. grind (arith, nat_tests)) h

-- an id's number can be counted
pub number_short : (id : Id) → IsTrue (is_id id) → id.number < 2 ^ 64
number_short id valid = let parts = and_parts (is_number id.number) (is_name id.name) valid in grind (arith, nat_tests)

pub id_plain : (id : Id) → IsTrue (is_id id) → ArePlain (id_text id)
id_plain id valid =
    let parts = and_parts (is_number id.number) (is_name id.name) valid in
    let chars = (and_parts _ (list_all is_name_char id.name) parts.1).1 in
    plain_append (decimal id.number) (58 ∷ id.name) (decimal_plain id.number (number_short id valid)) (name_plain id.name chars)

pub book_plain : (book : List ℕ) → IsTrue (is_book_code book) → ArePlain book
book_plain [] h = cc
book_plain (a ∷ []) h = cc
book_plain (a ∷ b ∷ []) h = cc
book_plain (a ∷ b ∷ c ∷ []) h =
    let two = and_parts (is_code_char a && is_code_char b) (is_code_char c) h in
    let one = and_parts (is_code_char a) (is_code_char b) two.0 in
    and_from (is_plain a) (is_plain b && (is_plain c && true)) (grind (arith, nat_tests))
    (and_from (is_plain b) (is_plain c && true) (grind (arith, nat_tests))
    (and_from (is_plain c) true (grind (arith, nat_tests)) refl))
book_plain (a ∷ b ∷ c ∷ d ∷ rest) h = cc

letter_plain : (l : Option ℕ) → is_letter l ≡ true → ArePlain (option_to_list l)
letter_plain None h = refl
letter_plain (Some c) h = and_from (is_plain c) true (grind (arith, nat_tests)) refl

place_plain : (p : Place) → is_place p ≡ true → ArePlain (place_text p)
place_plain Head h = refl
place_plain (Verse n l) h =
    let both = and_parts (nat_le n 999) (is_letter l) h in
    let small : n ≤ 999 = grind (arith, nat_tests) in
    plain_append (decimal n) (option_to_list l) (decimal_plain n (omega arith)) (letter_plain l both.1)

pub key_plain : (key : KeyParts) → IsTrue (is_key key.chapter key.place) → ArePlain (key_text key)
key_plain key h =
    let both = and_parts (nat_le key.chapter 999) (is_place key.place) h in
    let small : key.chapter ≤ 999 = grind (arith, nat_tests) in
    plain_append (decimal key.chapter) (place_text key.place) (decimal_plain key.chapter (omega arith)) (place_plain key.place both.1)
