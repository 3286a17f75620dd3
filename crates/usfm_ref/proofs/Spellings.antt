-- References and keys are read as they are written, and no other text is.
use Rattle.std.proofs.Common.{◌≡◌, ◌<◌, ◌≤◌, ◌^◌, ℕ, zero, suc, ◌==◌, nat_le, Bool, true, false, ◌&&◌, cond, List, [], ◌∷◌, ◌++◌, length, take, drop, get_or, codes, Option, Some, None, Result, Ok, Err, refl, ap, sym, ◌∙◌, arith, rules, take-append-drop}
use Rattle.std.proofs.lemmas.Bool.{and_parts, and_from, and_left, and_right, not-true, leb-true, le-leb, eqb-true, eq-eqb, ne_eqb}
use Rattle.std.proofs.lemmas.Bool.Decides.{nat_tests}
use Rattle.std.proofs.lemmas.Fmt.{decimal_nonempty, length-decimal-le, first_decimal, decimal_digit, digits_decimal, digits_value-decimal, decimal-digits_value}
use Rattle.std.proofs.lemmas.Option.{option_and_then_some, same_Some}
use Rattle.std.proofs.lemmas.Str.Parse.{IsNumeralModel, numerals_by_fold, digits_value_short}
use Rattle.std.specs.Fmt.{decimal}
use Rattle.std.specs.List.{list_all}
use Rattle.std.specs.Option.{option_and_then, option_to_list}
use Rattle.std.specs.Result.{IfOk}
use Rattle.std.specs.Char.{is_ascii_digit, is_ascii_lowercase}
use Rattle.usfm_ref.specs.Books.{is_book_code}
use Rattle.usfm_ref.specs.Keys.{KeyParts, is_key, is_letter, is_place}
use Rattle.usfm_ref.specs.Numbers.{are_blanks, are_digits, number_after, number_of, ends_number, StartsWithNumber, number_at, chapter_in}
use Rattle.usfm_ref.specs.References.{place_text, key_text, ref_text, is_zero_led, plain_at, verse_to_end, place_in, key_at, key_in, key_or_bad, key_of, key_after, ref_to, ref_in, IsRefTo, KeysAreRead, ReadsWhatIsWritten, WritesWhatIsRead}
use Rattle.usfm_ref.specs.declared.fault.RefFault.{RefFault}
use Rattle.usfm_ref.specs.declared.fault.RefFault.TheVariants.{BadBook}
use Rattle.usfm_ref.specs.declared.key.Place.{Place}
use Rattle.usfm_ref.specs.declared.key.Place.TheVariants.{Head, Verse}
use Rattle.usfm_ref.proofs.Runs.{stops}
use Rattle.usfm_ref.proofs.Readings.{number_at-run, number_at-some, chapter_in-of}

-- ---- numbers in decimal

-- std's words on digits are ours
-- the numbers of digits are those of numerals
pub numerals : IsNumeralModel (λ ds. list_all is_ascii_digit ds ≡ true) number_of
numerals = numerals_by_fold _ (search rules) number_after (search rules)

all_digits : (digits : List ℕ) → are_digits digits ≡ true → list_all is_ascii_digit digits ≡ true
all_digits digits h = (and_parts (nat_le 1 (length digits) && nat_le (length digits) 3) (list_all is_ascii_digit digits) h).1

lengths : (digits : List ℕ) → are_digits digits ≡ true → (1 ≤ length digits) × (length digits ≤ 3)
lengths digits h =
    let two = and_parts (nat_le 1 (length digits)) (nat_le (length digits) 3)
    (and_parts (nat_le 1 (length digits) && nat_le (length digits) 3) (list_all is_ascii_digit digits) h).0 in
    (leb-true 1 (length digits) two.0, leb-true (length digits) 3 two.1)

-- one to three digits are a number of at most 999
pub number_of-le : (digits : List ℕ) → are_digits digits ≡ true → number_of digits ≤ 999
number_of-le digits h =
    let short : number_of digits < 10 ^ 3 = digits_value_short numerals digits 3 (all_digits digits h) (lengths digits h).1 in omega arith

-- a number that is read is at most 999
pub number_at-le : (bytes : List ℕ) (n : ℕ × List ℕ) → number_at bytes ≡ Some n → n.0 ≤ 999
number_at-le bytes n h =
    let run = number_at-some bytes n h in let le = number_of-le run.digits run.are_digits in omega (arith, run.number_is, le)

decimal_are_digits : (n : ℕ) → n ≤ 999 → are_digits (decimal n) ≡ true
decimal_are_digits n h =
    let some : 0 < length (decimal n) = decimal_nonempty n (omega arith) in
    let few : length (decimal n) ≤ 3 = length-decimal-le 3 n (omega arith) (omega arith) (omega arith) in
    let all : list_all is_ascii_digit (decimal n) ≡ true = digits_decimal numerals n (omega arith) in
    and_from _ _ (and_from _ _ (le-leb 1 (length (decimal n)) some) (le-leb (length (decimal n)) 3 few)) all

-- a number in decimal, with a letter or none, is read
pub decimal_starts : (number : ℕ) (letter : Option ℕ) (rest : List ℕ) → number ≤ 999 → is_letter letter ≡ true → ends_number rest ≡ true
    → StartsWithNumber (decimal number ++ (option_to_list letter ++ rest)) number letter rest
decimal_starts number letter rest small l ends = record {
  digits = decimal number;
  bytes_are = refl;
  are_digits = decimal_are_digits number small;
  number_is = sym (digits_value-decimal numerals number (omega arith));
  is_letter = l;
  ends = ends;
}

-- a chapter in decimal after blanks is read
pub chapter_in-decimal : (blanks : List ℕ) (number : ℕ) (rest : List ℕ) → are_blanks blanks ≡ true → number ≤ 999 → ends_number rest ≡ true
    → chapter_in (blanks ++ (decimal number ++ rest)) ≡ Some number
chapter_in-decimal blanks number rest b small ends =
    chapter_in-of _ number
    record {
      blanks = blanks;
      bytes = decimal number ++ rest;
      rest = rest;
      text_is = refl;
      are_blanks = b;
      number_is = decimal_starts number None rest small refl ends;
    }

-- the first of the digits is no zero, or there is no other
no_zero : (ds rest : List ℕ) → (get_or ds 0 0 ≡ 48 → length ds ≡ 1) → 0 < length ds → stops is_ascii_digit rest ≡ true
    → is_zero_led (ds ++ rest) ≡ false
no_zero [] rest one some s = absurd (omega arith)
no_zero (a ∷ []) [] one some s = refl
no_zero (a ∷ []) (b ∷ rest) one some s = and_right (a == 48) (is_ascii_digit b) (not-true _ s)
no_zero (a ∷ b ∷ ds) rest one some s =
    and_left (a == 48) (is_ascii_digit b) (ne_eqb a 48 (λ e. let few : suc (suc (length ds)) ≡ 1 = one e in omega arith))

first_is_one : (n : ℕ) → n ≤ 999 → get_or (decimal n) 0 0 ≡ 48 → length (decimal n) ≡ 1
first_is_one zero h e = ap length (decimal_digit 0 (omega arith))
first_is_one (suc n) h e =
    let first : 48 < get_or (decimal (suc n)) 0 0 = first_decimal (suc n) (omega arith) (omega arith) in absurd (omega arith)

-- a number as it is written is read
pub plain_at-of : (n : ℕ) (rest : List ℕ) → n ≤ 999 → stops is_ascii_digit rest ≡ true → plain_at (decimal n ++ rest) ≡ Some (n, rest)
unfolding plain_at
plain_at-of n rest h s =
    let led = no_zero (decimal n) rest (first_is_one n h) (decimal_nonempty n (omega arith)) s in
    let read = number_at-run (decimal n) rest (decimal_are_digits n h) s in
    let value : number_of (decimal n) ≡ n = digits_value-decimal numerals n (omega arith) in
    rw (led, read, value) refl

-- what a number without leading zeros is
pub record IsPlain (bytes : List ℕ) (number : ℕ) (rest : List ℕ) : Type 0 where
  pub bytes_are : bytes ≡ decimal number ++ rest
  pub small : number ≤ 999
  pub stops : stops is_ascii_digit rest ≡ true

first_of_led : (ds rest : List ℕ) → list_all is_ascii_digit ds ≡ true → is_zero_led (ds ++ rest) ≡ false → get_or ds 0 0 ≡ 48
    → 0 < length ds → length ds ≡ 1
first_of_led [] rest all led e some = absurd (omega arith)
first_of_led (a ∷ []) rest all led e some = refl
first_of_led (a ∷ b ∷ ds) rest all led e some =
    let digits = and_parts (is_ascii_digit a) (is_ascii_digit b && list_all is_ascii_digit ds) all in
    let zero_led =
    and_from (a == 48) (is_ascii_digit b) (eq-eqb a 48 e) (and_parts (is_ascii_digit b) (list_all is_ascii_digit ds) digits.1).0 in
    cc

-- what is read as one is written so
pub plain_at-some : (bytes : List ℕ) (n : ℕ × List ℕ) → plain_at bytes ≡ Some n → IsPlain bytes n.0 n.1
unfolding plain_at
plain_at-some bytes n h = by_zero (is_zero_led bytes) refl h
  where
    by_zero : (z : Bool) → is_zero_led bytes ≡ z → cond z None (number_at bytes) ≡ Some n → IsPlain bytes n.0 n.1
    by_zero true e h = cc
    by_zero false e h =
        let run = number_at-some bytes n h in
        let few = lengths run.digits run.are_digits in
        let small = number_of-le run.digits run.are_digits in
        let led : is_zero_led (run.digits ++ n.1) ≡ false = rw (← run.bytes_are) e in
        let all = all_digits run.digits run.are_digits in
        let same : decimal (number_of run.digits)
        ≡ run.digits = decimal-digits_value numerals run.digits all (omega arith) (λ z. first_of_led run.digits n.1 all led z (omega arith))
        (omega arith) in
        record {
          bytes_are = run.bytes_are ∙ ap (λ (ds : List ℕ). ds ++ n.1) (sym same ∙ ap decimal (sym run.number_is));
          small = omega (arith, run.number_is);
          stops = run.stops;
        }

-- ---- places

stops_at_letter : (letter : Option ℕ) → is_letter letter ≡ true → stops is_ascii_digit (option_to_list letter) ≡ true
stops_at_letter None l = refl
stops_at_letter (Some c) l = grind (arith, nat_tests)

verse_to_end-of : (number : ℕ) (letter : Option ℕ) → is_letter letter ≡ true
    → verse_to_end number (option_to_list letter) ≡ Some (Verse number letter)
verse_to_end-of number None l = refl
verse_to_end-of number (Some c) l = rw l refl

place_in-of : (place : Place) → is_place place ≡ true → place_in (place_text place) ≡ Some place
unfolding place_in
place_in-of Head h = refl
place_in-of (Verse number letter) h =
    let parts = and_parts (nat_le number 999) (is_letter letter) h in
    rw (plain_at-of number (option_to_list letter) (leb-true number 999 parts.0) (stops_at_letter letter parts.1))
    (verse_to_end-of number letter parts.1)

-- a place is written so, and is right
pub record IsWritten (bytes : List ℕ) (place : Place) : Type 0 where
  pub bytes_are : bytes ≡ place_text place
  pub is_place : is_place place ≡ true

verse_written : (rest : List ℕ) (number : ℕ) (after : List ℕ) (place : Place) → IsPlain rest number after
    → verse_to_end number after ≡ Some place → IsWritten (58 ∷ rest) place
verse_written rest number [] place plain h =
    let is : Verse number None ≡ place = same_Some _ _ h in
    rw (← is) record {
      bytes_are = ap (λ (r : List ℕ). 58 ∷ r) plain.bytes_are;
      is_place = and_from _ _ (le-leb number 999 plain.small) refl;
    }
verse_written rest number (b ∷ []) place plain h = by_letter (is_ascii_lowercase b) refl h
  where
    by_letter : (l : Bool) → is_ascii_lowercase b ≡ l → cond l (Some (Verse number (Some b))) None ≡ Some place
        → IsWritten (58 ∷ rest) place
    by_letter true e h =
        let is : Verse number (Some b) ≡ place = same_Some _ _ h in
        rw (← is) record {
          bytes_are = ap (λ (r : List ℕ). 58 ∷ r) plain.bytes_are;
          is_place = and_from _ _ (le-leb number 999 plain.small) e;
        }
    by_letter false e h = cc
verse_written rest number (b ∷ c ∷ after) place plain h = cc

-- what is read as a place is written so
pub place_in-some : (bytes : List ℕ) (place : Place) → place_in bytes ≡ Some place → IsWritten bytes place
unfolding place_in
place_in-some [] place h = let is : Head ≡ place = same_Some _ _ h in rw (← is) record { bytes_are = refl; is_place = refl }
place_in-some (b ∷ rest) place h = by_colon (b == 58) refl h
  where
    parts : b ≡ 58 → (n : ℕ × List ℕ) → plain_at rest ≡ Some n → verse_to_end n.0 n.1 ≡ Some place → IsWritten (b ∷ rest) place
    parts e n p v = rw e (verse_written rest n.0 n.1 place (plain_at-some rest n p) v)

    by_colon : (e : Bool) → (b == 58) ≡ e
        → cond e (option_and_then (λ (n : ℕ × List ℕ). verse_to_end n.0 n.1) (plain_at rest)) None ≡ Some place → IsWritten (b ∷ rest) place
    by_colon true e h = option_and_then_some (λ (n : ℕ × List ℕ). verse_to_end n.0 n.1) (plain_at rest) place h (parts (eqb-true b 58 e))
    by_colon false e h = cc

-- ---- keys

stops_at_place : (place : Place) → stops is_ascii_digit (place_text place) ≡ true
stops_at_place Head = refl
stops_at_place (Verse number letter) = refl

-- a key as it is written is read
pub key_in-of : (key : KeyParts) → is_key key.chapter key.place ≡ true → key_in (key_text key) ≡ Some key
unfolding key_in
key_in-of key h =
    let parts = and_parts (nat_le key.chapter 999) (is_place key.place) h in
    rw (
      plain_at-of key.chapter (place_text key.place) (leb-true key.chapter 999 parts.0)
          (stops_at_place key.place),
      place_in-of key.place parts.1,
    ) refl

-- what is read as a key is written so, and within its ranges
pub key_in-some : (bytes : List ℕ) (key : KeyParts) → key_in bytes ≡ Some key
    → (bytes ≡ key_text key) × (is_key key.chapter key.place ≡ true)
unfolding key_in
key_in-some bytes key h = option_and_then_some (λ (n : ℕ × List ℕ). key_at n.0 (place_in n.1)) (plain_at bytes) key h parts
  where
    parts : (n : ℕ × List ℕ) → plain_at bytes ≡ Some n → key_at n.0 (place_in n.1) ≡ Some key
        → (bytes ≡ key_text key) × (is_key key.chapter key.place ≡ true)
    parts n p k = by_place (place_in n.1) refl k
      where
        by_place : (place : Option Place) → place_in n.1 ≡ place → key_at n.0 place ≡ Some key
            → (bytes ≡ key_text key) × (is_key key.chapter key.place ≡ true)
        by_place None e k = cc
        by_place (Some place) e k =
            let plain = plain_at-some bytes n p in
            let written = place_in-some n.1 place e in
            let is : record { chapter = n.0; place = place } ≡ key = same_Some _ _ k in
            rw (← is) (
              plain.bytes_are
                  ∙ ap (λ (r : List ℕ). decimal n.0 ++ r) written.bytes_are,
              and_from _ _ (le-leb n.0 999 plain.small) written.is_place,
            )

-- a key is read from its text, and from no other text
pub key_of_is : KeysAreRead
key_of_is text key = (there, back)
  where
    there : key_of text ≡ Ok key → (is_key key.chapter key.place ≡ true) × (text ≡ key_text key)
    there h = by (key_in text) refl h
      where
        by : (read : Option KeyParts) → key_in text ≡ read → key_or_bad read ≡ Ok key
            → (is_key key.chapter key.place ≡ true) × (text ≡ key_text key)
        by None e h = cc h
        by (Some other) e h =
            let same : other ≡ key = cc h in
            let parts = key_in-some text key (e ∙ ap Some same) in
            (parts.1, parts.0)

    back : (is_key key.chapter key.place ≡ true) × (text ≡ key_text key) → key_of text ≡ Ok key
    back h = ap key_of h.1 ∙ ap key_or_bad (key_in-of key h.0)

-- ---- references

key_after-some : (bytes : List ℕ) (key : KeyParts) → key_after bytes ≡ Some key
    → (bytes ≡ codes " " ++ key_text key) × (is_key key.chapter key.place ≡ true)
unfolding key_after
key_after-some [] key h = cc
key_after-some (b ∷ rest) key h = by_space (b == 32) refl h
  where
    by_space : (e : Bool) → (b == 32) ≡ e → cond e (key_in rest) None ≡ Some key
        → (b ∷ rest ≡ codes " " ++ key_text key) × (is_key key.chapter key.place ≡ true)
    by_space true e h =
        let written = key_in-some rest key h in
        (ap (λ (x : ℕ). x ∷ rest) (eqb-true b 32 e) ∙ ap (λ (r : List ℕ). 32 ∷ r) written.0, written.1)
    by_space false e h = cc

-- a reference as it is written is read
pub ref_in-of : ReadsWhatIsWritten
unfolding ref_in key_after
ref_in-of [] key b k = cc
ref_in-of (x ∷ []) key b k = cc
ref_in-of (x ∷ y ∷ []) key b k = cc
ref_in-of (x ∷ y ∷ z ∷ []) key b k = rw (b, key_in-of key k) refl
ref_in-of (x ∷ y ∷ z ∷ w ∷ rest) key b k = cc

same_Ok : {T E : Type 0} (x y : T) → ◌≡◌ {A = Result T E} (Ok x) (Ok y) → x ≡ y
same_Ok x y h = cc

-- what is read as a reference is written so
pub ref_in-some : WritesWhatIsRead
unfolding ref_in
ref_in-some text book key h = by_code (is_book_code (take 3 text)) refl h
  where
    by_key : is_book_code (take 3 text) ≡ true → (k : Option KeyParts) → key_after (drop 3 text) ≡ k
        → ref_to (take 3 text) k ≡ Ok (book, key) → IsRefTo text book key
    by_key code None e h = cc
    by_key code (Some k) e h =
        let written = key_after-some (drop 3 text) k e in
        let is : ◌≡◌ {A = List ℕ × KeyParts} (take 3 text, k) (book, key) = same_Ok _ _ h in
        let book_is : take 3 text ≡ book = ap (λ (p : List ℕ × KeyParts). p.0) is in
        let key_is : k ≡ key = ap (λ (p : List ℕ × KeyParts). p.1) is in
        let whole : text ≡ ref_text (take 3 text) k = sym (take-append-drop 3 text) ∙ ap (λ (r : List ℕ). take 3 text ++ r) written.0 in
        record { is_book = rw (← book_is) code; is_key = rw (← key_is) written.1; text_is = rw (← book_is, ← key_is) whole }

    by_code : (e : Bool) → is_book_code (take 3 text) ≡ e
        → cond e (ref_to (take 3 text) (key_after (drop 3 text))) (Err BadBook) ≡ Ok (book, key) → IsRefTo text book key
    by_code true e h = by_key e (key_after (drop 3 text)) refl h
    by_code false e h = cc

-- ---- what the steps of a call read

-- what is answered of a text is the reference that it is
pub ref_reads : (text : List ℕ) (r : Result (List ℕ × KeyParts) RefFault) → r ≡ ref_in text → IfOk r (λ p. IsRefTo text p.0 p.1)
ref_reads text (Ok p) e = ref_in-some text p.0 p.1 (sym e)
ref_reads text (Err fault) e = tt

-- a text that is a reference is answered with it
pub ref_only : (text : List ℕ) (r : Result (List ℕ × KeyParts) RefFault) → r ≡ ref_in text → (book : List ℕ) (key : KeyParts)
    → IsRefTo text book key → r ≡ Ok (book, key)
ref_only text r e book key h = e ∙ ap ref_in h.text_is ∙ ref_in-of book key h.is_book h.is_key

-- a text whose first three bytes are no code has no book
pub ref_in-no_code : (text : List ℕ) → is_book_code (take 3 text) ≡ false → ref_in text ≡ Err BadBook
unfolding ref_in
ref_in-no_code text h = rw h refl

-- one that begins with a code is a reference where a key follows
pub ref_in-code : (text code after : List ℕ) (key : Option KeyParts) → code ≡ take 3 text → after ≡ drop 3 text
    → is_book_code code ≡ true → key ≡ key_after after → ref_in text ≡ ref_to code key
unfolding ref_in
ref_in-code text code after key c b h k = rw (← c, ← b, h, ← k) refl

-- fewer than three bytes are no code
pub short_no_code : (text : List ℕ) → length text < 3 → is_book_code (take 3 text) ≡ false
short_no_code [] h = refl
short_no_code (a ∷ []) h = refl
short_no_code (a ∷ b ∷ []) h = refl
short_no_code (a ∷ b ∷ c ∷ rest) h = absurd (omega arith)
