-- The ranges of the numbers that are read, and where what is read ends.
use Rattle.std.proofs.Common.{◌≡◌, ◌<◌, ◌≤◌, ℕ, nat_le, Bool, true, ◌&&◌, List, [], ◌∷◌, ◌++◌, length, take, Option, Some, None, IsUtf8, refl, ap, sym, ◌∙◌, arith, length-append, append_assoc}
use Rattle.std.proofs.lemmas.Bool.{and_parts, and_from, le-leb}
use Rattle.std.proofs.lemmas.Bool.Decides.{nat_tests}
use Rattle.std.proofs.lemmas.List.{take_at}
use Rattle.std.proofs.lemmas.Str.{IsAscii-append, IsUtf8-from_ascii, IsCharBoundary-from_take}
use Rattle.std.proofs.lemmas.Str.Ascii.{IsAscii-nil, IsAscii-cons}
use Rattle.std.specs.List.{list_all}
use Rattle.std.specs.Option.{option_to_list, IfSome}
use Rattle.std.specs.Char.{is_ascii_digit}
use Rattle.std.specs.Str.{IsAscii, IsCharBoundary}
use Rattle.usfm_ref.specs.Keys.{is_letter}
use Rattle.usfm_ref.specs.Numbers.{is_blank, are_blanks, is_verse, is_last, chapter_in, StartsWithNumber, BridgesTo, ReadsVerse}
use Rattle.usfm_ref.specs.declared.number.VerseMark.{VerseMark}
use Rattle.usfm_ref.proofs.Readings.{chapter_in-some}
use Rattle.usfm_ref.proofs.Spellings.{number_of-le}

-- ---- ranges

-- a number that is read is at most 999
pub number_small : (bytes : List ℕ) (number : ℕ) (letter : Option ℕ) (rest : List ℕ) → StartsWithNumber bytes number letter rest
    → number ≤ 999
number_small bytes number letter rest h = let small = number_of-le h.digits h.are_digits in omega (arith, h.number_is, small)

-- a number that is read, with its letter, is within a verse's ranges
pub number_is_verse : (bytes : List ℕ) (verse : ℕ × Option ℕ) (rest : List ℕ) → StartsWithNumber bytes verse.0 verse.1 rest
    → is_verse verse ≡ true
number_is_verse bytes verse rest h = and_from _ _ (le-leb verse.0 999 (number_small bytes verse.0 verse.1 rest h)) h.is_letter

-- a chapter's number that is read is at most 999
pub chapter_small : (text : List ℕ) (r : Option ℕ) → r ≡ chapter_in text → IfSome r (λ n. n ≤ 999)
chapter_small text None e = tt
chapter_small text (Some n) e = let read = chapter_in-some text n (sym e) in number_small read.bytes n None read.rest read.number_is

-- a verse that is read is within its ranges
pub mark_is_verse : (text : List ℕ) (mark : VerseMark) → ReadsVerse text mark → is_verse (mark.number, mark.letter) ≡ true
mark_is_verse text mark h = number_is_verse h.bytes (mark.number, mark.letter) h.after h.number_is

bridge_is_verse : (bytes : List ℕ) (last : Option (ℕ × Option ℕ)) (rest : List ℕ) → BridgesTo bytes last rest → is_last last ≡ true
bridge_is_verse bytes None rest h = refl
bridge_is_verse bytes (Some last) rest h = number_is_verse h.after last rest h.last_is

-- the last verse of a bridge that is read is within its ranges
pub mark_is_last : (text : List ℕ) (mark : VerseMark) → ReadsVerse text mark → is_last mark.last ≡ true
mark_is_last text mark h = bridge_is_verse h.after mark.last h.rest h.last_is

-- ---- what is read is ASCII, and so ends between two characters

-- what comes before the rest of a text is ASCII
pub record IsAsciiBefore (text rest : List ℕ) : Type 0 where
  pub front : List ℕ
  pub text_is : text ≡ front ++ rest
  pub ascii : IsAscii front

before_both : (a b c : List ℕ) → IsAsciiBefore a b → IsAsciiBefore b c → IsAsciiBefore a c
before_both a b c h k = record {
  front = h.front ++ k.front;
  text_is = h.text_is ∙ ap (λ (r : List ℕ). h.front ++ r) k.text_is ∙ sym (append_assoc h.front k.front c);
  ascii = IsAscii-append h.front k.front h.ascii k.ascii;
}

all_ascii : (p : ℕ → Bool) → ((b : ℕ) → p b ≡ true → b < 128) → (bs : List ℕ) → list_all p bs ≡ true → IsAscii bs
all_ascii p small [] h = IsAscii-nil
all_ascii p small (b ∷ bs) h =
    let parts = and_parts (p b) (list_all p bs) h in IsAscii-cons b bs (small b parts.0) (all_ascii p small bs parts.1)

digit_ascii : (b : ℕ) → is_ascii_digit b ≡ true → b < 128
digit_ascii b h = grind (arith, nat_tests)

blank_ascii : (b : ℕ) → is_blank b ≡ true → b < 128
blank_ascii b h = grind (arith, nat_tests)

letter_below : (c : ℕ) → is_letter (Some c) ≡ true → c < 128
letter_below c h = grind (arith, nat_tests)

letter_ascii : (letter : Option ℕ) → is_letter letter ≡ true → IsAscii (option_to_list letter)
letter_ascii None h = IsAscii-nil
letter_ascii (Some c) h = IsAscii-cons c [] (letter_below c h) IsAscii-nil

number_before : (bytes : List ℕ) (number : ℕ) (letter : Option ℕ) (rest : List ℕ) → StartsWithNumber bytes number letter rest
    → IsAsciiBefore bytes rest
number_before bytes number letter rest h = record {
  front = h.digits ++ option_to_list letter;
  text_is = h.bytes_are ∙ sym (append_assoc h.digits (option_to_list letter) rest);
  ascii =
      IsAscii-append h.digits (option_to_list letter)
      (all_ascii is_ascii_digit digit_ascii h.digits
      (and_parts (nat_le 1 (length h.digits) && nat_le (length h.digits) 3) (list_all is_ascii_digit h.digits) h.are_digits).1)
      (letter_ascii letter h.is_letter);
}

bridge_before : (bytes : List ℕ) (last : Option (ℕ × Option ℕ)) (rest : List ℕ) → BridgesTo bytes last rest → IsAsciiBefore bytes rest
bridge_before bytes None rest h = record { front = []; text_is = sym h.0; ascii = IsAscii-nil }
bridge_before bytes (Some last) rest h =
    before_both bytes h.after rest
    record { front = 45 ∷ []; text_is = h.bytes_are; ascii = IsAscii-cons 45 [] (omega arith) IsAscii-nil }
    (number_before h.after last.0 last.1 rest h.last_is)

blanks_before : (text bytes blanks : List ℕ) → text ≡ blanks ++ bytes → are_blanks blanks ≡ true → IsAsciiBefore text bytes
blanks_before text bytes blanks e h = record {
  front = blanks;
  text_is = e;
  ascii = all_ascii is_blank blank_ascii blanks (and_parts (nat_le 1 (length blanks)) (list_all is_blank blanks) h).1;
}

-- what is read as a verse's number is ASCII
pub read_is_ascii : (text : List ℕ) (mark : VerseMark) (h : ReadsVerse text mark) → IsAsciiBefore text h.rest
read_is_ascii text mark h =
    before_both text h.bytes h.rest (blanks_before text h.bytes h.blanks h.text_is h.are_blanks)
    (before_both h.bytes h.after h.rest (number_before h.bytes mark.number mark.letter h.after h.number_is)
    (bridge_before h.after mark.last h.rest h.last_is))

-- a text may be cut after what is read
pub read_ends_between : (text : List ℕ) (mark : VerseMark) → IsUtf8 text → ReadsVerse text mark → IsCharBoundary text mark.length
read_ends_between text mark utf8 h =
    let before = read_is_ascii text mark h in
    let long : length before.front
    ≡ mark.length = omega (arith, h.length_is, ap length before.text_is, length-append before.front h.rest) in
    let within : mark.length ≤ length text = omega (arith, h.length_is) in
    let front : take mark.length text ≡ before.front = ap (take mark.length) before.text_is
    ∙ take_at before.front h.rest mark.length long in
    IsCharBoundary-from_take text mark.length utf8 within (rw front (IsUtf8-from_ascii before.front before.ascii))
