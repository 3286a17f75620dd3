-- What a file is by its first bytes, and what is wrong with how a book's file begins (this project's
-- own rule).
use Rattle.std.specs.Prelude.{ℕ, ◌+◌, not, ◌&&◌, ◌||◌, ◌==◌, nat_le, nat_lt, Bool, List, [], ◌∷◌, ◌++◌, length, drop, take, slice_index, Option, Some, None, codes, nat_eq, option_map, if◌then◌else◌}
use Rattle.std.specs.List.{starts_with}
use Rattle.std.specs.Str.{bytes_eq}
use Rattle.std.specs.Fmt.{decimal}
use Rattle.std.specs.Char.{is_ascii_digit, is_ascii_uppercase, to_ascii_uppercase}
use Rattle.memchr.specs.Find.{first_of, is_byte, matches, places}
use Rattle.usfm_ref.specs.Books.{is_book_code}
use Rattle.command_faults.specs.declared.book_fronts.NoBook.{NoBook}
use Rattle.command_faults.specs.declared.book_fronts.NoBook.TheVariants as no_book
use Rattle.command_faults.specs.declared.book_fronts.Slip.{Slip}
use Rattle.command_faults.specs.declared.book_fronts.Slip.TheVariants.{SmallLetters, Blanks, LaterLine}
use Rattle.command_faults.specs.declared.circumstances.Found.{Found}
use Rattle.command_faults.specs.declared.circumstances.Found.TheVariants as found

-- whether a file begins with these bytes
abbrev pub begins : List ℕ → List ℕ → Bool
begins front sign = starts_with nat_eq front sign

-- `\id` (92, 105, 100)
abbrev pub id_mark : List ℕ
id_mark = 92 ∷ 105 ∷ 100 ∷ []

-- U+FEFF in UTF-8
abbrev pub byte_order_mark : List ℕ
byte_order_mark = 239 ∷ 187 ∷ 191 ∷ []

-- whether bytes begin as each format of this project does: `USFM`, two capital letters and a digit
abbrev pub has_magic : List ℕ → Bool
has_magic front = nat_le 7 (length front) && (begins front (codes "USFM")
    && (is_ascii_uppercase (slice_index front 4)
    && (is_ascii_uppercase (slice_index front 5) && is_ascii_digit (slice_index front 6))))

-- whether bytes begin as a bundle does, in either format that is known
abbrev pub is_known_bundle : List ℕ → Bool
is_known_bundle front = begins front (codes "USFMSR1") || begins front (codes "USFMSR2")

-- whether bytes, where a bundle is to begin, begin as one in a format that is not known
abbrev pub is_newer_bundle : List ℕ → Bool
is_newer_bundle bundle = has_magic bundle && not (is_known_bundle bundle)

-- whether the bundle of a project, which follows the eight bytes of the magic, a byte with the length
-- of the name, and the name, begins so
abbrev pub has_newer_bundle : List ℕ → Bool
has_newer_bundle front = is_newer_bundle (drop (9 + slice_index front 8) front)

-- whether the bundle of a sealed bundle, which follows its first 48 bytes, begins so
abbrev pub seals_newer_bundle : List ℕ → Bool
seals_newer_bundle front = is_newer_bundle (drop 48 front)

-- what a file is, by its first bytes: a project, a bundle, sealed or not, or a summary by the first
-- seven of its magic, one of these of a newer version by another magic, and a book's file by `\id`
-- after at most one U+FEFF
abbrev pub found_file : List ℕ → Found
found_file front =
    if begins front (codes "USFMPJ1")
    then (if has_newer_bundle front then found.Newer else found.Project)
    else (if is_known_bundle front then found.Bundle
    else (if begins front (codes "USFMSB1")
    then (if seals_newer_bundle front then found.Newer else found.Bundle)
    else (if begins front (codes "USFMSS1") then found.Summary
    else (if has_magic front then found.Newer
    else (if begins front id_mark || begins front (byte_order_mark ++ id_mark)
    then found.BookFile else found.Other)))))

-- the book of a code, if it is one
abbrev pub code_book : List ℕ → Option (List ℕ)
code_book code = if is_book_code code then Some code else None

-- the book of three bytes that are a code in capitals, and others than they are as they stand
abbrev pub capital_code : ℕ → ℕ → ℕ → Option (List ℕ)
capital_code a b c =
    let capitals = to_ascii_uppercase a ∷ to_ascii_uppercase b ∷ to_ascii_uppercase c ∷ [] in
    if bytes_eq capitals (a ∷ b ∷ c ∷ []) then None else code_book capitals

-- whether a byte ends a code: a space (32), a carriage return (13) or a line feed (10)
abbrev pub ends_code : ℕ → Bool
ends_code b = b == 32 || b == 13 || b == 10

-- the book that a word means: that of its first three bytes, where nothing follows them or what ends
-- a code
abbrev pub book_meant : List ℕ → Option (List ℕ)
book_meant word =
    if (length word == 3) || nat_lt 3 (length word) && ends_code (slice_index word 3)
    then capital_code (slice_index word 0) (slice_index word 1) (slice_index word 2)
    else None

-- the text after a first U+FEFF
abbrev pub after_mark : List ℕ → List ℕ
after_mark bytes = if begins bytes byte_order_mark then drop 3 bytes else bytes

-- what is wrong with what follows `\id` and a space: another blank, a space or a tab (9), or a code
-- in small letters
abbrev pub code_slip : List ℕ → Option Slip
code_slip code =
    if begins code (32 ∷ []) || begins code (9 ∷ []) then Some Blanks
    else option_map SmallLetters (book_meant code)

-- the line, counted from 1, that the line feed at a place begins: two more than there are line feeds
-- before it
abbrev pub line_after : List ℕ → ℕ → ℕ
line_after text at = length (places (is_byte 10) (take at text)) + 2

-- the first line after the first one that begins with `\id` and a space
abbrev pub later_line : List ℕ → Option Slip
later_line text =
    option_map (λ at. LaterLine (line_after text at))
    (first_of (matches text (10 ∷ id_mark ++ 32 ∷ []) 0))

-- what is wrong with how a book's file begins
abbrev pub front_slip : List ℕ → Option Slip
front_slip bytes =
    let text = after_mark bytes in
    if begins text (id_mark ++ 32 ∷ []) then code_slip (drop 4 text) else later_line text

-- whether bytes begin with the mark of UTF-16: 255 and 254, or the other way round
abbrev pub is_utf16 : List ℕ → Bool
is_utf16 bytes = begins bytes (255 ∷ 254 ∷ []) || begins bytes (254 ∷ 255 ∷ [])

-- a slip, if there is one
abbrev pub by_slip : Option Slip → NoBook
by_slip (Some slip) = no_book.Slip slip
by_slip None = no_book.Other

-- why bytes are those of no book
abbrev pub why_no_book : List ℕ → NoBook
why_no_book bytes =
    if length bytes == 0 then no_book.Empty
    else (if is_utf16 bytes then no_book.Utf16 else by_slip (front_slip bytes))

-- and in words; each backslash is 92
abbrev pub no_book_words : NoBook → List ℕ
no_book_words no_book.Empty = codes "it is empty"
no_book_words no_book.Utf16 = codes "it is UTF-16: save it as UTF-8"
no_book_words (no_book.Slip (SmallLetters book)) =
    codes "the code after " ++ id_mark ++ codes " is in small letters: write "
    ++ id_mark ++ 32 ∷ book
no_book_words (no_book.Slip Blanks) =
    codes "one space belongs between " ++ id_mark ++ codes " and the code"
no_book_words (no_book.Slip (LaterLine line)) =
    id_mark ++ codes " stands in line " ++ decimal line ++ codes ": take out what is before it"
no_book_words no_book.Other =
    codes "it does not begin with " ++ id_mark ++ codes ", one space and a book's code in capitals"
