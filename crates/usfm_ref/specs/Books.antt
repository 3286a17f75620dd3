-- Codes of books, and the order of books: USFM 3.0's identifiers of books in the order of the canon
-- of 66, and every other code after them by its bytes (this project's own rule).
use Rattle.std.specs.Prelude.{ℕ, ◌==◌, nat_le, Bool, false, ◌&&◌, ◌||◌, List, [], ◌∷◌, codes, Result, Ok, Err, if◌then◌else◌}
use Rattle.std.specs.List.{position_or_len, list_all, list_any}
use Rattle.std.specs.declared.cmp.Ordering.{Ordering}
use Rattle.std.specs.Ordering.{nat_cmp, ordering_then, is_eq}
use Rattle.std.specs.Cmp.Lexicographic.{slice_cmp, pointwise}
use Rattle.usfm_ref.specs.declared.fault.RefFault.{RefFault}
use Rattle.usfm_ref.specs.declared.fault.RefFault.TheVariants.{BadBook}

-- one of A to Z or 0 to 9
abbrev pub is_code_char : ℕ → Bool
is_code_char c = (nat_le 65 c && nat_le c 90) || (nat_le 48 c && nat_le c 57)

-- a book's code: three bytes, each one of A to Z or 0 to 9
abbrev pub is_book_code : List ℕ → Bool
is_book_code [] = false
is_book_code (a ∷ []) = false
is_book_code (a ∷ b ∷ []) = false
is_book_code (a ∷ b ∷ c ∷ []) = is_code_char a && is_code_char b && is_code_char c
is_book_code (a ∷ b ∷ c ∷ d ∷ rest) = false

-- the book that a text is the code of; any other text is refused
abbrev pub book_of : List ℕ → Result (List ℕ) RefFault
book_of text = if is_book_code text then Ok text else Err BadBook

-- whether two texts have the same bytes
abbrev pub same_bytes : List ℕ → List ℕ → Bool
same_bytes = pointwise ◌==◌

-- the codes of the 66 books of the canon, Genesis to Revelation, in their order
abbrev pub canon : List (List ℕ)
canon =
    codes "GEN" ∷ codes "EXO" ∷ codes "LEV" ∷ codes "NUM" ∷ codes "DEU" ∷ codes "JOS" ∷ codes "JDG"
    ∷ codes "RUT" ∷ codes "1SA" ∷ codes "2SA"
    ∷ codes "1KI" ∷ codes "2KI" ∷ codes "1CH" ∷ codes "2CH" ∷ codes "EZR" ∷ codes "NEH"
    ∷ codes "EST" ∷ codes "JOB" ∷ codes "PSA" ∷ codes "PRO"
    ∷ codes "ECC" ∷ codes "SNG" ∷ codes "ISA" ∷ codes "JER" ∷ codes "LAM" ∷ codes "EZK"
    ∷ codes "DAN" ∷ codes "HOS" ∷ codes "JOL" ∷ codes "AMO"
    ∷ codes "OBA" ∷ codes "JON" ∷ codes "MIC" ∷ codes "NAM" ∷ codes "HAB" ∷ codes "ZEP"
    ∷ codes "HAG" ∷ codes "ZEC" ∷ codes "MAL" ∷ codes "MAT"
    ∷ codes "MRK" ∷ codes "LUK" ∷ codes "JHN" ∷ codes "ACT" ∷ codes "ROM" ∷ codes "1CO"
    ∷ codes "2CO" ∷ codes "GAL" ∷ codes "EPH" ∷ codes "PHP"
    ∷ codes "COL" ∷ codes "1TH" ∷ codes "2TH" ∷ codes "1TI" ∷ codes "2TI" ∷ codes "TIT"
    ∷ codes "PHM" ∷ codes "HEB" ∷ codes "JAS" ∷ codes "1PE"
    ∷ codes "2PE" ∷ codes "1JN" ∷ codes "2JN" ∷ codes "3JN" ∷ codes "JUD" ∷ codes "REV" ∷ []

-- the place of a code in the canon, and 66 for all others
unfoldable pub rank_of : List ℕ → ℕ
rank_of code = position_or_len (λ one. same_bytes one code) canon

-- codes by their bytes
abbrev pub code_cmp : List ℕ → List ℕ → Ordering
code_cmp = slice_cmp nat_cmp

-- a list of codes with their places has the canon: each place is right, and each code of the canon
-- is there
abbrev pub has_canon : List (List ℕ × ℕ) → Bool
has_canon known = list_all (λ e. rank_of e.0 == e.1) known
    && list_all (λ one. list_any (λ e. is_eq (code_cmp one e.0)) known) canon

-- the order of books: by their places in the canon, and then by the bytes of their codes
abbrev pub book_cmp : List ℕ → List ℕ → Ordering
book_cmp a b = ordering_then (nat_cmp (rank_of a) (rank_of b)) (code_cmp a b)
