-- The marks and texts that a USFM text is cut into.
--
-- The USFM 3.0 documentation has markers that begin with a backslash, the `+` of nested character
-- markers and the `*` of closing ones. Which bytes a name has, and that each backslash begins a
-- mark, is this project's own rule.
use Rattle.std.specs.Prelude.{◌≡◌, ◌≢◌, ℕ, zero, suc, ◌+◌, ◌<◌, ◌≤◌, Bool, true, ◌||◌, ◌==◌, List, [], ◌∷◌, ◌++◌, length, drop, take_while, slice_index, slice_range, if◌then◌else◌, EachIndex, ◌↔◌}
use Rattle.std.specs.List.{flat_map, before_first}
use Rattle.std.specs.Char.{is_ascii_alphanumeric}

-- the parts of a mark: whether it has '+', its name, and whether it has '*'
pub record MarkParts : Type 0 where
  pub nested : Bool
  pub name : List ℕ
  pub closing : Bool

-- a mark, or a text
pub data Lexeme : Type 0 where
  mark : MarkParts → Lexeme
  words : List ℕ → Lexeme

-- an ASCII letter or digit, '-' (45) or '_' (95)
abbrev pub is_name_byte : ℕ → Bool
is_name_byte b = is_ascii_alphanumeric b || b == 45 || b == 95

-- the byte, or nothing
abbrev pub optional_byte : Bool → ℕ → List ℕ
optional_byte b x = if b then x ∷ [] else []

-- a backslash (92), perhaps '+' (43), the name, perhaps '*' (42)
abbrev pub spelling : Bool → List ℕ → Bool → List ℕ
spelling nested name closing = 92 ∷ (optional_byte nested 43 ++ (name ++ optional_byte closing 42))

-- the bytes of a mark
abbrev pub mark_bytes : MarkParts → List ℕ
mark_bytes m = spelling m.nested m.name m.closing

-- the bytes of a mark or a text
abbrev pub slice_of : Lexeme → List ℕ
slice_of (mark m) = mark_bytes m
slice_of (words t) = t

-- the bytes of all, one after the other
abbrev pub joined : List Lexeme → List ℕ
joined ts = flat_map slice_of ts

-- each byte is one that a name may have
abbrev pub AreNameBytes : List ℕ → Type 0
AreNameBytes name = EachIndex name (λ k. is_name_byte (slice_index name k) ≡ true)

-- a mark's name has name bytes alone, and may be empty
abbrev pub IsMark : MarkParts → Type 0
IsMark m = AreNameBytes m.name

-- no mark in the place of m, before rest, is longer
abbrev pub IsLongest : MarkParts → List ℕ → Type 0
IsLongest m rest = (other : MarkParts) (after : List ℕ) → IsMark other
    → mark_bytes m ++ rest ≡ mark_bytes other ++ after
    → length (mark_bytes other) ≤ length (mark_bytes m)

-- whether a byte is a backslash (92)
abbrev pub is_backslash : ℕ → Bool
is_backslash b = b == 92

-- a text is not empty and has no backslash
abbrev pub IsText : List ℕ → Type 0
IsText t = (0 < length t) × EachIndex t (λ k. slice_index t k ≢ 92)

-- there is nothing, or a mark is the first
abbrev pub BeginsWithNoText : List Lexeme → Type 0
BeginsWithNoText [] = Unit {0}
BeginsWithNoText (mark m ∷ ts) = Unit {0}
BeginsWithNoText (words t ∷ ts) = ⊥

-- each mark is the longest at its place, each text is not empty and has no backslash, and no two
-- texts are neighbours
abbrev pub AreLexemes : List Lexeme → Type 0
AreLexemes [] = Unit {0}
AreLexemes (mark m ∷ ts) = IsMark m × IsLongest m (joined ts) × AreLexemes ts
AreLexemes (words t ∷ ts) = IsText t × BeginsWithNoText ts × AreLexemes ts

-- ts is what s is cut into: its slices join to s, each mark is the longest at its place, and what
-- is between two marks is one text
pub record AreTokensOf (ts : List Lexeme) (s : List ℕ) : Type 0 where
  pub join : joined ts ≡ s
  pub each : AreLexemes ts

-- The same, as a reading from the left.

-- what comes after a '+' (43) at the front, and all where none is there
abbrev pub after_plus : List ℕ → List ℕ
after_plus bs = if slice_index bs 0 == 43 then drop 1 bs else bs

-- the mark whose backslash comes before bs
abbrev pub mark_after : List ℕ → MarkParts
mark_after bs =
    let name_on = after_plus bs in
    let name = take_while is_name_byte name_on in
    record {
      nested = slice_index bs 0 == 43;
      name = name;
      closing = slice_index (drop (length name) name_on) 0 == 42;
    }

-- the mark or text that begins with the byte b and then bs
abbrev pub first_lexeme : ℕ → List ℕ → Lexeme
first_lexeme b bs =
    if b == 92 then mark (mark_after bs) else words (before_first is_backslash (b ∷ bs))

-- at most n marks and texts from the left
unfoldable pub tokens_in : ℕ → List ℕ → List Lexeme
tokens_in zero bs = []
tokens_in (suc n) [] = []
tokens_in (suc n) (b ∷ bs) =
    let first = first_lexeme b bs in first ∷ tokens_in n (drop (length (slice_of first)) (b ∷ bs))

-- what s is cut into
unfoldable pub tokens_of : List ℕ → List Lexeme
tokens_of s = tokens_in (length s) s

-- The laws.

-- each text is cut in exactly one way
abbrev pub OneCut : Type 0
OneCut = (ts : List Lexeme) (s : List ℕ) → AreTokensOf ts s ↔ (ts ≡ tokens_of s)

-- marks with the same bytes have the same parts
abbrev pub OneSpelling : Type 0
OneSpelling =
    (m other : MarkParts) → IsMark m → IsMark other → mark_bytes m ≡ mark_bytes other → m ≡ other

-- each token of s is its bytes from the place on where the tokens before it end
abbrev pub TokensLie : Type 0
TokensLie = (s : List ℕ) (before : List Lexeme) (t : Lexeme) (after : List Lexeme)
    → tokens_of s ≡ before ++ t ∷ after →
    let place =
    length (joined before) in slice_range s place (place + length (slice_of t)) ≡ slice_of t

-- empty, or a backslash is at the front
abbrev pub BeginsMark : List ℕ → Type 0
BeginsMark s = 0 < length s → slice_index s 0 ≡ 92

-- where the second of two texts begins with a backslash, the tokens of both are those of each
abbrev pub TokensJoin : Type 0
TokensJoin = (a b : List ℕ) → BeginsMark b → tokens_of (a ++ b) ≡ tokens_of a ++ tokens_of b

-- the first tokens of a text are those of their own bytes
abbrev pub TokensPart : Type 0
TokensPart =
    (s : List ℕ) (ts us : List Lexeme) → tokens_of s ≡ ts ++ us → tokens_of (joined ts) ≡ ts

-- the last tokens of a text are those of their own bytes
abbrev pub TokensRest : Type 0
TokensRest =
    (s : List ℕ) (ts us : List Lexeme) → tokens_of s ≡ ts ++ us → tokens_of (joined us) ≡ us
