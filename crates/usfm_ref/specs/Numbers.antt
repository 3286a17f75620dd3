-- Numbers of chapters and verses, in the text directly after a mark: USFM 3.0's `\c 12`, `\v 3`,
-- the part `\v 3a` and the bridge `\v 3-4`. The blanks, the limits of three digits and of one
-- letter, and what may follow a number are this project's own rule.
use Rattle.std.specs.Prelude.{◌≡◌, ℕ, ◌+◌, ◌-◌, ◌*◌, nat_le, ◌==◌, Bool, true, not, ◌&&◌, ◌||◌, IsTrue, List, [], ◌∷◌, ◌++◌, length, take, drop, Option, None, Some, if◌then◌else◌, ◌↔◌}
use Rattle.std.specs.List.{list_all, prefix_len}
use Rattle.std.specs.Option.{option_and_then, option_map, option_to_list}
use Rattle.std.specs.Char.{is_ascii_digit, is_ascii_lowercase, is_ascii_alphanumeric}
use Rattle.usfm_ref.specs.Keys.{is_letter}
use Rattle.usfm_ref.specs.declared.number.VerseMark.{VerseMark}

-- ---- the grammar

-- space, tab, CR or LF
abbrev pub is_blank : ℕ → Bool
is_blank b = b == 32 || b == 9 || b == 13 || b == 10

-- one blank or more
abbrev pub are_blanks : List ℕ → Bool
are_blanks bytes = nat_le 1 (length bytes) && list_all is_blank bytes

-- one to three ASCII digits
abbrev pub are_digits : List ℕ → Bool
are_digits bytes =
    nat_le 1 (length bytes) && nat_le (length bytes) 3 && list_all is_ascii_digit bytes

-- the number that digits write after those of another
abbrev pub number_after : ℕ → List ℕ → ℕ
number_after n [] = n
number_after n (d ∷ ds) = number_after (n * 10 + (d - 48)) ds

-- the number that digits write, in base ten
abbrev pub number_of : List ℕ → ℕ
number_of digits = number_after 0 digits

-- a number ends at the end, and before a byte that is no ASCII letter or digit
abbrev pub ends_number : List ℕ → Bool
ends_number [] = true
ends_number (b ∷ rest) = not (is_ascii_alphanumeric b)

-- Bytes are digits that write a number, a letter or none, and a rest before which a number ends. So
-- the digits are the longest run, and no second letter follows.
pub record StartsWithNumber (bytes : List ℕ) (number : ℕ) (letter : Option ℕ)
    (rest : List ℕ) : Type 0 where
  pub digits : List ℕ
  pub bytes_are : bytes ≡ digits ++ (option_to_list letter ++ rest)
  pub are_digits : IsTrue (are_digits digits)
  pub number_is : number ≡ number_of digits
  pub is_letter : IsTrue (is_letter letter)
  pub ends : IsTrue (ends_number rest)

-- Bytes are a hyphen (45) and a bridge's last verse, which is a number that ends.
pub record StartsWithBridge (bytes : List ℕ) (last : ℕ × Option ℕ) (rest : List ℕ) : Type 0 where
  pub after : List ℕ
  pub bytes_are : bytes ≡ 45 ∷ after
  pub last_is : StartsWithNumber after last.0 last.1 rest

-- What comes after a verse's number: the bridge to its last verse and a rest, or no bridge and all
-- of it is the rest. A bridge is read wherever there is one.
abbrev pub BridgesTo : List ℕ → Option (ℕ × Option ℕ) → List ℕ → Type 0
BridgesTo bytes None rest = (rest ≡ bytes)
    × ((last : ℕ × Option ℕ) (after : List ℕ) → StartsWithBridge bytes last after → ⊥)
BridgesTo bytes (Some last) rest = StartsWithBridge bytes last rest

-- The text after a chapter's mark is blanks, and then the number of the chapter without a letter.
pub record ReadsChapter (text : List ℕ) (number : ℕ) : Type 0 where
  pub blanks : List ℕ
  pub bytes : List ℕ
  pub rest : List ℕ
  pub text_is : text ≡ blanks ++ bytes
  pub are_blanks : IsTrue (are_blanks blanks)
  pub number_is : StartsWithNumber bytes number None rest

-- The text after a verse's mark is blanks, the number of the verse, a bridge if one is there, and a
-- rest: what is read is all but the rest.
pub record ReadsVerse (text : List ℕ) (mark : VerseMark) : Type 0 where
  pub blanks : List ℕ
  pub bytes : List ℕ
  pub after : List ℕ
  pub rest : List ℕ
  pub text_is : text ≡ blanks ++ bytes
  pub are_blanks : IsTrue (are_blanks blanks)
  pub number_is : StartsWithNumber bytes mark.number mark.letter after
  pub last_is : BridgesTo after mark.last rest
  pub length_is : mark.length + length rest ≡ length text

-- ---- ranges

-- a verse 0 to 999, without a letter or with one of a to z
abbrev pub is_verse : ℕ × Option ℕ → Bool
is_verse verse = nat_le verse.0 999 && is_letter verse.1

-- a bridge's last verse is one, if there is a bridge
abbrev pub is_last : Option (ℕ × Option ℕ) → Bool
is_last None = true
is_last (Some verse) = is_verse verse

-- ---- the same, as a reading from the left: what is read, if it is at the front, and the bytes after it

-- what comes after one blank or more at the front
unfoldable pub blanks_at : List ℕ → Option (List ℕ)
blanks_at bytes =
    let n = prefix_len is_blank bytes in if nat_le 1 n then Some (drop n bytes) else None

-- a run of one to three digits
unfoldable pub number_at : List ℕ → Option (ℕ × List ℕ)
number_at bytes =
    let n = prefix_len is_ascii_digit bytes in
    if nat_le 1 n && nat_le n 3 then Some (number_of (take n bytes), drop n bytes) else None

-- what was read, if a number ends before the rest
abbrev pub ended : {T : Type 0} → T → List ℕ → Option (T × List ℕ)
ended value rest = if ends_number rest then Some (value, rest) else None

-- a letter or none after a number, which ends
abbrev pub lettered : ℕ → List ℕ → Option ((ℕ × Option ℕ) × List ℕ)
lettered number [] = Some ((number, None), [])
lettered number (b ∷ rest) =
    if is_ascii_lowercase b then ended (number, Some b) rest else ended (number, None) (b ∷ rest)

-- a chapter's number
unfoldable pub chapter_at : List ℕ → Option (ℕ × List ℕ)
chapter_at bytes = option_and_then (λ n. ended n.0 n.1) (number_at bytes)

-- a verse's number, with its letter
unfoldable pub verse_at : List ℕ → Option ((ℕ × Option ℕ) × List ℕ)
verse_at bytes = option_and_then (λ n. lettered n.0 n.1) (number_at bytes)

-- a bridge's last verse
unfoldable pub bridge_at : List ℕ → Option ((ℕ × Option ℕ) × List ℕ)
bridge_at [] = None
bridge_at (b ∷ rest) = if b == 45 then verse_at rest else None

-- the number of a chapter in the text directly after its mark, if one is there
unfoldable pub chapter_in : List ℕ → Option ℕ
chapter_in text = option_map (λ c. c.0) (option_and_then chapter_at (blanks_at text))

-- a verse's mark with a bridge, if there is one
abbrev pub bridged : List ℕ → ℕ × Option ℕ → List ℕ → Option ((ℕ × Option ℕ) × List ℕ) → VerseMark
bridged text verse after None =
    record { number = verse.0; letter = verse.1; last = None; length = length text - length after }
bridged text verse after (Some b) =
    record {
      number = verse.0;
      letter = verse.1;
      last = Some b.0;
      length = length text - length
          b.1;
    }

-- the verse in the text directly after its mark, if one is there, with its bridge and how many
-- bytes were read
unfoldable pub verse_in : List ℕ → Option VerseMark
verse_in text = option_map (λ v. bridged text v.0 v.1 (bridge_at v.1))
    (option_and_then verse_at (blanks_at text))

-- ---- the laws

-- a text has at most one chapter's number
abbrev pub OneChapter : Type 0
OneChapter = (text : List ℕ) (a b : ℕ) → ReadsChapter text a → ReadsChapter text b → a ≡ b

-- a text has at most one verse's mark, with one bridge or none and one length
abbrev pub OneVerse : Type 0
OneVerse = (text : List ℕ) (a b : VerseMark) → ReadsVerse text a → ReadsVerse text b → a ≡ b

-- the reading from the left gives a chapter's number exactly where the grammar has it
abbrev pub ChaptersAreRead : Type 0
ChaptersAreRead =
    (text : List ℕ) (number : ℕ) → (chapter_in text ≡ Some number) ↔ ReadsChapter text number

-- the reading from the left gives a verse with its bridge and its length exactly where the grammar
-- has it
abbrev pub VersesAreRead : Type 0
VersesAreRead =
    (text : List ℕ) (mark : VerseMark) → (verse_in text ≡ Some mark) ↔ ReadsVerse text mark
