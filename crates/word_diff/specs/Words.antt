-- The words of a text, by which two texts are compared. What a word is, is this project's own rule;
-- marks are those of usfm_token, which has the backslash, the '+' and the '*' of USFM 3.0, and
-- blanks are those of usfm_ref.
use Rattle.std.specs.Prelude.{◌≡◌, ℕ, zero, suc, ◌<◌, ◌==◌, Bool, true, false, not, ◌&&◌, List, [], ◌∷◌, ◌++◌, length, drop, take_while, slice_index, if◌then◌else◌, EachIndex, ◌⊎◌, ◌↔◌, map}
use Rattle.std.specs.Borrow.{Bor}
use Rattle.std.specs.List.{flat_map}
use Rattle.std.specs.Cmp.Lexicographic.{pointwise}
use Rattle.usfm_ref.specs.Numbers.{is_blank}
use Rattle.usfm_token.specs.Tokens.{MarkParts, is_backslash, mark_after, mark_bytes, IsMark, IsLongest}

-- a byte that is no blank and no backslash
abbrev pub is_plain : ℕ → Bool
is_plain b = not (is_blank b) && not (is_backslash b)

-- The word that begins with the byte b and then bs: the mark where b is a backslash (92), else the
-- longest run of blanks, or of bytes that are neither.
abbrev pub first_word : ℕ → List ℕ → List ℕ
first_word b bs =
    if b == 92 then mark_bytes (mark_after bs)
    else if is_blank b then take_while is_blank (b ∷ bs) else take_while is_plain (b ∷ bs)

-- at most n words from the left
unfoldable pub words_in : ℕ → List ℕ → List (List ℕ)
words_in zero bs = []
words_in (suc n) [] = []
words_in (suc n) (b ∷ bs) =
    let first = first_word b bs in first ∷ words_in n (drop (length first) (b ∷ bs))

-- the words of s
unfoldable pub words_of : List ℕ → List (List ℕ)
words_of s = words_in (length s) s

-- the bytes of all, one after the other
abbrev pub joined : List (List ℕ) → List ℕ
joined texts = flat_map (λ text. text) texts

-- the bytes of each of these texts, and not where they lie in memory
abbrev pub texts : List (Bor (List ℕ)) → List (List ℕ)
texts list = map (λ text. text.now) list

-- whether two words have the same bytes
abbrev pub same_word : List ℕ → List ℕ → Bool
same_word = pointwise ◌==◌

-- The same, as what holds of each word.

-- w is the longest mark before rest
abbrev pub IsLongestMark : List ℕ → List ℕ → Type 0
IsLongestMark w rest = (m : MarkParts) × (w ≡ mark_bytes m) × IsMark m × IsLongest m rest

-- w is not empty, all its bytes pass, and what follows it does not begin with one that does
abbrev pub IsLongestRun : (ℕ → Bool) → List ℕ → List ℕ → Type 0
IsLongestRun p w rest = (0 < length w) × EachIndex w (λ k. p (slice_index w k) ≡ true)
    × (0 < length rest → p (slice_index rest 0) ≡ false)

-- w is a word before rest: a mark, a run of blanks, or a run of other bytes
abbrev pub IsWord : List ℕ → List ℕ → Type 0
IsWord w rest = IsLongestMark w rest ⊎ (IsLongestRun is_blank w rest ⊎ IsLongestRun is_plain w rest)

-- each is a word before those after it
abbrev pub AreWords : List (List ℕ) → Type 0
AreWords [] = Unit {0}
AreWords (w ∷ ws) = IsWord w (joined ws) × AreWords ws

-- ws is what s is cut into: its words join to s, and each is as long as it can be
pub record AreWordsOf (ws : List (List ℕ)) (s : List ℕ) : Type 0 where
  pub join : joined ws ≡ s
  pub each : AreWords ws

-- The laws.

-- each text has exactly one list of words
abbrev pub OneList : Type 0
OneList = (ws : List (List ℕ)) (s : List ℕ) → AreWordsOf ws s ↔ (ws ≡ words_of s)

-- words that are neighbours in a text are the words of their own bytes
abbrev pub WordsPart : Type 0
WordsPart = (s : List ℕ) (before ws after : List (List ℕ)) → words_of s ≡ before ++ (ws ++ after)
    → words_of (joined ws) ≡ ws
