-- The findings, as a reading of the marks from the left. A law says that they are the findings of
-- the definition.
use Rattle.std.specs.Prelude.{ℕ, ◌+◌, ◌==◌, nat_lt, nat_le, Bool, true, false, not, ◌&&◌, ◌||◌}
use Rattle.std.specs.Prelude.{List, [], ◌∷◌, ◌++◌, length, map, filter, Option, None, Some}
use Rattle.std.specs.Prelude.{if◌then◌else◌}
use Rattle.std.specs.Option.{is_some, option_map_or}
use Rattle.usfm_ref.specs.Keys.{KeyParts, book_head}
use Rattle.usfm_ref.specs.declared.number.VerseMark.{VerseMark}
use Rattle.sty_sheet.specs.Records.{Record}
use Rattle.usfm_token.specs.Tokens.{MarkParts, Lexeme, mark, words, mark_bytes, tokens_of}
use Rattle.verse_cut.specs.Keys.{key_below, text_after}
use Rattle.segment_check.specs.Scenes.{mark_verse}
use Rattle.segment_check.specs.Spots.{Spot}
use Rattle.segment_check.specs.TreeConditions.{unknown_marker, stray_close, unclosed_char}
use Rattle.segment_check.specs.TreeConditions.{unclosed_note, too_deep, not_under}
use Rattle.segment_check.specs.NumberConditions.{lacks_number, has_bad_bridge, reaches}
use Rattle.segment_check.specs.Numbers.{mark_chapter, key_by}
use Rattle.segment_check.specs.Findings.{all_codes}
use Rattle.segment_check.specs.declared.code.Code.{Code}
use Rattle.segment_check.specs.declared.code.Code.TheVariants as code
use Rattle.segment_check.specs.declared.finding.Finding.{Finding}
use Rattle.segment_check.specs.declared.marks.Held.{Held}
use Rattle.segment_check.specs.declared.seen.Seen.{Seen}

-- which of the conditions of the tree hold of a mark
abbrev pub seen_of : List Record → Spot → Seen
seen_of sheet spot = record {
  unknown_marker = unknown_marker sheet spot;
  stray_close = stray_close spot;
  unclosed_char = unclosed_char spot;
  unclosed_note = unclosed_note spot;
  too_deep = too_deep sheet spot;
  not_under = not_under sheet spot;
}

-- none of them holds
abbrev pub unseen : Seen
unseen = record {
  unknown_marker = false;
  stray_close = false;
  unclosed_char = false;
  unclosed_note = false;
  too_deep = false;
  not_under = false;
}

-- which of them hold of a mark of a text, if it is one of the tree's; the closing mark of a node
-- shows none
abbrev pub seen_at : List Record → Option Spot → Seen
seen_at sheet None = unseen
seen_at sheet (Some spot) = seen_of sheet spot

-- the last verse of a bridge, with its letter
abbrev pub Last : Type 0
Last = ℕ × Option ℕ

-- of last verses with one number, all that one with the first letter reaches is reached by one with
-- the second
abbrev pub is_letter_within : Option ℕ → Option ℕ → Bool
is_letter_within last None = true
is_letter_within None (Some b) = false
is_letter_within (Some a) (Some b) = nat_le a b

-- all that the first of two last verses reaches is reached by the second
abbrev pub is_within : Last → Last → Bool
is_within last other =
    nat_lt last.0 other.0 || (last.0 == other.0 && is_letter_within last.1 other.1)

-- the one that reaches more
abbrev pub further : Option Last → Option Last → Option Last
further None last = last
further (Some reach) None = Some reach
further (Some reach) (Some last) = if is_within last reach then Some reach else Some last

-- there is a last verse, and it reaches the verse
abbrev pub any_reaches : Option Last → VerseMark → Bool
any_reaches reach v = option_map_or (λ last. reaches last v) reach false

-- Where a reading is: the key of the open piece; of the bridges of its chapter so far the last
-- verse that reaches most; and what a tree says of the marks that are left.
pub record State : Type 0 where
  pub key : KeyParts
  pub reach : Option Last
  pub seen : List Seen

-- what a tree says of the mark in front: the first that is left, and else that nothing holds
abbrev pub seen_first : List Seen → Seen
seen_first [] = unseen
seen_first (t ∷ ts) = t

-- what it says of the marks after that
abbrev pub seen_rest : List Seen → List Seen
seen_rest [] = []
seen_rest (t ∷ ts) = ts

-- whether a key is above the open piece's
abbrev pub is_above : KeyParts → Option KeyParts → Bool
is_above key k = option_map_or (key_below key) k false

-- the key of the open piece after a mark: the mark's key, if it has one and that is above
abbrev pub key_then : KeyParts → Option KeyParts → KeyParts
key_then key None = key
key_then key (Some k) = if key_below key k then k else key

-- the last verse that reaches most, after a mark that opens a piece: a verse adds its bridge, and a
-- chapter begins anew
abbrev pub reach_with : Option Last → Option VerseMark → Option Last
reach_with reach None = None
reach_with reach (Some v) = further reach v.last

-- which conditions hold of a mark from a state on: those that the tree says, and those of its
-- number
abbrev pub held_at : State → MarkParts → List ℕ → Held
held_at st m after =
    let key = key_by st.key.chapter (mark_chapter m after) (mark_verse m after) in record {
      seen = seen_first st.seen;
      bad_number = lacks_number m after;
      bad_bridge = has_bad_bridge m after;
      not_rising = is_some key && not (is_above st.key key);
      overlap =
          is_above st.key key && option_map_or (any_reaches st.reach) (mark_verse m after) false;
    }

-- the state after a mark
abbrev pub state_after : State → MarkParts → List ℕ → State
state_after st m after =
    let key = key_by st.key.chapter (mark_chapter m after) (mark_verse m after) in record {
      key = key_then st.key key;
      reach = if is_above st.key key then reach_with st.reach (mark_verse m after) else st.reach;
      seen = seen_rest st.seen;
    }

-- whether the condition of a code is among those that hold of a mark
abbrev pub holds_in : Held → Code → Bool
holds_in held code.UnknownMarker = held.seen.unknown_marker
holds_in held code.StrayClose = held.seen.stray_close
holds_in held code.UnclosedChar = held.seen.unclosed_char
holds_in held code.UnclosedNote = held.seen.unclosed_note
holds_in held code.TooDeep = held.seen.too_deep
holds_in held code.BadNumber = held.bad_number
holds_in held code.BadBridge = held.bad_bridge
holds_in held code.NotRising = held.not_rising
holds_in held code.Overlap = held.overlap
holds_in held code.NotUnder = held.seen.not_under

-- the findings at a place with a key: one for each code whose condition holds
abbrev pub findings_with : Held → ℕ → KeyParts → List Finding
findings_with held start key =
    map (λ c. record { code = c; start = start; key = key }) (filter (holds_in held) all_codes)

-- what is found for one code, where it holds
abbrev pub finding_if : Bool → Code → ℕ → KeyParts → List Finding
finding_if holds c start key =
    if holds then record { code = c; start = start; key = key } ∷ [] else []

-- what is found at a mark from a state on
abbrev pub found_with : State → ℕ → MarkParts → List ℕ → List Finding
found_with st at m after = findings_with (held_at st m after) at (state_after st m after).key

-- what is found from a state on, at tokens from a place on
abbrev pub found_from : State → ℕ → List Lexeme → List Finding
found_from st at [] = []
found_from st at (words t ∷ ts) = found_from st (at + length t) ts
found_from st at (mark m ∷ ts) =
    found_with st at m (text_after ts)
    ++ found_from (state_after st m (text_after ts)) (at + length (mark_bytes m)) ts

-- the state before all marks: the open piece is that of the book head, and no bridge was read
abbrev pub start_state : List Seen → State
start_state seen = record { key = book_head; reach = None; seen = seen }

-- what is found in a text, where a tree says this of its marks
unfoldable pub found_in : List Seen → List ℕ → List Finding
found_in seen s = found_from (start_state seen) 0 (tokens_of s)
