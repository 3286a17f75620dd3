-- Laws of merges (this project's own rule): what the union of BASE and two sides shows, and what
-- book it makes. The sides are those that are read, so that a change of line ends is none of the
-- wording.
use Rattle.std.specs.Prelude.{◌≡◌, ◌≢◌, ℕ, List, [], ◌∷◌, map, reverse, Ok, IsUtf8, ◌⊎◌}
use Rattle.usfm_ref.specs.Keys.{KeyParts}
use Rattle.usfm_ref.specs.Segments.{segment}
use Rattle.verse_cut.specs.Pieces.{pieces_of}
use Rattle.verse_cut.specs.Reading.{book_in}
use Rattle.op_core.specs.Ops.{own_text}
use Rattle.op_core.specs.Shown.{shown, text_of}
use Rattle.op_core.specs.Export.{export}
use Rattle.replica_state.specs.States.{State}
use Rattle.replica_state.specs.Imports.{piece_at}
use Rattle.book_merge.specs.Merges.{MergeParts, united, merged}

-- a union of BASE and two sides of a book, none of whose imports is refused
pub record IsUnionOf (base ours theirs book : List ℕ) (s : State) : Type 0 where
  pub base_text : IsUtf8 base
  pub theirs_text : IsUtf8 theirs
  pub base_book : book_in base ≡ Ok book
  pub ours_book : book_in ours ≡ Ok book
  pub theirs_book : book_in theirs ≡ Ok book
  pub is : united base ours theirs ≡ Ok s

-- what a file has at a key, empty where it has nothing there
abbrev pub text_at : List ℕ → KeyParts → List ℕ
text_at file key = piece_at (pieces_of file) key

-- the texts that a segment of a book shows, by rising ids
abbrev pub shown_texts : State → List ℕ → KeyParts → List (List ℕ)
shown_texts s book key = map (λ o. own_text o) (shown s.held (segment book key))

-- one text is shown, or none where that is empty
abbrev pub ShowsAlone : List ℕ → List (List ℕ) → Type 0
ShowsAlone text shown = (shown ≡ text ∷ []) ⊎ ((shown ≡ []) × (text ≡ []))

-- What a union shows at a key, by the texts of the three files there: of a key that no side changed
-- the text of BASE, of one that one side changed the text of that side, of one that both changed to
-- one text that text, and of one that both changed otherwise both texts, that of OURS last. So the
-- text of OURS is picked.
pub record ShowsBoth (base ours theirs : List ℕ) (shown : List (List ℕ)) : Type 0 where
  pub neither : ours ≡ base → theirs ≡ base → ShowsAlone base shown
  pub theirs_alone : theirs ≢ base → ours ≡ base → shown ≡ theirs ∷ []
  pub ours_alone : ours ≢ base → theirs ≡ base → shown ≡ ours ∷ []
  pub alike : ours ≢ base → theirs ≢ base → ours ≡ theirs → shown ≡ ours ∷ []
  pub apart : ours ≢ base → theirs ≢ base → ours ≢ theirs → shown ≡ theirs ∷ ours ∷ []

-- A union shows at each key of its book what each side changed.
abbrev pub UnionsShowBoth : Type 0
UnionsShowBoth =
    (base ours theirs book : List ℕ) (s : State) (key : KeyParts) →
    IsUnionOf base ours theirs book s →
    ShowsBoth (text_at base key) (text_at ours key) (text_at theirs key) (shown_texts s book key)

-- What no union shows: where both sides changed the text otherwise, that of one of them, or that of
-- THEIRS last; where one side changed it, that of BASE, or two texts; where both changed it to one
-- text, or neither did, two texts.
pub record ShowsNoOther (base ours theirs : List ℕ) : Type 0 where
  pub ours_lost : ours ≢ base → theirs ≢ base → ours ≢ theirs →
      ShowsBoth base ours theirs (theirs ∷ []) → ⊥
  pub theirs_lost : ours ≢ base → theirs ≢ base → ours ≢ theirs →
      ShowsBoth base ours theirs (ours ∷ []) → ⊥
  pub theirs_picked : ours ≢ base → theirs ≢ base → ours ≢ theirs →
      ShowsBoth base ours theirs (ours ∷ theirs ∷ []) → ⊥
  pub change_lost : ours ≢ base → theirs ≡ base → ShowsBoth base ours theirs (base ∷ []) → ⊥
  pub one_in_conflict : theirs ≢ base → ours ≡ base →
      ShowsBoth base ours theirs (ours ∷ theirs ∷ []) → ⊥
  pub same_in_conflict : ours ≢ base → theirs ≢ base → ours ≡ theirs →
      ShowsBoth base ours theirs (theirs ∷ ours ∷ []) → ⊥
  pub none_in_conflict : ours ≡ base → theirs ≡ base →
      ShowsBoth base ours theirs (theirs ∷ ours ∷ []) → ⊥

-- No union shows that, whatever the texts of the three files are.
abbrev pub UnionsShowNoOther : Type 0
UnionsShowNoOther = (base ours theirs : List ℕ) → ShowsNoOther base ours theirs

-- Once the sides are exchanged, a union shows at each key the same texts in the other order.
abbrev pub ExchangedShowTheSame : Type 0
ExchangedShowTheSame =
    (base ours theirs book : List ℕ) (s exchanged : State) (key : KeyParts) →
    IsUnionOf base ours theirs book s → IsUnionOf base theirs ours book exchanged →
    shown_texts exchanged book key ≡ reverse (shown_texts s book key)

-- Of a key that neither side changed the text is that of BASE.
abbrev pub UnchangedStays : Type 0
UnchangedStays =
    (base ours theirs book : List ℕ) (s : State) (key : KeyParts) →
    IsUnionOf base ours theirs book s → text_at ours key ≡ text_at base key →
    text_at theirs key ≡ text_at base key →
    text_of s.held (segment book key) ≡ text_at base key

-- a merge of three texts that is not refused
pub record IsMergeOf (base ours theirs : List ℕ) (m : MergeParts) : Type 0 where
  pub base_text : IsUtf8 base
  pub theirs_text : IsUtf8 theirs
  pub is : merged base ours theirs ≡ Ok m

-- Equal sides give the book that both are.
abbrev pub EqualSidesGiveThem : Type 0
EqualSidesGiveThem =
    (base side : List ℕ) (m : MergeParts) → IsMergeOf base side side m →
    export m.replica.held m.book ≡ side

-- no key was changed by both sides
abbrev pub AreApart : List ℕ → List ℕ → List ℕ → Type 0
AreApart base ours theirs =
    (key : KeyParts) →
    (text_at ours key ≡ text_at base key) ⊎ (text_at theirs key ≡ text_at base key)

-- what a segment shows, by the texts of the three files there: the changed text alone
pub record ShowsChanged (base ours theirs : List ℕ) (shown : List (List ℕ)) : Type 0 where
  pub by_ours : ours ≢ base → shown ≡ ours ∷ []
  pub by_theirs : theirs ≢ base → shown ≡ theirs ∷ []
  pub by_neither : ours ≡ base → theirs ≡ base → ShowsAlone base shown

-- Where no key was changed by both sides, a merge has no conflict, and each segment has the text
-- of the side that changed it.
abbrev pub ApartHaveChanged : Type 0
ApartHaveChanged =
    (base ours theirs : List ℕ) (m : MergeParts) (key : KeyParts) →
    IsMergeOf base ours theirs m → AreApart base ours theirs →
    ShowsChanged (text_at base key) (text_at ours key) (text_at theirs key)
    (shown_texts m.replica m.book key)

-- Where THEIRS is BASE, the merge gives OURS.
abbrev pub OursAloneIsGiven : Type 0
OursAloneIsGiven =
    (base ours : List ℕ) (m : MergeParts) → IsMergeOf base ours base m →
    export m.replica.held m.book ≡ ours

-- Where OURS is BASE, the merge gives THEIRS.
abbrev pub TheirsAloneIsGiven : Type 0
TheirsAloneIsGiven =
    (base theirs : List ℕ) (m : MergeParts) → IsMergeOf base base theirs m →
    export m.replica.held m.book ≡ theirs
