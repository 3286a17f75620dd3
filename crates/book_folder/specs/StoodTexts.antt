-- The texts that files have, in a map by their segments.
use Rattle.std.specs.Prelude.{◌≡◌, ℕ, List, [], ◌∷◌, Option}
use Rattle.std.specs.BTreeMap.{BTreeMap, get}
use Rattle.std.specs.Borrow.{Bor}
use Rattle.std.specs.Option.{option_map, option_or}
use Rattle.usfm_ref.specs.Segments.{segment_cmp}
use Rattle.usfm_ref.specs.declared.segment.Segment.{Segment}
use Rattle.op_core.specs.Ops.{Operation}
use Rattle.book_folder.specs.Bases.{stood_text}
use Rattle.book_folder.specs.Taking.{StoodParts}

-- texts by segments
abbrev pub Texts : Type 0
Texts = BTreeMap Segment (Bor (List ℕ))

-- the text under an operation's segment
abbrev pub text_under : Texts → Operation → Option (List ℕ)
text_under texts o = option_map (λ t. t.now) (get segment_cmp texts o.segment)

-- each operation's text is the one that a file has for its segment
abbrev pub HasTexts : List StoodParts → Texts → Type 0
HasTexts stood texts = (o : Operation) → text_under texts o ≡ stood_text stood o

-- each operation's text is what it was, or else the one that a file has
abbrev pub PutsText : Texts → StoodParts → Texts → Type 0
PutsText before one after =
    (o : Operation) → text_under after o ≡ option_or (text_under before o) (stood_text (one ∷ []) o)
