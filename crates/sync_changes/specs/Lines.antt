-- What a sync changed, as lines (this project's own rule).
use Rattle.std.specs.Prelude.{ℕ, ◌-◌, nat_le, List, [], ◌∷◌, ◌++◌, length, take, codes, if◌then◌else◌}
use Rattle.std.specs.Fmt.{decimal}
use Rattle.std.specs.List.{flat_map}
use Rattle.usfm_ref.specs.References.{ref_text}
use Rattle.usfm_ref.specs.declared.segment.Segment.{Segment}
use Rattle.sync_changes.specs.Changes.{NamesParts, SyncParts}

-- names, each after a space
abbrev pub name_words : List (List ℕ) → List ℕ
name_words names = flat_map (λ name. 32 ∷ name) names

-- a word, a segment's reference, and names
abbrev pub names_line : List ℕ → Segment → List (List ℕ) → List ℕ
names_line word g names =
    word ++ 32 ∷ (ref_text g.book g.key ++ (name_words names ++ 10 ∷ []))

-- the line of a segment with names
abbrev pub named_line : List ℕ → NamesParts → List ℕ
named_line word c = names_line word c.segment c.names

-- the line of a segment that has no text any more
abbrev pub removed_line : Segment → List ℕ
removed_line g = names_line (codes "removed") g []

-- how many lines of a kind there are at most
abbrev pub most_lines : ℕ
most_lines = 20

-- how many lines more there were, if there were any
abbrev pub more_line : ℕ → List ℕ
more_line count =
    if nat_le count most_lines then []
    else codes ".. and " ++ (decimal (count - most_lines) ++ (codes " more" ++ 10 ∷ []))

-- the lines of the first of some items, and how many more there were
abbrev pub few_lines : {X : Type 0} → (X → List ℕ) → List X → List ℕ
few_lines line items = flat_map line (take most_lines items) ++ more_line (length items)

-- what a sync changed: a line for each segment of each kind
abbrev pub changes_text : SyncParts → List ℕ
changes_text c =
    few_lines (named_line (codes "came")) c.came
    ++ (few_lines removed_line c.removed ++ few_lines (named_line (codes "replaced")) c.replaced)
