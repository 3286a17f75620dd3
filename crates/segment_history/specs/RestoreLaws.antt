-- Laws of texts that are had back (this project's own rule).
use Rattle.std.specs.Prelude.{◌≡◌, ℕ, false, List, [], ◌∷◌, ◌++◌, Some, map}
use Rattle.std.specs.List.{list_any, AllByRecursion}
use Rattle.usfm_ref.specs.Segments.{same_segment}
use Rattle.usfm_ref.specs.declared.segment.Segment.{Segment}
use Rattle.op_core.specs.Ids.{Id}
use Rattle.op_core.specs.Lists.{is_held, shown_ids}
use Rattle.op_core.specs.Ops.{Operation, names}
use Rattle.op_core.specs.Shown.{shown, text_of}
use Rattle.segment_history.specs.Restores.{RestoredParts, restored_text}

-- An edit's id: no operation has it, and none names it.
pub record IsNew (held : List Operation) (id : Id) : Type 0 where
  pub unheld : is_held held id ≡ false
  pub unnamed : list_any (λ o. names o id) held ≡ false

-- the operation that an edit makes under an id
abbrev pub made_by : Id → RestoredParts → Operation
made_by id r = record { id = id; segment = r.segment; replaced = r.ids; text = Some r.text }

-- a set after the edit that gives a segment a text, if one is made, under an id above all others
abbrev pub after : List Operation → Id → Segment → List ℕ → List Operation
after held id g text = held ++ map (made_by id) (restored_text held g text)

-- An edit names exactly what its segment shows.
abbrev pub RestoredOverShown : Type 0
RestoredOverShown = (held : List Operation) (g : Segment) (text : List ℕ) →
    AllByRecursion (λ r. r.ids ≡ shown_ids held g) (restored_text held g text)

-- The segment then has the text.
abbrev pub RestoredIsPicked : Type 0
RestoredIsPicked = (held : List Operation) (g : Segment) (text : List ℕ) (id : Id) →
    IsNew held id → text_of (after held id g text) g ≡ text

-- Where an edit is made, the segment then shows it alone.
abbrev pub RestoredIsAlone : Type 0
RestoredIsAlone = (held : List Operation) (g : Segment) (text : List ℕ) (id : Id) →
    IsNew held id →
    AllByRecursion (λ r. shown (held ++ made_by id r ∷ []) g ≡ made_by id r ∷ [])
    (restored_text held g text)

-- Another segment shows what it showed.
abbrev pub OthersStay : Type 0
OthersStay = (held : List Operation) (g h : Segment) (text : List ℕ) (id : Id) →
    same_segment g h ≡ false → shown (after held id g text) h ≡ shown held h

-- Had back again, it makes no edit.
abbrev pub RestoredOnce : Type 0
RestoredOnce = (held : List Operation) (g : Segment) (text : List ℕ) (id : Id) →
    IsNew held id → restored_text (after held id g text) g text ≡ []
