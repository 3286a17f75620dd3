-- The chapters of a reading (this project's own rule).
use Rattle.std.specs.Prelude.{Bool, false, List, [], ◌∷◌, if◌then◌else◌}
use Rattle.book_reading.specs.Readings.{RunParts, starts_chapter}

-- the first of these runs is the mark of a chapter
abbrev pub has_mark : List RunParts → Bool
has_mark [] = false
has_mark (r ∷ rs) = starts_chapter r

-- a run before chapters: it is a chapter of its own where there is none, or the first of them
-- begins with its mark; else it goes in front of what the first has
abbrev pub onto_chapters : RunParts → List (List RunParts) → List (List RunParts)
onto_chapters r [] = (r ∷ []) ∷ []
onto_chapters r (c ∷ cs) = if has_mark c then (r ∷ []) ∷ c ∷ cs else (r ∷ c) ∷ cs

-- the chapters of runs: each begins with a chapter's mark, but for one before all these marks
abbrev pub chapters_of : List RunParts → List (List RunParts)
chapters_of [] = []
chapters_of (r ∷ rs) = onto_chapters r (chapters_of rs)
