-- What is kept of the verses of a chapter while they are walked over.
use Rattle.std.specs.Prelude.{◌≡◌, ◌≤◌, ◌<◌, ◌+◌, ◌-◌, ℕ, nat_eq, max, List, [], ◌∷◌, length, filter, slice_index_or, Vec, if◌then◌else◌}
use Rattle.std.specs.List.{AllByRecursion}
use Rattle.project_status.specs.declared.verses.Verse.{Verse}
use Rattle.versification.specs.Versifications.{Verses}
use Rattle.project_status.specs.Progress.{greatest, count_written, in_chapter, has_chapter, chapter_by_verses}
use Rattle.project_status.specs.declared.chapters.Chapter.{Chapter}
use Rattle.project_status.specs.declared.chapters.Tally.{Tally}

-- the greatest number of the verses, the greatest number that is written, and how many are written
abbrev pub tally_of : List Verse → Tally
tally_of vs = record {
  greatest = greatest vs;
  reached = greatest (filter (λ v. v.written) vs);
  written = count_written vs;
}

-- the chapter of a tally; none where it has no verse
abbrev pub chapter_by : ℕ → Tally → List Chapter
chapter_by c t =
    if nat_eq t.greatest 0 then []
    else record { chapter = c; written = t.written; verses = t.greatest } ∷ []

-- the chapter of some verses with their tally: by the versification, if that has it, or else by the
-- tally
abbrev pub chapter_with : Verses → List ℕ → ℕ → List Verse → Tally → List Chapter
chapter_with v book c vs t =
    if has_chapter v book c then chapter_by_verses v book c vs ∷ [] else chapter_by c t

-- what is kept of no verses
abbrev pub none_counted : Tally
none_counted = record { greatest = 0; reached = 0; written = 0 }

-- a tally with a verse more, which does not begin before those that were counted
abbrev pub with_verse : Tally → Verse → Tally
with_verse t v = record {
  greatest = max t.greatest v.last;
  reached = if v.written then max t.reached v.last else t.reached;
  written = if v.written then t.written + (v.last - max t.reached (v.first - 1)) else t.written;
}

-- each chapter below 1000 has the tally of its verses
abbrev pub AreTallies : {A : Type 0} → List Verse → Vec Tally A → Type 0
AreTallies vs tallies = (length tallies.items ≡ 1000)
    × ((c : ℕ) → c < 1000
    → slice_index_or tallies.items c none_counted ≡ tally_of (in_chapter c vs))

-- the second of two verses does not begin before the first, if they are of one chapter
abbrev pub Follows : Verse → Verse → Type 0
Follows v w = v.chapter ≡ w.chapter → v.first ≤ w.first

-- each verse follows all those before it
abbrev pub AreInTurn : List Verse → Type 0
AreInTurn [] = Unit {0}
AreInTurn (v ∷ vs) = AllByRecursion (Follows v) vs × AreInTurn vs
