-- The kinds of parts that two texts are compared by, and their order: this project's own rule.
use Rattle.std.specs.Prelude.{Bool, true, false}
use Rattle.word_diff.specs.declared.part.Kind.{Kind}
use Rattle.word_diff.specs.declared.part.Kind.TheVariants.{Kept, Removed, Added}

-- what is kept or removed is in the old text
abbrev pub is_old : Kind → Bool
is_old Kept = true
is_old Removed = true
is_old Added = false

-- what is kept or added is in the new text
abbrev pub is_new : Kind → Bool
is_new Kept = true
is_new Removed = false
is_new Added = true

-- what is kept is in both
abbrev pub is_kept : Kind → Bool
is_kept Kept = true
is_kept Removed = false
is_kept Added = false

-- Whether a part of the second kind may come directly after one of the first: no two neighbours are
-- of one kind, and what is removed comes before what is added in its place.
abbrev pub may_follow : Kind → Kind → Bool
may_follow Kept Kept = false
may_follow Kept Removed = true
may_follow Kept Added = true
may_follow Removed Kept = true
may_follow Removed Removed = false
may_follow Removed Added = true
may_follow Added Kept = true
may_follow Added Removed = false
may_follow Added Added = false
