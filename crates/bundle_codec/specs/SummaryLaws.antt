-- Laws of summaries and of what lies outside one.
use Rattle.std.specs.Prelude.{◌≡◌, ◌<◌, ◌^◌, List, [], length, None, IsTrue}
use Rattle.op_core.specs.Ops.{Operation}
use Rattle.op_core.specs.Sets.{IsOpSet, join, clash}
use Rattle.op_core.specs.Thinned.{all_full, is_legal, skeleton}
use Rattle.bundle_codec.specs.Summaries.{NameRanges, IsSummary, IsSummaryOf, summary_of, summary, outside}

-- the summary of a set covers exactly its ids, by ranges as long as can be
abbrev pub SummaryCoversItsIds : Type 0
SummaryCoversItsIds = (held : List Operation) → IsOpSet held → IsSummaryOf held (summary_of held)

-- a set has one summary
abbrev pub OneSummaryOfASet : Type 0
OneSummaryOfASet =
    (held : List Operation) (a b : List NameRanges) → IsSummaryOf held a → IsSummaryOf held b →
    a ≡ b

-- one summary has one spelling, and one spelling is of one summary
abbrev pub OneSpellingOfASummary : Type 0
OneSpellingOfASummary =
    (a b : List NameRanges) → IsSummary a → IsSummary b → length (summary a) < 2 ^ 64 →
    summary a ≡ summary b → a ≡ b

-- What a set without thinned operations has outside the summary of another one, joined to that one,
-- gives the union of both, and never clashes.
abbrev pub OutsideGivesUnion : Type 0
OutsideGivesUnion =
    (own other : List Operation) (s : List NameRanges) →
    IsOpSet own → IsOpSet other → IsTrue (all_full own) → IsSummaryOf other s →
    (join other (outside s own) ≡ join other own) × (clash other (outside s own) ≡ None)

-- Where two sets do not clash, what the one has outside the summary of the other, joined to that
-- one, does not clash either, and gives the union of both but for texts that are left out.
abbrev pub OutsideGivesSkeleton : Type 0
OutsideGivesSkeleton =
    (own other : List Operation) (s : List NameRanges) →
    IsOpSet own → IsOpSet other → clash other own ≡ None → IsSummaryOf other s →
    (skeleton (join other (outside s own)) ≡ skeleton (join other own))
    × (clash other (outside s own) ≡ None)

-- what a legal set has outside a summary is legal
abbrev pub OutsideIsLegal : Type 0
OutsideIsLegal =
    (own : List Operation) (s : List NameRanges) →
    IsOpSet own → IsTrue (is_legal own) → IsTrue (is_legal (outside s own))

-- nothing of a set lies outside its own summary
abbrev pub NothingOutsideOwn : Type 0
NothingOutsideOwn =
    (held : List Operation) (s : List NameRanges) → IsOpSet held → IsSummaryOf held s
    → outside s held ≡ []
