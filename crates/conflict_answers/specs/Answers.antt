-- Answers to conflicts, and which of them may travel (this project's own format).
use Rattle.std.specs.Prelude.{ℕ, ◌≤◌, ◌<◌, ◌^◌, Bool, true, not, ◌&&◌, IsTrue, List, [], ◌∷◌, map, length, Option, None, Some, option_map}
use Rattle.std.specs.List.{AllByRecursion, list_all}
use Rattle.std.specs.Str.{IsUtf8}
use Rattle.usfm_ref.specs.Books.{is_book_code}
use Rattle.usfm_ref.specs.Keys.{is_key}
use Rattle.usfm_ref.specs.declared.segment.Segment.{Segment}
use Rattle.op_core.specs.Ids.{Id, is_id}
use Rattle.op_core.specs.NextIds.{is_among}
use Rattle.conflict_answers.specs.declared.answer.Answer.{Answer}
use Rattle.conflict_answers.specs.declared.answer.Choice.{Choice}
use Rattle.conflict_answers.specs.declared.answer.Choice.TheVariants.{Take, Own, NotNow}

-- what a person chose for a conflict: the text of one of its ids, a text of one's own, or nothing
-- yet
pub data Chosen : Type 0 where
  taken : (id : Id) → Chosen
  own : (text : List ℕ) → Chosen
  not_now : Chosen

-- an answer: the segment in conflict, the ids that stood on the page, what was chosen, and a remark
pub record AnswerParts : Type 0 where
  pub segment : Segment
  pub ids : List Id
  pub chosen : Chosen
  pub remark : Option (List ℕ)

-- what a choice is, and not where its text lies in memory
abbrev pub chosen : Choice → Chosen
chosen (Take id) = taken id
chosen (Own text) = own text.now
chosen NotNow = not_now

-- what an answer is, and not where it lies in memory
abbrev pub view : Answer → AnswerParts
view a = record {
  segment = a.segment;
  ids = a.ids.items;
  chosen = chosen a.choice;
  remark = option_map (λ t. t.now) a.remark;
}

-- answers, and not where they lie in memory
abbrev pub views : List Answer → List AnswerParts
views answers = map view answers

-- ---- which may travel

-- no id stands twice
abbrev pub are_apart : List Id → Bool
are_apart [] = true
are_apart (id ∷ ids) = not (is_among ids id) && are_apart ids

-- a segment within its ranges, and at least two ids within theirs, each once
pub record IsConflict (g : Segment) (ids : List Id) : Type 0 where
  pub book : IsTrue (is_book_code g.book)
  pub key : IsTrue (is_key g.key.chapter g.key.place)
  pub valid : IsTrue (list_all is_id ids)
  pub apart : IsTrue (are_apart ids)
  pub two : 2 ≤ length ids

-- UTF-8 whose bytes can be counted
pub record IsText (text : List ℕ) : Type 0 where
  pub utf8 : IsUtf8 text
  pub short : length text < 2 ^ 64

-- the id is one of those of the conflict, and a text is one
abbrev pub MayBeChosen : List Id → Chosen → Type 0
MayBeChosen ids (taken id) = IsTrue (is_among ids id)
MayBeChosen ids (own text) = IsText text
MayBeChosen ids not_now = Unit {0}

-- a remark, if there is one, is a text
abbrev pub MayBeRemark : Option (List ℕ) → Type 0
MayBeRemark None = Unit {0}
MayBeRemark (Some text) = IsText text

-- an answer that may travel
pub record IsAnswer (a : AnswerParts) : Type 0 where
  pub conflict : IsConflict a.segment a.ids
  pub chosen : MayBeChosen a.ids a.chosen
  pub remark : MayBeRemark a.remark

-- each of them may
abbrev pub AreAnswers : List AnswerParts → Type 0
AreAnswers answers = AllByRecursion IsAnswer answers
