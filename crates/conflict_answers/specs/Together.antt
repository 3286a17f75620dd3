-- Answers that are settled together, and what is told of them (this project's own rule).
use Rattle.std.specs.Prelude.{ℕ, Bool, true, false, List, [], ◌∷◌, ◌++◌, codes, count_by, Option, None, Some, Result, Ok, Err}
use Rattle.std.specs.Fmt.{decimal}
use Rattle.usfm_ref.specs.References.{ref_text}
use Rattle.usfm_ref.specs.declared.segment.Segment.{Segment}
use Rattle.replica_state.specs.States.{State}
use Rattle.replica_state.specs.declared.fault.EditFault.{EditFault}
use Rattle.conflict_answers.specs.Answers.{AnswerParts}
use Rattle.conflict_answers.specs.Spelling.{counted_lines}
use Rattle.conflict_answers.specs.Settling.{settled}
use Rattle.conflict_answers.specs.declared.settling.Settled.{Settled}
use Rattle.conflict_answers.specs.declared.settling.Settled.TheVariants.{Made, Left, NotNow}
use Rattle.conflict_answers.specs.declared.together.Settlement.{Settlement}

-- how far answers are settled: what the replica is, what was told of each, and the lines of that
pub record Together : Type 0 where
  pub after : State
  pub told : List Settled
  pub lines : List ℕ

-- what the replica is after all answers, and the text that tells of them
pub record Ended : Type 0 where
  pub after : State
  pub text : List ℕ

-- what a contract sees of them
abbrev pub ended_view : Result Settlement EditFault → Result Ended EditFault
ended_view (Ok s) = Ok (record { after = s.replica; text = s.text.items })
ended_view (Err fault) = Err fault

-- ---- what is told

-- `left REF` where an answer was left, and nothing else of what became of it
abbrev pub left_line : Segment → Settled → List ℕ
left_line g Left = codes "left " ++ (ref_text g.book g.key ++ 10 ∷ [])
left_line g (Made id) = []
left_line g NotNow = []

-- `remark REF`
abbrev pub remark_of : Segment → List ℕ
remark_of g = codes "remark " ++ ref_text g.book g.key

-- `remark REF LEN`, the remark as it stands, and a line feed, if there is one
abbrev pub said_lines : Segment → Option (List ℕ) → List ℕ
said_lines g None = []
said_lines g (Some text) = counted_lines (remark_of g) text

-- of an answer that it was left, and its remark
abbrev pub told_lines : AnswerParts → Settled → List ℕ
told_lines a told = left_line a.segment told ++ said_lines a.segment a.remark

-- an edit was made
abbrev pub is_made : Settled → Bool
is_made (Made id) = true
is_made Left = false
is_made NotNow = false

-- the answer was left
abbrev pub is_left : Settled → Bool
is_left Left = true
is_left (Made id) = false
is_left NotNow = false

-- `settled N` and `left N`: how many edits were made, and how many answers were left
abbrev pub count_lines : List Settled → List ℕ
count_lines told =
    codes "settled " ++ (decimal (count_by is_made told) ++ 10 ∷ (codes "left "
    ++ (decimal (count_by is_left told) ++ 10 ∷ [])))

-- ---- what answers make together

-- an answer is told after those before it, unless it is refused
abbrev pub with_answer : Together → AnswerParts → State → Result Settled EditFault →
    Result Together EditFault
with_answer t a after (Ok told) = Ok (record {
  after = after;
  told = t.told ++ told ∷ [];
  lines = t.lines ++ told_lines a told;
})
with_answer t a after (Err fault) = Err fault

-- one answer after those before it
abbrev pub next_settled : Together → AnswerParts → Result Together EditFault
next_settled t a = with_answer t a (settled t.after a).after (settled t.after a).told

-- what comes then, unless there is a refusal
abbrev pub unless_refused : {A : Type 0} → Result Together EditFault →
    (Together → Result A EditFault) → Result A EditFault
unless_refused (Ok t) later = later t
unless_refused (Err fault) later = Err fault

-- answers after those before them, up to the first that is refused
abbrev pub settled_on : Together → List AnswerParts → Result Together EditFault
settled_on t [] = Ok t
settled_on t (a ∷ answers) = unless_refused (next_settled t a) (λ next. settled_on next answers)

-- the counts after the lines
abbrev pub ended : Together → Result Ended EditFault
ended t = Ok (record { after = t.after; text = t.lines ++ count_lines t.told })

-- nothing is settled yet
abbrev pub begun : State → Together
begun s = record { after = s; told = []; lines = [] }

-- what answers make of a replica, one after another, and what is told of them; or the first
-- refusal, by which they all make nothing
abbrev pub settled_together : State → List AnswerParts → Result Ended EditFault
settled_together s answers = unless_refused (settled_on (begun s) answers) ended

-- what a step that ended so made: what there is then, or its fault
abbrev pub made_by : Together → Result (Unit {0}) EditFault → Result Together EditFault
made_by after (Ok done) = Ok after
made_by after (Err fault) = Err fault
