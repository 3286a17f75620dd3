-- What holds of the findings in all texts, by whatever records.
use Rattle.std.specs.Prelude.{◌≡◌, ℕ, ◌<◌, ◌≤◌, List, ◌∷◌, ◌++◌, length, map, None, true}
use Rattle.std.specs.List.{All, AllPairs}
use Rattle.usfm_token.specs.Tokens.{Lexeme, joined, tokens_of}
use Rattle.usfm_tree.specs.Reading.{most_open}
use Rattle.segment_check.specs.TreeConditions.{may_begin}
use Rattle.sty_sheet.specs.Records.{Record}
use Rattle.segment_check.specs.Spots.{Spot}
use Rattle.segment_check.specs.Findings.{findings, spots_of}
use Rattle.segment_check.specs.Reading.{found_in, seen_at}
use Rattle.segment_check.specs.Sights.{sights_of}
use Rattle.segment_check.specs.declared.code.Code.{Code}
use Rattle.segment_check.specs.declared.code.Code.TheVariants as code

-- the reading of the marks from the left, with what the tree says of them, gives the findings
abbrev pub FindingsAreRead : Type 0
FindingsAreRead =
    (sheet : List Record) (s : List ℕ)
    → found_in (map (seen_at sheet) (sights_of sheet s)) s ≡ findings sheet s

-- the starts of findings never fall
abbrev pub StartsNeverFall : Type 0
StartsNeverFall =
    (sheet : List Record) (s : List ℕ)
    → AllPairs (λ a b. a.start ≤ b.start) (findings sheet s)

-- the place of a code in the list of codes
abbrev pub code_rank : Code → ℕ
code_rank code.UnknownMarker = 0
code_rank code.StrayClose = 1
code_rank code.UnclosedChar = 2
code_rank code.UnclosedNote = 3
code_rank code.TooDeep = 4
code_rank code.BadNumber = 5
code_rank code.BadBridge = 6
code_rank code.NotRising = 7
code_rank code.Overlap = 8
code_rank code.NotUnder = 9

-- at one start the codes rise
abbrev pub CodesRise : Type 0
CodesRise =
    (sheet : List Record) (s : List ℕ)
    → AllPairs (λ a b. a.start ≡ b.start → code_rank a.code < code_rank b.code) (findings sheet s)

-- no two findings have one start and one code
abbrev pub NoTwoAlike : Type 0
NoTwoAlike =
    (sheet : List Record) (s : List ℕ)
    → AllPairs (λ a b. a.start ≡ b.start → a.code ≡ b.code → ⊥) (findings sheet s)

-- A token of a text begins at a place: after the tokens before it.
pub record IsTokenStart (s : List ℕ) (at : ℕ) : Type 0 where
  pub before : List Lexeme
  pub token : Lexeme
  pub after : List Lexeme
  pub tokens_are : tokens_of s ≡ before ++ token ∷ after
  pub start_is : at ≡ length (joined before)

-- each finding starts where a token does
abbrev pub StartsAreTokens : Type 0
StartsAreTokens =
    (sheet : List Record) (s : List ℕ)
    → All (λ f. IsTokenStart s f.start) (findings sheet s)

-- a leaf whose mark begins a node is within as many nodes as may be one in the other
abbrev pub IsLeftOutForDepth : List Record → Spot → Type 0
IsLeftOutForDepth sheet x =
    x.node ≡ None → may_begin sheet x.mark ≡ true → most_open ≤ length x.around

-- each leaf of a tree that might have begun a node was left out for its depth
abbrev pub LeavesAreTooDeep : Type 0
LeavesAreTooDeep =
    (sheet : List Record) (s : List ℕ) → All (IsLeftOutForDepth sheet) (spots_of sheet s)
