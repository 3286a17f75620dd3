-- The first line of a text (this project's own rule).
use Rattle.std.specs.Prelude.{◌≡◌, ◌≢◌, ◌⊎◌, ℕ, Bool, false, ◌==◌, List, [], ◌∷◌, ◌++◌}
use Rattle.std.specs.List.{list_any}
use Rattle.line_editing.specs.declared.line.TextLine.{TextLine}

-- a line: what it says, and how it ends
pub record LineParts : Type 0 where
  pub body : List ℕ
  pub end : List ℕ

-- a line, as a contract sees it
abbrev pub line_view : TextLine → LineParts
line_view line = record { body = line.body.now; end = line.end.now }

-- whether bytes have a line feed
abbrev pub has_line_feed : List ℕ → Bool
has_line_feed bytes = list_any (λ b. b == 10) bytes

-- How the first line of a text ends before what comes later: in CR LF; in LF, where no CR stands
-- before that; or in nothing, where nothing comes later.
abbrev pub EndsSo : LineParts → List ℕ → Type 0
EndsSo line later =
    (line.end ≡ 13 ∷ 10 ∷ [])
    ⊎ ((line.end ≡ 10 ∷ []) × ((front : List ℕ) → line.body ≢ front ++ 13 ∷ []))
    ⊎ ((line.end ≡ []) × (later ≡ []))

-- A line before a line feed: a CR at its end belongs to the line end.
abbrev pub IsEndedLine : List ℕ → LineParts → Type 0
IsEndedLine bytes line =
    ((line.end ≡ 13 ∷ 10 ∷ []) × (bytes ≡ line.body ++ 13 ∷ []))
    ⊎ ((line.end ≡ 10 ∷ []) × (bytes ≡ line.body) × ((front : List ℕ) → bytes ≢ front ++ 13 ∷ []))

-- A text is its first line and what comes later: together they are the text, and what the line says
-- has no line feed.
pub record IsFirstLine (text : List ℕ) (line : LineParts) (later : List ℕ) : Type 0 where
  pub joins : text ≡ line.body ++ line.end ++ later
  pub one : has_line_feed line.body ≡ false
  pub ends : EndsSo line later
