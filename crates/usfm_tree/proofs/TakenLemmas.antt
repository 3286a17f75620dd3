-- What a milestone takes.
use Rattle.std.proofs.Common.{◌≡◌, ℕ, ◌-◌, ◌<◌, ◌≤◌, lt-ltb, le-ltb, Bool, true, false, cond, List, [], ◌∷◌, ◌++◌, length, Option, None, Some, sym, refl, ap, ◌∙◌, arith}
use Rattle.std.specs.Prelude.{◌&&◌, not}
use Rattle.std.specs.Str.{bytes_eq}
use Rattle.usfm_token.specs.Tokens.{MarkParts, Lexeme, mark, words, mark_bytes, tokens_of}
use Rattle.usfm_tree.proofs.SpanLemmas.{bytes_text, span_front}
use Rattle.usfm_tree.specs.Forest.{Forest, nothing, text, leaf, spanning, bytes_of, close_bytes, span_bytes, ◌then◌}
use Rattle.usfm_tree.specs.Reading.{Placed, placed, Taken, Taken_none, take_bare, milestone_takes, bare, is_bare_close, spans}
use Rattle.sty_sheet.specs.declared.kind.StyleKind.TheVariants as kinds
use Rattle.usfm_tree.specs.Loops.Stack.{Frame, opens_of, resume}
use Rattle.usfm_tree.proofs.ReadingLemmas.{resume-deep_span, resume-span}
use Rattle.usfm_tree.specs.Loops.TakenViews.{left_of, optional_text, EntersTo}
use Rattle.usfm_tree.proofs.ReaderLemmas.{left_front}
use Rattle.usfm_token.proofs.Walk.{token_front}

bare_parts : (n c : Bool) (w : List ℕ) → (c && (not n && bytes_eq w [])) ≡ true
    → ◌≡◌ {A = MarkParts} (record { nested = n; name = w; closing = c }) bare
bare_parts false true [] h = refl
bare_parts false true (x ∷ w) h = absurd (cc)
bare_parts true true w h = absurd (cc)
bare_parts n false w h = absurd (cc)

bare_is : (m : MarkParts) → is_bare_close (mark m) ≡ true → m ≡ bare
bare_is m h = bare_parts m.nested m.closing m.name h

abbrev Left : ℕ → List ℕ → List ℕ → Lexeme → Type 0
Left n rest after t = (left_of n rest ≡ record { start = n - length rest; token = t } ∷ left_of n after) × (length after ≤ n)

-- nothing is left
pub takes_none : (n : ℕ) (rest : List ℕ) → tokens_of rest ≡ [] → milestone_takes (left_of n rest) ≡ Taken_none (left_of n rest)
takes_none n rest h = ap (λ l. milestone_takes (placed (n - length rest) l)) h ∙ sym (ap (λ l. Taken_none (placed (n - length rest) l)) h)

-- a mark in front
pub takes_mark : (n : ℕ) (rest after : List ℕ) (m : MarkParts) → tokens_of rest ≡ mark m ∷ tokens_of after → length rest ≤ n
    → milestone_takes (left_of n rest)
    ≡ cond (is_bare_close (mark m)) (record { kids = nothing; close = Some bare; rest = left_of n after }) (Taken_none (left_of n rest))
takes_mark n rest after m h within =
    let f = (left_front n rest after (mark m) h within).0 in
    ap milestone_takes f ∙ sym
    (ap (λ l. cond (is_bare_close (mark m)) (record { kids = nothing; close = Some bare; rest = left_of n after }) (Taken_none l)) f)

-- a text in front, and nothing after it
pub takes_text : (n : ℕ) (rest after : List ℕ) (t : List ℕ) → tokens_of rest ≡ words t ∷ tokens_of after → length rest ≤ n
    → milestone_takes (left_of n rest) ≡ take_bare (left_of n rest) (text (n - length rest) t nothing) (left_of n after)
takes_text n rest after t h within =
    let f = (left_front n rest after (words t) h within).0 in
    ap milestone_takes f ∙ sym (ap (λ l. take_bare l (text (n - length rest) t nothing) (left_of n after)) f)

-- at the end of the text nothing is taken
pub bare_none : (n : ℕ) (after : List ℕ) (whole : List Placed) (k : Forest) → tokens_of after ≡ []
    → take_bare whole k (left_of n after) ≡ Taken_none whole
bare_none n after whole k h = ap (λ l. take_bare whole k (placed (n - length after) l)) h

-- of tokens the first is taken where it is a bare closing mark
pub bare_front : (n : ℕ) (after later : List ℕ) (t : Lexeme) (whole : List Placed) (k : Forest) → tokens_of after ≡ t ∷ tokens_of later
    → length after ≤ n → take_bare whole k (left_of n after)
    ≡ cond (is_bare_close t) (record { kids = k; close = Some bare; rest = left_of n later }) (Taken_none whole)
bare_front n after later t whole k h within = ap (take_bare whole k) (left_front n after later t h within).0

-- a list that another begins with is no longer
pub shorter : (rest after : List ℕ) (t : Lexeme) → tokens_of rest ≡ t ∷ tokens_of after
    → (length after ≤ length rest) × (length (tokens_of after) ≤ length (tokens_of rest))
shorter rest after t h = ((left_front (length rest) rest after t h (omega arith)).1, omega (arith, ap length h))

-- The outcomes.

abbrev made : Option (List ℕ) → Option MarkParts → ℕ → List ℕ → List ℕ → Taken
made t c n rest after = record { kids = optional_text (n - length rest) t; close = c; rest = left_of n after }

abbrev Outcome : List ℕ → Option (List ℕ) → Option MarkParts → List ℕ → Type 0
Outcome rest t c after =
    (n : ℕ) → length rest ≤ n →
    (milestone_takes (left_of n rest) ≡ made t c n rest after)
    × (rest ≡ bytes_of (optional_text 0 t) ++ (close_bytes c ++ after))
    × (length after ≤ length rest)
    × (length (tokens_of after) ≤ length (tokens_of rest))

-- at the end of the text a milestone takes nothing
pub outcome_none : (rest : List ℕ) → tokens_of rest ≡ [] → Outcome rest None None rest
outcome_none rest h n within = (takes_none n rest h, refl, omega arith, omega arith)

-- nor does it before a mark that is no bare closing mark
pub outcome_other : (rest after : List ℕ) (m : MarkParts) → tokens_of rest ≡ mark m ∷ tokens_of after → is_bare_close (mark m) ≡ false
    → Outcome rest None None rest
outcome_other rest after m h other n within = (
  takes_mark n rest after m h within
      ∙ ap (λ b. cond b (record { kids = nothing; close = Some bare; rest = left_of n after })
      (Taken_none (left_of n rest))) other,
  refl,
  omega arith,
  omega arith,
)

-- it takes a bare closing mark that follows it
pub outcome_bare : (rest after : List ℕ) (m : MarkParts) → tokens_of rest ≡ mark m ∷ tokens_of after → is_bare_close (mark m) ≡ true
    → Outcome rest None (Some m) after
outcome_bare rest after m h is n within =
    let s = shorter rest after (mark m) h in (
      takes_mark n rest after m h within
          ∙ ap (λ b. cond b (record { kids = nothing; close = Some bare; rest = left_of n after }) (Taken_none (left_of n rest))) is
          ∙ ap (λ c. made None (Some c) n rest after) (sym (bare_is m is)),
      token_front rest after (mark m) h,
      s.0,
      s.1,
    )

-- it takes no text at the end
pub outcome_text_end : (rest after t : List ℕ) → tokens_of rest ≡ words t ∷ tokens_of after → tokens_of after ≡ []
    → Outcome rest None None rest
outcome_text_end rest after t h none n within = (
  takes_text n rest after t h within
      ∙ bare_none n after (left_of n rest) (text (n - length rest) t nothing) none,
  refl,
  omega arith,
  omega arith,
)

-- nor one before another token than a bare closing mark
pub outcome_text_other : (rest after later t : List ℕ) (x : Lexeme) → tokens_of rest ≡ words t ∷ tokens_of after
    → tokens_of after ≡ x ∷ tokens_of later → is_bare_close x ≡ false → Outcome rest None None rest
outcome_text_other rest after later t x h h2 other n within = (
  takes_text n rest after t h within
      ∙ bare_front n after later x (left_of n rest) (text (n - length rest) t nothing) h2 (left_front n rest after (words t) h within).1
      ∙ ap (λ b. cond b (record { kids = text (n - length rest) t nothing; close = Some bare; rest = left_of n later })
      (Taken_none (left_of n rest))) other,
  refl,
  omega arith,
  omega arith,
)

-- it takes a text and the bare closing mark after it
pub outcome_text_bare : (rest after later t : List ℕ) (m : MarkParts) → tokens_of rest ≡ words t ∷ tokens_of after
    → tokens_of after ≡ mark m ∷ tokens_of later → is_bare_close (mark m) ≡ true → Outcome rest (Some t) (Some m) later
outcome_text_bare rest after later t m h h2 is n within =
    let s = shorter rest after (words t) h in
    let s2 = shorter after later (mark m) h2 in (
      takes_text n rest after t h within
          ∙ bare_front n after later (mark m) (left_of n rest) (text (n - length rest) t nothing) h2
          (left_front n rest after (words t) h within).1
          ∙ ap (λ b. cond b (record { kids = text (n - length rest) t nothing; close = Some bare; rest = left_of n later })
          (Taken_none (left_of n rest))) is
          ∙ ap (λ c. made (Some t) (Some c) n rest later) (sym (bare_is m is)),
      token_front rest after (words t) h ∙ ap (λ x. t ++ x) (token_front after later (mark m) h2)
          ∙ ap (λ x. x ++ (mark_bytes m ++ later)) (sym (bytes_text 0 t)),
      omega (arith, s.0, s2.0),
      omega (arith, s.1, s2.1),
    )

-- A milestone mark, and where the reading goes on.

-- a milestone that would be too deep is a leaf
pub span_deep : (start end : ℕ) (m : MarkParts) (rest : List ℕ) (sofar new_sofar : Forest) (fs new_fs : List Frame)
    → 64 ≤ length (opens_of fs) → new_sofar ≡ sofar then leaf start m nothing → new_fs ≡ fs
    → EntersTo (spans m) start end rest rest sofar fs new_sofar new_fs
span_deep start end m rest sofar new_sofar fs new_fs full e f styles t is at =
    resume-deep_span styles sofar fs t (left_of end rest) m is (le-ltb _ _ full)
    ∙ (λ i. resume styles (sofar then leaf (at i) m nothing) fs (left_of end rest))
    ∙ (λ i. resume styles (sym e i) (sym f i) (left_of end rest))

-- any other is a node with what it takes
pub span_node : (start end : ℕ) (m : MarkParts) (rest after : List ℕ) (kids : Forest) (close : Option MarkParts) (sofar new_sofar : Forest)
    (fs new_fs : List Frame) → length (opens_of fs) < 64
    → milestone_takes (left_of end rest) ≡ record { kids = kids; close = close; rest = left_of end after }
    → new_sofar ≡ sofar then spanning kinds.Milestone start m kids close nothing → new_fs ≡ fs
    → EntersTo (spans m) start end rest after sofar fs new_sofar new_fs
span_node start end m rest after kids close sofar new_sofar fs new_fs room takes e f styles t is at =
    resume-span styles sofar fs t (left_of end rest) m is (lt-ltb _ _ room)
    ∙ (λ i. resume styles (sofar then spanning kinds.Milestone (at i) m (takes i).kids (takes i).close nothing) fs (takes i).rest)
    ∙ (λ i. resume styles (sym e i) (sym f i) (left_of end after))

optional_bytes : (i j : ℕ) (t : Option (List ℕ)) → bytes_of (optional_text i t) ≡ bytes_of (optional_text j t)
optional_bytes i j None = refl
optional_bytes i j (Some t) = refl

-- a milestone's bytes, and what is left
pub milestone_front : (at rest : List ℕ) (m : MarkParts) (place : ℕ) (t : Option (List ℕ)) (c : Option MarkParts) (after : List ℕ)
    → at ≡ mark_bytes m ++ rest → rest ≡ bytes_of (optional_text 0 t) ++ (close_bytes c ++ after)
    → at ≡ span_bytes m (optional_text place t) c ++ after
milestone_front at rest m place t c after h taken =
    span_front at (mark_bytes m) (bytes_of (optional_text place t)) (close_bytes c) after
    (h ∙ ap (λ x. mark_bytes m ++ x) (taken ∙ ap (λ x. x ++ (close_bytes c ++ after)) (optional_bytes 0 place t)))
