-- The leaves that a walk gathers are those of the reading of the tree.
use Rattle.sty_sheet.specs.declared.kind.StyleKind.TheVariants as kinds
use Rattle.std.proofs.Common.{◌≡◌, ℕ, zero, suc, ◌+◌, ◌<◌, Bool, true, false, cond, List}
use Rattle.std.proofs.Common.{[], ◌∷◌, ◌++◌, drop, Option, None, Some, refl}
use Rattle.std.proofs.Common.{sym, ap, ◌∙◌, append_assoc, arith}
use Rattle.std.specs.Borrow.{Bor}
use Rattle.std.specs.Option.{option_map}
use Rattle.std.specs.Prelude.{is_some, not, ◌&&◌}
use Rattle.sty_sheet.specs.Records.{Record}
use Rattle.usfm_token.specs.Tokens.{MarkParts}
use Rattle.usfm_tree.specs.Events.{Event, begins, ends, events_before, events_of, ends_before}
use Rattle.usfm_tree.specs.Forest.{Forest, nothing, text, leaf, node}
use Rattle.usfm_tree.specs.StepViews.{entry_before, placed_text}
use Rattle.usfm_tree.specs.declared.step.Entry.{Entry}
use Rattle.usfm_tree.specs.declared.step.Entry.TheVariants as entries
use Rattle.concordance.specs.Loops.Gathered.{root, enclosed, counted, settled, closes_character}
use Rattle.concordance.specs.Loops.Gathered.{milestone_end, gathered, EventsFit, EntryFits}
use Rattle.concordance.specs.Passages.{Passage}
use Rattle.concordance.specs.Plain.{is_nothing, node_end, mark_at_end, number_length}
use Rattle.concordance.specs.Loops.Reading.{Surroundings, inside_of, left_of, with_text}
use Rattle.concordance.specs.Loops.Reading.{leaves_from, TextsFit}
use Rattle.concordance.specs.declared.plain.Enclosure.{Enclosure}

-- ---- the walk is the reading

-- what a node and those around it say of a text in it, where the node ends with its closing mark or without one
abbrev said : Enclosure → Bool → Surroundings
said e closed = record { in_verse_text = e.in_verse_text; in_aside = e.in_aside; in_closed = e.is_character && closed }

closes_is : (e : Enclosure) (c : Option MarkParts) → closes_character e c ≡ (e.is_character && is_some c)
closes_is e c = by e.is_character c
  where
    by : (is : Bool) (c : Option MarkParts)
        → closes_character (record { in_verse_text = e.in_verse_text; in_aside = e.in_aside; is_character = is }) c ≡ (is && is_some c)
    by true None = refl
    by false None = refl
    by true (Some m) = refl
    by false (Some m) = refl

-- a text before what follows it
text_settled : (e : Enclosure) (b : Option MarkParts) (last closed : Bool) (s : ℕ) (t : List ℕ) (later rest : List Passage)
    → settled (last && (e.is_character && closed)) (counted e b s t) (later ++ rest)
    ≡ with_text (said e closed) b last s t later ++ rest
text_settled e b last closed s t later rest = by e.in_verse_text e.in_aside
  where
    by : (verse aside : Bool)
        → settled (last && (e.is_character && closed))
        (cond (not aside && verse) (Some (record { start = s + number_length b t; text = drop (number_length b t) t })) None)
        (later ++ rest)
        ≡ cond (verse && not aside) (left_of (said e closed) b last s t ∷ later) later ++ rest
    by true true = refl
    by true false = refl
    by false true = refl
    by false false = refl

none_settled : (b : Bool) (later : List Passage) → settled b None later ≡ later
none_settled b later = refl

-- inside a node, up to its end
module _ (sheet : List Record) where
  inside : (e : Enclosure) (es : List Enclosure) (b : Option MarkParts) (w : Option Passage) (f : Forest)
      → (c : Option MarkParts) (later : List Event)
      → gathered sheet (e ∷ es) b w (events_before f (ends c ∷ later))
      ≡ settled (is_nothing f && (e.is_character && is_some c)) w
      (leaves_from sheet (said e (is_some c)) b f ++ gathered sheet es (node_end (mark_at_end b f) c) None later)
  inside e es b w nothing c later = ap (λ x. settled x w (gathered sheet es (node_end b c) None later)) (closes_is e c)
  inside e es b w (text s t f) c later =
      ap (settled false w) (inside e es None (counted e b s t) f c later
      ∙ text_settled e b (is_nothing f) (is_some c) s t (leaves_from sheet (said e (is_some c)) None f)
      (gathered sheet es (node_end (mark_at_end None f) c) None later))
  inside e es b w (leaf s m f) c later = ap (settled false w) (inside e es (Some m) None f c later)
  inside e es b w (node k s x m ks c' f) c later =
      let inner = enclosed sheet e k m in
      let end = node_end (mark_at_end (Some m) ks) c' in
      let kids = leaves_from sheet (said inner (is_some c')) (Some m) ks in
      let after = leaves_from sheet (said e (is_some c)) end f in
      let rest = gathered sheet es (node_end (mark_at_end end f) c) None later in
      ap (settled false w) (inside inner (e ∷ es) (Some m) None ks c' (events_before f (ends c ∷ later))
      ∙ ap (λ l. kids ++ l) (inside e es end None f c later) ∙ sym (append_assoc kids after rest))

  -- under the root
  pub whole : (b : Option MarkParts) (f : Forest)
      → gathered sheet [] b None (events_of f) ≡ leaves_from sheet (inside_of sheet []) b f
  whole b nothing = refl
  whole b (text s t f) = whole None f
  whole b (leaf s m f) = whole (Some m) f
  whole b (node k s x m ks c f) =
      let inner = enclosed sheet root k m in
      let end = node_end (mark_at_end (Some m) ks) c in
      inside inner [] (Some m) None ks c (events_of f)
      ∙ ap (λ l. leaves_from sheet (said inner (is_some c)) (Some m) ks ++ l) (whole end f)

  -- ---- the ends of nodes without closing marks

  ends_taken : (n : ℕ) (es : List Enclosure) (b : Option MarkParts) (later : List Event)
      → gathered sheet es b None (ends_before n later) ≡ gathered sheet (drop n es) b None later
  ends_taken zero es b later = refl
  ends_taken (suc n) [] b later = ends_taken n [] b later ∙ ap (λ l. gathered sheet l b None later) (none_left n)
    where
      none_left : (n : ℕ) → drop {A = Enclosure} n [] ≡ drop (suc n) []
      none_left zero = refl
      none_left (suc n) = refl
  ends_taken (suc n) (e ∷ es) b later = ends_taken n es b later

  ends_settle : (n : ℕ) (es : List Enclosure) (b : Option MarkParts) (w : Option Passage) (later : List Event)
      → gathered sheet es b w (ends_before (suc n) later) ≡ settled false w (gathered sheet (drop (suc n) es) b None later)
  ends_settle n [] b w later = ap (settled false w) (ends_taken n [] b later ∙ ap (λ l. gathered sheet l b None later) (none_left n))
    where
      none_left : (n : ℕ) → drop {A = Enclosure} n [] ≡ drop (suc n) []
      none_left zero = refl
      none_left (suc n) = refl
  ends_settle n (e ∷ es) b w later = ap (settled false w) (ends_taken n es b later)

  -- some nodes end
  pub some_end : (n : ℕ) (es : List Enclosure) (b : Option MarkParts) (w : Option Passage) (later : List Event) → 0 < n
      → gathered sheet es b w (ends_before n later) ≡ settled false w (gathered sheet (drop n es) b None later)
  some_end zero es b w later some = absurd (omega arith)
  some_end (suc n) es b w later some = ends_settle n es b w later

  -- a whole milestone
  pub milestone_taken : (es : List Enclosure) (b : Option MarkParts) (w : Option Passage) (m : MarkParts)
      → (t : Option (ℕ × Bor (List ℕ))) (c : Option MarkParts) (later : List Event)
      → gathered sheet es b w (begins kinds.Milestone m ∷ events_before (placed_text t) (ends c ∷ later))
      ≡ settled false w (gathered sheet es (milestone_end m (option_map (λ x. x.1.now) t) c) None later)
  milestone_taken es b w m None c later = refl
  milestone_taken es b w m (Some t) c later = refl

  -- and nothing more is met
  pub all_end : (n : ℕ) (es : List Enclosure) (b : Option MarkParts) (w : Option Passage)
      → gathered sheet es b w (ends_before n []) ≡ settled false w []
  all_end zero es b w = refl
  all_end (suc n) es b w = ends_settle n es b w []

-- a waiting text before others
pub settled_before : (may_end : Bool) (w : Option Passage) (later : List Passage) → settled may_end w later ≡ settled may_end w [] ++ later
settled_before may_end None later = refl
settled_before may_end (Some p) later = refl

-- the leaves after a waiting text became one
pub leaves_after : (old new : List Passage) (may_end : Bool) (w : Option Passage) (rest rest' : List Passage)
    → new ≡ old ++ settled may_end w [] → rest ≡ rest' → new ++ rest ≡ old ++ settled may_end w rest'
leaves_after old new may_end w rest rest' is same =
    (λ i. is i ++ same i) ∙ append_assoc old (settled may_end w []) rest'
    ∙ ap (λ l. old ++ l) (sym (settled_before may_end w rest'))

-- ---- texts fit

fit_before : (f : Forest) (later : List Event) → TextsFit f → EventsFit later → EventsFit (events_before f later)
fit_before nothing later h k = k
fit_before (text s t f) later h k = (h.0, fit_before f later h.1 k)
fit_before (leaf s m f) later h k = fit_before f later h k
fit_before (node k s x m ks c f) later h g = fit_before ks (ends c ∷ events_before f later) h.0 (fit_before f later h.1 g)

-- what a walk over a tree meets fits where its texts do
pub events_fit : (f : Forest) → TextsFit f → EventsFit (events_of f)
events_fit f h = fit_before f [] h tt

-- what is met after the ends of nodes fits
pub fit_after_ends : (n : ℕ) (later : List Event) → EventsFit (ends_before n later) → EventsFit later
fit_after_ends zero later h = h
fit_after_ends (suc n) later h = fit_after_ends n later h

-- what is met next fits
pub entry_fits : (e : Entry) (later : List Event) → EventsFit (entry_before e later) → EntryFits e
entry_fits (entries.Text start t) later h = h.0
entry_fits (entries.Leaf m) later h = tt
entry_fits (entries.Begin kind m style) later h = tt
entry_fits (entries.Close m) later h = tt
entry_fits (entries.Milestone m t close) later h = tt

-- what is met after it fits
pub fit_after : (e : Entry) (later : List Event) → EventsFit (entry_before e later) → EventsFit later
fit_after (entries.Text start t) later h = h.1
fit_after (entries.Leaf m) later h = h
fit_after (entries.Begin kind m style) later h = h
fit_after (entries.Close m) later h = h
fit_after (entries.Milestone m None close) later h = h
fit_after (entries.Milestone m (Some t) close) later h = h.1
