-- The stretches that a walk gathers are those of the tree.
use Rattle.sty_sheet.specs.declared.kind.StyleKind.TheVariants as kinds
use Rattle.std.proofs.Common.{◌≡◌, ℕ, zero, suc, ◌<◌, Bool, true, false, cond, List, [], ◌∷◌, ◌++◌, drop, Option, None, Some}
use Rattle.std.proofs.Common.{refl, sym, ap, ◌∙◌, append_assoc, arith}
use Rattle.std.specs.Borrow.{Bor}
use Rattle.std.specs.Option.{option_map}
use Rattle.std.specs.Prelude.{is_some, ◌&&◌}
use Rattle.usfm_token.specs.Tokens.{MarkParts, mark_bytes}
use Rattle.usfm_tree.specs.Events.{Event, begins, ends, events_before, events_of, ends_before}
use Rattle.usfm_tree.specs.Forest.{Forest, nothing, text, leaf, node}
use Rattle.usfm_tree.specs.Reading.{Styles}
use Rattle.usfm_tree.specs.StepViews.{placed_text, entry_before}
use Rattle.usfm_tree.specs.declared.step.Entry.{Entry}
use Rattle.usfm_tree.specs.declared.step.Entry.TheVariants as entries
use Rattle.book_reading.specs.Leads.{node_lead}
use Rattle.book_reading.specs.Loops.Gathered.{Waiting, innermost, settled, closes_attributes, gathered}
use Rattle.book_reading.specs.Loops.Gathered.{entered, milestone, attributes_may_end}
use Rattle.book_reading.specs.Stretches.{Place, Stretch, root, stretch, mark_sort, is_known, leaf_sort, leaf_lead}
use Rattle.book_reading.specs.Stretches.{close_stretches, node_end, text_stretches, is_nothing, lead_at_end, stretches_in}
use Rattle.book_reading.specs.declared.lead.Lead.{Lead}
use Rattle.book_reading.specs.declared.lead.Lead.TheVariants as leads

-- a place in a node that ends with its closing mark or without one
abbrev said : Place → Bool → Place
said p closed = record { in_note = p.in_note; style = p.style; has_attributes = p.has_attributes && closed }

closes_is : (p : Place) (c : Option MarkParts) → closes_attributes p c ≡ (p.has_attributes && is_some c)
closes_is p c = by p.has_attributes c
  where
    by : (is : Bool) (c : Option MarkParts)
        → closes_attributes (record { in_note = p.in_note; style = p.style; has_attributes = is }) c ≡ (is && is_some c)
    by true None = refl
    by false None = refl
    by true (Some m) = refl
    by false (Some m) = refl

-- a node's kids, its end and what comes after it, one after another
regroup : (a b c d : List Stretch) → a ++ (b ++ (c ++ d)) ≡ (a ++ (b ++ c)) ++ d
regroup a b c d = ap (λ l. a ++ l) (sym (append_assoc b c d)) ∙ sym (append_assoc a (b ++ c) d)

module _ (styles : Styles) where
  -- inside a node, up to its end
  inside : (p : Place) (ps : List Place) (lead : Lead) (w : Option Waiting) (f : Forest)
      → (c : Option MarkParts) (later : List Event)
      → gathered styles (p ∷ ps) lead w (events_before f (ends c ∷ later))
      ≡ settled p (is_nothing f && (p.has_attributes && is_some c)) w
      (stretches_in styles (said p (is_some c)) lead f
      ++ (close_stretches p c ++ gathered styles ps (node_end (lead_at_end styles lead f) c) None later))
  inside p ps lead w nothing c later =
      ap (λ x. settled p x w (close_stretches p c ++ gathered styles ps (node_end lead c) None later)) (closes_is p c)
  inside p ps lead w (text s t f) c later =
      ap (settled p false w) (inside p ps leads.Nothing (Some (record { lead = lead; text = t })) f c later)
  inside p ps lead w (leaf s m f) c later =
      ap (λ l. settled p false w (stretch p (leaf_sort (is_known styles m)) (mark_bytes m) ∷ l))
      (inside p ps (leaf_lead (is_known styles m) m.name) None f c later)
  inside p ps lead w (node k s x m ks c' f) c later =
      let inner = entered p k m.name in
      let end = node_end (lead_at_end styles (node_lead k m.name) ks) c' in
      let kids = stretches_in styles (said inner (is_some c')) (node_lead k m.name) ks in
      let close = close_stretches inner c' in
      let after = stretches_in styles (said p (is_some c)) end f in
      let rest = close_stretches p c ++ gathered styles ps (node_end (lead_at_end styles end f) c) None later in
      ap (λ l. settled p false w (stretch inner (mark_sort k m.name) (mark_bytes m) ∷ l))
      (inside inner (p ∷ ps) (node_lead k m.name) None ks c' (events_before f (ends c ∷ later))
      ∙ ap (λ l. kids ++ (close ++ l)) (inside p ps end None f c later)
      ∙ regroup kids close after rest)

  -- under the root
  pub whole : (lead : Lead) (w : Option Waiting) (f : Forest)
      → gathered styles [] lead w (events_of f) ≡ settled root false w (stretches_in styles root lead f)
  whole lead w nothing = refl
  whole lead w (text s t f) =
      ap (settled root false w) (whole leads.Nothing (Some (record { lead = lead; text = t })) f
      ∙ last (is_nothing f) lead t (stretches_in styles root leads.Nothing f))
    where
      last : (b : Bool) (lead : Lead) (t : List ℕ) (rest : List Stretch)
          → text_stretches root false lead t ++ rest ≡ text_stretches root (b && false) lead t ++ rest
      last true lead t rest = refl
      last false lead t rest = refl
  whole lead w (leaf s m f) =
      ap (λ l. settled root false w (stretch root (leaf_sort (is_known styles m)) (mark_bytes m) ∷ l))
      (whole (leaf_lead (is_known styles m) m.name) None f)
  whole lead w (node k s x m ks c f) =
      let inner = entered root k m.name in
      let end = node_end (lead_at_end styles (node_lead k m.name) ks) c in
      let kids = stretches_in styles (said inner (is_some c)) (node_lead k m.name) ks in
      ap (λ l. settled root false w (stretch inner (mark_sort k m.name) (mark_bytes m) ∷ l))
      (inside inner [] (node_lead k m.name) None ks c (events_of f)
      ∙ ap (λ l. kids ++ (close_stretches inner c ++ l)) (whole end None f))

  -- ---- the ends of nodes without closing marks

  ends_taken : (n : ℕ) (ps : List Place) (lead : Lead) (later : List Event)
      → gathered styles ps lead None (ends_before n later) ≡ gathered styles (drop n ps) lead None later
  ends_taken zero ps lead later = refl
  ends_taken (suc n) [] lead later = ends_taken n [] lead later ∙ ap (λ l. gathered styles l lead None later) (none_left n)
    where
      none_left : (n : ℕ) → drop {A = Place} n [] ≡ drop (suc n) []
      none_left zero = refl
      none_left (suc n) = refl
  ends_taken (suc n) (p ∷ ps) lead later = ends_taken n ps lead later

  ends_settle : (n : ℕ) (ps : List Place) (lead : Lead) (w : Option Waiting) (later : List Event)
      → gathered styles ps lead w (ends_before (suc n) later)
      ≡ settled (innermost ps) false w (gathered styles (drop (suc n) ps) lead None later)
  ends_settle n [] lead w later =
      ap (settled root false w) (ends_taken n [] lead later ∙ ap (λ l. gathered styles l lead None later) (none_left n))
    where
      none_left : (n : ℕ) → drop {A = Place} n [] ≡ drop (suc n) []
      none_left zero = refl
      none_left (suc n) = refl
  ends_settle n (p ∷ ps) lead w later = ap (settled p false w) (ends_taken n ps lead later)

  -- some nodes end
  pub some_end : (n : ℕ) (ps : List Place) (lead : Lead) (w : Option Waiting) (later : List Event) → 0 < n
      → gathered styles ps lead w (ends_before n later)
      ≡ settled (innermost ps) false w (gathered styles (drop n ps) lead None later)
  some_end zero ps lead w later some = absurd (omega arith)
  some_end (suc n) ps lead w later some = ends_settle n ps lead w later

  -- a whole milestone, where no text waits
  pub milestone_taken : (ps : List Place) (lead : Lead) (m : MarkParts)
      → (t : Option (ℕ × Bor (List ℕ))) (c : Option MarkParts) (later : List Event)
      → gathered styles ps lead None (begins kinds.Milestone m ∷ events_before (placed_text t) (ends c ∷ later))
      ≡ milestone (entered (innermost ps) kinds.Milestone m.name) (node_lead kinds.Milestone m.name) m
      (option_map (λ x. x.1.now) t) c
      (gathered styles ps (node_end (cond (is_some t) leads.Nothing (node_lead kinds.Milestone m.name)) c) None later)
  milestone_taken ps lead m None c later = refl
  milestone_taken ps lead m (Some t) None later = refl
  milestone_taken ps lead m (Some t) (Some close) later = refl

  -- a text that waits is settled before an entry
  pub settled_first : (ps : List Place) (lead : Lead) (w : Option Waiting) (e : Entry) (later : List Event)
      → gathered styles ps lead w (entry_before e later)
      ≡ settled (innermost ps) (attributes_may_end (innermost ps) e) w (gathered styles ps lead None (entry_before e later))
  settled_first ps lead w (entries.Text start t) later = refl
  settled_first ps lead w (entries.Leaf m) later = refl
  settled_first ps lead w (entries.Begin kind m style) later = refl
  settled_first ps lead w (entries.Close m) later = refl
  settled_first ps lead w (entries.Milestone m t close) later = refl

  -- nothing more is met
  pub all_end : (n : ℕ) (ps : List Place) (lead : Lead) (w : Option Waiting)
      → gathered styles ps lead w (ends_before n []) ≡ settled (innermost ps) false w []
  all_end zero ps lead w = refl
  all_end (suc n) ps lead w = ends_settle n ps lead w [] ∙ ap (settled (innermost ps) false w) (empty (drop (suc n) ps) lead)
    where
      empty : (ps : List Place) (lead : Lead) → gathered styles ps lead None [] ≡ []
      empty ps lead = refl
