-- What each step of a walk does to what is gathered: it is the first of what the walk still gives.
use Rattle.sty_sheet.specs.declared.kind.StyleKind.{StyleKind}
use Rattle.sty_sheet.specs.declared.kind.StyleKind.TheVariants as kinds
use Rattle.std.proofs.Common.{◌≡◌, ℕ, ◌-◌, ◌<◌, Bool, false, cond, List, [], ◌∷◌, ◌++◌, length, map, reverse, take, drop}
use Rattle.std.proofs.Common.{Option, None, Some, refl, sym, ap, ◌∙◌, arith, get_or}
use Rattle.std.proofs.lemmas.List.{reverse-append, length-reverse, get_or-reverse, drop-map}
use Rattle.std.proofs.lemmas.Option.{slice_get_within, get_or_from_slice_get, slice_get-get_or}
use Rattle.std.specs.Borrow.{Bor}
use Rattle.std.specs.Option.{option_map}
use Rattle.std.specs.Prelude.{slice_get, is_some}
use Rattle.usfm_token.specs.Tokens.{MarkParts, mark_bytes}
use Rattle.usfm_tree.specs.Events.{Event, words, single, begins, ends, events_before, ends_before}
use Rattle.usfm_tree.specs.Reading.{Styles}
use Rattle.usfm_tree.specs.StepViews.{entry_before, placed_text}
use Rattle.usfm_tree.specs.declared.step.Entry.{Entry}
use Rattle.usfm_tree.proofs.StepLemmas.{reverse_take}
use Rattle.book_reading.specs.Leads.{node_lead}
use Rattle.book_reading.specs.Loops.Gathered.{Waiting, entered, innermost, outer, settled, milestone, attributes_may_end, gathered}
use Rattle.book_reading.specs.Loops.GatheringViews.{place_view, runs_with}
use Rattle.book_reading.specs.Stretches.{Place, Stretch, root, stretch, mark_sort, is_known, leaf_sort, leaf_lead, node_end}
use Rattle.book_reading.specs.declared.lead.Lead.{Lead}
use Rattle.book_reading.specs.declared.lead.Lead.TheVariants as leads
use Rattle.book_reading.specs.declared.place.Place as code
use Rattle.book_reading.specs.declared.run.Sort.TheVariants as sorts
use Rattle.book_reading.specs.declared.written.Written.{Written}
use Rattle.book_reading.proofs.Gathers.{some_end, milestone_taken, settled_first}

-- ---- the open nodes

abbrev pub views : List code.Place → List Place
views xs = map place_view (reverse xs)

head_is : (l : List code.Place) (d : code.Place) → 0 < length l → innermost (map place_view l) ≡ place_view (get_or l 0 d)
head_is [] d some = absurd (omega arith)
head_is (x ∷ l) d some = refl

pub innermost_is : (xs : List code.Place) (x : code.Place) → slice_get xs (length xs - 1) ≡ Some x → innermost (views xs) ≡ place_view x
innermost_is xs x h =
    let here : length xs - 1 < length xs = slice_get_within xs (length xs - 1) x h in
    let some : 0 < length (reverse xs) = omega (arith, length-reverse xs) in
    let last : length xs - 1 - 0 ≡ length xs - 1 = omega arith in
    head_is (reverse xs) x some
    ∙ ap place_view (get_or-reverse xs 0 x (omega arith) ∙ ap (λ k. get_or xs k x) last ∙ get_or_from_slice_get xs (length xs - 1) x x h)

pub innermost_none : (xs : List code.Place) → slice_get xs (length xs - 1) ≡ None → innermost (views xs) ≡ root
innermost_none [] h = refl
innermost_none (x ∷ xs) h = let some = slice_get-get_or (x ∷ xs) (length (x ∷ xs) - 1) x (omega arith) in absurd (cc)

pub places_push : (xs : List code.Place) (x : code.Place) → views (xs ++ x ∷ []) ≡ place_view x ∷ views xs
places_push xs x = ap (map place_view) (reverse-append xs (x ∷ []))

pub places_take : (n : ℕ) (xs : List code.Place) → views (take (length xs - n) xs) ≡ drop n (views xs)
places_take n xs = ap (map place_view) (reverse_take n xs) ∙ sym (drop-map place_view n (reverse xs))

outer_is : (ps : List Place) → drop 1 ps ≡ outer ps
outer_is [] = refl
outer_is (p ∷ ps) = refl

pub places_pop : (xs : List code.Place) → views (take (length xs - 1) xs) ≡ outer (views xs)
places_pop xs = places_take 1 xs ∙ outer_is (views xs)

-- ---- the steps

module _ (styles : Styles) (W W' : Written) (ps ps' : List Place) (lead lead' : Lead) (w w' : Option Waiting) (later : List Event) where
  pub text_step : (s : ℕ) (t : List ℕ) → w ≡ None
      → runs_with W (gathered styles ps leads.Nothing (Some (record { lead = lead; text = t })) later)
      ≡ runs_with W (gathered styles ps lead w (words s t ∷ later))
  text_step s t is = ap (λ x. runs_with W (gathered styles ps lead x (words s t ∷ later))) (sym is)

  pub leaf_step : (m : MarkParts) → w ≡ None → w' ≡ None → ps' ≡ ps → lead' ≡ leaf_lead (is_known styles m) m.name
      → ((l : List Stretch) → runs_with W' l
      ≡ runs_with W (stretch (innermost ps) (leaf_sort (is_known styles m)) (mark_bytes m) ∷ l))
      → runs_with W' (gathered styles ps' lead' w' later) ≡ runs_with W (gathered styles ps lead w (single m ∷ later))
  leaf_step m is is' same after push =
      (λ i. runs_with W' (gathered styles (same i) (after i) (is' i) later))
      ∙ push (gathered styles ps (leaf_lead (is_known styles m) m.name) None later)
      ∙ ap (λ x. runs_with W (gathered styles ps lead x (single m ∷ later))) (sym is)

  pub begin_step : (k : StyleKind) (m : MarkParts) → w ≡ None → w' ≡ None
      → ps' ≡ entered (innermost ps) k m.name ∷ ps → lead' ≡ node_lead k m.name
      → ((l : List Stretch) → runs_with W' l
      ≡ runs_with W (stretch (entered (innermost ps) k m.name) (mark_sort k m.name) (mark_bytes m) ∷ l))
      → runs_with W' (gathered styles ps' lead' w' later) ≡ runs_with W (gathered styles ps lead w (begins k m ∷ later))
  begin_step k m is is' inner after push =
      (λ i. runs_with W' (gathered styles (inner i) (after i) (is' i) later))
      ∙ push (gathered styles (entered (innermost ps) k m.name ∷ ps) (node_lead k m.name) None later)
      ∙ ap (λ x. runs_with W (gathered styles ps lead x (begins k m ∷ later))) (sym is)

  pub close_step : (m : MarkParts) → w ≡ None → w' ≡ None → ps' ≡ outer ps → lead' ≡ leads.Nothing
      → ((l : List Stretch) → runs_with W' l ≡ runs_with W (stretch (innermost ps) sorts.Markup (mark_bytes m) ∷ l))
      → runs_with W' (gathered styles ps' lead' w' later) ≡ runs_with W (gathered styles ps lead w (ends (Some m) ∷ later))
  close_step m is is' same after push =
      (λ i. runs_with W' (gathered styles (same i) (after i) (is' i) later))
      ∙ push (gathered styles (outer ps) leads.Nothing None later)
      ∙ ap (λ x. runs_with W (gathered styles ps lead x (ends (Some m) ∷ later))) (sym is)

  pub milestone_step : (m : MarkParts) (t : Option (ℕ × Bor (List ℕ))) (c : Option MarkParts)
      → w ≡ None → w' ≡ None → ps' ≡ ps
      → lead' ≡ node_end (cond (is_some t) leads.Nothing (node_lead kinds.Milestone m.name)) c
      → ((l : List Stretch) → runs_with W' l
      ≡ runs_with W (milestone (entered (innermost ps) kinds.Milestone m.name) (node_lead kinds.Milestone m.name) m
      (option_map (λ x. x.1.now) t) c l))
      → runs_with W' (gathered styles ps' lead' w' later)
      ≡ runs_with W (gathered styles ps lead w (begins kinds.Milestone m ∷ events_before (placed_text t) (ends c ∷ later)))
  milestone_step m t c is is' same after push =
      (λ i. runs_with W' (gathered styles (same i) (after i) (is' i) later))
      ∙ push (gathered styles ps (node_end (cond (is_some t) leads.Nothing (node_lead kinds.Milestone m.name)) c) None later)
      ∙ ap (runs_with W) (sym (milestone_taken styles ps lead m t c later))
      ∙ ap (λ x. runs_with W (gathered styles ps lead x
      (begins kinds.Milestone m ∷ events_before (placed_text t) (ends c ∷ later)))) (sym is)

  -- a text that waits is settled before an entry
  pub settle_step : (e : Entry) (b : Bool) → w' ≡ None → ps' ≡ ps → lead' ≡ lead
      → b ≡ attributes_may_end (innermost ps) e
      → ((l : List Stretch) → runs_with W' l ≡ runs_with W (settled (innermost ps) b w l))
      → runs_with W' (gathered styles ps' lead' w' (entry_before e later))
      ≡ runs_with W (gathered styles ps lead w (entry_before e later))
  settle_step e b is' same after may settle =
      (λ i. runs_with W' (gathered styles (same i) (after i) (is' i) (entry_before e later)))
      ∙ settle (gathered styles ps lead None (entry_before e later))
      ∙ ap (λ x. runs_with W (settled (innermost ps) x w (gathered styles ps lead None (entry_before e later)))) may
      ∙ ap (runs_with W) (sym (settled_first styles ps lead w e later))

  -- and before nodes end without closing marks
  pub end_step : (n : ℕ) → 0 < n → w' ≡ None → ps' ≡ drop n ps → lead' ≡ lead
      → ((l : List Stretch) → runs_with W' l ≡ runs_with W (settled (innermost ps) false w l))
      → runs_with W' (gathered styles ps' lead' w' later) ≡ runs_with W (gathered styles ps lead w (ends_before n later))
  end_step n some is' same after settle =
      (λ i. runs_with W' (gathered styles (same i) (after i) (is' i) later))
      ∙ settle (gathered styles (drop n ps) lead None later)
      ∙ ap (runs_with W) (sym (some_end styles n ps lead w later some))
