-- Events elsewhere, and bundles and summaries in flight.
use Rattle.std.proofs.Common.{◌≡◌, ℕ, zero, suc, Bool, true, false, not, ◌&&◌, List, [], ◌∷◌, ◌++◌, refl, ap, ◌∙◌, Option, Some, None}
use Rattle.std.specs.Prelude.{slice_get}
use Rattle.std.specs.List.{list_all}
use Rattle.std.proofs.lemmas.Bool.{and_parts, and_from, cond-false, not-true}
use Rattle.usfm_ref.specs.Books.{same_bytes}
use Rattle.op_core.specs.Ids.{Id}
use Rattle.op_core.specs.Ops.{Operation}
use Rattle.op_core.specs.Thinned.{is_legal, of_ids}
use Rattle.bundle_codec.specs.Summaries.{NameRanges, summary_of}
use Rattle.replica_state.specs.World.{World, Event, Edits, EditsOver, Imports, Thins, Summarizes, Bundles, Receives}
use Rattle.replica_state.specs.World.{ReceivesCut, FindsNoMemory, world, happens, received, with_held, with_bundle, is_apart, replica_name}

elsewhere : (w : World) (name n : List ℕ) (ops : List Operation) → same_bytes name n ≡ false → (with_held w n ops).held name ≡ w.held name
elsewhere w name n ops h = cond-false (same_bytes name n) ops (w.held name) h

pub apart : (w : World) (name : List ℕ) (e : Event) → is_apart name e ≡ true → (happens w e).held name ≡ w.held name
apart w name (Edits n g text) h = elsewhere w name n _ (not-true (same_bytes name n) h)
apart w name (EditsOver n g text given) h = elsewhere w name n _ (not-true (same_bytes name n) h)
apart w name (Imports n file) h = elsewhere w name n _ (not-true (same_bytes name n) h)
apart w name (Thins n) h = elsewhere w name n _ (not-true (same_bytes name n) h)
apart w name (Summarizes n) h = refl
apart w name (Bundles n kept) h = by (is_legal (of_ids kept (w.held n)))
  where
    by : (b : Bool) → (with_bundle w (of_ids kept (w.held n)) b).held name ≡ w.held name
    by true = refl
    by false = refl
apart w name (Receives n k) h = by (slice_get w.bundles k)
  where
    by : (r : Option (List Operation)) → (received w n r).held name ≡ w.held name
    by None = refl
    by (Some ops) = elsewhere w name n _ (not-true (same_bytes name n) h)
apart w name (ReceivesCut n k length) h = refl
apart w name (FindsNoMemory n) h = refl

-- an event at another replica changes nothing at this one
pub not_there : (name : List ℕ) (e : Event) → same_bytes name (replica_name e) ≡ false → is_apart name e ≡ true
not_there name (Edits n g text) h = ap not h
not_there name (EditsOver n g text given) h = ap not h
not_there name (Imports n file) h = ap not h
not_there name (Thins n) h = ap not h
not_there name (Summarizes n) h = refl
not_there name (Bundles n kept) h = refl
not_there name (Receives n k) h = ap not h
not_there name (ReceivesCut n k length) h = refl
not_there name (FindsNoMemory n) h = refl

pub all_apart : (later past : List Event) (name : List ℕ) → list_all (is_apart name) later ≡ true
    → (world (later ++ past)).held name ≡ (world past).held name
all_apart [] past name h = refl
all_apart (e ∷ later) past name h =
    let p = and_parts (is_apart name e) (list_all (is_apart name) later) h in
    apart (world (later ++ past)) name e p.0 ∙ all_apart later past name p.1

pub all_both : (f g : Event → Bool) (es : List Event) → list_all (λ e. f e && g e) es ≡ true
    → (list_all f es ≡ true) × (list_all g es ≡ true)
all_both f g [] h = (refl, refl)
all_both f g (e ∷ es) h =
    let p = and_parts (f e && g e) (list_all (λ e. f e && g e) es) h in
    let q = and_parts (f e) (g e) p.0 in
    let r = all_both f g es p.1 in
    (and_from _ _ q.0 r.0, and_from _ _ q.1 r.1)

pub all_parts : (f : Event → Bool) (xs ys : List Event) → list_all f (xs ++ ys) ≡ true → (list_all f xs ≡ true) × (list_all f ys ≡ true)
all_parts f [] ys h = (refl, h)
all_parts f (x ∷ xs) ys h =
    let p = and_parts (f x) (list_all f (xs ++ ys)) h in
    let q = all_parts f xs ys p.1 in
    (and_from _ _ p.0 q.0, q.1)

-- ---- what was made can be received from then on

in_flight : (w : World) (e : Event) (ops : List Operation) → (k : ℕ) × (slice_get w.bundles k ≡ Some ops)
    → (k : ℕ) × (slice_get (happens w e).bundles k ≡ Some ops)
in_flight w (Edits name g text) ops r = r
in_flight w (EditsOver name g text given) ops r = r
in_flight w (Imports name file) ops r = r
in_flight w (Thins name) ops r = r
in_flight w (Summarizes name) ops r = r
in_flight w (Bundles name kept) ops r = by (is_legal (of_ids kept (w.held name)))
  where
    by : (b : Bool) → (k : ℕ) × (slice_get (with_bundle w (of_ids kept (w.held name)) b).bundles k ≡ Some ops)
    by true = (suc r.0, r.1)
    by false = r
in_flight w (Receives name n) ops r = by (slice_get w.bundles n)
  where
    by : (b : Option (List Operation)) → (k : ℕ) × (slice_get (received w name b).bundles k ≡ Some ops)
    by None = r
    by (Some bundle) = r
in_flight w (ReceivesCut name n length) ops r = r
in_flight w (FindsNoMemory name) ops r = r

pub bundles_stay : (later past : List Event) (name : List ℕ) (kept : Id → Bool) → is_legal (of_ids kept ((world past).held name)) ≡ true
    → (k : ℕ) × (slice_get (world (later ++ Bundles name kept ∷ past)).bundles k ≡ Some (of_ids kept ((world past).held name)))
bundles_stay [] past name kept legal =
    (zero, ap (λ b. slice_get (with_bundle (world past) (of_ids kept ((world past).held name)) b).bundles zero) legal)
bundles_stay (e ∷ later) past name kept legal =
    in_flight (world (later ++ Bundles name kept ∷ past)) e _ (bundles_stay later past name kept legal)

asked_for : (w : World) (e : Event) (s : List NameRanges) → (k : ℕ) × (slice_get w.summaries k ≡ Some s)
    → (k : ℕ) × (slice_get (happens w e).summaries k ≡ Some s)
asked_for w (Edits name g text) s r = r
asked_for w (EditsOver name g text given) s r = r
asked_for w (Imports name file) s r = r
asked_for w (Thins name) s r = r
asked_for w (Summarizes name) s r = (suc r.0, r.1)
asked_for w (Bundles name kept) s r = by (is_legal (of_ids kept (w.held name)))
  where
    by : (b : Bool) → (k : ℕ) × (slice_get (with_bundle w (of_ids kept (w.held name)) b).summaries k ≡ Some s)
    by true = r
    by false = r
asked_for w (Receives name n) s r = by (slice_get w.bundles n)
  where
    by : (b : Option (List Operation)) → (k : ℕ) × (slice_get (received w name b).summaries k ≡ Some s)
    by None = r
    by (Some bundle) = r
asked_for w (ReceivesCut name n length) s r = r
asked_for w (FindsNoMemory name) s r = r

pub summaries_stay : (later past : List Event) (name : List ℕ)
    → (k : ℕ) × (slice_get (world (later ++ Summarizes name ∷ past)).summaries k ≡ Some (summary_of ((world past).held name)))
summaries_stay [] past name = (zero, refl)
summaries_stay (e ∷ later) past name = asked_for (world (later ++ Summarizes name ∷ past)) e _ (summaries_stay later past name)
