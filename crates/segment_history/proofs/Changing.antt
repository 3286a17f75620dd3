-- What changed since some ids were known.
use Rattle.std.proofs.Common.{◌≡◌, ℕ, ◌+◌, ◌<◌, Bool, true, false, cond, not, ◌||◌, List, [], ◌∷◌, ◌++◌, length, take, get_or, map, Some, refl, sym, ap, ◌∙◌}
use Rattle.std.specs.Cmp.Lexicographic.{texts_ties, nat_list_cmp_total}
use Rattle.std.specs.FinMap.{slice_cmp-IsAntisymmetric, nat_cmp-IsAntisymmetric}
use Rattle.std.specs.List.{list_any, AllByRecursion}
use Rattle.std.specs.List.Retain.{IsFiltered, DiffersFromLast}
use Rattle.std.specs.List.Sorted.{IsSorted, IsPermutation}
use Rattle.std.specs.Option.{is_some}
use Rattle.std.specs.Ordering.{is_eq}
use Rattle.std.proofs.lemmas.Bool.{or_parts}
use Rattle.std.proofs.lemmas.List.{map-id, map_more}
use Rattle.usfm_ref.specs.Books.{same_bytes}
use Rattle.usfm_ref.specs.Rising.{rising}
use Rattle.usfm_ref.specs.Segments.{segment_cmp, same_segment}
use Rattle.usfm_ref.specs.contracts.segment.SegmentPartialEq.TheImpl as equal
use Rattle.usfm_ref.specs.declared.segment.Segment.{Segment}
use Rattle.usfm_ref.proofs.Members.{tested_rising}
use Rattle.usfm_ref.proofs.Once.{sorted_once}
use Rattle.usfm_ref.proofs.Orders.{segment_total, segment_exact, same_segment-cmp}
use Rattle.op_core.specs.Ids.{Id}
use Rattle.op_core.specs.Names.{name_cmp}
use Rattle.op_core.specs.Ops.{Operation, in_segment}
use Rattle.op_core.specs.Sets.{get}
use Rattle.op_core.specs.Thinned.{of_ids, is_lacked}
use Rattle.op_core.proofs.Sets.Union.{held_itself}
use Rattle.bundle_codec.specs.Summaries.{NameRanges, covers}
use Rattle.segment_history.specs.Histories.{of_segment}
use Rattle.segment_history.specs.Changes.{new_ops, ChangedParts, changed_at}
use Rattle.segment_history.specs.ChangeLaws.{UnlistedShowsSame, NothingSinceOwn, AllSinceNothing}
use Rattle.segment_history.specs.Loops.Gathering.{is_one_of}
use Rattle.segment_history.specs.Loops.Showing.{changed_by}
use Rattle.segment_history.proofs.Gathers.{same_segment_turned, eq_is}
use Rattle.segment_history.proofs.ShownLists.{unnamed, shown_unnamed, filters_turned, left_shown, left_known}

-- ---- lists of which each is there once

pub segments_once : (items sorted once : List Segment) → IsPermutation items sorted → IsSorted segment_cmp sorted
    → IsFiltered (DiffersFromLast equal.ghosts.eq) [] sorted once → once ≡ rising segment_cmp items
segments_once items sorted once p s f =
    sym (map-id once) ∙ sorted_once (λ (g : Segment). g) segment_cmp segment_total segment_exact equal.ghosts.eq
    (λ a b. eq_is a b ∙ same_segment-cmp a b) items sorted once p s f
    ∙ ap (rising segment_cmp) (map-id items)

pub names_once : (items sorted once : List (List ℕ)) → IsPermutation items sorted → IsSorted name_cmp sorted
    → IsFiltered (DiffersFromLast same_bytes) [] sorted once → once ≡ rising name_cmp items
names_once items sorted once p s f =
    sym (map-id once) ∙ sorted_once (λ (n : List ℕ). n) name_cmp nat_list_cmp_total
    (λ a b h. slice_cmp-IsAntisymmetric nat_cmp-IsAntisymmetric a b h) same_bytes texts_ties items sorted once p s f
    ∙ ap (rising name_cmp) (map-id items)

-- ---- one change after another

pub changed_is : (held : List Operation) (s : List NameRanges) (g : Segment)
    → changed_by (of_segment held g) s g ≡ changed_at held (covers s) g
changed_is held s g = λ i. record {
  segment = g;
  makers = rising name_cmp (map (λ o. o.id.name) (filters_turned (is_lacked (covers s)) (in_segment g) held i));
  was = left_known held s g i;
  now_shown = left_shown held g i;
}

pub changed_more : (held : List Operation) (s : List NameRanges) (segments : List Segment) (i : ℕ) (g : Segment)
    (ops : List Operation) (made more : List ChangedParts) (c : ChangedParts) → i < length segments → g ≡ get_or segments i g
    → ops ≡ of_segment held g → c ≡ changed_by ops s g → more ≡ made ++ c ∷ []
    → made ≡ map (changed_at held (covers s)) (take i segments) → more ≡ map (changed_at held (covers s)) (take (i + 1) segments)
changed_more held s segments i g ops made more c l is gathered told pushed so =
    pushed ∙ (λ j. so j ++ right j ∷ []) ∙ sym (map_more (changed_at held (covers s)) segments i g l)
  where
    right : c ≡ changed_at held (covers s) (get_or segments i g)
    right = told ∙ ap (λ (xs : List Operation). changed_by xs s g) gathered ∙ changed_is held s g ∙ ap (changed_at held (covers s)) is

-- ---- laws

any_tied : (g : Segment) (gs : List Segment) → is_one_of gs g ≡ list_any (λ h. is_eq (segment_cmp g h)) gs
any_tied g [] = refl
any_tied g (h ∷ gs) = λ i. same_segment-cmp g h i || any_tied g gs i

one_of_rising : (g : Segment) (gs : List Segment) → is_one_of (rising segment_cmp gs) g ≡ is_one_of gs g
one_of_rising g gs = any_tied g (rising segment_cmp gs) ∙ tested_rising segment_cmp segment_total segment_exact g gs ∙ sym (any_tied g gs)

-- a segment of which no operation is new has only known ones
all_known : (held : List Operation) (knows : Id → Bool) (g : Segment)
    → is_one_of (map (λ o. o.segment) (new_ops held knows)) g ≡ false
    → of_segment (of_ids knows held) g ≡ of_segment held g
all_known [] knows g h = refl
all_known (o ∷ held) knows g h = by (all_known held knows g) (knows o.id) refl (same_segment o.segment g) refl h
  where
    by : (is_one_of (map (λ p. p.segment) (new_ops held knows)) g ≡ false → of_segment (of_ids knows held) g ≡ of_segment held g)
        → (k : Bool) → knows o.id ≡ k → (b : Bool) → same_segment o.segment g ≡ b
        → is_one_of (map (λ p. p.segment) (cond (not k) (o ∷ new_ops held knows) (new_ops held knows))) g ≡ false
        → of_segment (cond k (o ∷ of_ids knows held) (of_ids knows held)) g ≡ cond b (o ∷ of_segment held g) (of_segment held g)
    by rest true e b s n = (λ i. cond (s i) (o ∷ rest n i) (rest n i))
    by rest false e true s n =
        let p = or_parts (same_segment g o.segment) (is_one_of (map (λ p. p.segment) (new_ops held knows)) g) n in
        absurd (let x = sym p.0 ∙ same_segment_turned g o.segment ∙ s in cc)
    by rest false e false s n =
        rest (or_parts (same_segment g o.segment) (is_one_of (map (λ p. p.segment) (new_ops held knows)) g) n).1

pub unlisted_shows_same : UnlistedShowsSame
unlisted_shows_same held knows g not_there =
    shown_unnamed (of_ids knows held) g
    ∙ ap unnamed (all_known held knows g (sym (one_of_rising g (map (λ o. o.segment) (new_ops held knows))) ∙ not_there))
    ∙ sym (shown_unnamed held g)

none_new : (knows : Id → Bool) (ops : List Operation) → AllByRecursion (λ o. knows o.id ≡ true) ops → new_ops ops knows ≡ []
none_new knows [] h = refl
none_new knows (o ∷ ops) h = ap (λ b. cond (not b) (o ∷ new_ops ops knows) (new_ops ops knows)) h.0 ∙ none_new knows ops h.1

pub nothing_since_own : NothingSinceOwn
nothing_since_own held s set own =
    ap (λ (ops : List Operation). map (changed_at held (covers s)) (rising segment_cmp (map (λ o. o.segment) ops)))
    (none_new (covers s) held (each held (held_itself held set.rising)))
  where
    each : (ops : List Operation) → AllByRecursion (λ o. get held o.id ≡ Some o) ops → AllByRecursion (λ o. covers s o.id ≡ true) ops
    each [] h = tt
    each (o ∷ ops) h = (own.exactly o.id ∙ ap is_some h.0, each ops h.1)

all_new : (ops : List Operation) → new_ops ops (covers []) ≡ ops
all_new [] = refl
all_new (o ∷ ops) = ap (λ (xs : List Operation). o ∷ xs) (all_new ops)

pub all_since_nothing : AllSinceNothing
all_since_nothing held = ap (λ (ops : List Operation). rising segment_cmp (map (λ o. o.segment) ops)) (all_new held)
