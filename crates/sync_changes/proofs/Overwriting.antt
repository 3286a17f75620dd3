-- What the files overwrote in a segment, by its operations.
use Rattle.std.proofs.Common.{◌≡◌, ℕ, zero, suc, ◌<◌, Bool, true, false, cond, not, ◌&&◌, ◌||◌, List, [], ◌∷◌, length, get_or, map, filter, arith, refl, sym, ap, ◌∙◌}
use Rattle.std.specs.BTreeSet.{BTreeSet}
use Rattle.std.specs.List.{list_any}
use Rattle.std.proofs.lemmas.Bool.{or_right}
use Rattle.usfm_ref.specs.Books.{same_bytes}
use Rattle.usfm_ref.specs.Rising.{rising}
use Rattle.usfm_ref.specs.Segments.{same_segment}
use Rattle.usfm_ref.specs.declared.segment.Segment.{Segment}
use Rattle.usfm_ref.proofs.Orders.{same_segment-refl}
use Rattle.op_core.specs.Ids.{Id}
use Rattle.op_core.specs.Lists.{ids_of}
use Rattle.op_core.specs.Names.{name_cmp}
use Rattle.op_core.specs.Ops.{Operation, in_segment, names}
use Rattle.op_core.specs.Shown.{shown, is_replaced}
use Rattle.op_core.specs.Thinned.{of_ids}
use Rattle.op_core.proofs.FilteredLists.{any_filter}
use Rattle.segment_history.specs.Histories.{of_segment}
use Rattle.segment_history.specs.Loops.Gathering.{is_one_of}
use Rattle.segment_history.proofs.ShownLists.{shown_unnamed, filters_turned}
use Rattle.sync_changes.specs.Changes.{by_files, is_late, is_overwritten, makers}
use Rattle.sync_changes.specs.Loops.Parts.{passes_naming, HasNamed, unnamed, lacks, is_absent, is_taken, overwritten_by}
use Rattle.sync_changes.specs.declared.files.FileEdits.{FileEdits}
use Rattle.sync_changes.specs.declared.older.Older.{Older}
use Rattle.sync_changes.proofs.Showing.{same_filter}

-- one of some segments is among them
pub one_at : (gs : List Segment) (i : ℕ) (k : Segment) → i < length gs → k ≡ get_or gs i k → is_one_of gs k ≡ true
one_at [] i k l is = absurd (omega (arith, l))
one_at (g ∷ gs) zero k l is =
    ap (λ b. b || is_one_of gs k) (ap (same_segment k) (sym is) ∙ same_segment-refl k)
one_at (g ∷ gs) (suc i) k l is = or_right (same_segment k g) (is_one_of gs k) (one_at gs i k (omega (arith, l)) is)

-- the ids that are taken are those that are overwritten, by what is named and what is absent
pub taken_is : (files : FileEdits) (ops : List Operation) (olds : List Older) (g : Segment) (named : BTreeSet Id)
    (sets : List (BTreeSet Id)) (ids shown_ones : List Id) → HasNamed ops (by_files files) named
    → ((id : Id) → is_absent sets id ≡ list_any (lacks g id) olds) → ids ≡ shown_ones
    → rising name_cmp (map (λ id. id.name) (filter (is_taken files named sets) ids))
    ≡ rising name_cmp (map (λ id. id.name)
    (filter (λ id. not (same_bytes id.name files.name)
    && (list_any (passes_naming (by_files files) id) ops && list_any (lacks g id) olds)) shown_ones))
taken_is files ops olds g named sets ids shown_ones has absent are =
    ap (λ (xs : List Id). rising name_cmp (map (λ id. id.name) xs))
    (same_filter _ _ (λ id. λ i. not (same_bytes id.name files.name) && (has id i && absent id i)) ids
    ∙ ap (filter _) are)

-- what passes of ids, by their operations
mapped_filter : (p : Id → Bool) (ops : List Operation)
    → map (λ id. id.name) (filter p (ids_of ops)) ≡ map (λ o. o.id.name) (filter (λ o. p o.id) ops)
mapped_filter p [] = refl
mapped_filter p (o ∷ ops) = by (mapped_filter p ops) (p o.id)
  where
    by : map (λ id. id.name) (filter p (ids_of ops)) ≡ map (λ r. r.id.name) (filter (λ r. p r.id) ops) → (b : Bool)
        → map (λ id. id.name) (cond b (o.id ∷ filter p (ids_of ops)) (filter p (ids_of ops)))
        ≡ map (λ r. r.id.name) (cond b (o ∷ filter (λ r. p r.id) ops) (filter (λ r. p r.id) ops))
    by rest true = ap (λ (ns : List (List ℕ)). o.id.name ∷ ns) rest
    by rest false = rest

-- what the passing ones of a segment's operations name
named_is : (held : List Operation) (p : Id → Bool) (g : Segment) (id : Id)
    → list_any (passes_naming p id) (of_segment held g) ≡ is_replaced (of_ids p held) g id
named_is held p g id =
    sym (any_filter (λ (o : Operation). names o id) (λ (o : Operation). p o.id) (of_segment held g))
    ∙ ap (list_any (λ (o : Operation). names o id)) (filters_turned (λ (o : Operation). p o.id) (in_segment g) held)
    ∙ any_filter (λ (o : Operation). names o id) (in_segment g) (of_ids p held)

pub overwritten_is : (held : List Operation) (files : FileEdits) (base : List Operation) (older : List (List Operation))
    (olds : List Older) (g : Segment) (ops based : List Operation) → ops ≡ of_segment held g → based ≡ of_segment base g
    → ((id : Id) → list_any (lacks g id) olds ≡ is_late older g id)
    → overwritten_by files ops based olds g ≡ makers (filter (is_overwritten held files older g) (shown base g))
overwritten_is held files base older olds g ops based edited bases late =
    (λ i. overwritten_by files (edited i) (bases i) olds g)
    ∙ ap (λ (ns : List (List ℕ)). rising name_cmp ns)
    (mapped_filter _ (unnamed (of_segment base g))
    ∙ ap (map (λ (o : Operation). o.id.name))
    (same_filter _ (is_overwritten held files older g)
    (λ o. λ i. not (same_bytes o.id.name files.name) && (named_is held (by_files files) g o.id i && late o.id i))
    (unnamed (of_segment base g))
    ∙ ap (filter (is_overwritten held files older g)) (sym (shown_unnamed base g))))
