-- What a segment shows, from its operations alone.
use Rattle.std.proofs.Common.{◌≡◌, ℕ, ◌+◌, ◌<◌, Bool, true, false, cond, not, ◌&&◌, ◌||◌, List, [], ◌∷◌, ◌++◌, length, take, get_or, map, filter, reverse, Option, None, Some, refl, sym, ap, ◌∙◌}
use Rattle.std.specs.BTreeSet.{BTreeSet, contains}
use Rattle.std.specs.List.{list_any}
use Rattle.std.proofs.lemmas.List.{map-append, reverse-append, take_more}
use Rattle.std.proofs.lemmas.List.Elements.{filter-append}
use Rattle.std.proofs.lemmas.List.Folds.{list_any-append}
use Rattle.std.proofs.Math.Bool.{or-false}
use Rattle.usfm_ref.specs.declared.segment.Segment.{Segment}
use Rattle.op_core.specs.Ids.{Id, id_cmp}
use Rattle.op_core.specs.Ops.{Operation, in_segment, names}
use Rattle.op_core.specs.Shown.{shown, is_shown}
use Rattle.op_core.specs.Thinned.{of_ids}
use Rattle.op_core.proofs.FilteredLists.{filter_both, any_filter}
use Rattle.bundle_codec.specs.Summaries.{NameRanges, covers}
use Rattle.segment_history.specs.Histories.{of_segment}
use Rattle.segment_history.specs.Changes.{ShownParts, shown_part, shown_parts}
use Rattle.segment_history.specs.Loops.Showing.{passes, passes_naming, HasPassing, is_left, if_left, left_parts}

-- the operations that none of them names
abbrev pub unnamed : List Operation → List Operation
unnamed ops = filter (λ o. not (list_any (λ p. names p o.id) ops)) ops

-- what a segment shows are those of its operations that none of them names
pub shown_unnamed : (held : List Operation) (g : Segment) → shown held g ≡ unnamed (of_segment held g)
shown_unnamed held g =
    sym (filter_both (λ (o : Operation). not (list_any (λ p. names p o.id) (of_segment held g))) (in_segment g) (is_shown held g)
    (λ o. ap (λ b. in_segment g o && not b) (any_filter (λ (p : Operation). names p o.id) (in_segment g) held)) held)

-- operations filtered by two tests, in either order
pub filters_turned : (p q : Operation → Bool) (ops : List Operation) → filter p (filter q ops) ≡ filter q (filter p ops)
filters_turned p q ops =
    filter_both p q (λ o. q o && p o) (λ o. refl) ops ∙ sym (filter_both q p (λ o. q o && p o) (λ o. turned (p o) (q o)) ops)
  where
    turned : (a b : Bool) → (a && b) ≡ (b && a)
    turned true true = refl
    turned true false = refl
    turned false true = refl
    turned false false = refl

-- those that are left of the operations of a segment are what those that pass show by themselves
left_unnamed : (ops : List Operation) (known : Option (List NameRanges))
    → filter (is_left ops known) ops ≡ unnamed (filter (passes known) ops)
left_unnamed ops known =
    sym (filter_both (λ (o : Operation). not (list_any (λ p. names p o.id) (filter (passes known) ops))) (passes known) (is_left ops known)
    (λ o. ap (λ b. passes known o && not b) (any_filter (λ (p : Operation). names p o.id) (passes known) ops)) ops)

passing_all : (ops : List Operation) → filter (passes None) ops ≡ ops
passing_all [] = refl
passing_all (o ∷ ops) = ap (λ (xs : List Operation). o ∷ xs) (passing_all ops)

-- where no ids are told, what is left is what is shown
pub left_shown : (held : List Operation) (g : Segment) → left_parts (of_segment held g) None ≡ shown_parts held g
left_shown held g =
    ap (λ (ops : List Operation). reverse (map shown_part ops))
    (left_unnamed (of_segment held g) None ∙ ap unnamed (passing_all (of_segment held g)) ∙ sym (shown_unnamed held g))

-- of the known ones, what these show by themselves
pub left_known : (held : List Operation) (s : List NameRanges) (g : Segment)
    → left_parts (of_segment held g) (Some s) ≡ shown_parts (of_ids (covers s) held) g
left_known held s g =
    ap (λ (ops : List Operation). reverse (map shown_part ops))
    (left_unnamed (of_segment held g) (Some s)
    ∙ ap unnamed (filters_turned (passes (Some s)) (in_segment g) held)
    ∙ sym (shown_unnamed (of_ids (covers s) held) g))

-- ---- the names of those that pass, and those that are left, one after another

module _ (ops : List Operation) (known : Option (List NameRanges)) (i : ℕ) (o : Operation) (l : i < length ops)
    (is : o ≡ get_or ops i o) where
  next_ops : take (i + 1) ops ≡ take i ops ++ o ∷ []
  next_ops = take_more ops i o l ∙ ap (λ (p : Operation). take i ops ++ p ∷ []) (sym is)

  any_on : (q : Id) → list_any (passes_naming known q) (take (i + 1) ops)
      ≡ (list_any (passes_naming known q) (take i ops) || passes_naming known q o)
  any_on q = ap (list_any (passes_naming known q)) next_ops ∙ list_any-append (passes_naming known q) (take i ops) (o ∷ [])
      ∙ ap (λ b. list_any (passes_naming known q) (take i ops) || b) (or-false (passes_naming known q o))

  pub passing_more : (s t : BTreeSet Id) → ((q : Id) → contains id_cmp t q ≡ (contains id_cmp s q || passes_naming known q o))
      → HasPassing (take i ops) known s → HasPassing (take (i + 1) ops) known t
  passing_more s t more has q = more q ∙ ap (λ b. b || passes_naming known q o) (has q) ∙ sym (any_on q)

  left_on : map shown_part (filter (is_left ops known) (take (i + 1) ops))
      ≡ map shown_part (filter (is_left ops known) (take i ops)) ++ map shown_part (filter (is_left ops known) (o ∷ []))
  left_on = ap (λ (os : List Operation). map shown_part (filter (is_left ops known) os)) next_ops
      ∙ ap (map shown_part) (filter-append (is_left ops known) (take i ops) (o ∷ []))
      ∙ map-append shown_part (filter (is_left ops known) (take i ops)) (filter (is_left ops known) (o ∷ []))

  pub left_more : (named : BTreeSet Id) (made more : List ShownParts) → HasPassing ops known named → more ≡ made ++ if_left known named o
      → made ≡ map shown_part (filter (is_left ops known) (take i ops))
      → more ≡ map shown_part (filter (is_left ops known) (take (i + 1) ops))
  left_more named made more has pushed so =
      pushed ∙ (λ j. so j ++ cond (passes known o && not (has o.id j)) (shown_part o ∷ []) [])
      ∙ ap (λ (xs : List ShownParts). map shown_part (filter (is_left ops known) (take i ops)) ++ xs) (one (is_left ops known o))
      ∙ sym left_on
    where
      one : (b : Bool) → cond b (shown_part o ∷ []) [] ≡ map shown_part (cond b (o ∷ []) [])
      one true = refl
      one false = refl

pub map_reversed : {X Y : Type 0} (f : X → Y) (xs : List X) → map f (reverse xs) ≡ reverse (map f xs)
map_reversed f [] = refl
map_reversed {X} {Y} f (x ∷ xs) =
    ap (map f) (reverse-append (x ∷ []) xs) ∙ map-append f (reverse xs) (x ∷ [])
    ∙ ap (λ (ys : List Y). ys ++ f x ∷ []) (map_reversed f xs) ∙ sym (reverse-append (f x ∷ []) (map f xs))
