-- Lists of which each is there once, what is added for one item after another, and ids put into a set.
use Rattle.std.proofs.Common.{◌≡◌, ℕ, ◌+◌, ◌<◌, Bool, true, false, cond, ◌||◌, List, [], ◌∷◌, ◌++◌, length, take, get_or, sym, ap, refl, ◌∙◌}
use Rattle.std.specs.BTreeMap.{is_at}
use Rattle.std.specs.BTreeSet.{BTreeSet, contains}
use Rattle.std.specs.Cmp.Lexicographic.{texts_ties, nat_list_cmp_total}
use Rattle.std.specs.FinMap.{slice_cmp-IsAntisymmetric, nat_cmp-IsAntisymmetric}
use Rattle.std.specs.List.{flat_map, list_any}
use Rattle.std.specs.List.Retain.{IsFiltered, DiffersFromLast}
use Rattle.std.specs.List.Sorted.{IsSorted, IsPermutation}
use Rattle.std.proofs.lemmas.List.{map-id, flat_map_more, take_more}
use Rattle.std.proofs.Math.Bool.{or-false}
use Rattle.usfm_ref.specs.Books.{same_bytes}
use Rattle.usfm_ref.specs.Rising.{rising}
use Rattle.usfm_ref.specs.Segments.{segment_cmp}
use Rattle.usfm_ref.specs.contracts.segment.SegmentPartialEq.TheImpl as equal
use Rattle.usfm_ref.specs.declared.segment.Segment.{Segment}
use Rattle.usfm_ref.proofs.Once.{sorted_once}
use Rattle.usfm_ref.proofs.Orders.{segment_total, segment_exact, same_segment-cmp}
use Rattle.op_core.specs.Ids.{Id, id_cmp, same_id}
use Rattle.op_core.specs.Names.{name_cmp}
use Rattle.op_core.specs.Ops.{Operation, names}
use Rattle.segment_history.proofs.Gathers.{at_id, eq_is}

-- sorted segments of which each is left once are the rising ones
pub segments_once : (items sorted once : List Segment) → IsPermutation items sorted → IsSorted segment_cmp sorted
    → IsFiltered (DiffersFromLast equal.ghosts.eq) [] sorted once → once ≡ rising segment_cmp items
segments_once items sorted once p s f =
    sym (map-id once) ∙ sorted_once (λ (g : Segment). g) segment_cmp segment_total segment_exact equal.ghosts.eq
    (λ a b. eq_is a b ∙ same_segment-cmp a b) items sorted once p s f
    ∙ ap (rising segment_cmp) (map-id items)

-- the same of names
pub names_once : (items sorted once : List (List ℕ)) → IsPermutation items sorted → IsSorted name_cmp sorted
    → IsFiltered (DiffersFromLast same_bytes) [] sorted once → once ≡ rising name_cmp items
names_once items sorted once p s f =
    sym (map-id once) ∙ sorted_once (λ (n : List ℕ). n) name_cmp nat_list_cmp_total
    (λ a b h. slice_cmp-IsAntisymmetric nat_cmp-IsAntisymmetric a b h) same_bytes texts_ties items sorted once p s f
    ∙ ap (rising name_cmp) (map-id items)

-- what is added for one item more
pub appended : {X A : Type 0} (f : X → List A) (xs : List X) (i : ℕ) (x : X) (old now more : List A) → i < length xs
    → x ≡ get_or xs i x → more ≡ now ++ f x → now ≡ old ++ flat_map f (take i xs) → more ≡ old ++ flat_map f (take (i + 1) xs)
appended {X} {A} f xs i x old now more l is pushed so =
    pushed ∙ ap (λ (ys : List A). ys ++ f x) so ∙ flat_map_more f old (take i xs) x
    ∙ ap (λ (ys : List X). old ++ flat_map f ys) (ap (λ (y : X). take i xs ++ y ∷ []) is ∙ sym (take_more xs i x l))

-- so far a set has the ids of a list but for those that are left
abbrev pub InsertedSoFar : List Id → List Id → BTreeSet Id → BTreeSet Id → Type 0
InsertedSoFar ids rest s t = (q : Id) →
    (contains id_cmp t q || list_any (same_id q) rest) ≡ (contains id_cmp s q || list_any (same_id q) ids)

pub inserted_more : (ids it rest : List Id) (id : Id) (s t u : BTreeSet Id) → it ≡ id ∷ rest
    → ((q : Id) → contains id_cmp u q ≡ cond (is_at (id_cmp id) q) true (contains id_cmp t q))
    → InsertedSoFar ids it s t → InsertedSoFar ids rest s u
inserted_more ids it rest id s t u next updates so q =
    ap (λ b. b || list_any (same_id q) rest) (updates q ∙ ap (λ b. cond b true (contains id_cmp t q)) (at_id q id))
    ∙ by (same_id q id) (contains id_cmp t q) (list_any (same_id q) rest)
    ∙ ap (λ (xs : List Id). contains id_cmp t q || list_any (same_id q) xs) (sym next) ∙ so q
  where
    by : (a c r : Bool) → (cond a true c || r) ≡ (c || (a || r))
    by true true r = refl
    by true false r = refl
    by false c r = refl

pub inserted_all : (o : Operation) (it : List Id) (s t : BTreeSet Id) → it ≡ [] → InsertedSoFar o.replaced it s t
    → (q : Id) → contains id_cmp t q ≡ (contains id_cmp s q || names o q)
inserted_all o it s t end so q =
    sym (or-false (contains id_cmp t q)) ∙ ap (λ (xs : List Id). contains id_cmp t q || list_any (same_id q) xs) (sym end) ∙ so q
