-- What operations name as replaced in their segments, gathered by one walk.
use Rattle.std.proofs.Common.{◌≡◌, ℕ, Bool, true, false, cond, ◌&&◌, ◌||◌, is_eq, List, [], ◌∷◌, rules, refl, sym, ap, ◌∙◌}
use Rattle.std.specs.List.{list_any}
use Rattle.std.proofs.Math.Bool.{or-false, or_assoc, and-false}
use Rattle.std.specs.declared.cmp.Ordering.{Ordering}
use Rattle.std.specs.declared.cmp.Ordering.TheVariants.{Less, Equal, Greater}
use Rattle.std.specs.Ordering.{ordering_then}
use Rattle.std.specs.BTreeSet.{contains}
use Rattle.std.specs.BTreeMap.{is_at}
use Rattle.usfm_ref.specs.Books.{book_cmp}
use Rattle.usfm_ref.specs.Keys.{KeyParts, key_cmp}
use Rattle.usfm_ref.specs.Segments.{segment_cmp}
use Rattle.usfm_ref.specs.declared.segment.Segment.{Segment}
use Rattle.usfm_ref.specs.contracts.book.BookOrd.TheImpl as books
use Rattle.usfm_ref.specs.contracts.key.KeyOrd.TheImpl as keys
use Rattle.usfm_ref.proofs.Orders.{same_segment-cmp}
use Rattle.op_core.specs.Ids.{Id, id_cmp, same_id}
use Rattle.op_core.specs.Ops.{Operation, in_segment, names}
use Rattle.op_core.specs.Shown.{is_replaced}
use Rattle.op_core.specs.contracts.ids.op_id.OpIdOrd.TheImpl as ids
use Rattle.op_core.proofs.IdOrders.Rising.{same_id-cmp}
use Rattle.op_core.proofs.ThinnedSets.Left.{same_id-sym}
use Rattle.bundle_codec.specs.Loops.Naming.{Named, has_named, HoldsNamed, AddsNamed}
use Rattle.bundle_codec.specs.Loops.Thinning.{Place}

-- ---- the order of ids with segments

abbrev pub named_cmp : Id × Place → Id × Place → Ordering
named_cmp a b = ordering_then (id_cmp a.0 b.0) (ordering_then (book_cmp a.1.0 b.1.0) (key_cmp a.1.1 b.1.1))

-- the order by which the set of them goes
abbrev pub set_cmp : Id × Place → Id × Place → Ordering
set_cmp a b = ordering_then (ids.ghosts.cmp a.0 b.0) (ordering_then (books.ghosts.cmp a.1.0 b.1.0) (keys.ghosts.cmp a.1.1 b.1.1))

id_cmp_is : (a b : Id) → ids.ghosts.cmp a b ≡ id_cmp a b
id_cmp_is a b = search rules

book_cmp_is : (a b : List ℕ) → books.ghosts.cmp a b ≡ book_cmp a b
book_cmp_is a b = search rules

key_cmp_is : (a b : KeyParts) → keys.ghosts.cmp a b ≡ key_cmp a b
key_cmp_is a b = search rules

set_cmp_is : set_cmp ≡ named_cmp
set_cmp_is i a b = ordering_then (id_cmp_is a.0 b.0 i) (ordering_then (book_cmp_is a.1.0 b.1.0 i) (key_cmp_is a.1.1 b.1.1 i))

-- what the set says of an id, a book and a key
pub has_at : (named : Named) (o : Operation) (id : Id) (book : List ℕ) (key : KeyParts) → id ≡ o.id → book ≡ o.segment.book
    → key ≡ o.segment.key → contains set_cmp named (id, (book, key)) ≡ has_named named o.segment o.id
has_at named o id book key e f g i = contains (set_cmp_is i) named (e i, (f i, g i))

both_equal : (a b : Ordering) → is_eq (ordering_then a b) ≡ (is_eq a && is_eq b)
both_equal Less b = refl
both_equal Equal b = refl
both_equal Greater b = refl

-- an id with a segment is found at the same id and the same segment
found_at : (x id : Id) (s g : Segment) → is_eq (named_cmp (x, (s.book, s.key)) (id, (g.book, g.key)))
    ≡ (same_id id x && is_eq (segment_cmp s g))
found_at x id s g =
    both_equal (id_cmp x id) (ordering_then (book_cmp s.book g.book) (key_cmp s.key g.key))
    ∙ ap (λ b. b && is_eq (segment_cmp s g)) (sym (same_id-cmp x id) ∙ same_id-sym x id)

-- ---- what one operation names

-- so far those that were passed are added
abbrev pub SoFarAdded : Operation → List Id → Named → Named → Type 0
SoFarAdded o rest old now = (g : Segment) (id : Id)
    → (has_named now g id || (in_segment g o && list_any (same_id id) rest)) ≡ (has_named old g id || (in_segment g o && names o id))

taken : (same beside had rest : Bool) → (cond (same && beside) true had || (beside && rest)) ≡ (had || (beside && (same || rest)))
taken true true true rest = refl
taken true true false rest = refl
taken true false had rest = refl
taken false true had rest = refl
taken false false had rest = refl

pub none_added : (o : Operation) (it : List Id) (old : Named) → it ≡ o.replaced → SoFarAdded o it old old
none_added o it old same g id = ap (λ (w : List Id). has_named old g id || (in_segment g o && list_any (same_id id) w)) same

pub adds : (o : Operation) (it rest : List Id) (x : Id) (old now new : Named) (book : List ℕ) (key : KeyParts) → it ≡ x ∷ rest
    → book ≡ o.segment.book → key ≡ o.segment.key
    → ((q : Id × Place) → contains set_cmp new q ≡ cond (is_at (set_cmp (x, (book, key))) q) true (contains set_cmp now q))
    → SoFarAdded o it old now → SoFarAdded o rest old new
adds o it rest x old now new book key next e f updates so_far g id =
    ap (λ b. b || (in_segment g o && list_any (same_id id) rest))
    (sym (λ i. contains (set_cmp_is i) new (id, (g.book, g.key)))
    ∙ updates (id, (g.book, g.key))
    ∙ (λ i. cond (is_at (set_cmp_is i (x, (e i, f i))) (id, (g.book, g.key))) true (contains (set_cmp_is i) now (id, (g.book, g.key))))
    ∙ ap (λ b. cond b true (has_named now g id))
    (found_at x id o.segment g ∙ ap (λ b. same_id id x && b) (sym (same_segment-cmp o.segment g))))
    ∙ taken (same_id id x) (in_segment g o) (has_named now g id) (list_any (same_id id) rest)
    ∙ ap (λ (w : List Id). has_named now g id || (in_segment g o && list_any (same_id id) w)) (sym next)
    ∙ so_far g id

pub all_added : (o : Operation) (it : List Id) (old now : Named) → it ≡ [] → SoFarAdded o it old now → AddsNamed o old now
all_added o it old now end so_far g id =
    sym (or-false (has_named now g id))
    ∙ ap (λ b. has_named now g id || b)
    (sym (and-false (in_segment g o)) ∙ ap (λ (w : List Id). in_segment g o && list_any (same_id id) w) (sym end))
    ∙ so_far g id

-- ---- what all name

-- what the operations so far name is gathered, and what the rest name is still to be
abbrev pub Gathered : List Operation → List Operation → Named → Type 0
Gathered all rest named = (g : Segment) (id : Id) → (has_named named g id || is_replaced rest g id) ≡ is_replaced all g id

pub none_gathered : (all it : List Operation) (named : Named) → named.keys ≡ [] → it ≡ all → Gathered all it named
none_gathered all it named none same g id i =
    list_any (is_at (named_cmp (id, (g.book, g.key)))) (none i) || is_replaced (same i) g id

pub gathers : (all it rest : List Operation) (o : Operation) (old new : Named) → it ≡ o ∷ rest → AddsNamed o old new
    → Gathered all it old → Gathered all rest new
gathers all it rest o old new next more so_far g id =
    ap (λ b. b || is_replaced rest g id) (more g id)
    ∙ or_assoc (has_named old g id) (in_segment g o && names o id) (is_replaced rest g id)
    ∙ ap (λ (w : List Operation). has_named old g id || is_replaced w g id) (sym next)
    ∙ so_far g id

pub all_gathered : (all it : List Operation) (named : Named) → it ≡ [] → Gathered all it named → HoldsNamed all named
all_gathered all it named end so_far g id =
    sym (or-false (has_named named g id))
    ∙ ap (λ (w : List Operation). has_named named g id || is_replaced w g id) (sym end)
    ∙ so_far g id
