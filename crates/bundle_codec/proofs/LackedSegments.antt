-- The segments of which a thinned operation is lacked, gathered by one walk.
use Rattle.std.proofs.Common.{◌≡◌, ℕ, Bool, true, false, cond, not, ◌&&◌, ◌||◌, List, [], ◌∷◌, rules, refl, sym, ap, ◌∙◌}
use Rattle.std.specs.List.{list_any}
use Rattle.std.proofs.Math.Bool.{or-false}
use Rattle.std.specs.declared.cmp.Ordering.{Ordering}
use Rattle.std.specs.Ordering.{ordering_then}
use Rattle.std.specs.BTreeSet.{BTreeSet, contains}
use Rattle.std.specs.BTreeMap.{is_at}
use Rattle.usfm_ref.specs.Books.{book_cmp}
use Rattle.usfm_ref.specs.Keys.{KeyParts, key_cmp}
use Rattle.usfm_ref.specs.declared.segment.Segment.{Segment}
use Rattle.usfm_ref.specs.contracts.book.BookOrd.TheImpl as books
use Rattle.usfm_ref.specs.contracts.key.KeyOrd.TheImpl as keys
use Rattle.usfm_ref.proofs.Orders.{same_segment-cmp}
use Rattle.op_core.specs.Ids.{Id}
use Rattle.op_core.specs.Ops.{Operation, in_segment, is_thinned}
use Rattle.op_core.specs.Thinned.{is_lacked, lacks_thinned, is_sent}
use Rattle.bundle_codec.specs.Summaries.{NameRanges, covers, has_segment}

-- the order of books with keys
abbrev pub pair_cmp : List ℕ × KeyParts → List ℕ × KeyParts → Ordering
pair_cmp a b = ordering_then (book_cmp a.0 b.0) (key_cmp a.1 b.1)

-- the order by which the set of them goes
abbrev pub set_cmp : List ℕ × KeyParts → List ℕ × KeyParts → Ordering
set_cmp a b = ordering_then (books.ghosts.cmp a.0 b.0) (keys.ghosts.cmp a.1 b.1)

book_cmp_is : (a b : List ℕ) → books.ghosts.cmp a b ≡ book_cmp a b
book_cmp_is a b = search rules

key_cmp_is : (a b : KeyParts) → keys.ghosts.cmp a b ≡ key_cmp a b
key_cmp_is a b = search rules

set_cmp_is : set_cmp ≡ pair_cmp
set_cmp_is i a b = ordering_then (book_cmp_is a.0 b.0 i) (key_cmp_is a.1 b.1 i)

abbrev pub Segments : Type 0
Segments = BTreeSet (List ℕ × KeyParts)

-- what the set says of a book and a key
pub has_pair : (s : Segments) (g : Segment) (book : List ℕ) (key : KeyParts) → book ≡ g.book → key ≡ g.key
    → contains set_cmp s (book, key) ≡ has_segment s g
has_pair s g book key e f i = contains (set_cmp_is i) s (e i, f i)

-- the segments of the lacked thinned operations so far are gathered, and those of the rest are still to be
abbrev pub Gathered : (Id → Bool) → List Operation → List Operation → Segments → Type 0
Gathered knows all rest segments = (g : Segment) → (has_segment segments g || lacks_thinned rest knows g) ≡ lacks_thinned all knows g

pub none_gathered : (knows : Id → Bool) (all it : List Operation) (segments : Segments) → segments.keys ≡ [] → it ≡ all
    → Gathered knows all it segments
none_gathered knows all it segments none same g i =
    list_any (is_at (pair_cmp (g.book, g.key))) (none i) || lacks_thinned (same i) knows g

not_in : (a : Bool) (b rest : Bool) → b ≡ false → ((a && b) || rest) ≡ rest
not_in true b rest e = ap (λ c. c || rest) e
not_in false b rest e = refl

taken : (a b had rest : Bool) → b ≡ true → (cond a true had || rest) ≡ (had || ((a && b) || rest))
taken true b true rest e = refl
taken true b false rest e = sym (ap (λ c. c || rest) e)
taken false b had rest e = refl

module _ (knows : Id → Bool) (all it rest : List Operation) (o : Operation) (next : it ≡ o ∷ rest) (old : Segments)
    (so_far : Gathered knows all it old) where
  pub passes_by : (is_thinned o && is_lacked knows o) ≡ false → Gathered knows all rest old
  passes_by off g =
      ap (λ b. has_segment old g || b)
      (sym (not_in (in_segment g o) (is_thinned o && is_lacked knows o) (lacks_thinned rest knows g) off)
      ∙ ap (λ (ops : List Operation). lacks_thinned ops knows g) (sym next))
      ∙ so_far g

  pub gathers : (is_thinned o && is_lacked knows o) ≡ true → (new : Segments) (book : List ℕ) (key : KeyParts)
      → book ≡ o.segment.book → key ≡ o.segment.key
      → ((q : List ℕ × KeyParts) → contains set_cmp new q ≡ cond (is_at (set_cmp (book, key)) q) true (contains set_cmp old q))
      → Gathered knows all rest new
  gathers on new book key e f updates g =
      ap (λ b. b || lacks_thinned rest knows g)
      (sym (has_pair new g g.book g.key refl refl) ∙ updates (g.book, g.key)
      ∙ (λ i. cond (is_at (set_cmp_is i (e i, f i)) (g.book, g.key)) true (contains (set_cmp_is i) old (g.book, g.key)))
      ∙ ap (λ b. cond b true (has_segment old g)) (sym (same_segment-cmp o.segment g)))
      ∙ taken (in_segment g o) (is_thinned o && is_lacked knows o) (has_segment old g) (lacks_thinned rest knows g) on
      ∙ ap (λ (ops : List Operation). has_segment old g || lacks_thinned ops knows g) (sym next)
      ∙ so_far g

pub all_gathered : (knows : Id → Bool) (all it : List Operation) (segments : Segments) → it ≡ [] → Gathered knows all it segments
    → (g : Segment) → has_segment segments g ≡ lacks_thinned all knows g
all_gathered knows all it segments end so_far g =
    sym (or-false (has_segment segments g))
    ∙ ap (λ (ops : List Operation). has_segment segments g || lacks_thinned ops knows g) (sym end)
    ∙ so_far g

-- whether an operation is sent, as it is tested
pub asked : (all : List Operation) (summary coverage : List NameRanges) (whole : Segments) (o : Operation) (sent : Bool)
    → coverage ≡ summary → ((g : Segment) → has_segment whole g ≡ lacks_thinned all (covers summary) g)
    → sent ≡ (not (covers coverage o.id) || has_segment whole o.segment) → is_sent all (covers summary) o ≡ sent
asked all summary coverage whole o sent same lacks e =
    sym (e ∙ ap (λ (s : List NameRanges). not (covers s o.id) || has_segment whole o.segment) same
    ∙ ap (λ b. not (covers summary o.id) || b) (lacks o.segment))
