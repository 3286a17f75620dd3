-- Sets whose bundles are read, and what two of them are settled to.
use Rattle.std.proofs.Common.{◌≡◌, ◌≤◌, ◌<◌, ℕ, ◌^◌, Bool, true, false, not, ◌&&◌, ◌||◌, List, [], ◌∷◌, filter, length, Option, None, Some, Ok, refl, sym, ap, ◌∙◌, append-nil, arith, codes}
use Rattle.std.specs.declared.cmp.Ordering.TheVariants.{Less, Equal, Greater}
use Rattle.std.specs.FinMap.Entries.{by_order}
use Rattle.std.specs.List.{list_any}
use Rattle.std.proofs.lemmas.Bool.{and_parts, false≢true}
use Rattle.std.proofs.lemmas.List.Filters.{length-filter_both}
use Rattle.usfm_ref.specs.declared.segment.Segment.{Segment}
use Rattle.usfm_ref.proofs.Orders.{same_segment-is}
use Rattle.verse_cut.proofs.MarkLaws.{both_second}
use Rattle.op_core.specs.Ids.{Id, id_cmp}
use Rattle.op_core.specs.Ops.{Operation, in_segment, is_full, names}
use Rattle.op_core.specs.Sets.{IsOpSet, get, join, meet, met, put, rises}
use Rattle.op_core.specs.Thinned.{is_legal, is_past}
use Rattle.op_core.proofs.FilteredLists.{any_filter}
use Rattle.op_core.proofs.Sets.Filters.{filter_passes, filter_within, rises-filter}
use Rattle.op_core.proofs.Sets.Gets.{all_from}
use Rattle.op_core.proofs.Sets.Legal.{join_legal, legal_at}
use Rattle.op_core.proofs.Sets.NoClash.{no_clash}
use Rattle.op_core.proofs.Sets.Union.{AgreeAtAll, join_comm}
use Rattle.bundle_codec.specs.Joining.{of_both, union_or_clash, whole_at, whole_if}
use Rattle.bundle_codec.specs.Spelling.{bundle}
use Rattle.bundle_codec.proofs.OneSpelling.{AreCounted-from_length}
use Rattle.bundle_codec.proofs.Spelled.{bundle_reads}
use Rattle.book_folder.specs.Begun.{is_one_of, joined_or, ops_not_of, ops_of, bases_from, received, received_or, set_or, union_of}
use Rattle.book_folder.specs.DoneAgain.{IsSettledBy}
use Rattle.book_folder.specs.declared.refusal.Place.TheVariants as places
use Rattle.book_folder.proofs.CutShort.HasAll.{HasAll, all_of_both, all_of_some, met_is}
use Rattle.book_folder.proofs.Schedules.ReadSets.{IsReadable, both_set, some_set}
use Rattle.op_core.proofs.Sets.Fronts.{join_none}
use Rattle.op_core.proofs.Sets.SideBySide.{clash_none}
use Rattle.replica_state.specs.States.{begun}
use Rattle.book_folder.specs.Refusals.{◌>>=◌}

-- ---- how many operations there are

length_put : (o : Operation) (ops : List Operation) → length ops ≤ length (put o ops)
length_put o [] = omega arith
length_put o (p ∷ ops) =
    elim (id_cmp o.id p.id)
    as (λ r. length (p ∷ ops) ≤ length (by_order r (o ∷ p ∷ ops) (meet p o ∷ ops) (p ∷ put o ops))) [
      | Less ↦ omega arith
      | Equal ↦ omega arith
      | Greater ↦ omega (arith, length_put o ops)
    ]

length_union : (a b : List Operation) → length a ≤ length (join a b)
length_union a [] = omega arith
length_union a (o ∷ b) = omega (arith, length_union a b, length_put o (join a b))

-- a set has no fewer operations than one of which it has all
pub no_fewer : (s a : List Operation) → rises s ≡ true → rises a ≡ true → HasAll s a → length a ≤ length s
no_fewer s a hs ha h =
    omega (arith, length_union a s, ap length (join_comm s a hs ha h.agrees), ap length h.held)

some_few : (p : Operation → Bool) (x : List Operation) → length x < 2 ^ 64 → length (filter p x) < 2 ^ 64
some_few p x few = omega (arith, few, length-filter_both p (λ o. not (p o)) (λ o. refl) x)

-- ---- sets whose bundles are read

-- a legal set that can be counted
pub record IsLegible (x : List Operation) : Type 0 where
  pub set : IsReadable x
  pub legal : is_legal x ≡ true
  pub few : length x < 2 ^ 64

-- its bundle is read as it
pub legible_read : (x : List Operation) → IsLegible x → whole_at (bundle x) ≡ Ok x
legible_read x h =
    ap whole_at (sym (append-nil (bundle x)))
    ∙ ap whole_if (bundle_reads.again x [] ((h.set.set, record { count = h.few; each = h.set.counted }), h.legal))

-- a legal set is one, whose bundle is of less than 2^64 bytes
pub short_legible : (x : List Operation) → IsReadable x → is_legal x ≡ true → length (bundle x) < 2 ^ 64 → IsLegible x
short_legible x set legal short = record { set = set; legal = legal; few = (AreCounted-from_length x short).count }

module _ (p : List ℕ → Bool) where
  abbrev of : Operation → Bool
  of o = p o.segment.book

  some_legal : (x : List Operation) → IsOpSet x → is_legal x ≡ true → is_legal (filter of x) ≡ true
  some_legal x set legal =
      all_from (λ o. is_full o || is_past (filter of x) o) (filter of x) (rises-filter of x set.rising) (λ o g. by o g (is_full o) refl)
    where
      one : (o : Operation) → get (filter of x) o.id ≡ Some o → is_full o ≡ false → is_past (filter of x) o ≡ true
      one o g n =
          any_filter (λ q. in_segment o.segment q && names q o.id) of x
          ∙ (λ i. list_any (λ q. both_second (of q) (in_segment o.segment q && names q o.id) (beside q) i) x)
          ∙ legal_at x o.id o legal (filter_within of x set.rising o.id o g) n
        where
          beside : (q : Operation) → (in_segment o.segment q && names q o.id) ≡ true → of q ≡ true
          beside q h =
              ap (λ (g : Segment). p g.book)
              (same_segment-is q.segment o.segment (and_parts (in_segment o.segment q) (names q o.id) h).0)
              ∙ filter_passes of x o.id o g

      by : (o : Operation) → get (filter of x) o.id ≡ Some o → (b : Bool) → is_full o ≡ b → (b || is_past (filter of x) o) ≡ true
      by o g true e = refl
      by o g false e = one o g e

  -- what such a set has of some books is one, since what names a thinned operation is of its book
  pub some_legible : (x : List Operation) → IsLegible x → IsLegible (filter of x)
  some_legible x h = record {
    set = some_set of x h.set;
    legal = some_legal x h.set.set h.legal;
    few = some_few of x h.few;
  }

-- what is made of one bundle as the base
pub one_union : (bytes : List ℕ) (x : List Operation) → rises x ≡ true → whole_at bytes ≡ Ok x
    → union_of (bytes ∷ []) ≡ Ok (record { name = codes "base"; held = x })
one_union bytes x rise read =
    ap (λ r. set_or (places.Base 0) r >>= λ ops. received (places.Base 0) (begun (codes "base")) ops >>= λ r. bases_from 1 r.after []) read
    ∙ ap (λ r. received_or (places.Base 0) (begun (codes "base")) x r >>= λ r. bases_from 1 r.after []) (clash_none x)
    ∙ (λ i. Ok (record { name = codes "base"; held = join_none x rise i }))

-- ---- what two of them are settled to

-- a set whose bundle is read, and of which another one has all
pub record IsWithin (s x : List Operation) : Type 0 where
  pub legible : IsLegible x
  pub all : HasAll s x

module _ (s base next : List Operation) (rise : rises s ≡ true) (few : length s < 2 ^ 64) (b : IsWithin s base) (n : IsWithin s next)
    (unplaced : List (List ℕ)) where
  abbrev left : Operation → Bool
  left o = is_one_of unplaced o.segment.book

  abbrev put_there : Operation → Bool
  put_there o = not (is_one_of unplaced o.segment.book)

  abbrev x : List Operation
  x = ops_of unplaced base

  abbrev y : List Operation
  y = ops_not_of unplaced next

  abbrev both : List Operation
  both = join x y

  hx : IsLegible x
  hx = some_legible (λ book. is_one_of unplaced book) base b.legible

  hy : IsLegible y
  hy = some_legible (λ book. not (is_one_of unplaced book)) next n.legible

  base_rises : rises base ≡ true
  base_rises = b.legible.set.set.rising

  next_rises : rises next ≡ true
  next_rises = n.legible.set.set.rising

  -- what is of one id is of one segment
  one_segment : (q : Id) (o p : Operation) → get base q ≡ Some o → get next q ≡ Some p → o.segment ≡ p.segment
  one_segment q o p go gp = by (get s q) refl
    where
      by : (r : Option Operation) → get s q ≡ r → o.segment ≡ p.segment
      by None e = cc (sym e ∙ met_is s base rise base_rises b.all q ∙ (λ i. met (e i) (go i)))
      by (Some z) e =
          sym (ap (λ (w : Operation). w.segment) (b.all.agrees q z o e go).bares)
          ∙ ap (λ (w : Operation). w.segment) (n.all.agrees q z p e gp).bares

  -- the two parts have no id together
  apart : AgreeAtAll x y
  apart q o p go gp =
      let same = one_segment q o p (filter_within left base base_rises q o go) (filter_within put_there next next_rises q p gp) in
      absurd (false≢true (ap not (sym (filter_passes left base q o go) ∙ ap (λ (g : Segment). is_one_of unplaced g.book) same)
      ∙ filter_passes put_there next q p gp))

  all_x : HasAll s x
  all_x = all_of_some left s base rise base_rises b.all

  all_y : HasAll s y
  all_y = all_of_some put_there s next rise next_rises n.all

  -- what they are settled to is such a set again
  pub settled_within : IsWithin s both
  settled_within = record {
    legible = record {
      set = both_set x y hx.set hy.set;
      legal = join_legal x y hx.set.set.rising hy.set.set.rising hx.legal hy.legal apart;
      few = omega (arith, few, no_fewer s both rise (both_set x y hx.set hy.set).set.rising all);
    };
    all = all;
  }
    where
      all : HasAll s both
      all = all_of_both s x y rise hx.set.set.rising hy.set.set.rising all_x all_y

  -- and they are settled
  pub settled_is_read : IsSettledBy unplaced base next both
  settled_is_read = record {
    bytes = bundle both;
    joined =
        ap (λ r. joined_or places.Next (of_both r (whole_at (bundle y)))) (legible_read x hx)
        ∙ ap (λ r. joined_or places.Next (of_both (Ok x) r)) (legible_read y hy)
        ∙ ap (λ r. joined_or places.Next (union_or_clash x y r)) (no_clash x y hy.set.set.rising apart);
    read = legible_read both settled_within.legible;
  }
