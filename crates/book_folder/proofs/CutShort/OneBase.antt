-- What a folder begins with where one base stands in it, and perhaps a next one; and files of which nothing comes in.
use Rattle.std.proofs.Common.{◌≡◌, ℕ, true, false, not, List, [], ◌∷◌, ◌++◌, length, None, Some, Ok, refl, sym, ap, ◌∙◌}
use Rattle.std.specs.List.{AllByRecursion}
use Rattle.op_core.specs.Export.{has_book}
use Rattle.op_core.specs.Ops.{Operation}
use Rattle.op_core.specs.Sets.{clash, join, rises}
use Rattle.op_core.proofs.FilteredLists.{kept_each}
use Rattle.op_core.proofs.Sets.Fronts.{join_none}
use Rattle.op_core.proofs.Sets.SideBySide.{clash_none}
use Rattle.bundle_codec.specs.Joining.{whole_at}
use Rattle.bundle_codec.specs.Spelling.{bundle}
use Rattle.replica_state.specs.Receives.{lacked}
use Rattle.replica_state.specs.States.{State, begun}
use Rattle.replica_state.specs.Steps.{with_ops}
use Rattle.book_folder.specs.Begun.{BegunParts, begun_alone, holding, is_one_of, ops_not_of, ops_of, received, received_if_alike, received_or, replica_at, set_or, settled_base, with_base, with_bases, with_next}
use Rattle.book_folder.specs.Coming.{added_by, all_taken, files_by, in_turn, none_taken, taken_all}
use Rattle.book_folder.specs.Files.{FileParts}
use Rattle.book_folder.specs.Refusals.{◌>>=◌, stepped}
use Rattle.book_folder.specs.Taking.{taken_in}
use Rattle.book_folder.specs.Wanted.{WishParts}
use Rattle.book_folder.specs.declared.refusal.Place.TheVariants as places
use Rattle.book_folder.proofs.Schedules.BasesReach.{joined_is}
use Rattle.book_folder.proofs.Schedules.Reached.{all_both}
use Rattle.book_folder.proofs.Schedules.ReadSets.{IsReadable, both_set, read_again, some_set}

-- what a settled base is: what the base has of some books, and what the next one has of all others
pub settled_is : (unplaced : List (List ℕ)) (base next settled : List Operation) (bytes : List ℕ) → IsReadable base → IsReadable next
    → settled_base unplaced base next ≡ Ok bytes → whole_at bytes ≡ Ok settled
    → (settled ≡ join (ops_of unplaced base) (ops_not_of unplaced next))
    × IsReadable (join (ops_of unplaced base) (ops_not_of unplaced next))
settled_is unplaced base next settled bytes hb hn joined read =
    let left = ops_of unplaced base in
    let right = ops_not_of unplaced next in
    let hl : IsReadable left = some_set (λ o. is_one_of unplaced o.segment.book) base hb in
    let hr : IsReadable right = some_set (λ o. not (is_one_of unplaced o.segment.book)) next hn in
    let is = joined_is places.Next left right bytes hl hr joined in
    let both = both_set left right hl hr in
    ((read_again (join left right) settled both (ap whole_at (sym is) ∙ read)).0, both)

module _ (wishes : WishParts) (p : State) (first : List Operation) where
  abbrev pub holds : List Operation → State
  holds held = record { name = p.name; held = held }

  -- a project of which so much was read, with a base
  abbrev pub begins_with : State → List Operation → BegunParts
  begins_with now base = record { replica = now; base = holds base; held = length p.held }

  -- the one base is received
  pub one_base : (bytes : List ℕ) (now : State) (n : ℕ) → rises first ≡ true → whole_at bytes ≡ Ok first
      → received_if_alike wishes.joined (places.Base 0) p first ≡ Ok (stepped now n)
      → with_bases wishes 0 (begun_alone p) (bytes ∷ []) ≡ Ok (begins_with now first)
  one_base bytes now n rise read got =
      ap (λ r. (r >>= with_base wishes (places.Base 0) (begun_alone p)) >>= λ next. with_bases wishes 1 next [])
      (ap (set_or (places.Base 0)) read)
      ∙ ap (λ r. (r >>= λ x. received (places.Base 0) (begun p.name) first >>= λ y.
      Ok (record { replica = x.after; base = y.after; held = length p.held })) >>= λ next. with_bases wishes 1 next []) got
      ∙ ap (λ r. (r >>= λ y. Ok (record { replica = now; base = y.after; held = length p.held })) >>= λ next. with_bases wishes 1 next [])
      first_got
    where
      first_got : received (places.Base 0) (begun p.name) first ≡ Ok (stepped (holds first) (length (lacked [] first)))
      first_got =
          ap (received_or (places.Base 0) (begun p.name) first) (clash_none first)
          ∙ (λ i. Ok (stepped (holds (join_none first rise i)) (length (lacked [] first))))

  -- and settled by the next one
  pub then_next : (unplaced : List (List ℕ)) (now : State) (part mixed : List Operation) (bytes : List ℕ) → IsReadable first
      → IsReadable part → whole_at (bundle part) ≡ Ok part → settled_base unplaced first part ≡ Ok bytes → whole_at bytes ≡ Ok mixed
      → clash now.held part ≡ None
      → with_next unplaced (begins_with now first) (Some (bundle part)) ≡ Ok (begins_with (with_ops now part) mixed)
  then_next unplaced now part mixed bytes hf hp read settled again none =
      ap (λ r. r >>= λ next. settled_base unplaced first next >>= λ base. received places.Next now next >>= λ r.
      replica_at p.name places.Next base >>= λ settled. Ok (record { replica = r.after; base = settled; held = length p.held }))
      (ap (set_or places.Next) read)
      ∙ ap (λ r. r >>= λ base. received places.Next now part >>= λ r.
      replica_at p.name places.Next base >>= λ settled. Ok (record { replica = r.after; base = settled; held = length p.held })) settled
      ∙ ap (λ r. r >>= λ r. replica_at p.name places.Next bytes >>= λ settled.
      Ok (record { replica = r.after; base = settled; held = length p.held })) (ap (received_or places.Next now part) none)
      ∙ ap (λ r. r >>= λ settled. Ok (record { replica = with_ops now part; base = settled; held = length p.held })) mixed_got
    where
      mixed_rises : rises mixed ≡ true
      mixed_rises = let is = settled_is unplaced first part mixed bytes hf hp settled again in ap rises is.0 ∙ is.1.set.rising

      mixed_got : replica_at p.name places.Next bytes ≡ Ok (holds mixed)
      mixed_got =
          ap (λ r. set_or places.Next r >>= holding p.name places.Next) again
          ∙ ap (λ r. received_or places.Next (begun p.name) mixed r >>= λ y. Ok y.after) (clash_none mixed)
          ∙ (λ i. Ok (holds (join_none mixed mixed_rises i)))

-- ---- files

-- what holds of all files holds of them in their turn
pub all_in_turn : (P : FileParts → Type 0) (base : List Operation) (files : List FileParts) → AllByRecursion P files
    → AllByRecursion P (in_turn base files)
all_in_turn P base files h =
    all_both P (files_by true base files) (files_by false base files) (kept_each P (λ f. has_book base f.book) files h)
    (kept_each P (λ f. not (has_book base f.book)) files h)

-- nothing comes in of a file
abbrev pub Stays : State → State → List State → WishParts → FileParts → Type 0
Stays s base older wishes f = taken_in s base older wishes [] f ≡ Ok (record { after = s; stood = []; count = 0 })

-- and of several nothing does
pub none_come : (s base : State) (older : List State) (wishes : WishParts) (files : List FileParts)
    → AllByRecursion (Stays s base older wishes) files → taken_all base older wishes (none_taken s []) files ≡ Ok (none_taken s [])
none_come s base older wishes [] h = refl
none_come s base older wishes (f ∷ files) h =
    ap (λ r. r >>= λ next. taken_all base older wishes
    (all_taken next.after next.stood ([] ++ added_by f.book next.count)) files) h.0
    ∙ none_come s base older wishes files h.1
