-- What a project holds, and what is written down of its files, once all files were taken in that were written from a base.
use Rattle.std.proofs.Common.{◌≡◌, ◌⊎◌, inl, inr, ℕ, true, false, ◌&&◌, List, [], ◌∷◌, ◌++◌, Some, Ok, refl, sym, ap, subst, ◌∙◌}
use Rattle.std.specs.List.{AllByRecursion, Contains, IsDistinct, list_any}
use Rattle.usfm_ref.specs.Books.{same_bytes}
use Rattle.usfm_ref.specs.Segments.{segment}
use Rattle.usfm_ref.specs.declared.segment.Segment.{Segment}
use Rattle.op_core.specs.Ids.{Id}
use Rattle.op_core.specs.Lists.{ids_of}
use Rattle.op_core.specs.NextIds.{is_among}
use Rattle.op_core.specs.OneBook.{ops_of_book}
use Rattle.op_core.specs.Ops.{Operation, own_text}
use Rattle.op_core.specs.Sets.{get}
use Rattle.op_core.specs.Shown.{shown}
use Rattle.op_core.proofs.Exports.OneBook.{shown_same}
use Rattle.replica_state.specs.Imports.{piece_at}
use Rattle.replica_state.specs.States.{State, IsState}
use Rattle.replica_state.proofs.SinceLaws.{is_first, is_later}
use Rattle.book_folder.specs.Asks.{emptied, undone}
use Rattle.book_folder.specs.Bases.{is_text, stood_text}
use Rattle.book_folder.specs.Coming.{AllTaken, added_by, all_taken, taken_all}
use Rattle.book_folder.specs.DoneAgain.{IsReadAlike}
use Rattle.book_folder.specs.Files.{FileParts, are_of_one_book}
use Rattle.book_folder.specs.ReadAgain.{pieces_by}
use Rattle.book_folder.specs.Taking.{Taken, asked, taken_in}
use Rattle.book_folder.specs.Wanted.{WishParts}
use Rattle.book_folder.proofs.CutShort.HasAll.{HasAll, all_of_itself, all_through}
use Rattle.book_folder.proofs.CutShort.Puts.{differ_back}
use Rattle.book_folder.proofs.CutShort.FileEnds.{EndOf, Unstood, changed_by, finds}
use Rattle.book_folder.proofs.CutShort.TakenFile.{StepOf, step_of}
use Rattle.book_folder.proofs.Schedules.Along.{Along}
use Rattle.book_folder.proofs.Schedules.BasesReach.{ok_is, then_ok}

-- an operation is of the book of one of some files
pub record IsOfFile (files : List FileParts) (o : Operation) : Type 0 where
  pub file : FileParts
  pub among : Contains files file
  pub of : o.segment.book ≡ file.book

all_other_way : (f : FileParts) (gs : List FileParts) → AllByRecursion (λ g. are_of_one_book f g ≡ false) gs
    → AllByRecursion (λ (g : FileParts). same_bytes g.book f.book ≡ false) gs
all_other_way f [] h = tt
all_other_way f (g ∷ gs) h = (differ_back f.book g.book h.0, all_other_way f gs h.1)

distinct_parts : (f : FileParts) (gs : List FileParts) → IsDistinct are_of_one_book (f ∷ gs)
    → AllByRecursion (λ g. are_of_one_book f g ≡ false) gs × IsDistinct are_of_one_book gs
unfolding IsDistinct
distinct_parts f gs h = h

-- what of a book is as it was, after files of others
pub record StaysOf (book : List ℕ) (t all : AllTaken) : Type 0 where
  pub ops : ops_of_book all.after.held book ≡ ops_of_book t.after.held book
  pub stood : (o : Operation) → o.segment.book ≡ book → stood_text all.stood o ≡ stood_text t.stood o

same_shown : (book : List ℕ) (t all : AllTaken) → StaysOf book t all → (g : Segment) → g.book ≡ book
    → shown all.after.held g ≡ shown t.after.held g
same_shown book t all h g e =
    sym (shown_same all.after.held book g e) ∙ ap (λ (ops : List Operation). shown ops g) h.ops
    ∙ shown_same t.after.held book g e

found_stays : (book : List ℕ) (t all : AllTaken) → StaysOf book t all → (o : Operation) → o.segment.book ≡ book
    → finds t o ≡ true → finds all o ≡ true
found_stays book t all h o e f =
    (λ i. is_among (ids_of (same_shown book t all h o.segment e i)) o.id && is_text (h.stood o e i) o) ∙ f

-- the project once all files were taken in
pub record Ends (s base : State) (older : List State) (wishes : WishParts) (t all : AllTaken) (files : List FileParts) : Type 0 where
  pub along : Along s base.held all.after
  pub name : all.after.name ≡ t.after.name
  pub has : HasAll all.after.held t.after.held
  pub each : AllByRecursion (λ f. EndOf base older wishes f all) files
  pub found : (q : Id) (o : Operation) → get all.after.held q ≡ Some o →
      (get t.after.held q ≡ Some o) ⊎ (finds all o ≡ true) × IsOfFile files o
  pub others : (book : List ℕ) → AllByRecursion (λ (f : FileParts). same_bytes f.book book ≡ false) files →
      StaysOf book t all

-- nothing is written down of other books after one more file
still : (s base : State) (older : List State) (wishes : WishParts) (t next : AllTaken) (f : FileParts) → StepOf s base older wishes t f next
    → (gs : List FileParts) → AllByRecursion (λ g. are_of_one_book f g ≡ false) gs → AllByRecursion (Unstood t.stood) gs
    → AllByRecursion (Unstood next.stood) gs
still s base older wishes t next f one [] h u = tt
still s base older wishes t next f one (g ∷ gs) h u =
    ((λ o e. one.stood o (ap (same_bytes f.book) e ∙ h.0) ∙ u.0 o e), still s base older wishes t next f one gs h.1 u.1)

module _ (s base again : State) (from : IsState base) (older : List State) (wishes : WishParts) (unsettled : wishes.settled ≡ []) where
  end_stays : (f : FileParts) (t all : AllTaken) → all.after.name ≡ t.after.name → StaysOf f.book t all → EndOf base older wishes f t
      → EndOf base older wishes f all
  end_stays f t all name h e = record {
    shown = λ key other.
        ap (λ (ops : List Operation). list_any (λ o. same_bytes (own_text o) (piece_at (pieces_by base f) key)) ops)
        (same_shown f.book t all h (segment f.book key) refl) ∙ e.shown key other;
    written = λ o key of. h.stood o (ap (λ (g : Segment). g.book) of) ∙ e.written o key of;
    unchanged = λ key. ap (changed_by base f key) (same_shown f.book t all h (segment f.book key) refl) ∙ e.unchanged key;
    unasked =
        ap (λ (n : List ℕ). asked wishes (undone older base.held n f.book (pieces_by base f)) (emptied base.held f.book (pieces_by base f)))
        name ∙ e.unasked;
  }

  pub ends : (t : AllTaken) (files : List FileParts) (all : AllTaken) → AllByRecursion (IsReadAlike base again) files
      → IsDistinct are_of_one_book files → AllByRecursion (Unstood t.stood) files → Along s base.held t.after
      → HasAll t.after.held base.held → taken_all base older wishes t files ≡ Ok all → Ends s base older wishes t all files
  ends t [] all known distinct fresh a has e =
      subst (λ (x : AllTaken). Ends s base older wishes t x []) (ok_is t all e) (record {
        along = a;
        name = refl;
        has = all_of_itself t.after.held a.state.set.rising;
        each = tt;
        found = λ q o g. inl g;
        others = λ book h. record { ops = refl; stood = λ o k. refl };
      })
  ends t (f ∷ later) all known distinct fresh a has e =
      let taken = then_ok (taken_in t.after base older wishes t.stood f)
      (λ n. taken_all base older wishes (all_taken n.after n.stood (t.added ++ added_by f.book n.count)) later) all e in
      let n : Taken = taken.0 in
      let next : AllTaken = all_taken n.after n.stood (t.added ++ added_by f.book n.count) in
      let one = step_of s base again from older wishes unsettled t f n known.0 a has fresh.0 taken.1.0 in
      let apart = distinct_parts f later distinct in
      let rest = ends next later all known.1 apart.1
      (still s base older wishes t next f one later apart.0 fresh.1) one.along
      (all_through n.after.held t.after.held base.held one.along.state.set.rising a.state.set.rising from.set.rising one.has has)
      taken.1.1 in
      let own = rest.others f.book (all_other_way f later apart.0) in
      record {
        along = rest.along;
        name = rest.name ∙ one.name;
        has = all_through all.after.held n.after.held t.after.held rest.along.state.set.rising one.along.state.set.rising
            a.state.set.rising rest.has one.has;
        each = (end_stays f next all rest.name own one.here, rest.each);
        found = λ q o g. elim (rest.found q o g) [
          | inl h ↦ elim (one.found q o h) [
            | inl k ↦ inl k
            | inr k ↦ inr (
              found_stays f.book next all own o k.0 k.1,
              record { file = f; among = is_first f later f refl; of = k.0 },
            )
          ]
          | inr h ↦ inr (h.0, record { file = h.1.file; among = is_later f later h.1.file h.1.among; of = h.1.of })
        ];
        others = λ book h.
            let more = rest.others book h.1 in record {
              ops = more.ops ∙ one.ops book h.0;
              stood = λ o k. more.stood o k ∙ one.stood o (ap (same_bytes f.book) k ∙ h.0);
            };
      }
