-- Cut short once it put a base, a sync is done again.
use Rattle.std.proofs.Common.{◌≡◌, ◌<◌, ◌^◌, inl, inr, ℕ, true, false, cond, not, List, [], ◌∷◌, ◌++◌, filter, length, None, Some, Ok, refl, sym, ap, subst, ◌∙◌, append-nil}
use Rattle.std.specs.List.{AllByRecursion, IsDistinct}
use Rattle.std.specs.Option.{is_some}
use Rattle.op_core.specs.Export.{has_book}
use Rattle.op_core.specs.OneBook.{ops_of_book}
use Rattle.op_core.specs.Ops.{Operation}
use Rattle.op_core.proofs.Sets.NoClash.{no_clash}
use Rattle.bundle_codec.specs.Reading.{AreBytes}
use Rattle.bundle_codec.specs.Spelling.{bundle}
use Rattle.project_file.proofs.Files.{project_is}
use Rattle.verse_cut.specs.Pieces.{PieceParts}
use Rattle.replica_state.specs.States.{State, IsState, begun}
use Rattle.replica_state.specs.Steps.{with_ops}
use Rattle.book_folder.specs.Asks.{emptied, undone}
use Rattle.book_folder.specs.Bases.{next_base}
use Rattle.book_folder.specs.Begun.{BegunParts}
use Rattle.book_folder.specs.Coming.{AllTaken, CameInParts, added_by, all_came, all_taken, bundles_begun, bundles_come_in, earlier_bases, in_turn, none_taken, older_from, rebased_if_stale, taken_all}
use Rattle.book_folder.specs.DoneAgain.{BaseStands, CutShortIsDoneAgain, IsDoneAgain, IsLeftFile, IsLeftOf, IsReadAlike, WasRead, WrittenFrom, first_of, next_of}
use Rattle.book_folder.specs.Files.{FileParts, are_of_one_book}
use Rattle.book_folder.specs.Plans.{headless}
use Rattle.book_folder.specs.ReadAgain.{pieces_by}
use Rattle.book_folder.specs.Refusals.{◌>>=◌, Stepped, stepped}
use Rattle.book_folder.specs.Stale.{rebased}
use Rattle.book_folder.specs.Taking.{StoodParts, stood_of, taken_in}
use Rattle.book_folder.specs.Wanted.{SeenParts, WishParts}
use Rattle.book_folder.specs.declared.refusal.Place.TheVariants as places
use Rattle.book_folder.proofs.CutShort.BaseReceived.{IsReceived, base_received}
use Rattle.book_folder.proofs.CutShort.Earlier.{AreBehind, AskNoMore, fewer, older_are_last, one_more, unasked_by, with_place}
use Rattle.book_folder.proofs.CutShort.NewFiles.{of_one}
use Rattle.book_folder.proofs.CutShort.OneBase.{all_in_turn}
use Rattle.book_folder.proofs.CutShort.Over.{beside, come_over}
use Rattle.book_folder.proofs.CutShort.ReadAgain.{read_again_nothing_comes_in}
use Rattle.book_folder.proofs.CutShort.TakenAll.{Ends, ends}
use Rattle.book_folder.proofs.CutShort.FileEnds.{EndOf, Unstood, own_stays}
use Rattle.book_folder.proofs.OwnBookLaws.{other_books_say_nothing}
use Rattle.book_folder.proofs.Schedules.Along.{Along}
use Rattle.book_folder.proofs.Schedules.BasesReach.{begins_along, ok_is, then_ok}
use Rattle.book_folder.proofs.Twice.SyncedFile.{base_of, synced_not_taken}
use Rattle.book_folder.proofs.CutShort.Ready.{Begins, CutSync, begins_again, bundled, bundled_has, has_base, whole_state}

-- nothing comes in of a file, whatever is written down of those before it
abbrev StaysOn : State → State → List State → WishParts → FileParts → Type 0
StaysOn s base older wishes f =
    (stood : List StoodParts) → (more : List StoodParts)
    × (taken_in s base older wishes stood f ≡ Ok (record { after = s; stood = more; count = 0 }))

-- and of several nothing does
none_come_on : (s base : State) (older : List State) (wishes : WishParts) (files : List FileParts) (stood : List StoodParts)
    → AllByRecursion (StaysOn s base older wishes) files
    → (more : List StoodParts) × (taken_all base older wishes (none_taken s stood) files ≡ Ok (none_taken s more))
none_come_on s base older wishes [] stood h = (stood, refl)
none_come_on s base older wishes (f ∷ files) stood h =
    let one = h.0 stood in
    let rest = none_come_on s base older wishes files one.0 h.1 in (
      rest.0,
      ap (λ r. r >>= λ next. taken_all base older wishes
          (all_taken next.after next.stood ([] ++ added_by f.book next.count)) files) one.1 ∙ rest.1,
    )

-- where it is known of all files what they were written from, they are taken in as they come
pub turns_are : (base : List Operation) (files : List FileParts) → AllByRecursion (λ f. has_book base f.book ≡ true) files
    → in_turn base files ≡ files
turns_are base files h = (λ i. kept files h i ++ none files h i) ∙ append-nil files
  where
    kept : (fs : List FileParts) → AllByRecursion (λ f. has_book base f.book ≡ true) fs → filter (λ f. has_book base f.book) fs ≡ fs
    kept [] h = refl
    kept (f ∷ fs) h = (λ i. cond (h.0 i) (f ∷ kept fs h.1 i) (kept fs h.1 i))

    none : (fs : List FileParts) → AllByRecursion (λ f. has_book base f.book ≡ true) fs → filter (λ f. not (has_book base f.book)) fs ≡ []
    none [] h = refl
    none (f ∷ fs) h = (λ i. cond (not (h.0 i)) (f ∷ none fs h.1 i) (none fs h.1 i))

module _ (own : State) (seen again : SeenParts) (wishes : WishParts) (files now : List FileParts) (older : List State) (b : BegunParts)
    (r : Stepped State (List ℕ)) (all : AllTaken)
    (y : CutSync own seen again wishes files now older b r all) (old : older_from b.base.name 0 [] (earlier_bases seen) ≡ Ok older) where
  abbrev s : State
  s = all.after

  abbrev c : CameInParts
  c = all_came seen b r.made all

  state : IsState s
  state = whole_state own seen again wishes files now older b r all y

  begins : Begins own seen again wishes files now older b r all y
  begins = begins_again own seen again wishes files now older b r all y

  abbrev base_now : State
  base_now = record { name = begins.name; held = y.left.from }

  -- ---- the bases before the base

  -- what is read of them then; where the base before stands, that asks nothing more
  earlier : (others : List State) × (older_from b.base.name 0 [] (earlier_bases again) ≡ Ok others)
      × (y.left.base ≡ b.base.held → (book : List ℕ) → AskNoMore b.base.held older others book)
  earlier = by y.left.next
    where
      name : List ℕ
      name = b.base.name

      front : List State
      front = (older_are_last name seen older old).0

      last : AreBehind name front seen.older older
      last = (older_are_last name seen older old).1

      asked_before : (own book : List ℕ) (pieces : List PieceParts) → undone older b.base.held own book pieces ≡ None
          → undone (front ++ last.behind) b.base.held own book pieces ≡ None
      asked_before own book pieces e =
          subst (λ (states : List State). undone states b.base.held own book pieces ≡ None) last.are e

      Earlier : Type 0
      Earlier = (others : List State) × (older_from name 0 [] (earlier_bases again) ≡ Ok others)
          × (y.left.base ≡ b.base.held → (book : List ℕ) → AskNoMore b.base.held older others book)

      -- the older ones alone
      alone : earlier_bases again ≡ again.older → Earlier
      alone is = (
        last.behind,
        ap (older_from name 0 []) (is ∙ y.left.older) ∙ last.again 0 [],
        λ same book own pieces e. fewer b.base.held front last.behind book own pieces (asked_before own book pieces e),
      )

      -- the base beside the next one
      beside_next : (next : List ℕ) → again.next ≡ Some next → BaseStands again y.left.base → Earlier
      beside_next next there (inl one) = (
        with_ops (begun name) y.left.base ∷ last.behind,
        (λ i. older_from name 0 [] (cond (is_some (there i)) (one.1 i ++ y.left.older i) (y.left.older i)))
            ∙ ap (λ r. r >>= λ t. older_from name 1 (t ∷ []) seen.older) (with_place name (places.Older 0) one.0 y.left.base one.2)
            ∙ last.again 1 (with_ops (begun name) y.left.base ∷ []),
        λ same book own pieces e.
            ap (λ (ops : List Operation). undone (with_ops (begun name) ops ∷ last.behind) b.base.held own book pieces) same
            ∙ one_more name b.base.held front last.behind book y.begun.base.set.rising own pieces (asked_before own book pieces e),
      )
      beside_next next there (inr none) =
          alone (λ i. cond (is_some (there i)) (none.0 i ++ again.older) again.older)

      by : WrittenFrom again c y.left.base y.left.from → Earlier
      by (inl one) = alone (ap (λ n. cond (is_some n) (again.bases ++ again.older) again.older) one.0)
      by (inr both) = beside_next (next_base (headless s.held) s.held) both.0 y.left.bases

  abbrev others : List State
  others = earlier.0

  abbrev On : FileParts → Type 0
  On f = StaysOn s base_now others wishes f

  -- a file that was read, under whatever name
  module _ (f : FileParts) (was : WasRead files f) where
    known : IsReadAlike b.base (first_of b c) was.file
    known = of_one (IsReadAlike b.base (first_of b c)) files y.each was.file was.among

    taken : EndOf b.base older wishes was.file all
    taken = of_one (λ g. EndOf b.base older wishes g all) files y.end.each was.file was.among

    abbrev here : FileParts
    here = record { at = f.at; book = was.file.book; name = f.name; bytes = was.file.bytes }

    same : here ≡ f
    same = λ i. record { at = f.at; book = was.book i; name = f.name; bytes = was.bytes i }

    -- by the first base
    by_first : ops_of_book y.left.from f.book ≡ ops_of_book (first_of b c).held f.book → On f
    by_first of stood = (
      stood,
      other_books_say_nothing s base_now (first_of b c) others wishes stood f of
          ∙ subst (λ (g : FileParts). taken_in s (first_of b c) others wishes stood g
          ≡ Ok (record { after = s; stood = stood; count = 0 })) same
          (read_again_nothing_comes_in s b.base others wishes all.stood stood here state y.begun.base
          (no_clash s.held b.base.held y.begun.base.set.rising (has_base own seen again wishes files now older b r all y).agrees) known.text
          (record { begun = known.begun; shown = taken.shown; written = taken.written; lines = known.lines }) known.manner y.unsettled),
    )

    -- by the base before
    by_own : y.left.base ≡ b.base.held → ops_of_book y.left.from f.book ≡ ops_of_book b.base.held f.book → On f
    by_own stands of stood =
        let more = stood ++ stood_of s.held b.base.held here.book (pieces_by b.base here) in (
          more,
          other_books_say_nothing s base_now b.base others wishes stood f of
              ∙ subst (λ (g : FileParts). taken_in s b.base others wishes stood g
              ≡ Ok (record { after = s; stood = more; count = 0 })) same
              (own_stays s b.base others wishes here all state refl y.unsettled known.known known.text (record {
                shown = taken.shown;
                written = taken.written;
                unchanged = taken.unchanged;
                unasked =
                    unasked_by wishes (undone older b.base.held s.name here.book (pieces_by b.base here))
                    (undone others b.base.held s.name here.book (pieces_by b.base here))
                    (emptied b.base.held here.book (pieces_by b.base here))
                    (earlier.2 stands here.book s.name (pieces_by b.base here)) taken.unasked;
              }) stood),
        )

  file_stays : (f : FileParts) → IsLeftFile b c files y.left.base y.left.from f → On f
  file_stays f (inl (was, inl of)) = by_first f was of
  file_stays f (inl (was, inr of)) = by_own f was of.0 of.1
  file_stays f (inr h) = λ stood. (
    stood,
    other_books_say_nothing s base_now (base_of s) others wishes stood f h.1
        ∙ synced_not_taken s state f h.0 others wishes stood y.unsettled,
  )

  files_stay : (fs : List FileParts) → AllByRecursion (IsLeftFile b c files y.left.base y.left.from) fs → AllByRecursion On fs
  files_stay [] h = tt
  files_stay (f ∷ fs) h = (file_stays f h.0, files_stay fs h.1)

  -- ---- all of it

  done : wishes.stale ≡ false → IsDoneAgain again wishes now c
  done fresh = record {
    came = all_came again next over.0 (none_taken s come.0);
    comes =
        ap (λ r. r >>= λ c. older_from c.base.name 0 [] (earlier_bases again) >>= λ old. rebased_if_stale wishes c old now >>= λ c.
        bundles_come_in again wishes old (in_turn c.base.held now) c) begins.begins
        ∙ ap (λ r. r >>= λ old. rebased_if_stale wishes next old now >>= λ c.
        bundles_come_in again wishes old (in_turn c.base.held now) c)
        (ap (λ (name : List ℕ). older_from name 0 [] (earlier_bases again)) begins.named ∙ earlier.1)
        ∙ ap (λ w. cond w (rebased wishes.settled next others now) (Ok next) >>= λ c.
        bundles_come_in again wishes others (in_turn c.base.held now) c) fresh
        ∙ ap (λ r. r >>= λ r. taken_all base_now others wishes (none_taken r.after []) (in_turn y.left.from now) >>= λ all.
        Ok (all_came again next r.made all)) bundles
        ∙ ap (λ r. r >>= λ all. Ok (all_came again next over.0 all))
        come.1;
    same = refl;
    added = refl;
  }
    where
      next : BegunParts
      next = record { replica = begins.project; base = base_now; held = begins.held }

      come : (more : List StoodParts) × (taken_all base_now others wishes (none_taken s []) (in_turn y.left.from now)
          ≡ Ok (none_taken s more))
      come =
          none_come_on s base_now others wishes (in_turn y.left.from now) []
          (all_in_turn On y.left.from now (files_stay now y.left.each))

      x : List Operation
      x = begins.ready.beyond

      over : (counts : List ℕ) × (bundles_begun true (beside b.replica x) seen.bundles ≡ Ok (stepped (beside r.after x) counts))
      over = come_over s.held x state.set.rising begins.ready.part wishes.joined 0 (stepped b.replica []) [] seen.bundles r
          y.start.state.set y.fits
          y.end.has y.got

      bundles : bundles_begun wishes.joined begins.project again.bundles ≡ Ok (stepped s over.0)
      bundles =
          (λ i. bundles_begun (y.joined i) (begins.ready.is i) (y.left.bundles i)) ∙ over.1
          ∙ (λ i. Ok (stepped (record { name = sym y.end.name i; held = begins.ready.makes i }) over.0))

-- the base has the book of each file that another one reads in the same way
pub all_known : (was then : State) (files : List FileParts) → AllByRecursion (IsReadAlike was then) files
    → AllByRecursion (λ (f : FileParts). has_book was.held f.book ≡ true) files
all_known was then [] h = tt
all_known was then (f ∷ fs) h = (h.0.known, all_known was then fs h.1)

-- where nothing is written down, nothing is of any file
pub none_stood : (files : List FileParts) → AllByRecursion (Unstood []) files
none_stood [] = tt
none_stood (f ∷ fs) = ((λ o e. refl), none_stood fs)

module _ (own : State) (seen again : SeenParts) (wishes : WishParts) (files now : List FileParts) (b : BegunParts)
    (unsettled : wishes.settled ≡ []) (fresh : wishes.stale ≡ false) (joined : wishes.joined ≡ true) (begun : IsReceived b)
    (start : Along own b.base.held b.replica) (fits : AllByRecursion AreBytes seen.bundles)
    (distinct : IsDistinct are_of_one_book files) where
  -- by the parts of the whole sync
  by_parts : (older : List State) (r : Stepped State (List ℕ)) (all : AllTaken) (c : CameInParts) → all_came seen b r.made all ≡ c
      → length (bundle (first_of b c).held) < 2 ^ 64 → length (bundle (next_of c)) < 2 ^ 64
      → older_from b.base.name 0 [] (earlier_bases seen) ≡ Ok older → bundles_begun wishes.joined b.replica seen.bundles ≡ Ok r
      → taken_all b.base older wishes (none_taken r.after []) (in_turn b.base.held files) ≡ Ok all
      → AllByRecursion (IsReadAlike b.base (first_of b c)) files → IsLeftOf seen again b c files now → IsDoneAgain again wishes now c
  by_parts older r all c same short small old got taken each left =
      subst (IsDoneAgain again wishes now) same
      (done own seen again wishes files now older b r all (record {
        unsettled = unsettled;
        joined = joined;
        begun = begun;
        start = start;
        fits = fits;
        got = got;
        end = end;
        each = known;
        short = subst (λ (d : CameInParts). length (bundle (first_of b d).held) < 2 ^ 64) (sym same) short;
        small = subst (λ (d : CameInParts). length (bundle (next_of d)) < 2 ^ 64) (sym same) small;
        left = subst (λ (d : CameInParts). IsLeftOf seen again b d files now) (sym same) left;
      }) old fresh)
    where
      known : AllByRecursion (IsReadAlike b.base (first_of b (all_came seen b r.made all))) files
      known = subst (λ (d : CameInParts). AllByRecursion (IsReadAlike b.base (first_of b d)) files) (sym same) each

      end : Ends own b.base older wishes (none_taken r.after []) all files
      end =
          ends own b.base (first_of b (all_came seen b r.made all)) begun.base older wishes unsettled (none_taken r.after []) files all
          known distinct (none_stood files)
          (bundled own seen wishes b r begun start fits got)
          (bundled_has own seen wishes b r begun start fits got)
          (ap (λ fs. taken_all b.base older wishes (none_taken r.after []) fs)
          (sym (turns_are b.base.held files (all_known b.base (first_of b (all_came seen b r.made all)) files known))) ∙ taken)

pub cut_short_is_done_again : CutShortIsDoneAgain
cut_short_is_done_again seen again wishes files now own b c bytes is short small unsettled fresh joined begins came distinct each left =
    let state = (project_is seen.project own bytes.project is).valid in
    let start = (begins_along own seen wishes b state bytes.bases bytes.next is begins).along in
    let begun = base_received seen wishes own b state bytes.bases bytes.next is begins in
    let o = then_ok (older_from b.base.name 0 [] (earlier_bases seen))
    (λ older. rebased_if_stale wishes b older files >>= λ b. bundles_come_in seen wishes older (in_turn b.base.held files) b) c
    (sym (ap (λ r. r >>= λ b. older_from b.base.name 0 [] (earlier_bases seen) >>= λ older. rebased_if_stale wishes b older files >>= λ b.
    bundles_come_in seen wishes older (in_turn b.base.held files) b) begins) ∙ came) in
    let older : List State = o.0 in
    let come : bundles_come_in seen wishes older (in_turn b.base.held files) b ≡ Ok c =
    sym (ap (λ w. cond w (rebased wishes.settled b older files) (Ok b) >>= λ b.
    bundles_come_in seen wishes older (in_turn b.base.held files) b) fresh)
    ∙ o.1.1 in
    let d = then_ok (bundles_begun wishes.joined b.replica seen.bundles)
    (λ r. taken_all b.base older wishes (none_taken r.after []) (in_turn b.base.held files) >>= λ all. Ok (all_came seen b r.made all)) c
    come in
    let t = then_ok (taken_all b.base older wishes (none_taken d.0.after []) (in_turn b.base.held files))
    (λ all. Ok (all_came seen b d.0.made all)) c d.1.1 in
    by_parts own seen again wishes files now b unsettled fresh joined begun start bytes.bundles distinct older d.0 t.0 c
    (ok_is (all_came seen b d.0.made t.0) c t.1.1) short small o.1.0 d.1.0 t.1.0 each left
