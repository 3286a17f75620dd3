-- What is read where a sync was cut short is what the laws of a sync that is done again ask for.
use Rattle.std.proofs.Common.{◌≡◌, ◌⊎◌, inl, inr, ℕ, Bool, true, cond, List, [], ◌∷◌, filter, Contains, None, Some, Ok, option_to_list, refl, sym, ap, subst, ◌∙◌, ◌<◌, ◌^◌, ◌&&◌, length, arith}
use Rattle.std.specs.List.{AllByRecursion}
use Rattle.std.specs.Str.{is_utf8}
use Rattle.op_core.specs.OneBook.{ops_of_book}
use Rattle.op_core.specs.Ops.{Operation, IsOperation}
use Rattle.op_core.specs.Sets.{IsOpSet, join}
use Rattle.op_core.proofs.FilteredLists.{kept_each}
use Rattle.op_core.proofs.Sets.Filters.{rises-filter}
use Rattle.op_core.proofs.Sets.Union.{IsOpSet-join}
use Rattle.bundle_codec.specs.Spelling.{bundle}
use Rattle.project_file.specs.Projects.{project, project_at}
use Rattle.project_file.proofs.Files.{project_again}
use Rattle.replica_state.specs.States.{IsState, State}
use Rattle.book_folder.specs.Bases.{base_as_read, found_shown, is_text, kept_shown, shows, stood_text}
use Rattle.book_folder.specs.Coming.{CameInParts, comes_in}
use Rattle.book_folder.specs.CutShort.{PutParts, first_base, put_by}
use Rattle.book_folder.specs.Disks.{DiskParts, bytes_at}
use Rattle.book_folder.specs.DoneAgain.{BaseStands, BasesStand, IsLeftFile, IsReadAlike, IsSettledBy, NextIsThere, ProjectAndBase, WrittenFrom, first_of, next_of, with_nothing_new}
use Rattle.book_folder.specs.Files.{FileParts, files_from}
use Rattle.book_folder.specs.Plans.{headless, NewFileParts}
use Rattle.book_folder.specs.declared.refusal.Place.TheVariants as places
use Rattle.book_folder.proofs.CutShort.DoneAgain.{cut_short_is_done_again}
use Rattle.book_folder.proofs.CutShort.LeftFiles.{IsKeptOrPut, IsKeptOrSynced, NameIsKnown, each_left as each_file_left}
use Rattle.book_folder.proofs.CutShort.NewFiles.{weaker}
use Rattle.book_folder.proofs.CutShort.RecoveredAgain.{recovered_comes_in_again}
use Rattle.book_folder.proofs.Schedules.BasesReach.{joined_is, ok_is}
use Rattle.book_folder.proofs.Schedules.ReadSets.{short_set, some_set}
use Rattle.book_folder.proofs.CutShort.CutRead.{CutRead, clear_is, short_bundle}
use Rattle.std.specs.Option.{is_none}
use Rattle.std.proofs.lemmas.Bool.{and_parts}
use Rattle.op_core.specs.Thinned.{is_legal}
use Rattle.op_core.proofs.Sets.Legal.{join_legal}
use Rattle.bundle_codec.proofs.OneSpelling.{AreCounted-from_length}
use Rattle.book_folder.specs.Begun.{is_one_of, ops_not_of, ops_of}
use Rattle.book_folder.proofs.CutShort.HasAll.{HasAll, IsPart, all_of_both, all_of_part, all_of_some, part_agrees, some_part}
use Rattle.book_folder.proofs.CutShort.LeftBases.{settled_books}
use Rattle.book_folder.proofs.CutShort.Legible.{IsWithin, legible_read, no_fewer, settled_is_read, settled_within, short_legible}
use Rattle.book_folder.proofs.Twice.ShownBase.{shown_legal, some_shown_legal}

module _ (cut : CutRead) where
  abbrev files : List FileParts
  files = cut.y.plan_is.files

  abbrev held : List Operation
  held = cut.c.replica.held

  abbrev first : List Operation
  first = (first_of cut.b cut.c).held

  abbrev next : List Operation
  next = next_of cut.c

  -- all comes in again, and makes the same project
  abbrev pub Same : Type 0
  Same = (came : CameInParts) × (comes_in cut.again cut.wishes cut.now ≡ Ok came) × (came.replica ≡ cut.c.replica)

  set : IsOpSet held
  set = cut.along.state.set

  some : (p : Operation → Bool) (ops : List Operation) → IsOpSet ops → IsOpSet (filter p ops)
  some p ops h = record { rising = rises-filter p ops h.rising; each = kept_each IsOperation p ops h.each }

  few : length held < 2 ^ 64
  few = (AreCounted-from_length held (short_bundle cut.c.replica cut.y.short)).count

  -- ---- the bases can be read, and the project has all of them

  abbrev kept : List Operation
  kept = kept_shown cut.c.stood cut.b.base.held

  abbrev found : List Operation
  found = found_shown cut.c.stood held

  base_state : IsState cut.b.base
  base_state = cut.g.grows.received.base

  pub base_within : IsWithin held cut.b.base.held
  base_within = record {
    legible = record {
      set = cut.g.grows.received.readable;
      legal = base_state.legal;
      few = omega (arith, few, no_fewer held cut.b.base.held set.rising base_state.set.rising cut.along.has);
    };
    all = cut.along.has;
  }

  kept_set : IsOpSet kept
  kept_set = some _ cut.b.base.held base_state.set

  found_set : IsOpSet found
  found_set = some _ held set

  found_part : IsPart held found
  found_part = some_part _ held set.rising

  held_kept : HasAll held kept
  held_kept = all_of_some _ held cut.b.base.held set.rising base_state.set.rising cut.along.has

  kept_legal : is_legal kept ≡ true
  kept_legal =
      some_shown_legal cut.b.base.held (λ o. shows cut.b.base.held o && is_none (stood_text cut.c.stood o)) base_state.set base_state.legal
      (λ o h. (and_parts (shows cut.b.base.held o) (is_none (stood_text cut.c.stood o)) h).0)

  found_legal : is_legal found ≡ true
  found_legal =
      some_shown_legal held (λ o. shows held o && is_text (stood_text cut.c.stood o) o) set cut.along.state.legal
      (λ o h. (and_parts (shows held o) (is_text (stood_text cut.c.stood o) o) h).0)

  pub first_within : IsWithin held first
  first_within = record {
    legible =
        short_legible first (short_set first (IsOpSet-join kept found kept_set found_set) cut.y.first)
        (join_legal kept found kept_set.rising found_set.rising kept_legal found_legal
        (part_agrees held kept found kept_set.rising held_kept found_part))
        cut.y.first;
    all = all_of_both held kept found set.rising kept_set.rising found_set.rising held_kept
        (all_of_part held found set.rising found_part);
  }

  pub next_within : IsWithin held next
  next_within = record {
    legible =
        short_legible next (short_set next (some _ held set) cut.y.next)
        (shown_legal held (headless held) set cut.along.state.legal) cut.y.next;
    all = all_of_part held next set.rising (some_part _ held set.rising);
  }

  -- the base that is put first
  pub put_base : (files : List NewFileParts) → first_base cut.c files ≡ Ok cut.base
      → (files ≡ []) × (cut.base ≡ bundle next) ⊎ (cut.base ≡ bundle first)
  put_base [] h = inl (refl, sym (ok_is (bundle next) cut.base h))
  put_base (f ∷ later) h =
      inr (joined_is places.Project kept found cut.base
      (some_set _ cut.b.base.held base_within.legible.set)
      (some_set _ held (short_set held set (short_bundle cut.c.replica cut.y.short)))
      (ap (λ (t : State). base_as_read cut.c.stood t.held held) (sym cut.along.base) ∙ h))

  abbrev pub put : PutParts
  put = put_by cut.seen.project cut.c cut.base

  -- ---- the files

  came : comes_in cut.seen cut.wishes files ≡ Ok cut.c
  came = cut.y.plan_is.came

  texts : AllByRecursion (λ (f : FileParts). is_utf8 f.bytes ≡ true) files
  texts = weaker (IsReadAlike cut.b.base (first_of cut.b cut.c)) (λ f. is_utf8 f.bytes ≡ true) (λ f h. h.text) files cut.y.each

  now_is : files_from 0 cut.again.files ≡ cut.now
  now_is = clear_is cut.again cut.now cut.clear

  files_are : files_from 0 cut.seen.files ≡ files
  files_are = clear_is cut.seen files cut.y.plan_is.clear

  -- each file that is read again is one that was read, or as a sync leaves it
  pub each_left : (keeps : List ℕ → Bool) → ((name : List ℕ) → NameIsKnown cut.seen.files cut.again.files cut.made keeps name)
      → ((n : NewFileParts) → Contains cut.made n → IsKeptOrPut cut.again.files cut.made keeps n)
      → AllByRecursion (IsKeptOrSynced held files keeps) cut.now
  each_left keeps known others =
      subst (AllByRecursion (IsKeptOrSynced held files keeps)) now_is
      (each_file_left cut.seen held files cut.y.plan_is.form cut.made set cut.y.plan_is.new cut.y.distinct texts cut.y.whole
      cut.y.manner cut.seen.files cut.again.files keeps cut.x.distinct files_are known others)

  -- each was written from what its book has in what is read again
  pub left_each : (base from ops : List Operation) (keeps : List ℕ → Bool)
      → (ops ≡ first) ⊎ (base ≡ cut.b.base.held) × (ops ≡ cut.b.base.held)
      → ((book : List ℕ) → ops_of_book from book ≡ cond (keeps book) (ops_of_book ops book) (ops_of_book next book))
      → AllByRecursion (IsKeptOrSynced held files keeps) cut.now → AllByRecursion (IsLeftFile cut.b cut.c files base from) cut.now
  left_each base from ops keeps which of h =
      weaker (IsKeptOrSynced held files keeps) (IsLeftFile cut.b cut.c files base from) on cut.now h
    where
      on : (f : FileParts) → IsKeptOrSynced held files keeps f → IsLeftFile cut.b cut.c files base from f
      on f (inl k) =
          let is : ops_of_book from f.book ≡ ops_of_book ops f.book =
          of f.book ∙ ap (λ r. cond r (ops_of_book ops f.book) (ops_of_book next f.book)) k.1 in
          inl (
            k.0,
            elim which [
              | inl same ↦ inl (is ∙ ap (λ (xs : List Operation). ops_of_book xs f.book) same)
              | inr same ↦ inr (same.0, is ∙ ap (λ (xs : List Operation). ops_of_book xs f.book) same.1)
            ],
          )
      on f (inr k) = inr (k.0, of f.book ∙ ap (λ r. cond r (ops_of_book ops f.book) (ops_of_book next f.book)) k.1)

  -- ---- what stands

  -- what stands under a name as it did is read as it was
  pub at_name : (name : List ℕ) → bytes_at cut.e.files name ≡ bytes_at cut.d.files name
      → bytes_at cut.again.files name ≡ bytes_at cut.seen.files name
  at_name name h = cut.x.read.files name ∙ h ∙ sym (cut.y.read.files name)

  pub base_is : (bytes : List ℕ) → cut.e.base ≡ Some bytes → cut.again.bases ≡ bytes ∷ []
  base_is bytes h = cut.x.read.bases ∙ ap option_to_list h

  -- a base that was put is read as it is
  pub base_stands : (ops : List Operation) → IsWithin held ops → cut.e.base ≡ Some (bundle ops) → BaseStands cut.again ops
  base_stands ops h is = inl (bundle ops, base_is (bundle ops) is, legible_read ops h.legible)

  -- no next one is there: the files were written from the base
  pub alone : (ops : List Operation) → cut.e.next ≡ None → WrittenFrom cut.again cut.c ops ops
  alone ops h = inl (cut.x.read.next ∙ h, refl)

  -- or the plan's is
  pub next_is : cut.e.next ≡ Some put.next → NextIsThere cut.again cut.c
  next_is h = cut.x.read.next ∙ h

  -- the files were written from the base, settled by it
  abbrev pub by_next : List Operation → List Operation
  by_next ops = join (ops_of cut.again.unplaced ops) (ops_not_of cut.again.unplaced next)

  settles : (ops : List Operation) → IsWithin held ops → IsSettledBy cut.again.unplaced ops next (by_next ops)
  settles ops h = settled_is_read held ops next set.rising few h next_within cut.again.unplaced

  pub beside : (ops : List Operation) → IsWithin held ops → cut.e.next ≡ Some put.next → WrittenFrom cut.again cut.c ops (by_next ops)
  beside ops h there = inr (next_is there, settles ops h)

  -- book by book
  pub settled_each : (ops : List Operation) → IsWithin held ops → (book : List ℕ)
      → ops_of_book (by_next ops) book ≡ cond (is_one_of cut.again.unplaced book) (ops_of_book ops book) (ops_of_book next book)
  settled_each ops h book =
      settled_books cut.again.unplaced ops next h.legible.set next_within.legible.set (by_next ops) (settles ops h) book

  -- what the two bases that the plan puts are settled to, but for some books
  pub mixed_within : (left : List (List ℕ)) → IsWithin held (join (ops_of left first) (ops_not_of left next))
  mixed_within left = settled_within held first next set.rising few first_within next_within left

  pub mixed_settled : (left : List (List ℕ)) → IsSettledBy left first next (join (ops_of left first) (ops_not_of left next))
  mixed_settled left = settled_is_read held first next set.rising few first_within next_within left

  -- the project has what the bases brought, or all
  pub began_is : cut.e.project ≡ put.began → project_at cut.again.project ≡ Ok cut.b.replica
  began_is h = ap project_at (cut.x.read.project ∙ h) ∙ cut.y.began

  pub all_is : cut.e.project ≡ put.project → project_at cut.again.project ≡ Ok cut.c.replica
  all_is h = ap project_at (cut.x.read.project ∙ h) ∙ project_again cut.c.replica cut.along.state cut.y.short

  -- ---- done again

  -- of what is left once a base was put
  pub by_left : (ops from : List Operation) → BaseStands cut.again ops → ProjectAndBase cut.again cut.b cut.c files ops
      → WrittenFrom cut.again cut.c ops from → AllByRecursion (IsLeftFile cut.b cut.c files ops from) cut.now → Same
  by_left ops from bases project written each =
      let r = cut_short_is_done_again cut.seen cut.again cut.wishes files cut.now cut.s cut.b cut.c cut.y.bytes cut.y.is cut.y.first
      cut.y.next cut.unsettled cut.fresh cut.joined cut.y.begun came
      cut.y.distinct cut.y.each (record {
        base = ops;
        bases = bases;
        project = project;
        from = from;
        next = written;
        each = each;
        older = cut.x.older;
        bundles = cut.x.bundles;
      }) in
      (r.came, r.comes, r.same)

  -- of what is left before that
  pub early : project_at cut.again.project ≡ Ok cut.b.replica → BasesStand cut.seen cut.again cut.b
      → cut.again.files ≡ cut.seen.files → Same
  early project bases same = (
    with_nothing_new cut.c,
    ap (comes_in cut.again cut.wishes) (sym now_is ∙ ap (files_from 0) same ∙ files_are)
        ∙ recovered_comes_in_again cut.seen cut.again cut.wishes files cut.s cut.b cut.c cut.y.bytes cut.y.is cut.fresh cut.y.begun came
        (record { project = project; bases = bases; older = cut.x.older; bundles = cut.x.bundles }),
    refl,
  )

  -- nothing was done
  pub nothing : cut.e ≡ cut.d → Same
  nothing same = (
    cut.c,
    (λ i. comes_in (record {
      project = (cut.x.read.project ∙ ap (λ (k : DiskParts). k.project) same ∙ sym cut.y.read.project) i;
      bases = (cut.x.read.bases ∙ ap (λ (k : DiskParts). option_to_list k.base) same ∙ sym cut.y.read.bases) i;
      next = (cut.x.read.next ∙ ap (λ (k : DiskParts). k.next) same ∙ sym cut.y.read.next) i;
      older = cut.x.older i;
      unplaced = cut.x.unplaced (ap (λ (k : DiskParts). k.new) same) i;
      names = cut.again.names;
      files = cut.again.files;
      others = cut.again.others;
      bundles = cut.x.bundles i;
    }) cut.wishes ((sym now_is ∙ ap (files_from 0) (cut.x.files (ap (λ (k : DiskParts). k.files) same)) ∙ files_are) i))
        ∙ came,
    refl,
  )
