-- A sync that was done whole leaves a folder as it is to be left.
use Rattle.std.proofs.Common.{◌≡◌, ◌⊎◌, inl, inr, ℕ, Bool, true, false, cond, ◌&&◌, List, [], ◌∷◌, find, map, Contains, Option, None, Some, Ok, option_map, option_to_list, refl, sym, ap, subst, ◌∙◌, arith, suc}
use Rattle.std.specs.List.{AllByRecursion, IsDistinct}
use Rattle.std.specs.Option.{is_none, is_some, option_or}
use Rattle.std.proofs.lemmas.Bool.{and_parts, false≢true}
use Rattle.usfm_ref.specs.Books.{same_bytes}
use Rattle.usfm_ref.proofs.Orders.{same_bytes-is, same_bytes-refl}
use Rattle.op_core.specs.Export.{export}
use Rattle.op_core.specs.Ops.{Operation}
use Rattle.op_core.proofs.Sets.Fronts.{join_none}
use Rattle.op_core.proofs.Sets.Legal.{join_legal}
use Rattle.op_core.proofs.Sets.SideBySide.{clash_none}
use Rattle.op_core.proofs.Sets.Union.{IsOpSet-join, agree_from_no_clash}
use Rattle.bundle_codec.specs.Joining.{of_both, union_or_clash, whole_at}
use Rattle.bundle_codec.specs.Spelling.{bundle}
use Rattle.project_file.specs.Projects.{project_at}
use Rattle.project_file.proofs.Files.{project_again, project_is}
use Rattle.replica_state.specs.States.{State, IsState, begun}
use Rattle.replica_state.proofs.SinceLaws.{none_there, is_first, is_later}
use Rattle.book_folder.specs.Bases.{base_as_read, found_shown, is_text, kept_shown, shows, stood_text}
use Rattle.book_folder.specs.Begun.{BegunParts, joined_or, judged, ops_not_of, ops_of, set_or, settled, settled_base, joined_at}
use Rattle.book_folder.specs.Coming.{CameInParts}
use Rattle.book_folder.specs.CutShort.{PutParts, put_by, first_base}
use Rattle.book_folder.specs.Disks.{DiskParts, bytes_at}
use Rattle.book_folder.specs.DoneAgain.{first_of, next_of}
use Rattle.book_folder.specs.DoneTwice.{DoneIsSynced, IsDoneSync, IsReadThen, all_done, same_new_name}
use Rattle.book_folder.specs.Files.{FileParts, file_of, files_from, book_begun, found_at, place_of}
use Rattle.book_folder.specs.FolderLaws.{IsSynced, IsSyncedFile}
use Rattle.book_folder.specs.Plans.{NewFileParts, PlanParts, headless, is_like_file, is_whole}
use Rattle.book_folder.specs.Refusals.{◌>>=◌}
use Rattle.book_folder.specs.Wanted.{FoundParts, SeenParts, WishParts}
use Rattle.book_folder.specs.declared.refusal.Place.TheVariants as places
use Rattle.book_folder.proofs.CutShort.BaseReceived.{FromBases, from_bases}
use Rattle.book_folder.proofs.CutShort.CutRead.{clear_is, short_bundle, CameBy, came_by, came_base, came_state}
use Rattle.book_folder.proofs.CutShort.LeftFiles.{IsFound, IsKeptOrSynced, each_left, named_in, IsKeptOrPut, NameIsKnown, WasNamed, each_found}
use Rattle.book_folder.proofs.CutShort.Legible.{IsLegible, legible_read, one_union, short_legible}
use Rattle.book_folder.proofs.CutShort.NewFiles.{gets_file, of_one, is_new, new_are_whole, new_begins, weaker}
use Rattle.book_folder.proofs.CutShort.Puts.{first_or_later}
use Rattle.book_folder.proofs.SettledBooks.{joined_apart}
use Rattle.book_folder.proofs.Schedules.BasesReach.{joined_is}
use Rattle.book_folder.proofs.Schedules.ReadSets.{IsReadable, nothing_set, short_set, some_set}
use Rattle.book_folder.proofs.Twice.AllDone.{IsAllDone}
use Rattle.book_folder.proofs.Twice.Emptied.{no_book}
use Rattle.book_folder.proofs.Twice.PlanDone.{plan_done, SettlesAtLast}
use Rattle.book_folder.specs.Likes.{like}
use Rattle.book_folder.specs.Naming.{free_or, name_for, new_name}
use Rattle.book_folder.specs.declared.refusal.Place.{Place}
use Rattle.book_folder.proofs.CutShort.LeftBases.{old_settles}
use Rattle.book_folder.proofs.Twice.ShownBase.{shown_legal, some_shown_legal}

-- ---- names

-- what stands under a name is found there
found_there : (at : ℕ) (files : List FoundParts) (name bytes : List ℕ) → bytes_at files name ≡ Some bytes
    → is_some (found_at at (map (λ f. f.name) files) name) ≡ true
found_there at [] name bytes h = cc h
found_there at (f ∷ files) name bytes h = by (same_bytes f.name name) h (λ k. found_there (suc at) files name bytes k)
  where
    by : (b : Bool) → option_map (λ (g : FoundParts). g.bytes) (cond b (Some f) (find (λ g. same_bytes g.name name) files)) ≡ Some bytes
        → (bytes_at files name ≡ Some bytes → is_some (found_at (suc at) (map (λ f. f.name) files) name) ≡ true)
        → is_some (cond b (Some at) (found_at (suc at) (map (λ f. f.name) files) name)) ≡ true
    by true e rest = refl
    by false e rest = rest e

-- so a name under which something stands is not free
not_free : (seen : SeenParts) (name bytes n : List ℕ) → bytes_at seen.files name ≡ Some bytes
    → free_or (place_of seen name) name ≡ Ok n → ⊥
not_free seen name bytes n h e = by (found_at 0 (map (λ f. f.name) seen.files) name) (found_there 0 seen.files name bytes h) e
  where
    by : (r : Option ℕ) → is_some r ≡ true
        → free_or (option_or (option_map places.File r) (option_map places.Other (found_at 0 seen.others name))) name ≡ Ok n → ⊥
    by None k e = false≢true k
    by (Some at) k e = cc e

-- a name that is free is the one that it gets
free_is : (r : Option Place) (name n : List ℕ) → free_or r name ≡ Ok n → name ≡ n
free_is None name n e = cc e
free_is (Some place) name n e = cc e

-- a file of a list, of a book
file_found : (files : List FileParts) (book : List ℕ) (f : FileParts) → file_of files book ≡ Some f → Contains files f × (f.book ≡ book)
file_found [] book f e = cc e
file_found (g ∷ files) book f e = by (same_bytes g.book book) refl e (λ k. file_found files book f k)
  where
    by : (b : Bool) → same_bytes g.book book ≡ b → cond b (Some g) (file_of files book) ≡ Some f
        → (file_of files book ≡ Some f → Contains files f × (f.book ≡ book)) → Contains (g ∷ files) f × (f.book ≡ book)
    by true k e rest =
        let same : g ≡ f = cc e in
        (is_first g files f same, ap (λ (x : FileParts). x.book) (sym same) ∙ same_bytes-is g.book book k)
    by false k e rest = let r = rest e in (is_later g files f r.0, r.1)

-- where there is one, one is found
some_file : (files : List FileParts) (book : List ℕ) (f : FileParts) → Contains files f → f.book ≡ book
    → (g : FileParts) × (file_of files book ≡ Some g)
some_file [] book f there e = absurd (none_there f there)
some_file (x ∷ files) book f there e = by (same_bytes x.book book) refl (first_or_later x files f there) (λ k. some_file files book f k e)
  where
    by : (b : Bool) → same_bytes x.book book ≡ b → (x ≡ f) ⊎ Contains files f
        → (Contains files f → (g : FileParts) × (file_of files book ≡ Some g))
        → (g : FileParts) × (cond b (Some x) (file_of files book) ≡ Some g)
    by true k where_it rest = (x, refl)
    by false k (inr later) rest = rest later
    by false k (inl same) rest =
        absurd (false≢true (sym k ∙ ap (λ (y : FileParts). same_bytes y.book book) same ∙ ap (λ (b : List ℕ). same_bytes b book) e
        ∙ same_bytes-refl book))

-- of new files with names of their own, two of one name are one
one_of_name : (files : List NewFileParts) → IsDistinct same_new_name files → (f g : NewFileParts) → Contains files f → Contains files g
    → f.name ≡ g.name → f ≡ g
unfolding IsDistinct
one_of_name [] h f g hf hg e = absurd (none_there f hf)
one_of_name (x ∷ files) h f g hf hg e =
    by (first_or_later x files f hf) (first_or_later x files g hg) (λ kf kg. one_of_name files h.1 f g kf kg e)
  where
    apart : (ys : List NewFileParts) → AllByRecursion (λ y. same_new_name x y ≡ false) ys → (y : NewFileParts) → Contains ys y
        → same_new_name x y ≡ false
    apart [] k y there = absurd (none_there y there)
    apart (z ∷ ys) k y there = elim (first_or_later z ys y there) [
      | inl same ↦ ap (same_new_name x) (sym same) ∙ k.0
      | inr later ↦ apart ys k.1 y later
    ]

    differs : (y : NewFileParts) → Contains files y → x.name ≡ y.name → ⊥
    differs y there k =
        false≢true (sym (apart files h.0 y there) ∙ ap (same_bytes x.name) (sym k) ∙ same_bytes-refl x.name)

    by : (x ≡ f) ⊎ Contains files f → (x ≡ g) ⊎ Contains files g → (Contains files f → Contains files g → f ≡ g) → f ≡ g
    by (inl a) (inl b) rest = sym a ∙ b
    by (inl a) (inr b) rest = absurd (differs g b (ap (λ (y : NewFileParts). y.name) a ∙ e))
    by (inr a) (inl b) rest = absurd (differs f a (ap (λ (y : NewFileParts). y.name) b ∙ sym e))
    by (inr a) (inr b) rest = rest a b

-- ---- bases

-- of no book is kept
none_of : (ops : List Operation) → ops_of [] ops ≡ []
none_of [] = refl
none_of (o ∷ ops) = none_of ops

-- and all of the others
all_of : (ops : List Operation) → ops_not_of [] ops ≡ ops
all_of [] = refl
all_of (o ∷ ops) = ap (λ (xs : List Operation). o ∷ xs) (all_of ops)

-- no book is left: the base is the next one
settled_whole : (first next : List Operation) → IsLegible first → IsLegible next
    → settled (bundle first ∷ []) (bundle next) [] ≡ Ok (bundle next)
settled_whole first next hf hn =
    ap (λ r. r >>= λ b. judged places.Next (bundle next) >>= settled_base [] b.held)
    (one_union (bundle first) first hf.set.set.rising (legible_read first hf))
    ∙ ap (λ r. set_or places.Next r >>= settled_base [] first) (legible_read next hn)
    ∙ (λ i. joined_at places.Next (none_of first i) (all_of next i))
    ∙ ap (λ r. joined_or places.Next (of_both r (whole_at (bundle next)))) (legible_read [] nothing)
    ∙ ap (λ r. joined_or places.Next (of_both (Ok []) r)) (legible_read next hn)
    ∙ ap (λ r. joined_or places.Next (union_or_clash [] next r)) (clash_none next)
    ∙ ap (λ (ops : List Operation). Ok (bundle ops)) (join_none next hn.set.set.rising)
  where
    nothing : IsLegible []
    nothing = record { set = nothing_set; legal = refl; few = omega arith }

-- ---- a sync that was done whole

module _ (seen again : SeenParts) (wishes : WishParts) (s : State) (b : BegunParts) (c : CameInParts) (now : List FileParts)
    (made : List NewFileParts) (base : List ℕ) (plan : PlanParts) (d : DiskParts)
    (y : IsDoneSync seen wishes s b c made base plan d) (x : IsReadThen again now (all_done d plan.steps)) where
  abbrev e : DiskParts
  e = all_done d plan.steps

  abbrev put : PutParts
  put = put_by seen.project c base

  abbrev files : List FileParts
  files = y.plan_is.files

  abbrev held : List Operation
  held = c.replica.held

  abbrev first : List Operation
  first = (first_of b c).held

  abbrev next : List Operation
  next = next_of c

  own_state : IsState s
  own_state = (project_is seen.project s y.bytes.project y.is).valid

  by_parts : CameBy seen wishes s b c files
  by_parts = came_by seen wishes s b c files own_state y.bytes y.is y.fresh y.begun y.plan_is.came

  state : IsState c.replica
  state = came_state seen wishes s b c files by_parts

  from : FromBases seen wishes s b
  from = from_bases seen wishes s b own_state y.bytes.bases y.bytes.next y.is y.begun

  -- ---- the bases

  base_set : IsReadable b.base.held
  base_set = from.grows.received.readable

  held_set : IsReadable held
  held_set = short_set held state.set (short_bundle c.replica y.short)

  next_legible : IsLegible next
  next_legible =
      short_legible next (short_set next (some_set _ held held_set).set y.next) (shown_legal held (headless held) state.set state.legal)
      y.next

  abbrev kept : List Operation
  kept = kept_shown c.stood b.base.held

  abbrev found : List Operation
  found = found_shown c.stood held

  first_legible : (bytes : List ℕ) → joined_at places.Project kept found ≡ Ok bytes → IsLegible first × (bytes ≡ bundle first)
  first_legible bytes joined =
      let hk : IsReadable kept = some_set _ b.base.held base_set in
      let hf : IsReadable found = some_set _ held held_set in
      let apart = joined_apart places.Project kept found bytes hk hf joined in
      let kept_legal = some_shown_legal b.base.held (λ o. shows b.base.held o && is_none (stood_text c.stood o))
      from.grows.received.base.set from.grows.received.base.legal
      (λ o h. (and_parts (shows b.base.held o) (is_none (stood_text c.stood o)) h).0) in
      let found_legal = some_shown_legal held (λ o. shows held o && is_text (stood_text c.stood o) o) state.set state.legal
      (λ o h. (and_parts (shows held o) (is_text (stood_text c.stood o) o) h).0) in (
        short_legible first (short_set first (IsOpSet-join kept found hk.set hf.set) y.first)
            (join_legal kept found hk.set.rising hf.set.rising kept_legal found_legal (agree_from_no_clash kept found apart)) y.first,
        joined_is places.Project kept found bytes hk hf joined,
      )

  at_last : SettlesAtLast made put
  at_last = by made y.plan_is.first
    where
      by : (fs : List NewFileParts) → first_base c fs ≡ Ok base → SettlesAtLast fs put
      by [] h = tt
      by (f ∷ later) h =
          let r = first_legible base
          (ap (λ (t : State). base_as_read c.stood t.held held) (sym (came_base seen wishes s b c files by_parts)) ∙ h) in
          ap (λ (bytes : List ℕ). settled (bytes ∷ []) (bundle next) []) r.1 ∙ settled_whole first next r.0 next_legible

  done : IsAllDone d put made e
  done =
      plan_done seen wishes c made base plan d y.plan_is y.read
      (old_settles seen wishes s b from d y.read y.bytes.bases y.bytes.next) at_last

  -- ---- the files

  files_are : files_from 0 seen.files ≡ files
  files_are = clear_is seen files y.plan_is.clear

  now_is : files_from 0 again.files ≡ now
  now_is = clear_is again now x.clear

  at_name : (name : List ℕ) → bytes_at e.files name ≡ bytes_at d.files name → bytes_at again.files name ≡ bytes_at seen.files name
  at_name name h = x.read.files name ∙ h ∙ sym (y.read.files name)

  abbrev none : List ℕ → Bool
  none book = false

  each_synced : AllByRecursion (IsSyncedFile held) now
  each_synced =
      subst (AllByRecursion (IsSyncedFile held)) now_is
      (weaker (IsKeptOrSynced held files none) (IsSyncedFile held) synced (files_from 0 again.files)
      (each_left seen held files y.plan_is.form made state.set y.plan_is.new y.distinct y.texts y.whole y.manner seen.files again.files
      none x.distinct files_are known others))
    where
      synced : (f : FileParts) → IsKeptOrSynced held files none f → IsSyncedFile held f
      synced f (inl k) = absurd (false≢true k.1)
      synced f (inr k) = k.0

      known : (name : List ℕ) → NameIsKnown seen.files again.files made none name
      known name = elim (done.files name) [
        | inl same ↦ inl (at_name name same)
        | inr p ↦ inr (p.file, p.of, x.read.files name ∙ p.text, refl)
      ]

      others : (g : NewFileParts) → Contains made g → IsKeptOrPut again.files made none g
      others g there = let p = done.all g there in inr (p.file, p.of, x.read.files g.name ∙ p.text)

  -- a file that is found there is one of those that are read
  in_now : (f : FileParts) → IsFound again.files f → WasNamed now f
  in_now f h = subst (λ (fs : List FileParts). WasNamed fs f) now_is (named_in 0 again.files f h)

  -- a file that was read, by its name
  in_seen : (f : FileParts) → Contains files f → IsFound seen.files f
  in_seen f there =
      of_one (IsFound seen.files) files (subst (AllByRecursion (IsFound seen.files)) files_are (each_found 0 seen.files y.names)) f there

  -- a new file begins with its book
  begins : (g : NewFileParts) → Contains made g → book_begun g.text ≡ Some g.book
  begins g there =
      new_begins seen held files y.plan_is.form made g state.set y.plan_is.new there
      (y.manner g.book (new_are_whole seen held files y.plan_is.form made g y.plan_is.new there))

  -- it has the name of no other book's file
  own_name : (g : NewFileParts) → Contains made g → (f : FileParts) → Contains files f → f.name ≡ g.name → f.book ≡ g.book
  own_name g there f of same =
      let new = is_new seen held files y.plan_is.form made g y.plan_is.new there in
      by new.book (file_of files new.book) refl new.of.name ∙ sym new.of.book_is
    where
      by : (book : List ℕ) (r : Option FileParts) → file_of files book ≡ r → new_name seen y.plan_is.form book r ≡ Ok g.name
          → f.book ≡ book
      by book None k n =
          let name = name_for seen.names y.plan_is.form book in
          let is : name ≡ g.name = free_is (place_of seen name) name g.name n in
          absurd (not_free seen name f.bytes g.name (ap (bytes_at seen.files) (is ∙ sym same) ∙ (in_seen f of).0) n)
      by book (Some file) k n =
          let there = file_found files book file k in
          let named : file.name ≡ g.name = cc n in
          let bytes : f.bytes ≡ file.bytes =
          cc (sym (in_seen f of).0 ∙ ap (bytes_at seen.files) (same ∙ sym named) ∙ (in_seen file there.0).0) in
          let one : f.book ≡ file.book = cc (sym (in_seen f of).1 ∙ ap book_begun bytes ∙ (in_seen file there.0).1) in one ∙ there.1

  -- each book that the project has whole has a file
  has_file : (book : List ℕ) → is_whole held book ≡ true → (f : FileParts) × (file_of now book ≡ Some f)
  has_file book whole = elim (gets_file seen held files y.plan_is.form made book y.plan_is.new whole) [
    | inl f ↦ old f.0 f.1
    | inr g ↦ put_there g.0 g.1 g.2
  ]
    where
      Has : Type 0
      Has = (f : FileParts) × (file_of now book ≡ Some f)

      -- of a file that stands under a name
      stands : (name bytes : List ℕ) → bytes_at again.files name ≡ Some bytes → book_begun bytes ≡ Some book → Has
      stands name bytes h begun =
          let w = in_now (record { at = 0; book = book; name = name; bytes = bytes }) (h, begun) in some_file now book w.file w.among w.book

      put_there : (g : NewFileParts) → Contains made g → g.book ≡ book → Has
      put_there g there is =
          let p = done.all g there in
          let same : p.file ≡ g = one_of_name made y.new_names p.file g p.of there p.under in
          stands g.name g.text (x.read.files g.name ∙ p.text ∙ ap (λ (n : NewFileParts). Some n.text) same)
          (begins g there ∙ ap (λ (k : List ℕ). Some k) is)

      old : (f : FileParts) → file_of files book ≡ Some f → Has
      old f k =
          let there = file_found files book f k in
          let own = in_seen f there.0 in
          elim (done.files f.name) [
            | inl same ↦ stands f.name f.bytes (at_name f.name same ∙ own.0) (own.1 ∙ ap (λ (k : List ℕ). Some k) there.1)
            | inr p ↦ stands f.name p.file.text (x.read.files f.name ∙ p.text)
                (begins p.file p.of
                ∙ ap (λ (k : List ℕ). Some k) (sym (own_name p.file p.of f there.0 (sym p.under)) ∙ there.1))
          ]

  like_file : (book : List ℕ) → is_whole held book ≡ true → is_like_file (file_of now book) (export held book) ≡ true
  like_file book whole =
      let f = has_file book whole in
      let there = file_found now book f.0 f.1 in
      ap (λ (r : Option FileParts). is_like_file r (export held book)) f.1
      ∙ ap (λ (k : List ℕ). like (export held k) f.0.bytes) (sym there.1)
      ∙ (of_one (IsSyncedFile held) now each_synced f.0 there.0).alike

  -- ---- all of it

  is_synced : IsSynced again now c.replica
  is_synced = record {
    project = ap project_at (x.read.project ∙ done.project) ∙ project_again c.replica state y.short;
    base = x.read.bases ∙ ap option_to_list done.base;
    next = x.read.next ∙ done.next;
    unplaced = no_book again.unplaced (λ book. x.read.unplaced book ∙ ap is_some (done.new book));
    bundles = x.bundles;
    clear = x.clear;
    books = like_file;
    each = each_synced;
    names = x.names;
  }

pub done_is_synced : DoneIsSynced
done_is_synced seen again wishes s b c now made base plan d y x = is_synced seen again wishes s b c now made base plan d y x
