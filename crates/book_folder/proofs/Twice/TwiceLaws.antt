-- A sync of what a sync left does nothing.
use Rattle.std.proofs.Common.{◌≡◌, ◌<◌, ◌-◌, ◌^◌, ℕ, Bool, true, false, cond, not, ◌&&◌, nat_eq, List, [], ◌∷◌, ◌++◌, length, map, Option, None, Result, Ok, Err}
use Rattle.std.proofs.Common.{refl, ap, ◌∙◌, arith}
use Rattle.std.specs.List.{AllByRecursion}
use Rattle.std.specs.Option.{is_some, option_to_list}
use Rattle.std.proofs.lemmas.Bool.{cond-true, eq-eqb}
use Rattle.usfm_ref.proofs.Orders.{same_bytes-refl}
use Rattle.op_core.specs.Export.{export, has_book}
use Rattle.op_core.specs.Lists.{books_of}
use Rattle.op_core.specs.Ops.{Operation}
use Rattle.op_core.proofs.FilteredLists.{kept_each}
use Rattle.op_core.proofs.Sets.Fronts.{join_none}
use Rattle.op_core.proofs.Sets.Parts.{join_part, no_clash_part}
use Rattle.op_core.proofs.Sets.SideBySide.{clash_none}
use Rattle.bundle_codec.specs.Reading.{AreBytes}
use Rattle.bundle_codec.specs.Spelling.{bundle}
use Rattle.bundle_codec.proofs.Wholes.{whole_reads}
use Rattle.project_file.specs.Projects.{project}
use Rattle.project_file.proofs.Files.{project_is}
use Rattle.replica_state.specs.Receives.{lacked}
use Rattle.replica_state.specs.States.{State, IsState, begun}
use Rattle.replica_state.specs.Steps.{with_ops}
use Rattle.book_folder.specs.Bases.{next_base, other_than, shown_in_files, shows}
use Rattle.book_folder.specs.Begun.{BegunParts, begun_alone, begun_with, is_one_of, judged, received, received_if_alike, received_or, project_or, set_or, with_base, with_bases, with_next}
use Rattle.book_folder.specs.Coming.{AllTaken, CameInParts, added_by, all_came, all_taken, bundles_begun, bundles_come_in, comes_in, earlier_bases, files_by, in_turn, none_taken, older_from, rebased_if_stale, taken_all}
use Rattle.book_folder.specs.Files.{FileParts, clear_files}
use Rattle.book_folder.specs.FolderLaws.{IsSynced, IsSyncedFile, NothingIsDone, TwiceIsOnce, nothing_came}
use Rattle.book_folder.specs.Naming.{FormParts, form_of, other_names}
use Rattle.book_folder.specs.Plans.{NewFileParts, base_put, file_by_text, headless, is_whole, new_file_if, new_files, new_name_of, plan_of, plan_steps, recovery, told_of}
use Rattle.book_folder.specs.Refusals.{◌>>=◌, gathered, stepped}
use Rattle.book_folder.specs.Stale.{rebased, rebased_if}
use Rattle.book_folder.specs.Wanted.{SeenParts, WishParts, is_none_wanted}
use Rattle.book_folder.specs.declared.refusal.FolderFault.TheVariants as faults
use Rattle.book_folder.specs.declared.refusal.Place.TheVariants as places
use Rattle.book_folder.specs.declared.refusal.Refusal.{Refusal}
use Rattle.book_folder.specs.declared.refusal.Refusal.TheVariants.{Of}
use Rattle.book_folder.proofs.Schedules.Reached.{all_both}
use Rattle.book_folder.proofs.BundlesAgain.{alike_got, not_strange}
use Rattle.book_folder.proofs.Twice.SyncedFile.{base_of, base_state, synced_not_rebased, synced_not_taken}

module _ (s : State) (state : IsState s) where
  abbrev part : List Operation
  part = shown_in_files (headless s.held) s.held

  abbrev begun_of : State → State → ℕ → BegunParts
  begun_of replica base held = record { replica = replica; base = base; held = held }

  -- what the folder begins with
  abbrev first : BegunParts
  first = begun_of s (begun s.name) (length s.held)

  abbrev settled : BegunParts
  settled = begun_of s (base_of s) (length s.held)

  abbrev count : ℕ
  count = length (lacked s.held part)

  abbrev stays : Operation → Bool
  stays o = not (is_one_of (headless s.held) o.segment.book) && shows s.held o

  same : with_ops s part ≡ s
  same = λ i. record { name = s.name; held = join_part stays s.held state.set.rising i }

  -- the project receives its base, and stays
  got : received (places.Base 0) s part ≡ Ok (stepped s count)
  got =
      ap (received_or (places.Base 0) s part) (no_clash_part stays s.held state.set.rising)
      ∙ ap (λ (t : State). Ok (stepped t count)) same

  got_alike : (wishes : WishParts) → received_if_alike wishes.joined (places.Base 0) s part ≡ Ok (stepped s count)
  got_alike wishes =
      alike_got wishes.joined (places.Base 0) s part
      (not_strange s.held part state.set.rising (base_state s state).set (join_part stays s.held state.set.rising))
      ∙ got

  base_got : received (places.Base 0) (begun s.name) part ≡ Ok (stepped (base_of s) (length (lacked [] part)))
  base_got =
      ap (received_or (places.Base 0) (begun s.name) part) (clash_none part)
      ∙ (λ i. Ok (stepped (record { name = s.name; held = join_none part (base_state s state).set.rising i }) (length (lacked [] part))))

  module _ (short : length (next_base (headless s.held) s.held) < 2 ^ 64) where
    read : judged (places.Base 0) (bundle part) ≡ Ok part
    read =
        let set = base_state s state in
        ap (set_or (places.Base 0))
        (whole_reads (bundle part) (record { ops = part; set = set.set; legal = set.legal; spelled = refl; short = short }))

    bases_are : (wishes : WishParts) → with_bases wishes 0 first (bundle part ∷ []) ≡ Ok settled
    bases_are wishes =
        ap (λ r. (r >>= with_base wishes (places.Base 0) first) >>= λ next. with_bases wishes 1 next []) read
        ∙ ap (λ r. (r >>= λ x. received (places.Base 0) (begun s.name) part >>= λ y.
        Ok (begun_of x.after y.after (length s.held))) >>= λ next. with_bases wishes 1 next []) (got_alike wishes)
        ∙ ap (λ r. (r >>= λ y. Ok (begun_of s y.after (length s.held))) >>= λ next. with_bases wishes 1 next []) base_got

    module _ (seen : SeenParts) (wishes : WishParts) (files : List FileParts) (older : List State)
        (synced : IsSynced seen files s) where
      begins : begun_with seen wishes ≡ Ok settled
      begins =
          ap (λ r. project_or r >>= λ p. with_bases wishes 0 (begun_alone p) seen.bases >>= λ based.
          with_next seen.unplaced based seen.next) synced.project
          ∙ ap (λ bases. with_bases wishes 0 first bases >>= λ based. with_next seen.unplaced based seen.next) synced.base
          ∙ ap (λ r. r >>= λ based. with_next seen.unplaced based seen.next) (bases_are wishes)
          ∙ ap (with_next seen.unplaced settled) synced.next

      -- no file is taken as written from an older base
      none_rebased : (fs : List FileParts) → AllByRecursion (IsSyncedFile s.held) fs → rebased wishes.settled settled older fs ≡ Ok settled
      none_rebased [] h = refl
      none_rebased (f ∷ fs) h =
          ap (λ r. (r >>= rebased_if wishes.settled settled older f.at)
          >>= λ next. rebased wishes.settled next older fs) (synced_not_rebased s state f h.0 older)
          ∙ none_rebased fs h.1

      stays_settled : rebased_if_stale wishes settled older files ≡ Ok settled
      stays_settled = by wishes.stale
        where
          by : (b : Bool) → cond b (rebased wishes.settled settled older files) (Ok settled) ≡ Ok settled
          by true = none_rebased files synced.each
          by false = refl

      abbrev none : AllTaken
      none = none_taken s []

      module _ (unsettled : wishes.settled ≡ []) where
        -- nothing is taken in of files
        none_come : (fs : List FileParts) → AllByRecursion (IsSyncedFile s.held) fs → taken_all (base_of s) older wishes none fs ≡ Ok none
        none_come [] h = refl
        none_come (f ∷ fs) h =
            ap (λ r. r >>= λ next. taken_all (base_of s) older wishes
            (all_taken next.after next.stood ([] ++ added_by f.book next.count)) fs)
            (synced_not_taken s state f h.0 older wishes [] unsettled)
            ∙ none_come fs h.1

        turns : AllByRecursion (IsSyncedFile s.held) (in_turn part files)
        turns = all_both (IsSyncedFile s.held) (files_by true part files) (files_by false part files)
            (kept_each (IsSyncedFile s.held) (λ f. has_book part f.book) files synced.each)
            (kept_each (IsSyncedFile s.held) (λ f. not (has_book part f.book)) files synced.each)

        bundles_none : bundles_come_in seen wishes older (in_turn part files) settled ≡ Ok (all_came seen settled [] none)
        bundles_none =
            ap (λ bundles. bundles_begun wishes.joined s bundles >>= λ r.
            taken_all (base_of s) older wishes (none_taken r.after []) (in_turn part files) >>= λ all.
            Ok (all_came seen settled r.made all)) synced.bundles
            ∙ ap (λ r. r >>= λ all. Ok (all_came seen settled [] all)) (none_come (in_turn part files) turns)

        -- what came in is nothing
        is_nothing : all_came seen settled [] none ≡ nothing_came s
        is_nothing = λ i. record {
          recovered = recovered_none i;
          new = new_none i;
          base = base_of s;
          replica = s;
          bundles = [];
          added = [];
          stood = [];
        }
          where
            same_length : nat_eq (length s.held) (length s.held) ≡ true
            same_length = eq-eqb (length s.held) (length s.held) refl

            recovered_none : cond (nat_eq (length s.held) (length s.held)) None (other_than seen.project (project s)) ≡ None
            recovered_none = cond-true _ _ _ same_length

            new_none : length s.held - length s.held ≡ 0
            new_none = omega arith

        comes : older_from s.name 0 [] seen.older ≡ Ok older → comes_in seen wishes files ≡ Ok (nothing_came s)
        comes read_older =
            ap (λ r. r >>= λ b. older_from b.base.name 0 [] (earlier_bases seen) >>= λ old. rebased_if_stale wishes b old files >>= λ c.
            bundles_come_in seen wishes old (in_turn c.base.held files) c) begins
            ∙ ap (λ r. r >>= λ old. rebased_if_stale wishes settled old files >>= λ c.
            bundles_come_in seen wishes old (in_turn c.base.held files) c)
            (ap (λ n. older_from s.name 0 [] (cond (is_some n) (seen.bases ++ seen.older) seen.older)) synced.next ∙ read_older)
            ∙ ap (λ r. r >>= λ c. bundles_come_in seen wishes older (in_turn c.base.held files) c) stays_settled
            ∙ bundles_none ∙ ap (λ (c : CameInParts). Ok c) is_nothing

      -- no book gets a new file
      none_new : (form : FormParts) → new_files seen s.held files form ≡ Ok []
      none_new form = all (books_of s.held)
        where
          give : List ℕ → Result (Option NewFileParts) Refusal
          give = new_file_if seen s.held files form

          unwanted : (book : List ℕ) (b : Bool) → is_whole s.held book ≡ b
              → cond b (file_by_text seen files form book (export s.held book)) (Ok None) ≡ Ok None
          unwanted book true e = cond-true _ _ _ (synced.books book e)
          unwanted book false e = refl

          all : (books : List (List ℕ)) → gathered give [] books ≡ Ok []
          all [] = refl
          all (book ∷ books) =
              ap (λ r. r >>= λ y. gathered give ([] ++ option_to_list y) books) (unwanted book (is_whole s.held book) refl)
              ∙ all books

      -- the base is as it is
      base_stays : base_put seen.bases seen.next (bundle part) ≡ None
      base_stays = (λ i. base_put (synced.base i) (synced.next i) (bundle part)) ∙ cond-true _ _ _ (same_bytes-refl (bundle part))

      -- and so is the project
      project_stays : AreBytes seen.project → other_than seen.project (project s) ≡ None
      project_stays bytes =
          ap (λ (read : List ℕ). other_than read (project s)) (project_is seen.project s bytes synced.project).spelled
          ∙ cond-true _ _ _ (same_bytes-refl (project s))

      -- nothing is done
      nothing_done : (form : FormParts) → AreBytes seen.project → older_from s.name 0 [] seen.older ≡ Ok older → wishes.settled ≡ []
          → form_of seen files wishes ≡ Ok form → NothingIsDone seen wishes files s
      nothing_done form bytes read_older unsettled is_form = record {
        comes = came;
        plan =
            ap (λ n. clear_files seen >>= λ fs. cond (is_some n && not (is_none_wanted wishes.settled))
            (Err (Of places.Next faults.SettledEarly))
            (comes_in seen wishes fs >>= λ c. form_of seen fs wishes >>= λ form.
            new_files seen c.replica.held fs form >>= λ made. plan_of seen c made (other_names seen fs (map new_name_of made)))) synced.next
            ∙ ap (λ r. r >>= λ fs. comes_in seen wishes fs >>= λ c. form_of seen fs wishes >>= λ form.
            new_files seen c.replica.held fs form >>= λ made. plan_of seen c made (other_names seen fs (map new_name_of made))) synced.clear
            ∙ ap (λ r. r >>= λ c. form_of seen files wishes >>= λ form.
            new_files seen c.replica.held files form >>= λ made. plan_of seen c made (other_names seen files (map new_name_of made))) came
            ∙ ap (λ r. r >>= λ form. new_files seen s.held files form >>= λ made.
            plan_of seen (nothing_came s) made (other_names seen files (map new_name_of made))) is_form
            ∙ ap (λ r. r >>= λ made. plan_of seen (nothing_came s) made (other_names seen files (map new_name_of made))) (none_new form)
            ∙ ap (plan_of seen (nothing_came s) []) synced.names
            ∙ (λ i. Ok (record {
              steps = recovery None (synced.next i) (synced.unplaced i)
                  ++ plan_steps [] (record { base = base_stays i; names = None; next = None }) (project_stays bytes i);
              told = told_of (nothing_came s);
            }));
      }
        where
          came : comes_in seen wishes files ≡ Ok (nothing_came s)
          came = comes unsettled read_older

pub twice_is_once : TwiceIsOnce
twice_is_once seen wishes files s older form bytes short read_older unsettled is_form synced =
    nothing_done s (project_is seen.project s bytes synced.project).valid short seen wishes files older synced form bytes read_older
    unsettled is_form
