-- Cut short once the project had all that came in, a sync has nothing more to take in.
use Rattle.std.proofs.Common.{◌≡◌, ◌<◌, ◌^◌, ◌-◌, ℕ, nat_eq, Bool, true, false, cond, ◌&&◌, not, List, [], ◌∷◌, map, inl, inr, length, None, Ok, refl, ap, ◌∙◌, arith}
use Rattle.std.specs.List.{AllByRecursion}
use Rattle.std.proofs.lemmas.Bool.{cond-true, eq-eqb}
use Rattle.op_core.specs.OneBook.{ops_of_book}
use Rattle.op_core.specs.Ops.{Operation}
use Rattle.op_core.specs.Sets.{IsOpSet}
use Rattle.op_core.proofs.Sets.Parts.{join_part, no_clash_part}
use Rattle.bundle_codec.specs.Joining.{whole_at}
use Rattle.bundle_codec.specs.Spelling.{bundle}
use Rattle.bundle_codec.proofs.Wholes.{whole_reads}
use Rattle.project_file.specs.Projects.{project}
use Rattle.project_file.proofs.Files.{project_is}
use Rattle.replica_state.specs.States.{State, IsState}
use Rattle.book_folder.specs.Bases.{next_base, other_than, shown_in_files, shows}
use Rattle.book_folder.specs.Begun.{BegunParts, begun_alone, begun_with, is_one_of, project_or, with_bases, with_next}
use Rattle.book_folder.specs.CutLate.{CutLateNothingComesIn, IsCutLate, IsPutOrWaits, nothing_more}
use Rattle.book_folder.specs.Coming.{all_came, bundles_come_in, comes_in, earlier_bases, in_turn, none_taken, older_from, rebased_if_stale, taken_all}
use Rattle.book_folder.specs.Files.{FileParts}
use Rattle.book_folder.specs.Plans.{headless}
use Rattle.book_folder.specs.Refusals.{◌>>=◌}
use Rattle.book_folder.specs.Stale.{rebased}
use Rattle.book_folder.specs.Wanted.{SeenParts, WishParts}
use Rattle.book_folder.specs.declared.refusal.Place.TheVariants as places
use Rattle.book_folder.proofs.BundlesAgain.{bundles_bring_nothing_again, stays}
use Rattle.book_folder.proofs.OwnBookLaws.{other_books_say_nothing}
use Rattle.book_folder.proofs.CutShort.OneBase.{Stays, all_in_turn, begins_with, none_come, one_base, then_next}
use Rattle.book_folder.proofs.Schedules.ReadSets.{short_set}
use Rattle.book_folder.proofs.SettledBooks.{settled_book_by_book}
use Rattle.book_folder.proofs.Twice.SyncedFile.{base_of, base_state, synced_not_taken}

module _ (seen : SeenParts) (wishes : WishParts) (files : List FileParts) (older : List State) (s : State)
    (first mixed : List Operation) (short : length (bundle first) < 2 ^ 64) (small : length (next_base (headless s.held) s.held) < 2 ^ 64)
    (unsettled : wishes.settled ≡ []) (fresh : wishes.stale ≡ false) (state : IsState s)
    (cut : IsCutLate seen wishes files older s first mixed) where
  abbrev part : List Operation
  part = shown_in_files (headless s.held) s.held

  abbrev next_of : List Operation → BegunParts
  next_of base = begins_with wishes s first s base

  abbrev keeps : Operation → Bool
  keeps o = not (is_one_of (headless s.held) o.segment.book) && shows s.held o

  part_set : IsOpSet part
  part_set = (base_state s state).set

  part_read : whole_at (bundle part) ≡ Ok part
  part_read = whole_reads (bundle part)
      (record { ops = part; set = part_set; legal = (base_state s state).legal; spelled = refl; short = small })

  -- what the folder begins with
  begins : begun_with seen wishes ≡ Ok (next_of mixed)
  begins =
      ap (λ r. project_or r >>= λ p. with_bases wishes 0 (begun_alone p) seen.bases >>= λ based.
      with_next seen.unplaced based seen.next) cut.project
      ∙ ap (λ bases. with_bases wishes 0 (begun_alone s) bases >>= λ based. with_next seen.unplaced based seen.next) cut.bases
      ∙ ap (λ r. r >>= λ based. with_next seen.unplaced based seen.next)
      (one_base wishes s first (bundle first) s 0 cut.set.rising cut.read (stays s state wishes.joined (places.Base 0) (bundle first)
      (record { ops = first; set = cut.set; read = cut.read; agrees = cut.agrees; held = cut.held })))
      ∙ ap (with_next seen.unplaced (next_of first)) cut.next
      ∙ then_next wishes s first seen.unplaced s part mixed cut.bytes (short_set first cut.set short) (short_set part part_set small)
      part_read cut.settled cut.again (no_clash_part keeps s.held state.set.rising)
      ∙ (λ i. Ok (begins_with wishes s first (record { name = s.name; held = join_part keeps s.held state.set.rising i }) mixed))

  -- ---- files

  abbrev now : State
  now = record { name = s.name; held = mixed }

  of_book : (book : List ℕ)
      → ops_of_book mixed book ≡ cond (is_one_of seen.unplaced book) (ops_of_book first book) (ops_of_book part book)
  of_book book =
      settled_book_by_book seen.unplaced first part cut.bytes mixed book cut.set part_set short small cut.settled cut.again

  file_stays : (f : FileParts) → IsPutOrWaits seen.unplaced s older wishes first f → Stays s now older wishes f
  file_stays f (inl h) =
      other_books_say_nothing s now (base_of s) older wishes [] f
      (of_book f.book ∙ ap (λ b. cond b (ops_of_book first f.book) (ops_of_book part f.book)) h.0)
      ∙ synced_not_taken s state f h.1 older wishes [] unsettled
  file_stays f (inr h) =
      other_books_say_nothing s now (record { name = s.name; held = first }) older wishes [] f
      (of_book f.book ∙ ap (λ b. cond b (ops_of_book first f.book) (ops_of_book part f.book)) h.0)
      ∙ h.1

  each_stays : (fs : List FileParts) → AllByRecursion (IsPutOrWaits seen.unplaced s older wishes first) fs
      → AllByRecursion (Stays s now older wishes) fs
  each_stays [] h = tt
  each_stays (f ∷ fs) h = (file_stays f h.0, each_stays fs h.1)

  -- ---- all of it

  come : bundles_come_in seen wishes older (in_turn mixed files) (next_of mixed) ≡ Ok (nothing_more seen s mixed)
  come =
      ap (λ r. r >>= λ r. taken_all now older wishes (none_taken r.after []) (in_turn mixed files) >>= λ all.
      Ok (all_came seen (next_of mixed) r.made all)) (bundles_bring_nothing_again s wishes.joined seen.bundles state cut.bundles)
      ∙ ap (λ r. r >>= λ all. Ok (all_came seen (next_of mixed) (map (λ bytes. 0) seen.bundles) all))
      (none_come s now older wishes (in_turn mixed files)
      (all_in_turn (Stays s now older wishes) mixed files (each_stays files cut.each)))
      ∙ (λ i. Ok (record {
        recovered = recovered_none i;
        new = new_none i;
        base = now;
        replica = s;
        bundles = map (λ bytes. 0) seen.bundles;
        added = [];
        stood = [];
      }))
    where
      same_length : nat_eq (length s.held) (length s.held) ≡ true
      same_length = eq-eqb (length s.held) (length s.held) refl

      recovered_none : cond (nat_eq (length s.held) (length s.held)) None (other_than seen.project (project s)) ≡ None
      recovered_none = cond-true _ _ _ same_length

      new_none : length s.held - length s.held ≡ 0
      new_none = omega arith

  late : comes_in seen wishes files ≡ Ok (nothing_more seen s mixed)
  late =
      ap (λ r. r >>= λ b. older_from b.base.name 0 [] (earlier_bases seen) >>= λ old. rebased_if_stale wishes b old files >>= λ c.
      bundles_come_in seen wishes old (in_turn c.base.held files) c) begins
      ∙ ap (λ r. r >>= λ old. rebased_if_stale wishes (next_of mixed) old files >>= λ c.
      bundles_come_in seen wishes old (in_turn c.base.held files) c) cut.old
      ∙ ap (λ b. cond b (rebased wishes.settled (next_of mixed) older files) (Ok (next_of mixed)) >>= λ c.
      bundles_come_in seen wishes older (in_turn c.base.held files) c) fresh
      ∙ come

pub cut_late_nothing_comes_in : CutLateNothingComesIn
cut_late_nothing_comes_in seen wishes files older s first mixed bytes short small unsettled fresh cut =
    late seen wishes files older s first mixed short small unsettled fresh (project_is seen.project s bytes cut.project).valid cut
