-- What a folder begins with after a sync was cut short: a project with which the bundles make the whole one.
use Rattle.std.proofs.Common.{◌≡◌, ◌⊎◌, ◌<◌, ◌^◌, inl, inr, ℕ, Bool, true, ◌&&◌, not, List, [], length, None, Some, Ok, refl, sym, ap, subst, ◌∙◌}
use Rattle.std.specs.List.{AllByRecursion}
use Rattle.std.specs.Option.{is_none}
use Rattle.std.proofs.lemmas.Bool.{and_from, and_parts}
use Rattle.op_core.specs.Ids.{Id}
use Rattle.op_core.specs.Ops.{Operation, IsOperation}
use Rattle.op_core.specs.Sets.{IsOpSet, get, join, rises}
use Rattle.op_core.proofs.FilteredLists.{kept_each}
use Rattle.op_core.proofs.Sets.Filters.{filter_kept, rises-filter}
use Rattle.op_core.proofs.Sets.Groupings.{join_agrees}
use Rattle.op_core.proofs.Sets.NoClash.{no_clash}
use Rattle.op_core.proofs.Sets.Union.{AgreeAtAll, IsOpSet-join, join_assoc, join_comm, rises-join}
use Rattle.bundle_codec.specs.Joining.{whole_at}
use Rattle.bundle_codec.specs.Reading.{AreBytes}
use Rattle.bundle_codec.specs.Spelling.{bundle}
use Rattle.bundle_codec.proofs.Wholes.{whole_reads}
use Rattle.project_file.specs.Projects.{project_at}
use Rattle.replica_state.specs.Receives.{lacked}
use Rattle.replica_state.specs.States.{State, IsState}
use Rattle.replica_state.specs.Steps.{with_ops}
use Rattle.book_folder.specs.Bases.{is_text, next_base, shows, stood_text, found_shown, kept_shown}
use Rattle.book_folder.specs.Begun.{BegunParts, begun_alone, begun_with, is_one_of, ops_not_of, ops_of, project_or, Received, received_if_alike, received_or, with_bases, with_next}
use Rattle.book_folder.specs.Coming.{AllTaken, CameInParts, all_came, bundles_begun, none_taken}
use Rattle.book_folder.specs.DoneAgain.{AreWhole, BaseStands, IsLeftOf, IsReadAlike, IsSettledBy, first_of, next_of}
use Rattle.book_folder.specs.Files.{FileParts}
use Rattle.book_folder.specs.Plans.{headless, is_whole}
use Rattle.book_folder.specs.Refusals.{◌>>=◌, Stepped, stepped}
use Rattle.book_folder.specs.Wanted.{SeenParts, WishParts}
use Rattle.book_folder.specs.declared.refusal.Place.TheVariants as places
use Rattle.book_folder.proofs.CutShort.BaseReceived.{IsReceived}
use Rattle.book_folder.proofs.CutShort.HasAll.{HasAll, IsPart, agree_back, all_of_both, all_of_part, all_of_some, all_through, both_parts, covered, part_agrees, some_part}
use Rattle.book_folder.proofs.CutShort.NewFiles.{of_one}
use Rattle.book_folder.proofs.CutShort.OneBase.{begins_with, one_base, settled_is, then_next}
use Rattle.book_folder.proofs.CutShort.Over.{Grown, beside, grown}
use Rattle.book_folder.proofs.CutShort.TakenAll.{Ends, IsOfFile}
use Rattle.book_folder.proofs.CutShort.FileEnds.{finds}
use Rattle.book_folder.proofs.Schedules.Along.{Along}
use Rattle.book_folder.proofs.Schedules.BasesReach.{ok_is}
use Rattle.book_folder.proofs.Schedules.ReadSets.{IsReadable, short_set}
use Rattle.book_folder.proofs.Schedules.ScheduleLaws.{bundles_along}
use Rattle.book_folder.proofs.Twice.SyncedFile.{base_state, gets}

-- what the bundles made of what the folder began with
module _ (own : State) (seen : SeenParts) (wishes : WishParts) (b : BegunParts) (r : Stepped State (List ℕ)) (begun : IsReceived b)
    (start : Along own b.base.held b.replica) (fits : AllByRecursion AreBytes seen.bundles)
    (got : bundles_begun wishes.joined b.replica seen.bundles ≡ Ok r) where
  pub bundled : Along own b.base.held r.after
  bundled = bundles_along own b.base.held wishes.joined 0 (stepped b.replica []) seen.bundles r start fits got

  pub made_more : Grown b.replica r.after
  made_more = grown wishes.joined 0 (stepped b.replica []) seen.bundles r start.state.set fits got

  pub bundled_has : HasAll r.after.held b.base.held
  bundled_has = all_through r.after.held b.replica.held b.base.held made_more.set.rising start.state.set.rising
      begun.base.set.rising made_more.all begun.has

-- A sync that was not refused, and what it left where it was cut short.
pub record CutSync (own : State) (seen again : SeenParts) (wishes : WishParts) (files now : List FileParts) (older : List State)
    (b : BegunParts) (r : Stepped State (List ℕ)) (all : AllTaken) : Type 0 where
  pub unsettled : wishes.settled ≡ []
  pub joined : wishes.joined ≡ true
  pub begun : IsReceived b
  pub start : Along own b.base.held b.replica
  pub fits : AllByRecursion AreBytes seen.bundles
  pub got : bundles_begun wishes.joined b.replica seen.bundles ≡ Ok r
  pub end : Ends own b.base older wishes (none_taken r.after []) all files
  pub each : AllByRecursion (IsReadAlike b.base (first_of b (all_came seen b r.made all))) files
  pub short : length (bundle (first_of b (all_came seen b r.made all)).held) < 2 ^ 64
  pub small : length (bundle (next_of (all_came seen b r.made all))) < 2 ^ 64
  pub left : IsLeftOf seen again b (all_came seen b r.made all) files now

module _ (own : State) (seen again : SeenParts) (wishes : WishParts) (files now : List FileParts) (older : List State) (b : BegunParts)
    (r : Stepped State (List ℕ)) (all : AllTaken)
    (y : CutSync own seen again wishes files now older b r all) where
  abbrev p : List Operation
  p = b.replica.held

  abbrev base : List Operation
  base = b.base.held

  abbrev s : State
  s = all.after

  abbrev c : CameInParts
  c = all_came seen b r.made all

  abbrev kept : List Operation
  kept = kept_shown all.stood base

  abbrev found : List Operation
  found = found_shown all.stood s.held

  abbrev first : List Operation
  first = join kept found

  abbrev part : List Operation
  part = next_of c

  more : Grown b.replica r.after
  more = made_more own seen wishes b r y.begun y.start y.fits y.got

  pub whole_state : IsState s
  whole_state = y.end.along.state

  pub rise : rises s.held ≡ true
  rise = whole_state.set.rising

  s_has : HasAll s.held p
  s_has = all_through s.held r.after.held p rise more.set.rising y.start.state.set.rising y.end.has more.all

  pub has_base : HasAll s.held base
  has_base =
      all_through s.held r.after.held base rise more.set.rising y.begun.base.set.rising y.end.has
      (bundled_has own seen wishes b r y.begun y.start y.fits y.got)

  abbrev keeps : Operation → Bool
  keeps o = shows base o && is_none (stood_text all.stood o)

  kept_set : IsOpSet kept
  kept_set = record {
    rising = rises-filter keeps base y.begun.base.set.rising;
    each = kept_each IsOperation keeps base y.begun.base.set.each;
  }

  found_set : IsOpSet found
  found_set = record { rising = rises-filter (finds all) s.held rise; each = kept_each IsOperation (finds all) s.held whole_state.set.each }

  first_set : IsReadable first
  first_set = short_set first (IsOpSet-join kept found kept_set found_set) y.short

  found_part : IsPart s.held found
  found_part = some_part (finds all) s.held rise

  abbrev goes : Operation → Bool
  goes o = not (is_one_of (headless s.held) o.segment.book) && shows s.held o

  next_part : IsPart s.held part
  next_part = some_part goes s.held rise

  next_set : IsReadable part
  next_set = short_set part (base_state s whole_state).set y.small

  next_read : whole_at (bundle part) ≡ Ok part
  next_read = whole_reads (bundle part)
      (record { ops = part; set = next_set.set; legal = (base_state s whole_state).legal; spelled = refl; short = y.small })

  s_has_first : HasAll s.held first
  s_has_first =
      all_of_both s.held kept found rise kept_set.rising found_set.rising
      (all_of_some keeps s.held base rise y.begun.base.set.rising has_base) (all_of_part s.held found rise found_part)

  -- ---- what a project may be once its base was received

  -- a project with which the bundles make the whole project
  pub record Ready (m : State) : Type 0 where
    pub beyond : List Operation
    pub part : IsPart s.held beyond
    pub is : m ≡ beside b.replica beyond
    pub makes : join r.after.held beyond ≡ s.held

  -- the one with which the sync began, with a part of the whole one that has all edits
  ready_before : (x : List Operation) → IsPart s.held x
      → ((q : Id) (o : Operation) → get s.held q ≡ Some o → finds all o ≡ true → IsOfFile files o → get x q ≡ Some o)
      → Ready (beside b.replica x)
  ready_before x in_whole each_there =
      record { beyond = x; part = in_whole; is = refl; makes = covered s.held r.after.held x rise more.set.rising y.end.has in_whole there }
    where
      there : (q : Id) (o : Operation) → get s.held q ≡ Some o → (get r.after.held q ≡ Some o) ⊎ (get x q ≡ Some o)
      there q o g = elim (y.end.found q o g) [ inl h ↦ inl h | inr h ↦ inr (each_there q o g h.0 h.1) ]

  -- what the first base found has all edits
  ready_first : Ready (beside b.replica found)
  ready_first = ready_before found found_part (λ q o g h of. filter_kept (finds all) s.held q o g h)

  -- and so has the next base, where the project has each file's book whole
  ready_other : AreWhole c files → Ready (beside b.replica part)
  ready_other whole = ready_before part next_part (λ q o g h of.
      filter_kept goes s.held q o g
      (and_from _ _
      (ap not (ap (is_one_of (headless s.held)) of.of
      ∙ gets s.held whole_state.set of.file.book (of_one (λ f. is_whole s.held f.book ≡ true) files whole of.file of.among)))
      (and_parts (shows s.held o) (is_text (stood_text all.stood o) o) h).0))

  -- and the whole one
  ready_after : Ready s
  ready_after = record {
    beyond = s.held;
    part = record { rising = rise; within = λ q o g. g };
    is = λ i. record {
      name = (y.end.name ∙ more.name) i;
      held = sym (join_comm p s.held y.start.state.set.rising rise
          (agree_back s.held p rise y.start.state.set.rising s_has.agrees) ∙ s_has.held) i;
    };
    makes =
        join_comm r.after.held s.held more.set.rising rise
        (agree_back s.held r.after.held rise more.set.rising y.end.has.agrees) ∙ y.end.has.held;
  }

  ready_has : (m : State) → Ready m → (rises m.held ≡ true) × HasAll s.held m.held
  ready_has m h =
      let is : join p h.beyond ≡ m.held = ap (λ (x : State). x.held) (sym h.is) in (
        ap rises (sym is) ∙ rises-join p h.beyond y.start.state.set.rising,
        subst (HasAll s.held) is (all_of_both s.held p h.beyond rise y.start.state.set.rising h.part.rising s_has
            (all_of_part s.held h.beyond rise h.part)),
      )

  -- with the next base it is one too
  ready_next : (m : State) → Ready m → Ready (with_ops m part)
  ready_next m h = record {
    beyond = join h.beyond part;
    part = both_parts s.held h.beyond part rise h.part next_part;
    is =
        ap (λ (x : State). with_ops x part) h.is
        ∙ (λ i. record {
          name = b.replica.name;
          held = join_assoc p h.beyond part y.start.state.set.rising h.part.rising next_part.rising i;
        });
    makes =
        sym (join_assoc r.after.held h.beyond part more.set.rising h.part.rising next_part.rising)
        ∙ ap (λ (ops : List Operation). join ops part) h.makes ∙ (all_of_part s.held part rise next_part).held;
  }

  -- ---- what the folder begins with

  -- it begins with a project that is ready, and with what its files were written from
  pub record Begins : Type 0 where
    pub project : State
    pub ready : Ready project
    pub name : List ℕ
    pub named : name ≡ b.base.name
    pub held : ℕ
    pub begins : begun_with again wishes
        ≡ Ok (record { replica = project; base = record { name = name; held = y.left.from }; held = held })

  -- what follows the base
  based_on : (q m : State) (n : ℕ) → IsReadable y.left.base → project_at again.project ≡ Ok q
      → received_if_alike wishes.joined (places.Base 0) q y.left.base ≡ Ok (stepped m n) → (end : BegunParts)
      → with_next again.unplaced (begins_with wishes q y.left.base m y.left.base) again.next ≡ Ok end → begun_with again wishes ≡ Ok end
  based_on q m n set is received end e =
      ap (λ r. project_or r >>= λ p. with_bases wishes 0 (begun_alone p) again.bases >>= λ based.
      with_next again.unplaced based again.next) is
      ∙ ap (λ r. r >>= λ based. with_next again.unplaced based again.next) (by y.left.bases) ∙ e
    where
      -- of no operation nothing is received
      same : y.left.base ≡ [] → q ≡ m
      same none =
          ap (λ (r : Received). r.after) (ok_is (stepped q (length (lacked q.held []))) (stepped m n)
          (sym (ap (λ (ops : List Operation). received_if_alike wishes.joined (places.Base 0) q ops) none
          ∙ ap (λ asked. received_if_alike asked (places.Base 0) q []) y.joined) ∙ received))

      by : BaseStands again y.left.base
          → with_bases wishes 0 (begun_alone q) again.bases ≡ Ok (begins_with wishes q y.left.base m y.left.base)
      by (inl one) =
          ap (with_bases wishes 0 (begun_alone q)) one.1 ∙ one_base wishes q y.left.base one.0 m n set.set.rising one.2 received
      by (inr none) =
          ap (with_bases wishes 0 (begun_alone q)) none.0
          ∙ (λ i. Ok (begins_with wishes q y.left.base (same none.1 i) (sym none.1 i)))

  -- by the next base that stands beside it
  begins_next : (q m : State) (n : ℕ) → Ready (with_ops m part) → rises m.held ≡ true → HasAll s.held m.held → IsReadable y.left.base
      → project_at again.project ≡ Ok q → q.name ≡ b.base.name
      → received_if_alike wishes.joined (places.Base 0) q y.left.base ≡ Ok (stepped m n)
      → again.next ≡ Some (next_base (headless s.held) s.held) → IsSettledBy again.unplaced y.left.base part y.left.from → Begins
  begins_next q m n ready rising has set is named received there settled = record {
    project = with_ops m part;
    ready = ready;
    name = q.name;
    named = named;
    held = length q.held;
    begins = based_on q m n set is received (begins_with wishes q y.left.base (with_ops m part) y.left.from)
        (ap (with_next again.unplaced (begins_with wishes q y.left.base m y.left.base)) there
        ∙ then_next wishes q y.left.base again.unplaced m part y.left.from settled.bytes set next_set next_read settled.joined settled.read
        (no_clash m.held part next_set.set.rising (part_agrees s.held m.held part rising has next_part)));
  }

  begins_from : (q m : State) (n : ℕ) → Ready m → IsReadable y.left.base → project_at again.project ≡ Ok q → q.name ≡ b.base.name
      → received_if_alike wishes.joined (places.Base 0) q y.left.base ≡ Ok (stepped m n) → Begins
  begins_from q m n ready set is named received = elim y.left.next [
    | inl alone ↦ by_base alone.0 alone.1
    | inr both ↦ begins_next q m n (ready_next m ready) (ready_has m ready).0 (ready_has m ready).1 set is named received both.0 both.1
  ]
    where
      by_base : again.next ≡ None → y.left.from ≡ y.left.base → Begins
      by_base none same = record {
        project = m;
        ready = ready;
        name = q.name;
        named = named;
        held = length q.held;
        begins = based_on q m n set is received (begins_with wishes q y.left.base m y.left.from)
            (ap (with_next again.unplaced (begins_with wishes q y.left.base m y.left.base)) none
            ∙ (λ i. Ok (begins_with wishes q y.left.base m (sym same i))));
      }

  -- the project with which the sync began receives the first base
  first_agrees : AgreeAtAll p first
  first_agrees =
      agree_back first p first_set.set.rising y.start.state.set.rising
      (join_agrees kept found p kept_set.rising found_set.rising
      (agree_back p kept y.start.state.set.rising kept_set.rising
      (all_of_some keeps p base y.start.state.set.rising y.begun.base.set.rising y.begun.has).agrees)
      (agree_back p found y.start.state.set.rising found_set.rising (part_agrees s.held p found y.start.state.set.rising s_has found_part)))

  first_joined : join p first ≡ join p found
  first_joined =
      sym (join_assoc p kept found y.start.state.set.rising kept_set.rising found_set.rising)
      ∙ ap (λ (ops : List Operation). join ops found)
      (all_of_some keeps p base y.start.state.set.rising y.begun.base.set.rising y.begun.has).held

  first_got : received_if_alike wishes.joined (places.Base 0) b.replica first
      ≡ Ok (stepped (beside b.replica found) (length (lacked p first)))
  first_got =
      ap (λ asked. received_if_alike asked (places.Base 0) b.replica first) y.joined
      ∙ ap (received_or (places.Base 0) b.replica first) (no_clash p first first_set.set.rising first_agrees)
      ∙ (λ i. Ok (stepped (record { name = b.replica.name; held = first_joined i }) (length (lacked p first))))

  -- a project receives what it has
  base_got : (t : State) (m : List Operation) → rises m ≡ true → HasAll t.held m
      → received_if_alike wishes.joined (places.Base 0) t m ≡ Ok (stepped t (length (lacked t.held m)))
  base_got t m hm has =
      ap (λ asked. received_if_alike asked (places.Base 0) t m) y.joined
      ∙ ap (received_or (places.Base 0) t m) (no_clash t.held m hm has.agrees)
      ∙ (λ i. Ok (stepped (record { name = t.name; held = has.held i }) (length (lacked t.held m))))

  same_name : s.name ≡ b.base.name
  same_name = y.end.name ∙ more.name ∙ sym y.begun.name

  begins_after : project_at again.project ≡ Ok s → IsReadable y.left.base → HasAll s.held y.left.base → Begins
  begins_after is set has =
      begins_from s s (length (lacked s.held y.left.base)) ready_after set is same_name (base_got s y.left.base set.set.rising has)

  next_got : received_if_alike wishes.joined (places.Base 0) b.replica part
      ≡ Ok (stepped (beside b.replica part) (length (lacked p part)))
  next_got =
      ap (λ asked. received_if_alike asked (places.Base 0) b.replica part) y.joined
      ∙ ap (received_or (places.Base 0) b.replica part)
      (no_clash p part next_set.set.rising (part_agrees s.held p part y.start.state.set.rising s_has next_part))

  -- the base before, with the next base
  by_old : project_at again.project ≡ Ok b.replica → AreWhole c files → y.left.base ≡ base
      → again.next ≡ Some (next_base (headless s.held) s.held) → Begins
  by_old is whole same there = elim y.left.next [
    | inl alone ↦ absurd (none_there alone.0)
    | inr both ↦ begins_next b.replica b.replica (length (lacked p base)) (ready_other whole) y.start.state.set.rising s_has
        (subst IsReadable (sym same) y.begun.readable) is (sym y.begun.name)
        (ap (received_if_alike wishes.joined (places.Base 0) b.replica) same
        ∙ base_got b.replica base y.begun.base.set.rising y.begun.has) both.0 both.1
  ]
    where
      none_there : again.next ≡ None → ⊥
      none_there e = let no : None ≡ Some (next_base (headless s.held) s.held) = sym e ∙ there in cc no

  pub begins_again : Begins
  begins_again = elim y.left.project [ inl before ↦ by_begun before.0 before.1 | inr after ↦ by_whole after.0 after.1 ]
    where
      by_begun : project_at again.project ≡ Ok b.replica
          → (y.left.base ≡ first) ⊎ AreWhole c files × ((y.left.base ≡ part)
          ⊎ (y.left.base ≡ base) × (again.next ≡ Some (next_base (headless s.held) s.held))) → Begins
      by_begun is (inl same) =
          begins_from b.replica (beside b.replica found) (length (lacked p first)) ready_first (subst IsReadable (sym same) first_set) is
          (sym y.begun.name) (ap (received_if_alike wishes.joined (places.Base 0) b.replica) same ∙ first_got)
      by_begun is (inr other) = elim other.1 [
        | inl same ↦ begins_from b.replica (beside b.replica part) (length (lacked p part)) (ready_other other.0)
            (subst IsReadable (sym same) next_set) is (sym y.begun.name)
            (ap (received_if_alike wishes.joined (places.Base 0) b.replica) same ∙ next_got)
        | inr old ↦ by_old is other.0 old.0 old.1
      ]

      by_settled : project_at again.project ≡ Ok s → (books : List (List ℕ)) → IsSettledBy books first part y.left.base → Begins
      by_settled is books settled =
          let made = settled_is books first part y.left.base settled.bytes first_set next_set settled.joined settled.read in
          begins_after is (subst IsReadable (sym made.0) made.1) (subst (HasAll s.held) (sym made.0)
          (all_of_both s.held (ops_of books first) (ops_not_of books part) rise
          (rises-filter (λ o. is_one_of books o.segment.book) first first_set.set.rising)
          (rises-filter (λ o. not (is_one_of books o.segment.book)) part next_set.set.rising)
          (all_of_some (λ o. is_one_of books o.segment.book) s.held first rise first_set.set.rising s_has_first)
          (all_of_some (λ o. not (is_one_of books o.segment.book)) s.held part rise next_set.set.rising
          (all_of_part s.held part rise next_part))))

      by_whole : project_at again.project ≡ Ok s → (y.left.base ≡ first) ⊎ (y.left.base ≡ part)
          ⊎ ((books : List (List ℕ)) × IsSettledBy books first part y.left.base) → Begins
      by_whole is (inl same) = begins_after is (subst IsReadable (sym same) first_set) (subst (HasAll s.held) (sym same) s_has_first)
      by_whole is (inr (inl same)) =
          begins_after is (subst IsReadable (sym same) next_set)
          (subst (HasAll s.held) (sym same) (all_of_part s.held part rise next_part))
      by_whole is (inr (inr settled)) = by_settled is settled.0 settled.1
