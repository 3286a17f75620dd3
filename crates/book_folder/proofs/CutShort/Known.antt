-- What a sync with new files leaves where it is cut short, after what was begun is finished.
use Rattle.std.proofs.Common.{◌≡◌, ◌⊎◌, ℕ, Bool, true, false, cond, List, [], ◌∷◌, ◌++◌, inl, inr, map, Contains, Option, None, Some, Result, Ok, Err, option_to_list, refl, sym, ap, subst, ◌∙◌, append_assoc}
use Rattle.std.specs.List.{AllByRecursion, IsDistinct}
use Rattle.usfm_ref.specs.Books.{same_bytes}
use Rattle.replica_state.proofs.SinceLaws.{is_first}
use Rattle.book_folder.specs.Begun.{is_one_of, settled}
use Rattle.book_folder.specs.CutShort.{AllKnown, AllWait, FilesAreKnown, IsLeft, IsPut, IsPutNext, MakesAsRead, NextIsReady, PutParts, SomePut, BaseSettled, SomeArePut, NonePut, Waits}
use Rattle.book_folder.specs.Disks.{Act, DiskParts, FolderSynced, OwnSynced, SetBase, SetNames, SetNext, SetProject, acts_of, after, and_then, bytes_at, done, settling_acts, unsettled, without}
use Rattle.book_folder.specs.Plans.{NewFileParts, OwnParts, ReplaceProject, Settle, StepParts, SyncOwn, WriteNew, own_puts, placed, placing, plan_steps, step_if, with_sync}
use Rattle.book_folder.specs.Refusals.{◌>>=◌}
use Rattle.book_folder.specs.Settling.{base_puts, settling_steps}
use Rattle.book_folder.specs.Settling as settling
use Rattle.book_folder.specs.Wanted.{FoundParts}
use Rattle.book_folder.specs.declared.refusal.Refusal.{Refusal}
use Rattle.book_folder.proofs.CutShort.Fronts.{Certain, Fronts, Keeps, LeftIs, after_both, all_keep, kept_fronts, synced_fronts}
use Rattle.book_folder.proofs.CutShort.Names.{at_without, is_not_there, is_there}
use Rattle.book_folder.proofs.CutShort.OwnBooks.{same_book}
use Rattle.book_folder.proofs.CutShort.Puts.{all_wait, moves, moves_keep, put_stays, written}
use Rattle.book_folder.proofs.CutShort.Settles.{Based, Turned, Turning, dropped, settled_fronts, settling_is, turned}
use Rattle.book_folder.proofs.CutShort.StepActs.{base_acts, dropped_certain, moves_certain, names_acts, placed_acts, puts_acts, written_certain, writes_acts}
use Rattle.book_folder.proofs.CutShort.Recovered.{BaseIsFirst, Goes, IsCleared, ProjectIsPut, cleared_left, dropped_keep}
use Rattle.book_folder.proofs.Schedules.Reached.{all_both}

-- while the new files that were left are removed
record IsDone (d : DiskParts) (bytes : List ℕ) (x : DiskParts) : Type 0 where
  pub project : x.project ≡ d.project
  pub files : x.files ≡ d.files
  pub gone : (book : List ℕ) → bytes_at d.new book ≡ None → bytes_at x.new book ≡ None
  pub base : x.base ≡ Some bytes
  pub next : x.next ≡ None

-- all is written that has to be before a file is put, but perhaps the project
record IsWritten (before : DiskParts) (put : PutParts) (made : List NewFileParts) (bytes : List ℕ) (d : DiskParts) : Type 0 where
  pub project : d.project ≡ bytes
  pub files : d.files ≡ before.files
  pub base : d.base ≡ Some put.base
  pub next : d.next ≡ Some put.next
  pub waits : AllWait d made

-- while the base, the names and the next base are put
record IsPutBeside (before : DiskParts) (put : PutParts) (bytes : List ℕ) (old : List FoundParts) (d : DiskParts) : Type 0 where
  pub project : d.project ≡ bytes
  pub files : d.files ≡ before.files
  pub new : d.new ≡ old
  pub base : MakesAsRead before put d
  pub next : (d.next ≡ None) ⊎ (d.next ≡ Some put.next)

module _ (before : DiskParts) (put : PutParts) (stays : List ℕ → Bool) (chance : Act → List Act → Bool) (one : NewFileParts)
    (others : List NewFileParts) (distinct : IsDistinct same_book (one ∷ others)) where
  abbrev made : List NewFileParts
  made = one ∷ others

  abbrev L : DiskParts → Type 0
  L d = IsLeft before put made d

  abbrev Holds : DiskParts → List Act → Type 0
  Holds d acts = Fronts (LeftIs chance L d) acts

  written_keep : (project : List ℕ) (files : List NewFileParts) → AllByRecursion (Keeps (IsCleared before project)) (map written files)
  written_keep project [] = tt
  written_keep project (f ∷ files) =
      (λ d h. record { project = h.project; files = h.files; next = h.next; base = h.base }, written_keep project files)

  -- the base is settled after the files
  settle_last : (d : DiskParts) → SomeArePut before put made d → Holds d (acts_of stays d (Settle ∷ []))
  settle_last d h =
      subst (λ (n : Option (List ℕ)). Holds d (and_then (settling_acts (settling_steps (unsettled d) n)) (λ acts. []))) (sym h.next)
      (by (settled (option_to_list d.base) put.next books) refl)
    where
      books : List (List ℕ)
      books = (unsettled d).unplaced

      by : (r : Result (List ℕ) Refusal) → settled (option_to_list d.base) put.next books ≡ r
          → Holds d (and_then (settling_acts (r >>= λ bytes.
          Ok (base_puts d.base [] bytes ++ settling.RemoveNext ∷ settling.SyncOwn ∷ map settling.RemoveNew books))) (λ acts. []))
      by (Err refusal) g = SomePut h
      by (Ok bytes) g =
          subst (λ (acts : List Act). Holds d (acts ++ [])) (sym (settling_is d.base bytes books))
          (subst (Holds d) (sym (append_assoc (turned d.base bytes) (dropped books) []))
          (settled_fronts chance L d bytes based turning (dropped books ++ []) tail))
        where
          of : settled (put.base ∷ []) put.next books ≡ Ok bytes
          of = ap (λ (b : Option (List ℕ)). settled (option_to_list b) put.next books) (sym h.base) ∙ g

          stays_put : (x : DiskParts) → x.files ≡ d.files → ((book : List ℕ) → bytes_at d.new book ≡ None → bytes_at x.new book ≡ None)
              → (name : List ℕ) → IsPut d made name → IsPut x made name
          stays_put x files gone name p = put_stays d x made name (ap (λ fs. bytes_at fs name) files) gone p

          known : (x : DiskParts) → x.files ≡ d.files → ((book : List ℕ) → bytes_at d.new book ≡ None → bytes_at x.new book ≡ None)
              → FilesAreKnown before x made
          known x files gone name = pick (h.files name)
            where
              pick : (bytes_at d.files name ≡ bytes_at before.files name) ⊎ IsPut d made name
                  → (bytes_at x.files name ≡ bytes_at before.files name) ⊎ IsPut x made name
              pick (inl same) = inl (ap (λ fs. bytes_at fs name) files ∙ same)
              pick (inr p) = inr (stays_put x files gone name p)

          known_next : (x : DiskParts) → x.files ≡ d.files → ((book : List ℕ) → bytes_at d.new book ≡ None → bytes_at x.new book ≡ None)
              → (name : List ℕ) → (bytes_at x.files name ≡ bytes_at before.files name) ⊎ IsPutNext books x made name
          known_next x files gone name = pick (h.files name)
            where
              pick : (bytes_at d.files name ≡ bytes_at before.files name) ⊎ IsPut d made name
                  → (bytes_at x.files name ≡ bytes_at before.files name) ⊎ IsPutNext books x made name
              pick (inl same) = inl (ap (λ fs. bytes_at fs name) files ∙ same)
              pick (inr p) = inr (record {
                put = record {
                  file = p.file;
                  of = p.of;
                  under = p.under;
                  text = ap (λ fs. bytes_at fs name) files ∙ p.text;
                  gone = gone p.file.book p.gone;
                };
                next = is_not_there d.new p.file.book p.gone;
              })

          all : (x : DiskParts) → x.files ≡ d.files → x.new ≡ d.new → AllKnown x made
          all x files new f there = pick (h.all f there)
            where
              gone : (book : List ℕ) → bytes_at d.new book ≡ None → bytes_at x.new book ≡ None
              gone book e = ap (λ fs. bytes_at fs book) new ∙ e

              pick : Waits d f ⊎ (bytes_at d.new f.book ≡ None) × IsPut d made f.name
                  → Waits x f ⊎ (bytes_at x.new f.book ≡ None) × IsPut x made f.name
              pick (inl waits) = inl (ap (λ fs. bytes_at fs f.book) new ∙ waits)
              pick (inr p) = inr (gone f.book p.0, stays_put x files gone f.name p.1)

          rest : (x : DiskParts) → x.files ≡ d.files → ((book : List ℕ) → bytes_at d.new book ≡ None → bytes_at x.new book ≡ None)
              → (f : NewFileParts) → Contains made f → (is_one_of books f.book ≡ true) ⊎ IsPut x made f.name
          rest x files gone f there = pick (h.all f there)
            where
              pick : Waits d f ⊎ (bytes_at d.new f.book ≡ None) × IsPut d made f.name
                  → (is_one_of books f.book ≡ true) ⊎ IsPut x made f.name
              pick (inl waits) = inl (is_there d.new f.book f.text waits)
              pick (inr p) = inr (stays_put x files gone f.name p.1)

          settled_left : (x : DiskParts) → x.project ≡ d.project → x.files ≡ d.files
              → ((book : List ℕ) → bytes_at d.new book ≡ None → bytes_at x.new book ≡ None) → x.base ≡ Some bytes
              → (x.next ≡ None) ⊎ (x.next ≡ Some put.next) × AllKnown x made → L x
          settled_left x project files gone base next = BaseSettled (record {
            one = h.one;
            among = h.among;
            project = project ∙ h.project;
            left = books;
            base = bytes;
            of = of;
            is = base;
            next = next;
            files = known_next x files gone;
            others = rest x files gone;
          })

          same_new : (x : DiskParts) → x.new ≡ d.new → (book : List ℕ) → bytes_at d.new book ≡ None → bytes_at x.new book ≡ None
          same_new x new book e = ap (λ fs. bytes_at fs book) new ∙ e

          based : (x : DiskParts) → Based d bytes x → L x
          based x k = pick k.base
            where
              pick : (x.base ≡ d.base) ⊎ (x.base ≡ Some bytes) → L x
              pick (inl same) = SomePut (record {
                one = h.one;
                among = h.among;
                project = k.project ∙ h.project;
                base = same ∙ h.base;
                next = k.next ∙ h.next;
                files = known x k.files (same_new x k.new);
                all = all x k.files k.new;
              })
              pick (inr now) =
                  settled_left x k.project k.files (same_new x k.new) now (inr (k.next ∙ h.next, all x k.files k.new))

          turning : (x : DiskParts) → Turning d bytes x → L x
          turning x k = settled_left x k.project k.files (same_new x k.new) k.base (pick k.next)
            where
              pick : (x.next ≡ d.next) ⊎ (x.next ≡ None) → (x.next ≡ None) ⊎ (x.next ≡ Some put.next) × AllKnown x made
              pick (inl same) = inr (same ∙ h.next, all x k.files k.new)
              pick (inr none) = inl none

          tail : Turned d bytes (after d (turned d.base bytes)) → Holds (after d (turned d.base bytes)) (dropped books ++ [])
          tail k =
              kept_fronts chance L (IsDone d bytes) (λ x i. settled_left x i.project i.files i.gone i.base (inl i.next))
              (dropped books ++ [])
              (all_both (Keeps (IsDone d bytes)) (dropped books) [] (drops books) tt) (after d (turned d.base bytes))
              (record {
                project = k.project;
                files = k.files;
                gone = same_new (after d (turned d.base bytes)) k.new;
                base = k.base;
                next = k.next;
              })
            where
              less : (x : DiskParts) (book other : List ℕ) → bytes_at x.new other ≡ None → bytes_at (without x.new book) other ≡ None
              less x book other e = at_without x.new book other ∙ pick (same_bytes book other)
                where
                  pick : (b : Bool) → cond b None (bytes_at x.new other) ≡ None
                  pick true = refl
                  pick false = e

              drops : (bs : List (List ℕ)) → AllByRecursion (Keeps (IsDone d bytes)) (dropped bs)
              drops [] = tt
              drops (book ∷ bs) = (
                λ x i. record {
                  project = i.project;
                  files = i.files;
                  gone = λ other e. less x book other (i.gone other e);
                  base = i.base;
                  next = i.next;
                },
                drops bs,
              )

  -- the new files are put in their places
  move_all : (d : DiskParts) → SomeArePut before put made d → Holds d (acts_of stays d (placed (map placing made)))
  move_all d h =
      subst (Holds d) (sym (placed_acts stays one others d))
      (synced_fronts chance FolderSynced refl L (λ x. refl) (moves stays made)
      (acts_of stays (after d (moves stays made)) (Settle ∷ [])) (moves_certain stays made) d
      (kept_fronts chance L (SomeArePut before put made) (λ x k. SomePut k) (moves stays made) keep d h)
      (settle_last (after d (moves stays made)) (all_keep (SomeArePut before put made) (moves stays made) keep d h)))
    where
      keep : AllByRecursion (Keeps (SomeArePut before put made)) (moves stays made)
      keep = moves_keep before put made distinct stays made (λ f k. k)

  all_written : (project : List ℕ) (d : DiskParts) → IsWritten before put made project d → project ≡ put.project
      → SomeArePut before put made d
  all_written project d h e = record {
    one = one;
    among = is_first one others one refl;
    project = h.project ∙ e;
    base = h.base;
    next = h.next;
    files = λ name. inl (ap (λ fs. bytes_at fs name) h.files);
    all = λ f there. inl (h.waits f there);
  }

  -- the project is replaced
  replace_all : (project : List ℕ) (bytes : Option (List ℕ)) → project ≡ put.began → ProjectIsPut put.project bytes project
      → (d : DiskParts)
      → IsWritten before put made project d
      → Holds d (acts_of stays d (step_if ReplaceProject bytes ++ placed (map placing made)))
  replace_all project None began (inl e) d h = absurd (cc e)
  replace_all project None began (inr e) d h = move_all d (all_written project d h e.1)
  replace_all project (Some bytes) began (inr e) d h = absurd (let n = e.0 in cc n)
  replace_all project (Some bytes) began (inl e) d h = (
    NonePut (record {
      files = h.files;
      project = inr (inl (h.project ∙ began));
      known = inr (inr h.base, inr (h.next, h.waits));
    }),
    move_all (done d (SetProject bytes))
        (all_written put.project (done d (SetProject bytes))
        (record { project = is; files = h.files; base = h.base; next = h.next; waits = h.waits }) refl),
  )
    where
      is : bytes ≡ put.project
      is = cc e

  -- the base, the names and the next base are put
  put_beside : (project : List ℕ) (base names bytes : Option (List ℕ)) → BaseIsFirst before put.base base
      → project ≡ put.began → ProjectIsPut put.project bytes project
      → (d : DiskParts) → IsCleared before project d → AllWait d made
      → Holds d (acts_of stays d (with_sync SyncOwn (own_puts (record { base = base; names = names; next = Some put.next }))
      ++ (step_if ReplaceProject bytes ++ placed (map placing made))))
  put_beside project base names bytes first began replaced d h waits =
      let k = step_if ReplaceProject bytes ++ placed (map placing made) in
      let acts = base_acts base ++ names_acts names ++ SetNext put.next ∷ [] in
      subst (Holds d) (sym (puts_acts stays base names put.next d k))
      (synced_fronts chance OwnSynced refl L (λ x. refl) acts (acts_of stays (after d acts) k) (certain base names) d
      (kept_fronts chance L (IsPutBeside before put project d.new) left acts (keep base names first) d
      (record { project = h.project; files = h.files; new = refl; base = inl h.base; next = inl h.next }))
      (replace_all project bytes began replaced (after d acts) (end base names first)))
    where
      certain : (base names : Option (List ℕ))
          → AllByRecursion (Certain OwnSynced) (base_acts base ++ names_acts names ++ SetNext put.next ∷ [])
      certain None None = (refl, tt)
      certain None (Some n) = (refl, (refl, tt))
      certain (Some b) None = (refl, (refl, tt))
      certain (Some b) (Some n) = (refl, (refl, (refl, tt)))

      left : (x : DiskParts) → IsPutBeside before put project d.new x → L x
      left x k = NonePut (record { files = k.files; project = inr (inl (k.project ∙ began)); known = inr (k.base, pick k.next) })
        where
          pick : (x.next ≡ None) ⊎ (x.next ≡ Some put.next) → NextIsReady put made x
          pick (inl none) = inl none
          pick (inr now) = inr (now, λ f there. ap (λ fs. bytes_at fs f.book) k.new ∙ waits f there)

      Inv : DiskParts → Type 0
      Inv = IsPutBeside before put project d.new

      based : (b : List ℕ) → BaseIsFirst before put.base (Some b) → Keeps Inv (SetBase b)
      based b (inl e) x k = record { project = k.project; files = k.files; new = k.new; base = inr e; next = k.next }
      based b (inr n) x k = absurd (let e = n.0 in cc e)

      named : (b : List ℕ) → Keeps Inv (SetNames b)
      named b x k = record { project = k.project; files = k.files; new = k.new; base = k.base; next = k.next }

      nexted : Keeps Inv (SetNext put.next)
      nexted x k = record { project = k.project; files = k.files; new = k.new; base = k.base; next = inr refl }

      keep : (base names : Option (List ℕ)) → BaseIsFirst before put.base base
          → AllByRecursion (Keeps Inv) (base_acts base ++ names_acts names ++ SetNext put.next ∷ [])
      keep None None first = (nexted, tt)
      keep None (Some n) first = (named n, (nexted, tt))
      keep (Some b) None first = (based b first, (nexted, tt))
      keep (Some b) (Some n) first = (based b first, (named n, (nexted, tt)))

      there : BaseIsFirst before put.base None → d.base ≡ Some put.base
      there (inl e) = cc e
      there (inr n) = n.1 d h.base

      is : (b : List ℕ) → BaseIsFirst before put.base (Some b) → Some b ≡ Some put.base
      is b (inl e) = e
      is b (inr n) = absurd (let e = n.0 in cc e)

      end : (base names : Option (List ℕ)) → BaseIsFirst before put.base base
          → IsWritten before put made project (after d (base_acts base ++ names_acts names ++ SetNext put.next ∷ []))
      end None None first =
          record { project = h.project; files = h.files; base = there first; next = refl; waits = waits }
      end None (Some n) first =
          record { project = h.project; files = h.files; base = there first; next = refl; waits = waits }
      end (Some b) None first =
          record { project = h.project; files = h.files; base = is b first; next = refl; waits = waits }
      end (Some b) (Some n) first =
          record { project = h.project; files = h.files; base = is b first; next = refl; waits = waits }

  -- the new files are written first
  pub some_put : (base names bytes : Option (List ℕ)) (project : List ℕ) → BaseIsFirst before put.base base
      → project ≡ put.began → ProjectIsPut put.project bytes project → Goes before put stays chance made project (plan_steps made
      (record { base = base; names = names; next = Some put.next }) bytes)
  some_put base names bytes project first began replaced d h books =
      subst (λ (steps : List StepParts). Holds d (dropped books ++ acts_of stays (after d (dropped books)) steps)) (sym steps_are)
      (subst (λ (t : List Act). Holds d (dropped books ++ t)) (sym (writes_acts stays one others (after d (dropped books)) k))
      (subst (Holds d) (append_assoc (dropped books) (map written made) (OwnSynced ∷ rest))
      (synced_fronts chance OwnSynced refl L (λ x. refl) acts rest
      (all_both (Certain OwnSynced) (dropped books) (map written made) (dropped_certain books) (written_certain made)) d
      (kept_fronts chance L (IsCleared before project) (cleared_left before put stays chance made project began) acts keep d h)
      (subst (λ (x : DiskParts). Holds x rest) (sym both)
      (put_beside project base names bytes first began replaced now
      (subst (IsCleared before project) both (all_keep (IsCleared before project) acts keep d h))
      (all_wait made distinct (after d (dropped books))))))))
    where
      k : List StepParts
      k = with_sync SyncOwn (own_puts (record { base = base; names = names; next = Some put.next }))
          ++ (step_if ReplaceProject bytes ++ placed (map placing made))

      own : OwnParts
      own = record { base = base; names = names; next = Some put.next }

      -- the steps, by what is done first
      steps_are : plan_steps made own bytes ≡ with_sync SyncOwn (map WriteNew made) ++ k
      steps_are =
          append_assoc (with_sync SyncOwn (map WriteNew made) ++ with_sync SyncOwn (own_puts own)) (step_if ReplaceProject bytes)
          (placed (map placing made))
          ∙ append_assoc (with_sync SyncOwn (map WriteNew made)) (with_sync SyncOwn (own_puts own))
          (step_if ReplaceProject bytes ++ placed (map placing made))

      acts : List Act
      acts = dropped books ++ map written made

      now : DiskParts
      now = after (after d (dropped books)) (map written made)

      rest : List Act
      rest = acts_of stays now k

      both : after d acts ≡ now
      both = after_both d (dropped books) (map written made)

      keep : AllByRecursion (Keeps (IsCleared before project)) acts
      keep = all_both (Keeps (IsCleared before project)) (dropped books) (map written made)
          (dropped_keep before project books) (written_keep project made)
