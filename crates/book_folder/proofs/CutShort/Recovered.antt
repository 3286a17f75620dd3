-- What a sync leaves where it is cut short.
use Rattle.std.proofs.Common.{◌≡◌, ◌⊎◌, ℕ, Bool, List, [], ◌∷◌, ◌++◌, inl, inr, map, Option, None, Some, Result, Ok, Err, option_to_list, refl, sym, ap, subst, ◌∙◌, append_assoc}
use Rattle.std.specs.List.{AllByRecursion}
use Rattle.book_folder.specs.Begun.{settled}
use Rattle.book_folder.specs.CutShort.{IsLeft, IsUnsettled, MakesAsRead, NextIsReady, ProjectIsBegun, PutParts, NonePut, settled_of}
use Rattle.book_folder.specs.Disks.{Act, DiskParts, OwnSynced, SetBase, SetNames, SetProject, acts_of, after, and_then, settling_acts, unsettled}
use Rattle.book_folder.specs.Plans.{NewFileParts, RemoveNew, Settle, StepParts, bytes_or, plan_steps, recovery}
use Rattle.book_folder.specs.Refusals.{◌>>=◌}
use Rattle.book_folder.specs.Settling.{base_puts, settling_steps}
use Rattle.book_folder.specs.Settling as settling
use Rattle.book_folder.specs.declared.refusal.Refusal.{Refusal}
use Rattle.book_folder.proofs.CutShort.Fronts.{Certain, Fronts, Keeps, LeftIs, after_both, all_keep, kept_fronts, synced_fronts}
use Rattle.book_folder.proofs.CutShort.Settles.{Based, Turned, Turning, dropped, settled_fronts, settling_is, turned}
use Rattle.book_folder.proofs.CutShort.StepActs.{dropped_certain, removal_acts}
use Rattle.book_folder.proofs.Schedules.Reached.{all_both}

-- what was cut short is finished, and no next base is there
pub record IsCleared (before : DiskParts) (bytes : List ℕ) (d : DiskParts) : Type 0 where
  pub project : d.project ≡ bytes
  pub files : d.files ≡ before.files
  pub next : d.next ≡ None
  pub base : settled_of before before.next ≡ Ok d.base

-- a base is put that is the first of the plan, or that one is there
abbrev pub BaseIsFirst : DiskParts → List ℕ → Option (List ℕ) → Type 0
BaseIsFirst before first base =
    (base ≡ Some first) ⊎ (base ≡ None) × ((d : DiskParts) → settled_of before before.next ≡ Ok d.base → d.base ≡ Some first)

-- the project gets its bytes, or has them
abbrev pub ProjectIsPut : List ℕ → Option (List ℕ) → List ℕ → Type 0
ProjectIsPut put bytes project = (bytes ≡ Some put) ⊎ (bytes ≡ None) × (project ≡ put)

pub dropped_keep : (before : DiskParts) (project : List ℕ) (books : List (List ℕ))
    → AllByRecursion (Keeps (IsCleared before project)) (dropped books)
dropped_keep before project [] = tt
dropped_keep before project (book ∷ books) =
    (λ d h. record { project = h.project; files = h.files; next = h.next; base = h.base }, dropped_keep before project books)

-- a disk on which no file is put, and none will be
record IsAsRead (before : DiskParts) (put : PutParts) (bytes : List ℕ) (d : DiskParts) : Type 0 where
  pub project : d.project ≡ bytes
  pub files : d.files ≡ before.files
  pub next : d.next ≡ None
  pub base : MakesAsRead before put d

-- one on which the base is put then, and perhaps the project
record HasBase (before : DiskParts) (put : PutParts) (bytes : List ℕ) (d : DiskParts) : Type 0 where
  pub project : (d.project ≡ bytes) ⊎ (d.project ≡ put.project)
  pub files : d.files ≡ before.files
  pub next : d.next ≡ None
  pub base : d.base ≡ Some put.base

module _ (before : DiskParts) (put : PutParts) (stays : List ℕ → Bool) (chance : Act → List Act → Bool) (made : List NewFileParts) where
  abbrev pub L : DiskParts → Type 0
  L d = IsLeft before put made d

  abbrev pub Holds : DiskParts → List Act → Type 0
  Holds d acts = Fronts (LeftIs chance L d) acts

  pub cleared_left : (project : List ℕ) → project ≡ put.began → (d : DiskParts) → IsCleared before project d → L d
  cleared_left project began d h =
      NonePut (record { files = h.files; project = inr (inl (h.project ∙ began)); known = inr (inl h.base, inl h.next) })

  -- ---- what a command that was cut short has begun is finished

  -- what holds once that is done, with new files that are removed, and perhaps are not yet
  abbrev pub Goes : List ℕ → List StepParts → Type 0
  Goes project k =
      (d : DiskParts) → IsCleared before project d → (books : List (List ℕ))
      → Holds d (dropped books ++ acts_of stays (after d (dropped books)) k)

  -- the base is settled
  settle_first : (project : List ℕ) → project ≡ put.began → (k : List StepParts) → Goes project k → (next : List ℕ)
      → before.next ≡ Some next
      → Holds (record before { project = project }) (acts_of stays (record before { project = project }) (Settle ∷ k))
  settle_first project began k goes next e =
      subst (λ (n : Option (List ℕ)). Holds d (and_then (settling_acts (settling_steps (unsettled d) n)) on)) (sym e)
      (by (settled (option_to_list before.base) next (unsettled d).unplaced) refl)
    where
      d : DiskParts
      d = record before { project = project }

      on : List Act → List Act
      on acts = acts_of stays (after d acts) k

      start : L d
      start = NonePut (record {
        files = refl;
        project = inr (inl began);
        known = inl (record { next = refl; new = refl; base = inl refl });
      })

      by : (r : Result (List ℕ) Refusal) → settled (option_to_list before.base) next (unsettled d).unplaced ≡ r
          → Holds d (and_then (settling_acts (r >>= λ bytes.
          Ok (base_puts d.base [] bytes ++ settling.RemoveNext ∷ settling.SyncOwn ∷ map settling.RemoveNew (unsettled d).unplaced))) on)
      by (Err refusal) g = start
      by (Ok bytes) g =
          subst (λ (acts : List Act). Holds d (acts ++ on acts)) (sym (settling_is d.base bytes (unsettled d).unplaced))
          (subst (Holds d) (sym rest_is)
          (settled_fronts chance L d bytes based turning (dropped books ++ on (turned d.base bytes ++ dropped books)) tail))
        where
          books : List (List ℕ)
          books = (unsettled d).unplaced

          rest_is : (turned d.base bytes ++ dropped books) ++ on (turned d.base bytes ++ dropped books)
              ≡ turned d.base bytes ++ (dropped books ++ on (turned d.base bytes ++ dropped books))
          rest_is = append_assoc (turned d.base bytes) (dropped books) (on (turned d.base bytes ++ dropped books))

          is : settled_of before before.next ≡ Ok (Some bytes)
          is = ap (settled_of before) e ∙ ap (λ r. r >>= λ b. Ok (Some b)) g

          based : (x : DiskParts) → Based d bytes x → L x
          based x h = NonePut (record {
            files = h.files;
            project = inr (inl (h.project ∙ began));
            known = inl (record { next = h.next; new = h.new; base = base h.base });
          })
            where
              base : (x.base ≡ d.base) ⊎ (x.base ≡ Some bytes) → (x.base ≡ before.base) ⊎ (settled_of before before.next ≡ Ok x.base)
              base (inl same) = inl same
              base (inr now) = inr (is ∙ ap (λ (b : Option (List ℕ)). Ok b) (sym now))

          turning : (x : DiskParts) → Turning d bytes x → L x
          turning x h = NonePut (record { files = h.files; project = inr (inl (h.project ∙ began)); known = by_next h.next })
            where
              now : settled_of before before.next ≡ Ok x.base
              now = is ∙ ap (λ (b : Option (List ℕ)). Ok b) (sym h.base)

              by_next : (x.next ≡ d.next) ⊎ (x.next ≡ None) → IsUnsettled before x ⊎ MakesAsRead before put x × NextIsReady put made x
              by_next (inl same) = inl (record { next = same; new = h.new; base = inr now })
              by_next (inr none) = inr (inl now, inl none)

          tail : Turned d bytes (after d (turned d.base bytes))
              → Holds (after d (turned d.base bytes)) (dropped books ++ on (turned d.base bytes ++ dropped books))
          tail h =
              let x = after d (turned d.base bytes) in
              subst (λ (y : DiskParts). Holds x (dropped books ++ acts_of stays y k))
              (sym (after_both d (turned d.base bytes) (dropped books)))
              (goes x (record {
                project = h.project;
                files = h.files;
                next = h.next;
                base = is ∙ ap (λ (b : Option (List ℕ)). Ok b) (sym h.base);
              }) books)

  begins : L before
  begins = NonePut (record {
    files = refl;
    project = inl refl;
    known = inl (record { next = refl; new = refl; base = inl refl });
  })

  -- where no next base stands, the new files that are left are removed
  remove_first : (project : List ℕ) (k : List StepParts) → Goes project k → before.next ≡ None → (books : List (List ℕ))
      → Holds (record before { project = project }) (acts_of stays (record before { project = project }) (map RemoveNew books ++ k))
  remove_first project k goes e books =
      let d = record before { project = project } in
      subst (Holds d) (sym (removal_acts stays books d k))
      (goes d (record { project = refl; files = refl; next = e; base = ap (settled_of before) e }) books)

  pub recovered_fronts : (bytes next : Option (List ℕ)) (books : List (List ℕ)) (k : List StepParts) → before.next ≡ next
      → bytes_or before.project bytes ≡ put.began → Goes (bytes_or before.project bytes) k
      → Holds before (acts_of stays before (recovery bytes next books ++ k))
  recovered_fronts None None books k e began goes = remove_first before.project k goes e books
  recovered_fronts None (Some next) books k e began goes = settle_first before.project began k goes next e
  recovered_fronts (Some project) None books k e began goes = (begins, remove_first project k goes e books)
  recovered_fronts (Some project) (Some next) books k e began goes = (begins, settle_first project began k goes next e)

  -- ---- a plan without new files

  pub none_put : (base names bytes : Option (List ℕ)) (project : List ℕ) → BaseIsFirst before put.base base
      → project ≡ put.began → ProjectIsPut put.project bytes project
      → Goes project (plan_steps [] (record { base = base; names = names; next = None }) bytes)
  none_put base names bytes project first began replaced d h books = all base names bytes first replaced
    where
      Beside : DiskParts → Type 0
      Beside = IsAsRead before put project

      Put : DiskParts → Type 0
      Put = HasBase before put project

      beside_left : (x : DiskParts) → Beside x → L x
      beside_left x k = NonePut (record { files = k.files; project = inr (inl (k.project ∙ began)); known = inr (k.base, inl k.next) })

      put_left : (x : DiskParts) → Put x → L x
      put_left x k = NonePut (record { files = k.files; project = pick k.project; known = inr (inr k.base, inl k.next) })
        where
          pick : (x.project ≡ project) ⊎ (x.project ≡ put.project) → ProjectIsBegun before put x
          pick (inl e) = inr (inl (e ∙ began))
          pick (inr e) = inr (inr (e, k.base, k.next))

      cleared : DiskParts
      cleared = after d (dropped books)

      is_cleared : IsCleared before project cleared
      is_cleared = all_keep (IsCleared before project) (dropped books) (dropped_keep before project books) d h

      drops_beside : (bs : List (List ℕ)) → AllByRecursion (Keeps Beside) (dropped bs)
      drops_beside [] = tt
      drops_beside (book ∷ bs) =
          (λ x k. record { project = k.project; files = k.files; next = k.next; base = k.base }, drops_beside bs)

      drops_put : (bs : List (List ℕ)) → AllByRecursion (Keeps Put) (dropped bs)
      drops_put [] = tt
      drops_put (book ∷ bs) = (λ x k. record { project = k.project; files = k.files; next = k.next; base = k.base }, drops_put bs)

      based : (b : List ℕ) → Some b ≡ Some put.base → Keeps Beside (SetBase b)
      based b e x k = record { project = k.project; files = k.files; next = k.next; base = inr e }

      named : (n : List ℕ) → Keeps Beside (SetNames n)
      named n x k = record { project = k.project; files = k.files; next = k.next; base = k.base }

      project_acts : Option (List ℕ) → List Act
      project_acts None = []
      project_acts (Some p) = SetProject p ∷ []

      project_keeps : (bytes : Option (List ℕ)) → ProjectIsPut put.project bytes project → AllByRecursion (Keeps Put) (project_acts bytes)
      project_keeps None r = tt
      project_keeps (Some p) (inl e) =
          (λ x k. let is : p ≡ put.project = cc e in record { project = inr is; files = k.files; next = k.next; base = k.base }, tt)
      project_keeps (Some p) (inr n) = absurd (let e = n.0 in cc e)

      -- where the base and the names are there already
      at_once : d.base ≡ Some put.base → (bytes : Option (List ℕ)) → ProjectIsPut put.project bytes project
          → Holds d (dropped books ++ project_acts bytes)
      at_once base bytes replaced =
          kept_fronts chance L Put put_left (dropped books ++ project_acts bytes)
          (all_both (Keeps Put) (dropped books) (project_acts bytes) (drops_put books) (project_keeps bytes replaced)) d
          (record { project = inl h.project; files = h.files; next = h.next; base = base })

      -- where they are put first
      after_sync : (acts : List Act) → AllByRecursion (Certain OwnSynced) acts → AllByRecursion (Keeps Beside) acts
          → Put (after cleared acts) → (bytes : Option (List ℕ)) → ProjectIsPut put.project bytes project
          → Holds d (dropped books ++ (acts ++ OwnSynced ∷ project_acts bytes))
      after_sync acts certain keeps end bytes replaced =
          subst (Holds d) (append_assoc (dropped books) acts (OwnSynced ∷ project_acts bytes))
          (synced_fronts chance OwnSynced refl L (λ x. refl) (dropped books ++ acts) (project_acts bytes)
          (all_both (Certain OwnSynced) (dropped books) acts (dropped_certain books) certain) d
          (kept_fronts chance L Beside beside_left (dropped books ++ acts)
          (all_both (Keeps Beside) (dropped books) acts (drops_beside books) keeps) d
          (record { project = h.project; files = h.files; next = h.next; base = inl h.base }))
          (kept_fronts chance L Put put_left (project_acts bytes) (project_keeps bytes replaced) (after d (dropped books ++ acts))
          (subst Put (sym (after_both d (dropped books) acts)) end)))

      put_now : (b : List ℕ) → BaseIsFirst before put.base (Some b) → Some b ≡ Some put.base
      put_now b (inl e) = e
      put_now b (inr n) = absurd (let e = n.0 in cc e)

      there : BaseIsFirst before put.base None → (x : DiskParts) → IsCleared before project x → x.base ≡ Some put.base
      there (inl e) x k = cc e
      there (inr n) x k = n.1 x k.base

      with_base_of : (x : DiskParts) → x.project ≡ cleared.project → x.files ≡ cleared.files → x.next ≡ cleared.next
          → x.base ≡ Some put.base → Put x
      with_base_of x project files next base = record {
        project = inl (project ∙ is_cleared.project);
        files = files ∙ is_cleared.files;
        next = next ∙ is_cleared.next;
        base = base;
      }

      all : (base names bytes : Option (List ℕ)) → BaseIsFirst before put.base base → ProjectIsPut put.project bytes project
          → Holds d (dropped books ++ acts_of stays cleared (plan_steps [] (record { base = base; names = names; next = None }) bytes))
      all None None None first replaced = at_once (there first d h) None replaced
      all None None (Some p) first replaced = at_once (there first d h) (Some p) replaced
      all None (Some n) None first replaced =
          after_sync (SetNames n ∷ []) (refl, tt) (named n, tt)
          (with_base_of (after cleared (SetNames n ∷ [])) refl refl refl (there first cleared is_cleared)) None replaced
      all None (Some n) (Some p) first replaced =
          after_sync (SetNames n ∷ []) (refl, tt) (named n, tt)
          (with_base_of (after cleared (SetNames n ∷ [])) refl refl refl (there first cleared is_cleared)) (Some p) replaced
      all (Some b) None None first replaced =
          after_sync (SetBase b ∷ []) (refl, tt) (based b (put_now b first), tt)
          (with_base_of (after cleared (SetBase b ∷ [])) refl refl refl (put_now b first)) None replaced
      all (Some b) None (Some p) first replaced =
          after_sync (SetBase b ∷ []) (refl, tt) (based b (put_now b first), tt)
          (with_base_of (after cleared (SetBase b ∷ [])) refl refl refl (put_now b first)) (Some p) replaced
      all (Some b) (Some n) None first replaced =
          after_sync (SetBase b ∷ SetNames n ∷ []) (refl, (refl, tt)) (based b (put_now b first), (named n, tt))
          (with_base_of (after cleared (SetBase b ∷ SetNames n ∷ [])) refl refl refl (put_now b first)) None replaced
      all (Some b) (Some n) (Some p) first replaced =
          after_sync (SetBase b ∷ SetNames n ∷ []) (refl, (refl, tt)) (based b (put_now b first), (named n, tt))
          (with_base_of (after cleared (SetBase b ∷ SetNames n ∷ [])) refl refl refl (put_now b first)) (Some p) replaced
