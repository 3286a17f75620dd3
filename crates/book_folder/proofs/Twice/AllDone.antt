-- What a sync leaves once each step of its plan was done, and no file was left.
use Rattle.std.proofs.Common.{◌≡◌, inl, inr, ℕ, Bool, false, List, [], ◌∷◌, ◌++◌, map, Contains, Option, None, Some, Ok, option_to_list, refl, sym, ap, subst, ◌∙◌, append_assoc}
use Rattle.std.specs.List.{IsDistinct}
use Rattle.std.specs.Option.{is_some}
use Rattle.replica_state.proofs.SinceLaws.{is_first, none_there}
use Rattle.book_folder.specs.Begun.{is_one_of, settled}
use Rattle.book_folder.specs.CutShort.{AllWait, FilesAreKnown, IsPut, PutParts, SomeArePut, settled_of}
use Rattle.book_folder.specs.Disks.{Act, DiskParts, FolderSynced, OwnSynced, SetBase, SetNames, SetNext, SetProject, acts_of, after, and_then, bytes_at, done, settling_acts, unsettled}
use Rattle.book_folder.specs.Plans.{NewFileParts, OwnParts, RemoveNew, ReplaceProject, Settle, StepParts, SyncOwn, WriteNew, bytes_or, own_puts, placed, placing, plan_steps, recovery, step_if, with_sync}
use Rattle.book_folder.specs.Refusals.{◌>>=◌}
use Rattle.book_folder.specs.Settling.{base_puts, settling_steps}
use Rattle.book_folder.specs.Settling as settling
use Rattle.book_folder.proofs.CutShort.Fronts.{after_both, all_keep}
use Rattle.book_folder.proofs.CutShort.Names.{is_not_there, is_there}
use Rattle.book_folder.proofs.CutShort.OwnBooks.{same_book}
use Rattle.book_folder.proofs.CutShort.Puts.{all_wait, moves, moves_keep, written}
use Rattle.book_folder.proofs.CutShort.Recovered.{BaseIsFirst, IsCleared, ProjectIsPut, dropped_keep}
use Rattle.book_folder.proofs.CutShort.Settles.{Turned, dropped, settling_is, turned, turned_is}
use Rattle.book_folder.proofs.CutShort.StepActs.{base_acts, names_acts, placed_acts, puts_acts, removal_acts, writes_acts}
use Rattle.book_folder.proofs.Twice.Emptied.{NoneBut, NoneNew, all_gone, all_moved, none_but, none_left}

-- Each step was done: the project has all that came in, and the base what the books show; no next one and no new file is left; each
-- file is as it was, or is one that was put, and each new one was put.
pub record IsAllDone (before : DiskParts) (put : PutParts) (made : List NewFileParts) (d : DiskParts) : Type 0 where
  pub project : d.project ≡ put.project
  pub base : d.base ≡ Some put.next
  pub next : d.next ≡ None
  pub new : NoneNew d
  pub files : FilesAreKnown before d made
  pub all : (f : NewFileParts) → Contains made f → IsPut d made f.name

-- no file stays as it was read that is to be put
abbrev go : List ℕ → Bool
go book = false

-- a base is settled where a next one stands
abbrev pub Settles : DiskParts → Type 0
Settles before =
    (next : List ℕ) → before.next ≡ Some next
    → (bytes : List ℕ) × (settled (option_to_list before.base) next (map (λ f. f.name) before.new) ≡ Ok bytes)

module _ (before : DiskParts) (put : PutParts) (made : List NewFileParts) where
  abbrev Done : DiskParts → Type 0
  Done d = IsAllDone before put made d

  -- what is done from a disk on that was cleared
  abbrev Ends : List ℕ → List StepParts → Type 0
  Ends project k = (x : DiskParts) → IsCleared before project x → NoneNew x → Done (after x (acts_of go x k))

  -- ---- what a command that was cut short has begun is finished

  -- the new files are removed that stand there
  remove_first : (project : List ℕ) (k : List StepParts) → Ends project k → before.next ≡ None → (books : List (List ℕ))
      → ((book : List ℕ) → is_one_of books book ≡ is_some (bytes_at before.new book))
      → Done (after (record before { project = project }) (acts_of go (record before { project = project }) (map RemoveNew books ++ k)))
  remove_first project k ends e books are =
      let d : DiskParts = record before { project = project } in
      let x = after d (dropped books) in
      subst Done
      (sym (ap (after d) (removal_acts go books d k) ∙ after_both d (dropped books) (acts_of go x k)))
      (ends x
      (all_keep (IsCleared before project) (dropped books) (dropped_keep before project books) d
      (record { project = refl; files = refl; next = e; base = ap (settled_of before) e }))
      (all_gone books d are))

  -- the base is settled
  settle_first : (project : List ℕ) (k : List StepParts) → Ends project k → (next bytes : List ℕ) → before.next ≡ Some next
      → settled (option_to_list before.base) next (map (λ f. f.name) before.new) ≡ Ok bytes
      → Done (after (record before { project = project }) (acts_of go (record before { project = project }) (Settle ∷ k)))
  settle_first project k ends next bytes e g =
      subst (λ (acts : List Act). Done (after d acts)) (sym acts_are) (subst Done (sym path) (ends x cleared gone))
    where
      d : DiskParts
      d = record before { project = project }

      on : List Act → List Act
      on acts = acts_of go (after d acts) k

      books : List (List ℕ)
      books = (unsettled d).unplaced

      first : List Act
      first = turned d.base bytes

      x : DiskParts
      x = after (after d first) (dropped books)

      acts_are : acts_of go d (Settle ∷ k) ≡ (first ++ dropped books) ++ on (first ++ dropped books)
      acts_are =
          ap (λ (n : Option (List ℕ)). and_then (settling_acts (settling_steps (unsettled d) n)) on) e
          ∙ ap (λ r. and_then (settling_acts (r >>= λ b.
          Ok (base_puts d.base [] b ++ settling.RemoveNext ∷ settling.SyncOwn ∷ map settling.RemoveNew books))) on) g
          ∙ ap (λ (acts : List Act). acts ++ on acts) (settling_is d.base bytes books)

      path : after d ((first ++ dropped books) ++ on (first ++ dropped books)) ≡ after x (acts_of go x k)
      path =
          after_both d (first ++ dropped books) (on (first ++ dropped books))
          ∙ ap (λ (y : DiskParts). after y (acts_of go y k)) (after_both d first (dropped books))

      is : settled_of before before.next ≡ Ok (Some bytes)
      is = ap (settled_of before) e ∙ ap (λ r. r >>= λ b. Ok (Some b)) g

      cleared : IsCleared before project x
      cleared =
          let h = turned_is d bytes in
          all_keep (IsCleared before project) (dropped books) (dropped_keep before project books) (after d first) (record {
            project = h.project;
            files = h.files;
            next = h.next;
            base = is ∙ ap (λ (b : Option (List ℕ)). Ok b) (sym h.base);
          })

      gone : NoneNew x
      gone =
          let h = turned_is d bytes in
          all_gone books (after d first) (λ book.
          by book (bytes_at before.new book) refl ∙ ap (λ fs. is_some (bytes_at fs book)) (sym h.new))
        where
          by : (book : List ℕ) (r : Option (List ℕ)) → bytes_at before.new book ≡ r
              → is_one_of books book ≡ is_some (bytes_at before.new book)
          by book None e = is_not_there before.new book e ∙ sym (ap is_some e)
          by book (Some text) e = is_there before.new book text e ∙ sym (ap is_some e)

  recovered : (bytes next : Option (List ℕ)) (books : List (List ℕ)) (k : List StepParts) → before.next ≡ next → Settles before
      → ((book : List ℕ) → is_one_of books book ≡ is_some (bytes_at before.new book))
      → Ends (bytes_or before.project bytes) k → Done (after before (acts_of go before (recovery bytes next books ++ k)))
  recovered None None books k e settles are ends = remove_first before.project k ends e books are
  recovered None (Some next) books k e settles are ends =
      let g = settles next e in settle_first before.project k ends next g.0 e g.1
  recovered (Some project) None books k e settles are ends = remove_first project k ends e books are
  recovered (Some project) (Some next) books k e settles are ends =
      let g = settles next e in settle_first project k ends next g.0 e g.1

-- ---- a plan without new files

module _ (before : DiskParts) (put : PutParts) (same : put.base ≡ put.next) where
  -- what is done where the base, the names and the project may be put
  none_made : (project : List ℕ) (base names bytes : Option (List ℕ)) → BaseIsFirst before put.base base
      → ProjectIsPut put.project bytes project
      → Ends before put [] project (plan_steps [] (record { base = base; names = names; next = None }) bytes)
  none_made project base names bytes first replaced x h none = all base names bytes first replaced
    where
      Now : DiskParts → Type 0
      Now = IsAllDone before put []

      is_now : (d : DiskParts) → d.files ≡ x.files → d.next ≡ x.next → d.new ≡ x.new → d.base ≡ Some put.base
          → d.project ≡ put.project → Now d
      is_now d files next new base project = record {
        project = project;
        base = base ∙ ap (λ (b : List ℕ). Some b) same;
        next = next ∙ h.next;
        new = λ book. ap (λ fs. bytes_at fs book) new ∙ none book;
        files = λ name. inl (ap (λ fs. bytes_at fs name) (files ∙ h.files));
        all = λ f there. absurd (none_there f there);
      }

      there : BaseIsFirst before put.base None → x.base ≡ Some put.base
      there (inl e) = cc e
      there (inr n) = n.1 x h.base

      put_now : (b : List ℕ) → BaseIsFirst before put.base (Some b) → Some b ≡ Some put.base
      put_now b (inl e) = e
      put_now b (inr n) = absurd (let e = n.0 in cc e)

      stays : ProjectIsPut put.project None project → x.project ≡ put.project
      stays (inl e) = cc e
      stays (inr n) = h.project ∙ n.1

      goes : (p : List ℕ) → ProjectIsPut put.project (Some p) project → p ≡ put.project
      goes p (inl e) = cc e
      goes p (inr n) = absurd (let e = n.0 in cc e)

      all : (base names bytes : Option (List ℕ)) → BaseIsFirst before put.base base → ProjectIsPut put.project bytes project
          → Now (after x (acts_of go x (plan_steps [] (record { base = base; names = names; next = None }) bytes)))
      all None None None f r = is_now x refl refl refl (there f) (stays r)
      all None None (Some p) f r = is_now (done x (SetProject p)) refl refl refl (there f) (goes p r)
      all None (Some n) None f r = is_now (done x (SetNames n)) refl refl refl (there f) (stays r)
      all None (Some n) (Some p) f r = is_now (done (done x (SetNames n)) (SetProject p)) refl refl refl (there f) (goes p r)
      all (Some b) None None f r = is_now (done x (SetBase b)) refl refl refl (put_now b f) (stays r)
      all (Some b) None (Some p) f r = is_now (done (done x (SetBase b)) (SetProject p)) refl refl refl (put_now b f) (goes p r)
      all (Some b) (Some n) None f r = is_now (done (done x (SetBase b)) (SetNames n)) refl refl refl (put_now b f) (stays r)
      all (Some b) (Some n) (Some p) f r =
          is_now (done (done (done x (SetBase b)) (SetNames n)) (SetProject p)) refl refl refl (put_now b f) (goes p r)

-- ---- a plan with new files

-- all is written that has to be before a file is put, but perhaps the project
record IsWritten (before : DiskParts) (put : PutParts) (made : List NewFileParts) (d : DiskParts) : Type 0 where
  pub files : d.files ≡ before.files
  pub base : d.base ≡ Some put.base
  pub next : d.next ≡ Some put.next
  pub waits : AllWait d made
  pub but : NoneBut made d

module _ (before : DiskParts) (put : PutParts) (one : NewFileParts) (others : List NewFileParts)
    (distinct : IsDistinct same_book (one ∷ others)) (last : settled (put.base ∷ []) put.next [] ≡ Ok put.next) where
  abbrev new : List NewFileParts
  new = one ∷ others

  abbrev Now : DiskParts → Type 0
  Now d = IsAllDone before put new d

  -- the base is settled after the files
  settle_last : (d : DiskParts) → SomeArePut before put new d → NoneNew d → Now (after d (acts_of go d (Settle ∷ [])))
  settle_last d h none = subst (λ (acts : List Act). Now (after d acts)) (sym acts_are) (subst Now (sym path) is)
    where
      empty : d.new ≡ []
      empty = none_left d.new none

      g : settled (option_to_list d.base) put.next (unsettled d).unplaced ≡ Ok put.next
      g = (λ i. settled (option_to_list (h.base i)) put.next (map (λ f. f.name) (empty i))) ∙ last

      first : List Act
      first = turned d.base put.next

      acts_are : acts_of go d (Settle ∷ []) ≡ (first ++ dropped (unsettled d).unplaced) ++ []
      acts_are =
          ap (λ (n : Option (List ℕ)). and_then (settling_acts (settling_steps (unsettled d) n)) (λ acts. [])) h.next
          ∙ ap (λ r. and_then (settling_acts (r >>= λ b.
          Ok (base_puts d.base [] b ++ settling.RemoveNext ∷ settling.SyncOwn ∷ map settling.RemoveNew (unsettled d).unplaced)))
          (λ acts. [])) g
          ∙ ap (λ (acts : List Act). acts ++ []) (settling_is d.base put.next (unsettled d).unplaced)

      path : after d ((first ++ dropped (unsettled d).unplaced) ++ []) ≡ after d first
      path =
          after_both d (first ++ dropped (unsettled d).unplaced) []
          ∙ after_both d first (dropped (unsettled d).unplaced)
          ∙ ap (λ fs. after (after d first) (dropped (map (λ f. f.name) fs))) empty

      is : Now (after d first)
      is =
          let t = turned_is d put.next in record {
            project = t.project ∙ h.project;
            base = t.base;
            next = t.next;
            new = λ book. ap (λ fs. bytes_at fs book) t.new ∙ none book;
            files = λ name. elim (h.files name) [
              | inl same ↦ inl (ap (λ fs. bytes_at fs name) t.files ∙ same)
              | inr p ↦ inr (stays t name p)
            ];
            all = λ f there. elim (h.all f there) [
              | inl waits ↦ absurd (let no = sym (none f.book) ∙ waits in cc no)
              | inr p ↦ stays t f.name p.1
            ];
          }
        where
          stays : Turned d put.next (after d first) → (name : List ℕ) → IsPut d new name → IsPut (after d first) new name
          stays t name p = record {
            file = p.file;
            of = p.of;
            under = p.under;
            text = ap (λ fs. bytes_at fs name) t.files ∙ p.text;
            gone = ap (λ fs. bytes_at fs p.file.book) t.new ∙ p.gone;
          }

  -- the new files are put in their places
  move_all : (d : DiskParts) → IsWritten before put new d → d.project ≡ put.project
      → Now (after d (acts_of go d (placed (map placing new))))
  move_all d h project =
      let m = moves go new in
      let start : SomeArePut before put new d = record {
        one = one;
        among = is_first one others one refl;
        project = project;
        base = h.base;
        next = h.next;
        files = λ name. inl (ap (λ fs. bytes_at fs name) h.files);
        all = λ f there. inl (h.waits f there);
      } in
      let put_all = all_keep (SomeArePut before put new) m (moves_keep before put new distinct go new (λ f k. k)) d start in
      subst Now
      (sym (ap (after d) (placed_acts go one others d) ∙ after_both d m (FolderSynced ∷ acts_of go (after d m) (Settle ∷ []))))
      (settle_last (after d m) put_all (all_moved new d h.but))

  -- the project is replaced
  replace_all : (bytes : Option (List ℕ)) (project : List ℕ) → ProjectIsPut put.project bytes project → (d : DiskParts)
      → d.project ≡ project → IsWritten before put new d
      → Now (after d (acts_of go d (step_if ReplaceProject bytes ++ placed (map placing new))))
  replace_all None project (inl e) d is h = absurd (cc e)
  replace_all None project (inr e) d is h = move_all d h (is ∙ e.1)
  replace_all (Some p) project (inr e) d is h = absurd (let n = e.0 in cc n)
  replace_all (Some p) project (inl e) d is h =
      let same : p ≡ put.project = cc e in
      move_all (done d (SetProject p))
      (record { files = h.files; base = h.base; next = h.next; waits = h.waits; but = h.but }) same

  -- the base, the names and the next base are put
  put_beside : (base names bytes : Option (List ℕ)) (project : List ℕ) → BaseIsFirst before put.base base
      → ProjectIsPut put.project bytes project → (d : DiskParts) → IsCleared before project d → AllWait d new → NoneBut new d
      → Now (after d (acts_of go d (with_sync SyncOwn (own_puts (record { base = base; names = names; next = Some put.next }))
      ++ (step_if ReplaceProject bytes ++ placed (map placing new)))))
  put_beside base names bytes project first replaced d h waits but =
      subst Now
      (sym (ap (after d) (puts_acts go base names put.next d k) ∙ after_both d acts (OwnSynced ∷ acts_of go (after d acts) k)))
      (put_by base names first)
    where
      k : List StepParts
      k = step_if ReplaceProject bytes ++ placed (map placing new)

      acts : List Act
      acts = base_acts base ++ names_acts names ++ SetNext put.next ∷ []

      there : BaseIsFirst before put.base None → d.base ≡ Some put.base
      there (inl e) = cc e
      there (inr n) = n.1 d h.base

      put_now : (b : List ℕ) → BaseIsFirst before put.base (Some b) → Some b ≡ Some put.base
      put_now b (inl e) = e
      put_now b (inr n) = absurd (let e = n.0 in cc e)

      on : (x : DiskParts) → x.project ≡ d.project → x.files ≡ d.files → x.new ≡ d.new → x.base ≡ Some put.base
          → x.next ≡ Some put.next → Now (after x (acts_of go x k))
      on x same files left based next =
          replace_all bytes project replaced x (same ∙ h.project) (record {
            files = files ∙ h.files;
            base = based;
            next = next;
            waits = λ f t. ap (λ fs. bytes_at fs f.book) left ∙ waits f t;
            but = λ book. elim (but book) [
              | inl none ↦ inl (ap (λ fs. bytes_at fs book) left ∙ none)
              | inr f ↦ inr f
            ];
          })

      put_by : (base names : Option (List ℕ)) → BaseIsFirst before put.base base
          → Now (after (after d (base_acts base ++ names_acts names ++ SetNext put.next ∷ []))
          (acts_of go (after d (base_acts base ++ names_acts names ++ SetNext put.next ∷ [])) k))
      put_by None None f = on (done d (SetNext put.next)) refl refl refl (there f) refl
      put_by None (Some n) f = on (done (done d (SetNames n)) (SetNext put.next)) refl refl refl (there f) refl
      put_by (Some b) None f = on (done (done d (SetBase b)) (SetNext put.next)) refl refl refl (put_now b f) refl
      put_by (Some b) (Some n) f =
          on (done (done (done d (SetBase b)) (SetNames n)) (SetNext put.next)) refl refl refl (put_now b f) refl

  cleared_written : (project : List ℕ) (files : List NewFileParts) (d : DiskParts) → IsCleared before project d
      → IsCleared before project (after d (map written files))
  cleared_written project [] d h = h
  cleared_written project (f ∷ files) d h =
      cleared_written project files (done d (written f))
      (record { project = h.project; files = h.files; next = h.next; base = h.base })

  some_made : (project : List ℕ) (base names bytes : Option (List ℕ)) → BaseIsFirst before put.base base
      → ProjectIsPut put.project bytes project
      → Ends before put new project (plan_steps new (record { base = base; names = names; next = Some put.next }) bytes)
  some_made project base names bytes first replaced x h none =
      subst (λ (steps : List StepParts). Now (after x (acts_of go x steps))) (sym steps_are)
      (subst Now (sym (ap (after x) (writes_acts go one others x k) ∙ after_both x w (OwnSynced ∷ acts_of go (after x w) k)))
      (put_beside base names bytes project first replaced (after x w) (cleared_written project new x h) (all_wait new distinct x)
      (none_but new x none)))
    where
      own : OwnParts
      own = record { base = base; names = names; next = Some put.next }

      k : List StepParts
      k = with_sync SyncOwn (own_puts own) ++ (step_if ReplaceProject bytes ++ placed (map placing new))

      w : List Act
      w = map written new

      steps_are : plan_steps new own bytes ≡ with_sync SyncOwn (map WriteNew new) ++ k
      steps_are =
          append_assoc (with_sync SyncOwn (map WriteNew new) ++ with_sync SyncOwn (own_puts own)) (step_if ReplaceProject bytes)
          (placed (map placing new))
          ∙ append_assoc (with_sync SyncOwn (map WriteNew new)) (with_sync SyncOwn (own_puts own))
          (step_if ReplaceProject bytes ++ placed (map placing new))

-- ---- a whole plan

-- what the steps of a plan leave: those without new files, and those with some
pub nothing_made_done : (before : DiskParts) (put : PutParts) → put.base ≡ put.next → Settles before → (books : List (List ℕ))
    → ((book : List ℕ) → is_one_of books book ≡ is_some (bytes_at before.new book)) → (brought base names bytes : Option (List ℕ))
    → BaseIsFirst before put.base base → ProjectIsPut put.project bytes (bytes_or before.project brought)
    → IsAllDone before put [] (after before (acts_of (λ book. false) before
    (recovery brought before.next books ++ plan_steps [] (record { base = base; names = names; next = None }) bytes)))
nothing_made_done before put same settles books are brought base names bytes first replaced =
    recovered before put [] brought before.next books (plan_steps [] (record { base = base; names = names; next = None }) bytes) refl
    settles are (none_made before put same (bytes_or before.project brought) base names bytes first replaced)

pub some_made_done : (before : DiskParts) (put : PutParts) (one : NewFileParts) (others : List NewFileParts)
    → IsDistinct same_book (one ∷ others) → settled (put.base ∷ []) put.next [] ≡ Ok put.next → Settles before
    → (books : List (List ℕ)) → ((book : List ℕ) → is_one_of books book ≡ is_some (bytes_at before.new book))
    → (brought base names bytes : Option (List ℕ)) → BaseIsFirst before put.base base
    → ProjectIsPut put.project bytes (bytes_or before.project brought)
    → IsAllDone before put (one ∷ others) (after before (acts_of (λ book. false) before
    (recovery brought before.next books
    ++ plan_steps (one ∷ others) (record { base = base; names = names; next = Some put.next }) bytes)))
some_made_done before put one others distinct last settles books are brought base names bytes first replaced =
    recovered before put (one ∷ others) brought before.next books
    (plan_steps (one ∷ others) (record { base = base; names = names; next = Some put.next }) bytes) refl settles are
    (some_made before put one others distinct last (bytes_or before.project brought) base names bytes first replaced)
