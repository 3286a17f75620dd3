-- How a base is settled, broken off anywhere.
use Rattle.std.proofs.Common.{◌≡◌, ◌⊎◌, ℕ, Bool, true, false, cond, List, [], ◌∷◌, ◌++◌, inl, inr, map, flat_map, Option, None, Some, refl, ap, ◌∙◌, append_assoc}
use Rattle.usfm_ref.proofs.Orders.{same_bytes-is}
use Rattle.book_folder.specs.Disks.{Act, DiskParts, DropNew, DropNext, OwnSynced, SetBase, after, done, settling_act}
use Rattle.book_folder.specs.OlderBases.{moved_older}
use Rattle.book_folder.specs.Settling.{SettlingParts, are_bytes, base_puts, older_put, older_puts}
use Rattle.book_folder.specs.Settling as settling
use Rattle.book_folder.proofs.CutShort.Fronts.{Fronts, Keeps, LeftIs, kept_fronts, synced_fronts}

-- what the steps do by which a base is settled, up to the removal of the next one
abbrev pub turned : Option (List ℕ) → List ℕ → List Act
turned base bytes = cond (are_bytes base bytes) [] (SetBase bytes ∷ OwnSynced ∷ []) ++ DropNext ∷ OwnSynced ∷ []

-- and then the removal of the new files that were left
abbrev pub dropped : List (List ℕ) → List Act
dropped books = map DropNew books

drops : (books : List (List ℕ)) → flat_map settling_act (map settling.RemoveNew books) ≡ dropped books
drops [] = refl
drops (book ∷ books) = ap (λ (t : List Act). DropNew book ∷ t) (drops books)

-- nothing of what the laws see is changed where older bases move on
skips : (moved : List (ℕ × List ℕ)) (rest : List SettlingParts)
    → flat_map settling_act (map older_put moved ++ rest) ≡ flat_map settling_act rest
skips [] rest = refl
skips (m ∷ moved) rest = skips moved rest

older_skips : (base : Option (List ℕ)) (bytes : List ℕ) (rest : List SettlingParts)
    → flat_map settling_act (older_puts base [] bytes ++ rest) ≡ flat_map settling_act rest
older_skips None bytes rest = refl
older_skips (Some b) bytes rest = skips (moved_older b bytes []) rest

pub settling_is : (base : Option (List ℕ)) (bytes : List ℕ) (books : List (List ℕ))
    → flat_map settling_act (base_puts base [] bytes ++ settling.RemoveNext ∷ settling.SyncOwn ∷ map settling.RemoveNew books)
    ≡ turned base bytes ++ dropped books
settling_is base bytes books = by (are_bytes base bytes)
  where
    rest : List SettlingParts
    rest = settling.RemoveNext ∷ settling.SyncOwn ∷ map settling.RemoveNew books

    by : (b : Bool) → flat_map settling_act
        (cond b [] (older_puts base [] bytes ++ settling.PutBase bytes ∷ settling.SyncOwn ∷ [])
        ++ settling.RemoveNext ∷ settling.SyncOwn ∷ map settling.RemoveNew books)
        ≡ (cond b [] (SetBase bytes ∷ OwnSynced ∷ []) ++ DropNext ∷ OwnSynced ∷ []) ++ dropped books
    by true = ap (λ (t : List Act). DropNext ∷ OwnSynced ∷ t) (drops books)
    by false =
        ap (flat_map settling_act) (append_assoc (older_puts base [] bytes) (settling.PutBase bytes ∷ settling.SyncOwn ∷ []) rest)
        ∙ older_skips base bytes (settling.PutBase bytes ∷ settling.SyncOwn ∷ rest)
        ∙ ap (λ (t : List Act). SetBase bytes ∷ OwnSynced ∷ DropNext ∷ OwnSynced ∷ t) (drops books)

-- a disk on which nothing but the base may be other than before, and may be what it is to be
pub record Based (d : DiskParts) (bytes : List ℕ) (e : DiskParts) : Type 0 where
  pub project : e.project ≡ d.project
  pub files : e.files ≡ d.files
  pub new : e.new ≡ d.new
  pub next : e.next ≡ d.next
  pub base : (e.base ≡ d.base) ⊎ (e.base ≡ Some bytes)

-- one on which the base is what it is to be, and the next one may be gone
pub record Turning (d : DiskParts) (bytes : List ℕ) (e : DiskParts) : Type 0 where
  pub project : e.project ≡ d.project
  pub files : e.files ≡ d.files
  pub new : e.new ≡ d.new
  pub next : (e.next ≡ d.next) ⊎ (e.next ≡ None)
  pub base : e.base ≡ Some bytes

-- one on which the next one is gone
pub record Turned (d : DiskParts) (bytes : List ℕ) (e : DiskParts) : Type 0 where
  pub project : e.project ≡ d.project
  pub files : e.files ≡ d.files
  pub new : e.new ≡ d.new
  pub next : e.next ≡ None
  pub base : e.base ≡ Some bytes

module _ (chance : Act → List Act → Bool) (L : DiskParts → Type 0) (d : DiskParts) (bytes : List ℕ)
    (based : (e : DiskParts) → Based d bytes e → L e) (turning : (e : DiskParts) → Turning d bytes e → L e) (rest : List Act) where
  -- the next one is removed, once the base is what it is to be
  removed : (e : DiskParts) → e.project ≡ d.project → e.files ≡ d.files → e.new ≡ d.new → e.next ≡ d.next → e.base ≡ Some bytes
      → Fronts (LeftIs chance L (done e DropNext)) rest → Fronts (LeftIs chance L e) (DropNext ∷ OwnSynced ∷ rest)
  removed e project files new next base tail =
      synced_fronts chance OwnSynced refl L (λ x. refl) (DropNext ∷ []) rest (refl, tt) e
      (kept_fronts chance L (Turning d bytes) turning (DropNext ∷ []) (keeps, tt) e
      (record { project = project; files = files; new = new; next = inl next; base = base })) tail
    where
      keeps : Keeps (Turning d bytes) DropNext
      keeps x h = record { project = h.project; files = h.files; new = h.new; next = inr refl; base = h.base }

  -- a base is settled, and more is done then
  pub settled_fronts :
      (Turned d bytes (after d (turned d.base bytes)) → Fronts (LeftIs chance L (after d (turned d.base bytes))) rest)
      → Fronts (LeftIs chance L d) (turned d.base bytes ++ rest)
  settled_fronts tail = by (are_bytes d.base bytes) refl tail
    where
      same : (base : Option (List ℕ)) → are_bytes base bytes ≡ true → base ≡ Some bytes
      same None e = cc e
      same (Some there) e = ap (λ (b : List ℕ). Some b) (same_bytes-is there bytes e)

      keeps : Keeps (Based d bytes) (SetBase bytes)
      keeps x h = record { project = h.project; files = h.files; new = h.new; next = h.next; base = inr refl }

      acts : Bool → List Act
      acts b = cond b [] (SetBase bytes ∷ OwnSynced ∷ []) ++ DropNext ∷ OwnSynced ∷ []

      by : (b : Bool) → are_bytes d.base bytes ≡ b
          → (Turned d bytes (after d (acts b)) → Fronts (LeftIs chance L (after d (acts b))) rest)
          → Fronts (LeftIs chance L d) (acts b ++ rest)
      by true e on =
          removed d refl refl refl refl (same d.base e)
          (on (record { project = refl; files = refl; new = refl; next = refl; base = same d.base e }))
      by false e on =
          synced_fronts chance OwnSynced refl L (λ x. refl) (SetBase bytes ∷ []) (DropNext ∷ OwnSynced ∷ rest) (refl, tt) d
          (kept_fronts chance L (Based d bytes) based (SetBase bytes ∷ []) (keeps, tt) d
          (record { project = refl; files = refl; new = refl; next = refl; base = inl refl }))
          (removed (done d (SetBase bytes)) refl refl refl refl refl
          (on (record { project = refl; files = refl; new = refl; next = refl; base = refl })))

-- once all of it was done, the next one is gone
pub turned_is : (d : DiskParts) (bytes : List ℕ) → Turned d bytes (after d (turned d.base bytes))
turned_is d bytes = by (are_bytes d.base bytes) refl
  where
    same : (base : Option (List ℕ)) → are_bytes base bytes ≡ true → base ≡ Some bytes
    same None e = cc e
    same (Some there) e = ap (λ (b : List ℕ). Some b) (same_bytes-is there bytes e)

    by : (b : Bool) → are_bytes d.base bytes ≡ b
        → Turned d bytes (after d (cond b [] (SetBase bytes ∷ OwnSynced ∷ []) ++ DropNext ∷ OwnSynced ∷ []))
    by true e = record { project = refl; files = refl; new = refl; next = refl; base = same d.base e }
    by false e = record { project = refl; files = refl; new = refl; next = refl; base = refl }
