-- What stands of things that were broken off: what each front of them keeps, and what a sync makes certain.
use Rattle.std.proofs.Common.{◌≡◌, ℕ, zero, suc, Bool, true, false, cond, not, ◌||◌, List, [], ◌∷◌, ◌++◌, take, refl, sym, ap, subst, ◌∙◌, append-nil}
use Rattle.std.specs.List.{AllByRecursion, list_any}
use Rattle.std.proofs.lemmas.List.Folds.{list_any-append}
use Rattle.book_folder.specs.Disks.{Act, DiskParts, after, done, is_certain, is_move, is_own, is_synced_by, standing}

-- it holds of each front
abbrev pub Fronts : (List Act → Type 0) → List Act → Type 0
Fronts Q [] = Q []
Fronts Q (a ∷ later) = Q [] × Fronts (λ front. Q (a ∷ front)) later

-- so it holds of the first ones, however many
pub front_taken : (Q : List Act → Type 0) (acts : List Act) → Fronts Q acts → (n : ℕ) → Q (take n acts)
front_taken Q [] h zero = h
front_taken Q [] h (suc n) = h
front_taken Q (a ∷ acts) h zero = h.0
front_taken Q (a ∷ acts) h (suc n) = front_taken (λ front. Q (a ∷ front)) acts h.1 n

-- and of all
pub all_taken : (Q : List Act → Type 0) (acts : List Act) → Fronts Q acts → Q acts
all_taken Q [] h = h
all_taken Q (a ∷ acts) h = all_taken (λ front. Q (a ∷ front)) acts h.1

pub fronts_map : (P Q : List Act → Type 0) → ((front : List Act) → P front → Q front) → (acts : List Act) → Fronts P acts → Fronts Q acts
fronts_map P Q g [] h = g [] h
fronts_map P Q g (a ∷ acts) h =
    (g [] h.0, fronts_map (λ front. P (a ∷ front)) (λ front. Q (a ∷ front)) (λ front x. g (a ∷ front) x) acts h.1)

pub fronts_append : (Q : List Act → Type 0) (xs ys : List Act) → Fronts Q xs → Fronts (λ front. Q (xs ++ front)) ys → Fronts Q (xs ++ ys)
fronts_append Q [] ys h k = k
fronts_append Q (a ∷ xs) ys h k = (h.0, fronts_append (λ front. Q (a ∷ front)) xs ys h.1 k)

-- what holds of each act holds of each of a front
pub fronts_all : (P : Act → Type 0) (acts : List Act) → AllByRecursion P acts → Fronts (AllByRecursion P) acts
fronts_all P [] h = tt
fronts_all P (a ∷ acts) h =
    (tt, fronts_map (AllByRecursion P) (λ front. AllByRecursion P (a ∷ front)) (λ front x. (h.0, x)) acts (fronts_all P acts h.1))

pub after_both : (d : DiskParts) (xs ys : List Act) → after d (xs ++ ys) ≡ after (after d xs) ys
after_both d [] ys = refl
after_both d (a ∷ xs) ys = after_both (done d a) xs ys

-- an act keeps what holds of a disk
abbrev pub Keeps : (DiskParts → Type 0) → Act → Type 0
Keeps Inv a = (d : DiskParts) → Inv d → Inv (done d a)

-- what each act keeps, all of them keep
pub all_keep : (Inv : DiskParts → Type 0) (acts : List Act) → AllByRecursion (Keeps Inv) acts → (d : DiskParts) → Inv d → Inv (after d acts)
all_keep Inv [] h d x = x
all_keep Inv (a ∷ acts) h d x = all_keep Inv acts h.1 (done d a) (h.0 d x)

-- an act is certain after a sync
abbrev pub Certain : Act → Act → Type 0
Certain sync a = (not (is_own a || is_move a) || is_synced_by a sync) ≡ true

module _ (chance : Act → List Act → Bool) where
  -- and so do those that stand
  pub standing_keep : (Inv : DiskParts → Type 0) (acts : List Act) → AllByRecursion (Keeps Inv) acts → (d : DiskParts) → Inv d
      → Inv (after d (standing chance acts))
  standing_keep Inv [] h d x = x
  standing_keep Inv (a ∷ acts) h d x =
      by (is_certain a acts || chance a acts) (standing_keep Inv acts h.1 (done d a) (h.0 d x)) (standing_keep Inv acts h.1 d x)
    where
      by : (b : Bool) → Inv (after (done d a) (standing chance acts)) → Inv (after d (standing chance acts))
          → Inv (after d (cond b (a ∷ standing chance acts) (standing chance acts)))
      by true there gone = there
      by false there gone = gone

  -- what holds of the disk that is left
  abbrev pub LeftIs : (DiskParts → Type 0) → DiskParts → List Act → Type 0
  LeftIs L d front = L (after d (standing chance front))

  -- what follows from what each act keeps holds wherever they are broken off
  pub kept_fronts : (L Inv : DiskParts → Type 0) → ((d : DiskParts) → Inv d → L d) → (acts : List Act)
      → AllByRecursion (Keeps Inv) acts → (d : DiskParts) → Inv d → Fronts (LeftIs L d) acts
  kept_fronts L Inv so acts h d x =
      fronts_map (AllByRecursion (Keeps Inv)) (LeftIs L d) (λ front k. so _ (standing_keep Inv front k d x)) acts
      (fronts_all (Keeps Inv) acts h)

  module _ (sync : Act) (free : (is_own sync || is_move sync) ≡ false) where
    certain_all : (xs front : List Act) → AllByRecursion (Certain sync) xs
        → standing chance (xs ++ sync ∷ front) ≡ xs ++ sync ∷ standing chance front
    certain_all [] front h =
        ap (λ b. cond ((not b || list_any (is_synced_by sync) front) || chance sync front) (sync ∷ standing chance front)
        (standing chance front)) free
    certain_all (a ∷ xs) front h =
        ap (λ b. cond (b || chance a (xs ++ sync ∷ front)) (a ∷ standing chance (xs ++ sync ∷ front))
        (standing chance (xs ++ sync ∷ front))) certain
        ∙ ap (λ (t : List Act). a ∷ t) (certain_all xs front h.1)
      where
        any : (u v w z : Bool) → (u || v) ≡ true → (u || (w || (v || z))) ≡ true
        any true v w z e = refl
        any false true true z e = refl
        any false true false z e = refl
        any false false w z e = cc e

        certain : is_certain a (xs ++ sync ∷ front) ≡ true
        certain =
            ap (λ b. not (is_own a || is_move a) || b) (list_any-append (is_synced_by a) xs (sync ∷ front))
            ∙ any (not (is_own a || is_move a)) (is_synced_by a sync) (list_any (is_synced_by a) xs) (list_any (is_synced_by a) front) h.0

    -- acts and their sync, and others after them
    pub synced_fronts : (L : DiskParts → Type 0) → ((d : DiskParts) → done d sync ≡ d) → (xs ys : List Act)
        → AllByRecursion (Certain sync) xs → (d : DiskParts) → Fronts (LeftIs L d) xs → Fronts (LeftIs L (after d xs)) ys
        → Fronts (LeftIs L d) (xs ++ sync ∷ ys)
    synced_fronts L idle xs ys h d first second =
        fronts_append (LeftIs L d) xs (sync ∷ ys) first (
          subst (LeftIs L d) (sym (append-nil xs)) (all_taken (LeftIs L d) xs first),
          fronts_map (LeftIs L (after d xs)) (λ front. LeftIs L d (xs ++ sync ∷ front)) (λ front x. subst L (sym (left front)) x) ys second,
        )
      where
        left : (front : List Act) → after d (standing chance (xs ++ sync ∷ front)) ≡ after (after d xs) (standing chance front)
        left front =
            ap (after d) (certain_all xs front h) ∙ after_both d xs (sync ∷ standing chance front)
            ∙ ap (λ (e : DiskParts). after e (standing chance front)) (idle (after d xs))
