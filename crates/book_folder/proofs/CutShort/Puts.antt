-- New files are written, and put in their places.
use Rattle.std.proofs.Common.{◌≡◌, ◌⊎◌, ℕ, zero, suc, Bool, true, false, cond, List, [], ◌∷◌, ◌++◌, inl, inr, map, Contains, Option, None, Some, refl, sym, ap, subst, ◌∙◌, arith}
use Rattle.std.specs.List.{AllByRecursion, IsDistinct}
use Rattle.std.proofs.lemmas.Bool.{false≢true}
use Rattle.usfm_ref.specs.Books.{same_bytes}
use Rattle.usfm_ref.proofs.Orders.{same_bytes-is, same_bytes-refl}
use Rattle.replica_state.proofs.SinceLaws.{is_first, is_later, none_there}
use Rattle.book_folder.specs.CutShort.{AllKnown, AllWait, FilesAreKnown, IsPut, PutParts, SomeArePut, Waits}
use Rattle.book_folder.specs.Disks.{Act, DiskParts, Move, SetNew, after, bytes_at, done, moved}
use Rattle.book_folder.specs.Plans.{NewFileParts}
use Rattle.book_folder.proofs.CutShort.Fronts.{Keeps}
use Rattle.book_folder.proofs.CutShort.Names.{at_with, at_without}
use Rattle.book_folder.proofs.CutShort.OwnBooks.{same_book}

-- what a list has is its first or in the rest
pub first_or_later : {X : Type 0} (y : X) (ys : List X) (x : X) → Contains (y ∷ ys) x → (y ≡ x) ⊎ Contains ys x
first_or_later y ys x (zero, l, e) = inl e
first_or_later y ys x (suc k, l, e) = inr (k, omega arith, e)

-- texts that differ, the other way round
pub differ_back : (a b : List ℕ) → same_bytes a b ≡ false → same_bytes b a ≡ false
differ_back a b h = by (same_bytes b a) refl
  where
    by : (c : Bool) → same_bytes b a ≡ c → same_bytes b a ≡ false
    by false e = e
    by true e =
        absurd (false≢true (sym h ∙ ap (same_bytes a) (same_bytes-is b a e) ∙ same_bytes-refl a))

-- ---- new files of different books

-- one of a list is no other one
apart : (f : NewFileParts) (files : List NewFileParts) (g : NewFileParts) → AllByRecursion (λ h. same_book f h ≡ false) files
    → Contains files g → same_book f g ≡ false
apart f [] g h there = absurd (none_there g there)
apart f (x ∷ files) g h there = by (first_or_later x files g there) h (λ k. apart f files g h.1 k)
  where
    by : (x ≡ g) ⊎ Contains files g → AllByRecursion (λ h. same_book f h ≡ false) (x ∷ files)
        → (Contains files g → same_book f g ≡ false) → same_book f g ≡ false
    by (inl here) h rec = ap (same_book f) (sym here) ∙ h.0
    by (inr later) h rec = rec later

pub one_of_book : (files : List NewFileParts) → IsDistinct same_book files → (f g : NewFileParts) → Contains files f → Contains files g
    → same_book f g ≡ true → f ≡ g
unfolding IsDistinct
one_of_book [] h f g hf hg e = absurd (none_there f hf)
one_of_book (x ∷ files) h f g hf hg e =
    by (first_or_later x files f hf) (first_or_later x files g hg) h.0 (λ kf kg. one_of_book files h.1 f g kf kg e)
  where
    by : (x ≡ f) ⊎ Contains files f → (x ≡ g) ⊎ Contains files g → AllByRecursion (λ y. same_book x y ≡ false) files
        → (Contains files f → Contains files g → f ≡ g) → f ≡ g
    by (inl a) (inl b) all rec = sym a ∙ b
    by (inl a) (inr b) all rec =
        absurd (false≢true (sym (apart x files g all b) ∙ ap (λ (y : NewFileParts). same_book y g) a ∙ e))
    by (inr a) (inl b) all rec =
        absurd (false≢true (sym (differ_back x.book f.book (apart x files f all a)) ∙ ap (same_book f) b ∙ e))
    by (inr a) (inr b) all rec = rec a b

-- ---- they are written

-- a new file is written
abbrev pub written : NewFileParts → Act
written f = SetNew f.book f.text

-- what stands of another book stays
others_keep : (files : List NewFileParts) (f : NewFileParts) → AllByRecursion (λ h. same_book f h ≡ false) files → (d : DiskParts)
    → bytes_at (after d (map written files)).new f.book ≡ bytes_at d.new f.book
others_keep [] f h d = refl
others_keep (g ∷ files) f h d =
    others_keep files f h.1 (done d (written g))
    ∙ at_with d.new g.book g.text f.book
    ∙ ap (λ b. cond b (Some g.text) (bytes_at d.new f.book)) (differ_back f.book g.book h.0)

-- each waits then
pub all_wait : (files : List NewFileParts) → IsDistinct same_book files → (d : DiskParts) → AllWait (after d (map written files)) files
unfolding IsDistinct
all_wait [] h d f there = absurd (none_there f there)
all_wait (g ∷ files) h d f there = by (first_or_later g files f there) (all_wait files h.1 (done d (written g)) f)
  where
    own : bytes_at (after (done d (written g)) (map written files)).new g.book ≡ Some g.text
    own =
        others_keep files g h.0 (done d (written g)) ∙ at_with d.new g.book g.text g.book
        ∙ ap (λ b. cond b (Some g.text) (bytes_at d.new g.book)) (same_bytes-refl g.book)

    by : (g ≡ f) ⊎ Contains files f
        → (Contains files f → Waits (after (done d (written g)) (map written files)) f)
        → Waits (after (done d (written g)) (map written files)) f
    by (inl here) rec = subst (Waits (after (done d (written g)) (map written files))) here own
    by (inr later) rec = rec later

-- ---- they are put in their places

-- the new files that are put in their places
abbrev pub moves : (List ℕ → Bool) → List NewFileParts → List Act
moves stays [] = []
moves stays (f ∷ files) = cond (stays f.book) [] (Move f.book f.name ∷ []) ++ moves stays files

-- what was put stays put, where the files stay, and none comes of a book that had none
pub put_stays : (d e : DiskParts) (made : List NewFileParts) (name : List ℕ) → bytes_at e.files name ≡ bytes_at d.files name
    → ((book : List ℕ) → bytes_at d.new book ≡ None → bytes_at e.new book ≡ None) → IsPut d made name → IsPut e made name
put_stays d e made name files gone h = record {
  file = h.file;
  of = h.of;
  under = h.under;
  text = files ∙ h.text;
  gone = gone h.file.book h.gone;
}

module _ (before : DiskParts) (put : PutParts) (made : List NewFileParts) (distinct : IsDistinct same_book made) where
  module _ (g : NewFileParts) (there : Contains made g) (d : DiskParts) (h : SomeArePut before put made d) where
    -- the disk after this one was put
    abbrev next : DiskParts
    next = moved d g.book g.name (Some g.text)

    none_new : (book : List ℕ) → bytes_at d.new book ≡ None → bytes_at next.new book ≡ None
    none_new book e = at_without d.new g.book book ∙ by (same_bytes g.book book)
      where
        by : (b : Bool) → cond b None (bytes_at d.new book) ≡ None
        by true = refl
        by false = e

    own_gone : bytes_at next.new g.book ≡ None
    own_gone = at_without d.new g.book g.book ∙ ap (λ b. cond b None (bytes_at d.new g.book)) (same_bytes-refl g.book)

    at_name : (name : List ℕ) (b : Bool) → same_bytes g.name name ≡ b
        → bytes_at next.files name ≡ cond b (Some g.text) (bytes_at d.files name)
    at_name name b e =
        at_with d.files g.name g.text name ∙ ap (λ c. cond c (Some g.text) (bytes_at d.files name)) e

    -- under its name it is put
    own_put : (name : List ℕ) → same_bytes g.name name ≡ true → IsPut next made name
    own_put name e = record {
      file = g;
      of = there;
      under = same_bytes-is g.name name e;
      text = at_name name true e;
      gone = own_gone;
    }

    -- and what was put is
    stays_put : (name : List ℕ) → IsPut d made name → IsPut next made name
    stays_put name p = by (same_bytes g.name name) refl
      where
        by : (b : Bool) → same_bytes g.name name ≡ b → IsPut next made name
        by true e = own_put name e
        by false e = put_stays d next made name (at_name name false e) none_new p

    files_known : FilesAreKnown before next made
    files_known name = by (same_bytes g.name name) refl (h.files name)
      where
        by : (b : Bool) → same_bytes g.name name ≡ b → (bytes_at d.files name ≡ bytes_at before.files name) ⊎ IsPut d made name
            → (bytes_at next.files name ≡ bytes_at before.files name) ⊎ IsPut next made name
        by true e k = inr (own_put name e)
        by false e (inl same) = inl (at_name name false e ∙ same)
        by false e (inr p) = inr (stays_put name p)

    all_known : AllKnown next made
    all_known f hf = by (same_bytes g.book f.book) refl (h.all f hf)
      where
        by : (b : Bool) → same_bytes g.book f.book ≡ b → Waits d f ⊎ (bytes_at d.new f.book ≡ None) × IsPut d made f.name
            → Waits next f ⊎ (bytes_at next.new f.book ≡ None) × IsPut next made f.name
        by true e k =
            let same : g ≡ f = one_of_book made distinct g f there hf e in
            inr (subst (λ (x : NewFileParts). (bytes_at next.new x.book ≡ None) × IsPut next made x.name) same
            (own_gone, own_put g.name (same_bytes-refl g.name)))
        by false e (inl waits) =
            inl (at_without d.new g.book f.book ∙ ap (λ c. cond c None (bytes_at d.new f.book)) e ∙ waits)
        by false e (inr p) = inr (none_new f.book p.0, stays_put f.name p.1)

    known_next : SomeArePut before put made next
    known_next = record {
      one = h.one;
      among = h.among;
      project = h.project;
      base = h.base;
      next = h.next;
      files = files_known;
      all = all_known;
    }

  -- a new file that is put, or was, leaves all known
  pub move_keeps : (g : NewFileParts) → Contains made g → Keeps (SomeArePut before put made) (Move g.book g.name)
  move_keeps g there d h = by (h.all g there)
    where
      by : Waits d g ⊎ (bytes_at d.new g.book ≡ None) × IsPut d made g.name → SomeArePut before put made (done d (Move g.book g.name))
      by (inl waits) =
          subst (λ (r : Option (List ℕ)). SomeArePut before put made (moved d g.book g.name r)) (sym waits) (known_next g there d h)
      by (inr p) = subst (λ (r : Option (List ℕ)). SomeArePut before put made (moved d g.book g.name r)) (sym p.0) h

  pub moves_keep : (stays : List ℕ → Bool) (files : List NewFileParts) → ((f : NewFileParts) → Contains files f → Contains made f)
      → AllByRecursion (Keeps (SomeArePut before put made)) (moves stays files)
  moves_keep stays [] within = tt
  moves_keep stays (f ∷ files) within =
      by (stays f.book) (moves_keep stays files (λ g k. within g (is_later f files g k)))
    where
      by : (b : Bool) → AllByRecursion (Keeps (SomeArePut before put made)) (moves stays files)
          → AllByRecursion (Keeps (SomeArePut before put made)) (cond b [] (Move f.book f.name ∷ []) ++ moves stays files)
      by true rest = rest
      by false rest = (move_keeps f (within f (is_first f files f refl)), rest)
