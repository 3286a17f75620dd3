-- What stands under names: after bytes were put there, and after a name was removed.
use Rattle.std.proofs.Common.{◌≡◌, ℕ, Bool, true, false, cond, not, ◌||◌, List, [], ◌∷◌, map, find, Option, None, Some, option_map, refl, sym, ap, ◌∙◌}
use Rattle.std.proofs.lemmas.Bool.{false≢true}
use Rattle.usfm_ref.specs.Books.{same_bytes}
use Rattle.usfm_ref.proofs.Orders.{same_bytes-is, same_bytes-refl}
use Rattle.book_folder.specs.Disks.{bytes_at, with_bytes, without}
use Rattle.book_folder.specs.Files.{is_one_of}
use Rattle.book_folder.specs.Wanted.{FoundParts}

-- whether the name is the one that was removed
pub at_without : (files : List FoundParts) (name m : List ℕ)
    → bytes_at (without files name) m ≡ cond (same_bytes name m) None (bytes_at files m)
at_without [] name m = by (same_bytes name m)
  where
    none : Option (List ℕ)
    none = None

    by : (b : Bool) → none ≡ cond b none none
    by true = refl
    by false = refl
at_without (f ∷ files) name m = by (same_bytes f.name name) refl (same_bytes f.name m) refl (at_without files name m)
  where
    rest : Option (List ℕ)
    rest = bytes_at files m

    with_first : Bool → Option (List ℕ) → Option (List ℕ)
    with_first c later = cond c (Some f.bytes) later

    -- the first, where it has the name, and else what the others have
    first : (fs : List FoundParts) → bytes_at (f ∷ fs) m ≡ with_first (same_bytes f.name m) (bytes_at fs m)
    first fs = pick (same_bytes f.name m)
      where
        pick : (c : Bool) → option_map (λ (g : FoundParts). g.bytes) (cond c (Some f) (find (λ g. same_bytes g.name m) fs))
            ≡ cond c (Some f.bytes) (bytes_at fs m)
        pick true = refl
        pick false = refl

    either : (b c : Bool) → b ≡ c → cond b None rest ≡ cond b None (with_first c rest)
    either true c e = refl
    either false true e = absurd (false≢true e)
    either false false e = refl

    neither : (b : Bool) → same_bytes f.name name ≡ false → same_bytes f.name m ≡ true → same_bytes name m ≡ b
        → Some f.bytes ≡ cond b None (Some f.bytes)
    neither true e g h =
        absurd (false≢true (sym e ∙ ap (same_bytes f.name) (same_bytes-is name m h) ∙ g))
    neither false e g h = refl

    by : (b : Bool) → same_bytes f.name name ≡ b → (c : Bool) → same_bytes f.name m ≡ c
        → bytes_at (without files name) m ≡ cond (same_bytes name m) None rest
        → bytes_at (cond (not b) (f ∷ without files name) (without files name)) m
        ≡ cond (same_bytes name m) None (bytes_at (f ∷ files) m)
    by true e c g h =
        let same : same_bytes name m ≡ same_bytes f.name m =
        ap (λ (n : List ℕ). same_bytes n m) (sym (same_bytes-is f.name name e)) in
        h ∙ either (same_bytes name m) (same_bytes f.name m) same ∙ ap (cond (same_bytes name m) None) (sym (first files))
    by false e true g h =
        first (without files name) ∙ ap (λ c. with_first c (bytes_at (without files name) m)) g
        ∙ neither (same_bytes name m) e g refl
        ∙ ap (cond (same_bytes name m) None) (sym (first files ∙ ap (λ c. with_first c rest) g))
    by false e false g h =
        first (without files name) ∙ ap (λ c. with_first c (bytes_at (without files name) m)) g ∙ h
        ∙ ap (cond (same_bytes name m) None) (sym (first files ∙ ap (λ c. with_first c rest) g))

-- the bytes that were put, or what stood under another name
pub at_with : (files : List FoundParts) (name bytes m : List ℕ)
    → bytes_at (with_bytes files name bytes) m ≡ cond (same_bytes name m) (Some bytes) (bytes_at files m)
at_with files name bytes m = by (same_bytes name m) refl
  where
    by : (b : Bool) → same_bytes name m ≡ b
        → option_map (λ (g : FoundParts). g.bytes) (cond b (Some (record { name = name; bytes = bytes }))
        (find (λ g. same_bytes g.name m) (without files name)))
        ≡ cond b (Some bytes) (bytes_at files m)
    by true e = refl
    by false e = at_without files name m ∙ ap (λ b. cond b None (bytes_at files m)) e

-- where something stands under a book's code, the book is one of them
pub is_there : (files : List FoundParts) (name bytes : List ℕ) → bytes_at files name ≡ Some bytes
    → is_one_of (map (λ f. f.name) files) name ≡ true
is_there [] name bytes h = cc h
is_there (f ∷ files) name bytes h = by (same_bytes f.name name) refl (same_bytes name f.name) refl h (λ k. is_there files name bytes k)
  where
    by : (b : Bool) → same_bytes f.name name ≡ b → (c : Bool) → same_bytes name f.name ≡ c
        → option_map (λ (g : FoundParts). g.bytes) (cond b (Some f) (find (λ g. same_bytes g.name name) files)) ≡ Some bytes
        → (bytes_at files name ≡ Some bytes → is_one_of (map (λ f. f.name) files) name ≡ true)
        → (c || is_one_of (map (λ f. f.name) files) name) ≡ true
    by b e true g h rest = refl
    by true e false g h rest =
        absurd (false≢true (sym g ∙ ap (λ (n : List ℕ). same_bytes name n) (same_bytes-is f.name name e) ∙ same_bytes-refl name))
    by false e false g h rest = rest h

-- where nothing stands under a book's code, the book is none of them
pub is_not_there : (files : List FoundParts) (name : List ℕ) → bytes_at files name ≡ None
    → is_one_of (map (λ f. f.name) files) name ≡ false
is_not_there [] name h = refl
is_not_there (f ∷ files) name h = by (same_bytes f.name name) refl (same_bytes name f.name) refl h (λ k. is_not_there files name k)
  where
    by : (b : Bool) → same_bytes f.name name ≡ b → (c : Bool) → same_bytes name f.name ≡ c
        → option_map (λ (g : FoundParts). g.bytes) (cond b (Some f) (find (λ g. same_bytes g.name name) files)) ≡ None
        → (bytes_at files name ≡ None → is_one_of (map (λ f. f.name) files) name ≡ false)
        → (c || is_one_of (map (λ f. f.name) files) name) ≡ false
    by true e c g h rest = cc h
    by false e true g h rest =
        absurd (false≢true (sym e ∙ ap (λ (n : List ℕ). same_bytes f.name n) (same_bytes-is name f.name g) ∙ same_bytes-refl f.name))
    by false e false g h rest = rest h
