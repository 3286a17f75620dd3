-- The new files of a plan are of different books.
use Rattle.std.proofs.Common.{◌≡◌, ◌⊎◌, ℕ, Bool, true, false, cond, List, [], ◌∷◌, ◌++◌, inl, inr, map, Option, None, Some, Result, Ok, Err, option_to_list, refl, sym, ap, subst, ◌∙◌, append-nil, append_assoc}
use Rattle.std.specs.Cmp.{tied_itself}
use Rattle.std.specs.List.{AllByRecursion, IsDistinct, list_all}
use Rattle.std.specs.Ordering.{is_lt}
use Rattle.std.proofs.lemmas.Bool.{and_parts, false≢true}
use Rattle.usfm_ref.specs.Books.{book_cmp, same_bytes}
use Rattle.usfm_ref.specs.Rising.{rises_by}
use Rattle.usfm_ref.proofs.Orders.{book_total, same_bytes-is}
use Rattle.usfm_ref.proofs.Sorted.{rises-rising}
use Rattle.op_core.specs.Export.{export}
use Rattle.op_core.specs.Lists.{books_of}
use Rattle.op_core.specs.Ops.{Operation}
use Rattle.book_folder.specs.Files.{FileParts, file_of}
use Rattle.book_folder.specs.Naming.{FormParts, new_name}
use Rattle.book_folder.specs.Plans.{NewFileParts, is_like_file, is_whole, new_file, new_file_if, new_files}
use Rattle.book_folder.specs.Refusals.{◌>>=◌, gathered}
use Rattle.book_folder.specs.Wanted.{SeenParts}
use Rattle.book_folder.specs.declared.refusal.Refusal.{Refusal}

-- whether two new files are of one book
abbrev pub same_book : NewFileParts → NewFileParts → Bool
same_book f g = same_bytes f.book g.book

-- new files of some books alone, in their order, at most one of each
abbrev Drawn : List (List ℕ) → List NewFileParts → Type 0
Drawn [] files = files ≡ []
Drawn (book ∷ books) files =
    Drawn books files
    ⊎ ((f : NewFileParts) × (rest : List NewFileParts) × (files ≡ f ∷ rest) × (f.book ≡ book) × Drawn books rest)

module _ (seen : SeenParts) (held : List Operation) (files : List FileParts) (form : FormParts) where
  abbrev give : List ℕ → Result (Option NewFileParts) Refusal
  give = new_file_if seen held files form

  -- what a book gives is of the book
  given_is : (book : List ℕ) (f : NewFileParts) → give book ≡ Ok (Some f) → f.book ≡ book
  given_is book f e =
      by (is_whole held book) (is_like_file (file_of files book) (export held book)) (new_name seen form book (file_of files book)) e
    where
      by : (b c : Bool) (name : Result (List ℕ) Refusal)
          → cond b (cond c (Ok None) (name >>= λ n. Ok (Some (new_file (file_of files book) book (export held book) n)))) (Ok None)
          ≡ Ok (Some f) → f.book ≡ book
      by false c name e = cc e
      by true true name e = cc e
      by true false (Err r) e = cc e
      by true false (Ok n) e =
          let is : new_file (file_of files book) book (export held book) n ≡ f = cc e in
          sym (ap (λ (g : NewFileParts). g.book) is)

  drawn : (books : List (List ℕ)) (before made : List NewFileParts) → gathered give before books ≡ Ok made
      → (rest : List NewFileParts) × (made ≡ before ++ rest) × Drawn books rest
  drawn [] before made e =
      let is : before ≡ made = cc e in
      ([], sym is ∙ sym (append-nil before), refl)
  drawn (book ∷ books) before made e = by (give book) refl e (λ more k. drawn books more made k)
    where
      by : (r : Result (Option NewFileParts) Refusal) → give book ≡ r
          → (r >>= λ y. gathered give (before ++ option_to_list y) books) ≡ Ok made
          → ((more : List NewFileParts) → gathered give more books ≡ Ok made
          → (rest : List NewFileParts) × (made ≡ more ++ rest) × Drawn books rest)
          → (rest : List NewFileParts) × (made ≡ before ++ rest) × Drawn (book ∷ books) rest
      by (Err r) g e next = cc e
      by (Ok None) g e next =
          let r = next (before ++ []) e in
          (r.0, r.1 ∙ ap (λ (t : List NewFileParts). t ++ r.0) (append-nil before), inl r.2)
      by (Ok (Some f)) g e next =
          let r = next (before ++ f ∷ []) e in
          (f ∷ r.0, r.1 ∙ append_assoc before (f ∷ []) r.0, inr (f, r.0, refl, given_is book f g, r.2))

-- a book is none of those after it, in a rising order
other : (book one : List ℕ) → is_lt (book_cmp book one) ≡ true → same_bytes book one ≡ false
other book one h = by (same_bytes book one) refl
  where
    by : (b : Bool) → same_bytes book one ≡ b → same_bytes book one ≡ false
    by false e = e
    by true e =
        let itself : is_lt (book_cmp one one) ≡ true = ap (λ (x : List ℕ). is_lt (book_cmp x one)) (sym (same_bytes-is book one e)) ∙ h in
        absurd (false≢true (sym (ap is_lt (tied_itself book_total one)) ∙ itself))

-- what is drawn of later books is of other ones
drawn_other : (book : List ℕ) (books : List (List ℕ)) (files : List NewFileParts)
    → list_all (λ one. is_lt (book_cmp book one)) books ≡ true → Drawn books files
    → AllByRecursion (λ (g : NewFileParts). same_bytes book g.book ≡ false) files
drawn_other book [] files h d =
    subst (AllByRecursion (λ (g : NewFileParts). same_bytes book g.book ≡ false)) (sym d) tt
drawn_other book (one ∷ books) files h d =
    let p = and_parts (is_lt (book_cmp book one)) (list_all (λ x. is_lt (book_cmp book x)) books) h in
    by (λ fs k. drawn_other book books fs p.1 k) p.0 d
  where
    All : List NewFileParts → Type 0
    All = AllByRecursion (λ (g : NewFileParts). same_bytes book g.book ≡ false)

    by : ((fs : List NewFileParts) → Drawn books fs → All fs) → is_lt (book_cmp book one) ≡ true → Drawn (one ∷ books) files → All files
    by rec l (inl k) = rec files k
    by rec l (inr k) =
        subst All (sym k.2) (ap (same_bytes book) k.3 ∙ other book one l, rec k.1 k.4)

drawn_distinct : (books : List (List ℕ)) (files : List NewFileParts) → rises_by book_cmp (λ x. x) books ≡ true → Drawn books files
    → IsDistinct same_book files
unfolding IsDistinct
drawn_distinct [] files h d = subst (IsDistinct same_book) (sym d) tt
drawn_distinct (book ∷ books) files h d =
    let p = and_parts (list_all (λ one. is_lt (book_cmp book one)) books) (rises_by book_cmp (λ x. x) books) h in
    by (λ fs k. drawn_distinct books fs p.1 k) p.0 d
  where
    by : ((fs : List NewFileParts) → Drawn books fs → IsDistinct same_book fs)
        → list_all (λ one. is_lt (book_cmp book one)) books ≡ true → Drawn (book ∷ books) files → IsDistinct same_book files
    by rec l (inl k) = rec files k
    by rec l (inr k) =
        subst (IsDistinct same_book) (sym k.2) (
          subst (λ (b : List ℕ). AllByRecursion (λ (g : NewFileParts). same_bytes b g.book ≡ false) k.1) (sym k.3)
              (drawn_other book books k.1 l k.4),
          rec k.1 k.4,
        )

pub own_books : (seen : SeenParts) (held : List Operation) (files : List FileParts) (form : FormParts) (made : List NewFileParts)
    → new_files seen held files form ≡ Ok made → IsDistinct same_book made
own_books seen held files form made e =
    let d = drawn seen held files form (books_of held) [] made e in
    subst (IsDistinct same_book) (sym d.1)
    (drawn_distinct (books_of held) d.0 (rises-rising book_cmp book_total (map (λ (o : Operation). o.segment.book) held)) d.2)
