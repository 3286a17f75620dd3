-- New files that are gathered, book by book.
use Rattle.std.proofs.Common.{◌≡◌, ◌⊎◌, inl, inr, ℕ, Bool, true, false, ◌||◌, List, [], ◌∷◌, ◌++◌}
use Rattle.std.proofs.Common.{Contains, Option, None, Some, Result, Ok, Err, option_to_list, refl, sym, ap, subst, ◌∙◌, append-nil}
use Rattle.std.specs.Cmp.{Equal-is}
use Rattle.std.specs.List.{list_any}
use Rattle.std.specs.Ordering.{is_eq}
use Rattle.std.proofs.lemmas.Bool.{false≢true}
use Rattle.std.proofs.lemmas.List.Elements.{Contains-append_left, Contains-push, Contains-push_cases}
use Rattle.usfm_ref.specs.Books.{book_cmp}
use Rattle.usfm_ref.proofs.Orders.{book_exact}
use Rattle.book_folder.specs.Plans.{NewFileParts}
use Rattle.book_folder.specs.Refusals.{◌>>=◌, gathered}
use Rattle.book_folder.specs.declared.refusal.Refusal.{Refusal}

module _ (give : List ℕ → Result (Option NewFileParts) Refusal) where
  -- a book that gives a new file
  pub record IsGiven (g : NewFileParts) : Type 0 where
    pub book : List ℕ
    pub gives : give book ≡ Ok (Some g)

  -- what is gathered was there before, or is what a book gives
  pub given_by : (books : List (List ℕ)) (before made : List NewFileParts) → gathered give before books ≡ Ok made
      → (g : NewFileParts) → Contains made g → Contains before g ⊎ IsGiven g
  given_by [] before made e g there =
      let is : before ≡ made = cc e in inl (subst (λ (xs : List NewFileParts). Contains xs g) (sym is) there)
  given_by (book ∷ books) before made e g there = by (give book) refl e (λ more k. given_by books more made k g there)
    where
      by : (r : Result (Option NewFileParts) Refusal) → give book ≡ r
          → (r >>= λ y. gathered give (before ++ option_to_list y) books) ≡ Ok made
          → ((more : List NewFileParts) → gathered give more books ≡ Ok made → Contains more g ⊎ IsGiven g)
          → Contains before g ⊎ IsGiven g
      by (Err r) f e next = cc e
      by (Ok None) f e next = elim (next (before ++ []) e) [
        | inl k ↦ inl (subst (λ (xs : List NewFileParts). Contains xs g) (append-nil before) k)
        | inr k ↦ inr k
      ]
      by (Ok (Some n)) f e next = elim (next (before ++ n ∷ []) e) [
        | inl k ↦ elim (Contains-push_cases before n g k) [
          | inl old ↦ inl old
          | inr same ↦ inr (record { book = book; gives = f ∙ ap (λ (x : NewFileParts). Ok (Some x)) same })
        ]
        | inr k ↦ inr k
      ]

  -- what was there before stays
  stays_gathered : (books : List (List ℕ)) (before made : List NewFileParts) → gathered give before books ≡ Ok made
      → (g : NewFileParts) → Contains before g → Contains made g
  stays_gathered [] before made e g there =
      let is : before ≡ made = cc e in subst (λ (xs : List NewFileParts). Contains xs g) is there
  stays_gathered (book ∷ books) before made e g there = by (give book) e (λ more k. stays_gathered books more made k g)
    where
      by : (r : Result (Option NewFileParts) Refusal) → (r >>= λ y. gathered give (before ++ option_to_list y) books) ≡ Ok made
          → ((more : List NewFileParts) → gathered give more books ≡ Ok made → Contains more g → Contains made g) → Contains made g
      by (Err r) e next = cc e
      by (Ok y) e next = next (before ++ option_to_list y) e (Contains-append_left before (option_to_list y) g there)

  -- where all are gathered, none of the books is refused
  pub none_refused : (books : List (List ℕ)) (before made : List NewFileParts) → gathered give before books ≡ Ok made
      → (book : List ℕ) → list_any (λ b. is_eq (book_cmp book b)) books ≡ true → (refusal : Refusal) → give book ≡ Err refusal → ⊥
  none_refused [] before made e book among refusal gives = absurd (false≢true among)
  none_refused (b ∷ books) before made e book among refusal gives =
      by (give b) refl e (is_eq (book_cmp book b)) refl among (λ more k t. none_refused books more made k book t refusal gives)
    where
      by : (r : Result (Option NewFileParts) Refusal) → give b ≡ r
          → (r >>= λ y. gathered give (before ++ option_to_list y) books) ≡ Ok made → (c : Bool) → is_eq (book_cmp book b) ≡ c
          → (c || list_any (λ b. is_eq (book_cmp book b)) books) ≡ true
          → ((more : List NewFileParts) → gathered give more books ≡ Ok made
          → list_any (λ b. is_eq (book_cmp book b)) books ≡ true → ⊥) → ⊥
      by (Err r) f e c k h later = cc e
      by (Ok y) f e false k h later = later (before ++ option_to_list y) e h
      by (Ok y) f e true k h later = cc (sym f ∙ ap give (sym (book_exact book b ((Equal-is _).0 k))) ∙ gives)

  -- what a book gives is among them
  pub all_gathered : (books : List (List ℕ)) (before made : List NewFileParts) → gathered give before books ≡ Ok made
      → (book : List ℕ) → list_any (λ b. is_eq (book_cmp book b)) books ≡ true → (g : NewFileParts) → give book ≡ Ok (Some g)
      → Contains made g
  all_gathered [] before made e book among g gives = absurd (false≢true among)
  all_gathered (b ∷ books) before made e book among g gives =
      by (give b) refl e (is_eq (book_cmp book b)) refl among
      (λ more k. all_gathered books more made k book) (λ more k. stays_gathered books more made k g)
    where
      by : (r : Result (Option NewFileParts) Refusal) → give b ≡ r
          → (r >>= λ y. gathered give (before ++ option_to_list y) books) ≡ Ok made → (c : Bool) → is_eq (book_cmp book b) ≡ c
          → (c || list_any (λ b. is_eq (book_cmp book b)) books) ≡ true
          → ((more : List NewFileParts) → gathered give more books ≡ Ok made
          → list_any (λ b. is_eq (book_cmp book b)) books ≡ true → (n : NewFileParts) → give book ≡ Ok (Some n) → Contains made n)
          → ((more : List NewFileParts) → gathered give more books ≡ Ok made → Contains more g → Contains made g) → Contains made g
      by (Err r) f e c k h later stays = cc e
      by (Ok y) f e false k h later stays = later (before ++ option_to_list y) e h g gives
      by (Ok y) f e true k h later stays =
          let same : book ≡ b = book_exact book b ((Equal-is _).0 k) in
          let is : y ≡ Some g = cc (sym f ∙ ap give (sym same) ∙ gives) in
          stays (before ++ option_to_list y) e
          (subst (λ (r : Option NewFileParts). Contains (before ++ option_to_list r) g) (sym is) (Contains-push before g))
