-- What is under books in a map is the first of all that is of them, as a search through the list has it.
use Rattle.std.proofs.Common.{◌≡◌, ℕ, Bool, true, false, cond, ◌&&◌, ◌||◌, List, [], ◌∷◌, Option, Some, None, refl, ap, subst, ◌∙◌}
use Rattle.std.proofs.Math.Bool.{or-false}
use Rattle.std.specs.Cmp.{both_ways}
use Rattle.std.specs.Option.{option_map, option_or}
use Rattle.usfm_ref.specs.Books.{book_cmp, same_bytes}
use Rattle.usfm_ref.specs.contracts.book.BookOrd.TheImpl as books
use Rattle.usfm_ref.proofs.Orders.{same_bytes-is, same_bytes-refl}
use Rattle.book_folder.specs.Files.{FileParts, file_of, is_still, second_file, second_of_two}
use Rattle.book_folder.specs.Wanted.{NamedParts}
use Rattle.book_folder.proofs.NamesOrder.{cmp_is}

-- the order of a map's books is that of books
pub order_is : books.ghosts.cmp ≡ book_cmp
order_is i a b = cmp_is a b i

-- sameness of books, read from the other side
pub same_bytes-sym : (a b : List ℕ) → same_bytes a b ≡ same_bytes b a
same_bytes-sym a b = both_ways (same_bytes a b) (same_bytes b a) (turned a b) (turned b a)
  where
    turned : (a b : List ℕ) → same_bytes a b ≡ true → same_bytes b a ≡ true
    turned a b h = subst (λ (c : List ℕ). same_bytes c a ≡ true) (same_bytes-is a b h) (same_bytes-refl a)

-- whether there is a file, and it has this name
abbrev pub has_name : List ℕ → Option FileParts → Bool
has_name name None = false
has_name name (Some f) = same_bytes f.name name

module _ (names : List NamedParts) where
  -- where no book has two files, a name is its book's file's where that of the book's first file is
  pub is_still_first : (files : List FileParts) → second_file names files ≡ None → (n : NamedParts)
      → is_still files n ≡ has_name n.name (file_of files n.book)
  is_still_first [] none n = refl
  is_still_first (f ∷ later) none n =
      let parts = neither (option_map (second_of_two names f) (file_of later f.book)) (second_file names later) none in
      by (same_bytes f.book n.book) refl (no_file (file_of later f.book) parts.0) (is_still_first later parts.1 n)
    where
      neither : {A : Type 0} (x y : Option A) → option_or x y ≡ None → (x ≡ None) × (y ≡ None)
      neither None y e = (refl, e)
      neither (Some a) y e = cc e

      no_file : (x : Option FileParts) → option_map (second_of_two names f) x ≡ None → x ≡ None
      no_file None e = refl
      no_file (Some g) e = cc e

      by : (b : Bool) → same_bytes f.book n.book ≡ b → file_of later f.book ≡ None
          → is_still later n ≡ has_name n.name (file_of later n.book)
          → ((b && same_bytes f.name n.name) || is_still later n)
          ≡ has_name n.name (cond b (Some f) (file_of later n.book))
      by true e alone rest =
          ap (λ c. same_bytes f.name n.name || c) (rest ∙ ap (has_name n.name)
          (subst (λ (b : List ℕ). file_of later b ≡ None) (same_bytes-is f.book n.book e) alone)) ∙ or-false (same_bytes f.name n.name)
      by false e alone rest = rest
