-- New files in the program's folder that are removed, written and put in their places: none is left.
use Rattle.std.proofs.Common.{◌≡◌, ◌⊎◌, inl, inr, ℕ, Bool, true, false, cond, ◌||◌, List, [], ◌∷◌, map, find, Contains, Option, None, Some, option_map, refl, sym, ap, ◌∙◌}
use Rattle.std.specs.Option.{is_some}
use Rattle.std.proofs.lemmas.Bool.{false≢true}
use Rattle.usfm_ref.specs.Books.{same_bytes}
use Rattle.usfm_ref.proofs.Orders.{same_bytes-is, same_bytes-refl}
use Rattle.replica_state.proofs.SinceLaws.{is_first, is_later, none_there}
use Rattle.book_folder.specs.Disks.{DiskParts, DropNew, Move, after, bytes_at, done, moved, without}
use Rattle.book_folder.specs.Files.{is_one_of}
use Rattle.book_folder.specs.Plans.{NewFileParts}
use Rattle.book_folder.specs.Wanted.{FoundParts}
use Rattle.book_folder.proofs.CutShort.Names.{at_with, at_without}
use Rattle.book_folder.proofs.CutShort.Puts.{first_or_later, moves, written}
use Rattle.book_folder.proofs.CutShort.Settles.{dropped}

-- no new file stands in the program's folder
abbrev pub NoneNew : DiskParts → Type 0
NoneNew d = (book : List ℕ) → bytes_at d.new book ≡ None

-- no file is left where nothing stands under any name
pub none_left : (files : List FoundParts) → ((name : List ℕ) → bytes_at files name ≡ None) → files ≡ []
none_left [] h = refl
none_left (f ∷ files) h =
    let there : bytes_at (f ∷ files) f.name ≡ Some f.bytes =
    ap (λ b. option_map (λ (g : FoundParts). g.bytes) (cond b (Some f) (find (λ g. same_bytes g.name f.name) files)))
    (same_bytes-refl f.name) in
    let no : Some f.bytes ≡ None = sym there ∙ h f.name in
    absurd cc

-- nor a book of which none is one
pub no_book : (books : List (List ℕ)) → ((book : List ℕ) → is_one_of books book ≡ false) → books ≡ []
no_book [] h = refl
no_book (b ∷ books) h = absurd (false≢true (sym (h b) ∙ ap (λ c. c || is_one_of books b) (same_bytes-refl b)))

-- ---- they are removed

-- under a name that was removed nothing stands, and where nothing stands it stays so
gone_stays : (files : List FoundParts) (name m : List ℕ) → bytes_at files m ≡ None → bytes_at (without files name) m ≡ None
gone_stays files name m e = at_without files name m ∙ by (same_bytes name m)
  where
    by : (b : Bool) → cond b None (bytes_at files m) ≡ None
    by true = refl
    by false = e

gone_now : (files : List FoundParts) (name : List ℕ) → bytes_at (without files name) name ≡ None
gone_now files name =
    at_without files name name ∙ ap (λ b. cond b None (bytes_at files name)) (same_bytes-refl name)

still_gone : (books : List (List ℕ)) (d : DiskParts) (book : List ℕ) → bytes_at d.new book ≡ None
    → bytes_at (after d (dropped books)).new book ≡ None
still_gone [] d book e = e
still_gone (b ∷ books) d book e = still_gone books (done d (DropNew b)) book (gone_stays d.new b book e)

dropped_gone : (books : List (List ℕ)) (d : DiskParts) (book : List ℕ) → is_one_of books book ≡ true
    → bytes_at (after d (dropped books)).new book ≡ None
dropped_gone [] d book h = absurd (false≢true h)
dropped_gone (b ∷ books) d book h = by (same_bytes book b) refl h (dropped_gone books (done d (DropNew b)) book)
  where
    by : (c : Bool) → same_bytes book b ≡ c → (c || is_one_of books book) ≡ true
        → (is_one_of books book ≡ true → bytes_at (after (done d (DropNew b)) (dropped books)).new book ≡ None)
        → bytes_at (after (done d (DropNew b)) (dropped books)).new book ≡ None
    by true e k rest =
        still_gone books (done d (DropNew b)) book
        (ap (λ (n : List ℕ). bytes_at (without d.new n) book) (sym (same_bytes-is book b e)) ∙ gone_now d.new book)
    by false e k rest = rest k

-- where all books are removed of which there is one, none is left
pub all_gone : (books : List (List ℕ)) (d : DiskParts) → ((book : List ℕ) → is_one_of books book ≡ is_some (bytes_at d.new book))
    → NoneNew (after d (dropped books))
all_gone books d h book = by (bytes_at d.new book) refl
  where
    by : (r : Option (List ℕ)) → bytes_at d.new book ≡ r → bytes_at (after d (dropped books)).new book ≡ None
    by None e = still_gone books d book e
    by (Some bytes) e = dropped_gone books d book (h book ∙ ap is_some e)

-- ---- they are written

-- what stands under a book is the new file of one of some, if any
abbrev pub NoneBut : List NewFileParts → DiskParts → Type 0
NoneBut made d =
    (book : List ℕ) → (bytes_at d.new book ≡ None)
    ⊎ ((f : NewFileParts) × Contains made f × (same_bytes f.book book ≡ true))

pub none_but : (files : List NewFileParts) (d : DiskParts) → NoneNew d → NoneBut files (after d (map written files))
none_but files d h book = on files d (h book)
  where
    on : (fs : List NewFileParts) (d : DiskParts) → bytes_at d.new book ≡ None → (bytes_at (after d (map written fs)).new book ≡ None)
        ⊎ ((f : NewFileParts) × Contains fs f × (same_bytes f.book book ≡ true))
    on [] d e = inl e
    on (f ∷ fs) d e = by (same_bytes f.book book) refl (λ k. on fs (done d (written f)) k)
      where
        Now : Type 0
        Now = (bytes_at (after (done d (written f)) (map written fs)).new book ≡ None)
            ⊎ ((g : NewFileParts) × Contains (f ∷ fs) g × (same_bytes g.book book ≡ true))

        by : (b : Bool) → same_bytes f.book book ≡ b
            → (bytes_at (done d (written f)).new book ≡ None → (bytes_at (after (done d (written f)) (map written fs)).new book ≡ None)
            ⊎ ((g : NewFileParts) × Contains fs g × (same_bytes g.book book ≡ true)))
            → Now
        by true k rest = inr (f, is_first f fs f refl, k)
        by false k rest =
            elim (rest (at_with d.new f.book f.text book ∙ ap (λ b. cond b (Some f.text) (bytes_at d.new book)) k ∙ e)) [
              | inl none ↦ inl none
              | inr g ↦ inr (g.0, is_later f fs g.0 g.1, g.2)
            ]

-- ---- they are put in their places

move_gone : (d : DiskParts) (f : NewFileParts) (book : List ℕ) → bytes_at d.new book ≡ None
    → bytes_at (done d (Move f.book f.name)).new book ≡ None
move_gone d f book e = by (bytes_at d.new f.book)
  where
    by : (r : Option (List ℕ)) → bytes_at (moved d f.book f.name r).new book ≡ None
    by None = e
    by (Some text) = gone_stays d.new f.book book e

moved_now : (d : DiskParts) (f : NewFileParts) → bytes_at (done d (Move f.book f.name)).new f.book ≡ None
moved_now d f = by (bytes_at d.new f.book) refl
  where
    by : (r : Option (List ℕ)) → bytes_at d.new f.book ≡ r → bytes_at (moved d f.book f.name r).new f.book ≡ None
    by None e = e
    by (Some text) e = gone_now d.new f.book

pub moves_gone : (files : List NewFileParts) (d : DiskParts) (book : List ℕ) → bytes_at d.new book ≡ None
    → bytes_at (after d (moves (λ book. false) files)).new book ≡ None
moves_gone [] d book e = e
moves_gone (f ∷ files) d book e = moves_gone files (done d (Move f.book f.name)) book (move_gone d f book e)

pub moved_gone : (files : List NewFileParts) (d : DiskParts) (f : NewFileParts) → Contains files f
    → bytes_at (after d (moves (λ book. false) files)).new f.book ≡ None
moved_gone [] d f there = absurd (none_there f there)
moved_gone (g ∷ files) d f there = elim (first_or_later g files f there) [
  | inl same ↦ moves_gone files (done d (Move g.book g.name)) f.book
      (ap (λ (x : NewFileParts). bytes_at (done d (Move g.book g.name)).new x.book) (sym same) ∙ moved_now d g)
  | inr later ↦ moved_gone files (done d (Move g.book g.name)) f later
]

-- where those are put that there are, none is left
pub all_moved : (files : List NewFileParts) (d : DiskParts) → NoneBut files d → NoneNew (after d (moves (λ book. false) files))
all_moved files d h book = elim (h book) [
  | inl none ↦ moves_gone files d book none
  | inr f ↦ ap (bytes_at (after d (moves (λ book. false) files)).new) (sym (same_bytes-is f.0.book book f.2)) ∙ moved_gone files d f.0 f.1
]
