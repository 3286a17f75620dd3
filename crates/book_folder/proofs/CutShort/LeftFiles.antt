-- What is read of the files of a folder where a sync was cut short: each is one that it read, or as a sync leaves it.
use Rattle.std.proofs.Common.{◌≡◌, ◌⊎◌, inl, inr, ℕ, suc, Bool, true, false, cond, List, [], ◌∷◌, ◌++◌, Contains, find, Option, None, Some, option_map, Ok, refl, sym, ap, subst, ◌∙◌, arith}
use Rattle.std.specs.List.{AllByRecursion, IsDistinct}
use Rattle.std.specs.Str.{is_utf8}
use Rattle.std.proofs.lemmas.Bool.{false≢true}
use Rattle.std.proofs.lemmas.List.Elements.{Contains-append_right}
use Rattle.usfm_ref.specs.Books.{same_bytes}
use Rattle.usfm_ref.proofs.Orders.{same_bytes-is, same_bytes-refl}
use Rattle.op_core.specs.Export.{export}
use Rattle.op_core.specs.Ops.{Operation}
use Rattle.op_core.specs.Sets.{IsOpSet}
use Rattle.book_folder.specs.AsWritten.{are_alike}
use Rattle.book_folder.specs.CutDisk.{same_name}
use Rattle.book_folder.specs.Disks.{bytes_at}
use Rattle.book_folder.specs.DoneAgain.{WasRead}
use Rattle.book_folder.specs.Files.{FileParts, are_of_one_book, book_begun, file_if, files_from}
use Rattle.book_folder.specs.FolderLaws.{HasOneManner, IsSyncedFile}
use Rattle.book_folder.specs.Likes.{like, line_ends}
use Rattle.book_folder.specs.Naming.{FormParts}
use Rattle.book_folder.specs.Plans.{NewFileParts, is_whole, new_files}
use Rattle.book_folder.specs.Wanted.{FoundParts, SeenParts}
use Rattle.book_folder.proofs.CutShort.NewFiles.{new_are_whole, new_files_are_left_so, of_one, other_files_are_left_so, weaker}
use Rattle.book_folder.proofs.Schedules.Reached.{all_both}

-- ---- files by their names

-- where no two files have one name, each one's bytes stand under its name
pub found_each : (found : List FoundParts) → IsDistinct same_name found
    → AllByRecursion (λ (x : FoundParts). bytes_at found x.name ≡ Some x.bytes) found
unfolding IsDistinct
found_each [] h = tt
found_each (x ∷ later) h = (
  ap (λ b. option_map (λ (f : FoundParts). f.bytes) (cond b (Some x) (find (λ f. same_bytes f.name x.name) later)))
      (same_bytes-refl x.name),
  both later h.0 (found_each later h.1),
)
  where
    both : (fs : List FoundParts) → AllByRecursion (λ y. same_name x y ≡ false) fs
        → AllByRecursion (λ (y : FoundParts). bytes_at later y.name ≡ Some y.bytes) fs
        → AllByRecursion (λ (y : FoundParts). bytes_at (x ∷ later) y.name ≡ Some y.bytes) fs
    both [] h k = tt
    both (y ∷ fs) h k = (
      ap (λ b. option_map (λ (f : FoundParts). f.bytes) (cond b (Some x) (find (λ f. same_bytes f.name y.name) later))) h.0 ∙ k.0,
      both fs h.1 k.1,
    )

-- a book's file is one of those found
abbrev pub IsFound : List FoundParts → FileParts → Type 0
IsFound found f = (bytes_at found f.name ≡ Some f.bytes) × (book_begun f.bytes ≡ Some f.book)

each_from : (all : List FoundParts) (at : ℕ) (found : List FoundParts)
    → AllByRecursion (λ (x : FoundParts). bytes_at all x.name ≡ Some x.bytes) found
    → AllByRecursion (IsFound all) (files_from at found)
each_from all at [] h = tt
each_from all at (x ∷ later) h =
    all_both (IsFound all) (file_if at x (book_begun x.bytes)) (files_from (suc at) later) (one (book_begun x.bytes) refl)
    (each_from all (suc at) later h.1)
  where
    one : (r : Option (List ℕ)) → book_begun x.bytes ≡ r → AllByRecursion (IsFound all) (file_if at x r)
    one None e = tt
    one (Some book) e = ((h.0, e), tt)

pub each_found : (at : ℕ) (found : List FoundParts) → IsDistinct same_name found → AllByRecursion (IsFound found) (files_from at found)
each_found at found h = each_from found at found (found_each found h)

-- a file of the folder, under the same name
pub record WasNamed (files : List FileParts) (f : FileParts) : Type 0 where
  pub file : FileParts
  pub among : Contains files file
  pub book : file.book ≡ f.book
  pub name : file.name ≡ f.name
  pub bytes : file.bytes ≡ f.bytes

-- what stands under a name and begins with a book is one of the files
pub named_in : (at : ℕ) (found : List FoundParts) (f : FileParts) → IsFound found f → WasNamed (files_from at found) f
named_in at [] f h = cc h.0
named_in at (x ∷ later) f h = by (same_bytes x.name f.name) refl h.0 (λ e. named_in (suc at) later f (e, h.1))
  where
    by : (c : Bool) → same_bytes x.name f.name ≡ c
        → option_map (λ (g : FoundParts). g.bytes) (cond c (Some x) (find (λ g. same_bytes g.name f.name) later)) ≡ Some f.bytes
        → (bytes_at later f.name ≡ Some f.bytes → WasNamed (files_from (suc at) later) f)
        → WasNamed (files_from at (x ∷ later)) f
    by true n e rest =
        let same : x.bytes ≡ f.bytes = cc e in
        let file : FileParts = record { at = at; book = f.book; name = x.name; bytes = x.bytes } in record {
          file = file;
          among = subst (λ (r : Option (List ℕ)). Contains (file_if at x r ++ files_from (suc at) later) file)
              (sym (ap book_begun same ∙ h.1)) (0, omega arith, refl);
          book = refl;
          name = same_bytes-is x.name f.name n;
          bytes = same;
        }
    by false n e rest =
        let r = rest e in record {
          file = r.file;
          among = Contains-append_right (file_if at x (book_begun x.bytes)) (files_from (suc at) later) r.file r.among;
          book = r.book;
          name = r.name;
          bytes = r.bytes;
        }

-- ---- files that were put

-- What stands under a name: what stood there before, or a new file of a book that has what the next base has.
abbrev pub NameIsKnown : List FoundParts → List FoundParts → List NewFileParts → (List ℕ → Bool) → List ℕ → Type 0
NameIsKnown before now made keeps name =
    (bytes_at now name ≡ bytes_at before name)
    ⊎ ((g : NewFileParts) × Contains made g × (bytes_at now name ≡ Some g.text) × (keeps g.book ≡ false))

-- A new file: its book has what the base has, or a new file stands under its name.
abbrev pub IsKeptOrPut : List FoundParts → List NewFileParts → (List ℕ → Bool) → NewFileParts → Type 0
IsKeptOrPut now made keeps g =
    (keeps g.book ≡ true) ⊎ ((h : NewFileParts) × Contains made h × (bytes_at now g.name ≡ Some h.text))

-- A file is one that was read, of a book that has what the base has; or as a sync leaves it.
abbrev pub IsKeptOrSynced : List Operation → List FileParts → (List ℕ → Bool) → FileParts → Type 0
IsKeptOrSynced held files keeps f = WasRead files f × (keeps f.book ≡ true) ⊎ IsSyncedFile held f × (keeps f.book ≡ false)

module _ (seen : SeenParts) (held : List Operation) (files : List FileParts) (form : FormParts) (made : List NewFileParts)
    (set : IsOpSet held) (new : new_files seen held files form ≡ Ok made) (distinct : IsDistinct are_of_one_book files)
    (text : AllByRecursion (λ (f : FileParts). is_utf8 f.bytes ≡ true) files)
    (whole : AllByRecursion (λ (f : FileParts). is_whole held f.book ≡ true) files)
    (manner : (book : List ℕ) → is_whole held book ≡ true → HasOneManner (export held book)) where
  put_synced : (g : NewFileParts) → Contains made g → (f : FileParts) → f.bytes ≡ g.text → book_begun f.bytes ≡ Some f.book
      → (f.book ≡ g.book) × IsSyncedFile held f
  put_synced g there f bytes begun =
      new_files_are_left_so seen held files form made g f set new there
      (manner g.book (new_are_whole seen held files form made g new there)) bytes begun

  same_file : (f : FileParts) (w : WasNamed files f) → IsSyncedFile held w.file → IsSyncedFile held f
  same_file f w h = record {
    whole = ap (is_whole held) (sym w.book) ∙ h.whole;
    alike = (λ i. like (export held (sym w.book i)) (sym w.bytes i)) ∙ h.alike;
    text = ap is_utf8 (sym w.bytes) ∙ h.text;
    ends = ap (λ (b : List ℕ). are_alike (line_ends (export held b))) (sym w.book) ∙ h.ends;
  }

  pub left_file : (before now : List FoundParts) (keeps : List ℕ → Bool) (f : FileParts) → IsFound now f
      → (bytes_at before f.name ≡ Some f.bytes → WasNamed files f) → NameIsKnown before now made keeps f.name
      → ((g : NewFileParts) → Contains made g → IsKeptOrPut now made keeps g) → IsKeptOrSynced held files keeps f
  left_file before now keeps f h was known others = by known
    where
      synced : (g : NewFileParts) → Contains made g → bytes_at now f.name ≡ Some g.text → (f.book ≡ g.book) × IsSyncedFile held f
      synced g there e =
          let same : f.bytes ≡ g.text = cc (sym h.0 ∙ e) in put_synced g there f same h.1

      kept : (w : WasNamed files f) (c : Bool) → keeps f.book ≡ c → IsKeptOrSynced held files keeps f
      kept w true k = inl (record { file = w.file; among = w.among; book = w.book; bytes = w.bytes }, k)
      kept w false k =
          inr (
            elim (other_files_are_left_so seen held files form made w.file new distinct w.among
                (of_one (λ (f : FileParts). is_whole held f.book ≡ true) files whole w.file w.among)
                (of_one (λ (f : FileParts). is_utf8 f.bytes ≡ true) files text w.file w.among)
                (manner w.file.book (of_one (λ (f : FileParts). is_whole held f.book ≡ true) files whole w.file w.among))) [
                  | inl g ↦ put g
                  | inr s ↦ same_file f w s
                ],
            k,
          )
        where
          put : (g : NewFileParts) × Contains made g × (g.book ≡ w.file.book) × (g.name ≡ w.file.name) → IsSyncedFile held f
          put g = elim (others g.0 g.1) [
            | inl e ↦ absurd (false≢true (sym k ∙ ap keeps (sym (g.2 ∙ w.book)) ∙ e))
            | inr n ↦ (synced n.0 n.1 (ap (bytes_at now) (sym (g.3 ∙ w.name)) ∙ n.2)).1
          ]

      by : NameIsKnown before now made keeps f.name → IsKeptOrSynced held files keeps f
      by (inl same) = kept (was (sym same ∙ h.0)) (keeps f.book) refl
      by (inr g) = let s = synced g.0 g.1 g.2 in inr (s.1, ap keeps s.0 ∙ g.3)

  -- each file that is read again is one that was read, or as a sync leaves it
  pub each_left : (before now : List FoundParts) (keeps : List ℕ → Bool) → IsDistinct same_name now → files_from 0 before ≡ files
      → ((name : List ℕ) → NameIsKnown before now made keeps name)
      → ((g : NewFileParts) → Contains made g → IsKeptOrPut now made keeps g)
      → AllByRecursion (IsKeptOrSynced held files keeps) (files_from 0 now)
  each_left before now keeps apart files_are known others =
      weaker (IsFound now) (IsKeptOrSynced held files keeps)
      (λ f h. left_file before now keeps f h (λ k. subst (λ (fs : List FileParts). WasNamed fs f) files_are (named_in 0 before f (k, h.1)))
      (known f.name) others)
      (files_from 0 now) (each_found 0 now apart)
