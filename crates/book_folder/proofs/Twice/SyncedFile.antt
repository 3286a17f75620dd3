-- A file as a sync leaves it: its pieces are what the base picks, so that nothing was changed in it and nothing is asked about it.
use Rattle.std.proofs.Common.{◌≡◌, ℕ, Bool, true, false, not, ◌&&◌, ◌||◌, List, [], ◌∷◌, ◌++◌, length, take, codes}
use Rattle.std.proofs.Common.{None, Result, Ok, Err, refl, sym, ap, ◌∙◌, arith}
use Rattle.std.specs.List.{list_any}
use Rattle.std.specs.Prelude.{if◌then◌else◌}
use Rattle.std.specs.Str.{is_utf8}
use Rattle.std.specs.Str.Lossy.{utf8_valid_len}
use Rattle.std.proofs.lemmas.Bool.{and_parts, and_right, false≢true}
use Rattle.std.proofs.lemmas.List.{take_all}
use Rattle.std.proofs.lemmas.Str.{utf8_valid_len-IsUtf8}
use Rattle.usfm_ref.specs.Books.{same_bytes}
use Rattle.usfm_ref.specs.Keys.{KeyParts, book_head}
use Rattle.usfm_ref.specs.Segments.{segment}
use Rattle.usfm_ref.proofs.Orders.{same_bytes-is, same_bytes-refl}
use Rattle.verse_cut.specs.Fits.{IsHeaded, byte_order_mark}
use Rattle.verse_cut.specs.Joins.{IsJoinOf}
use Rattle.verse_cut.specs.Pieces.{PieceParts, pieces_of}
use Rattle.verse_cut.specs.Reading.{book_in, is_empty}
use Rattle.verse_cut.specs.declared.fault.BookFault.{BookFault}
use Rattle.verse_cut.proofs.BookLaws.{books_are_joins}
use Rattle.op_core.specs.CutsBack.{picked_at}
use Rattle.op_core.specs.Export.{export, has_book}
use Rattle.op_core.specs.Lists.{books_of}
use Rattle.op_core.specs.Ops.{Operation, IsOperation, in_segment}
use Rattle.op_core.specs.Sets.{IsOpSet}
use Rattle.op_core.specs.Shown.{text_of}
use Rattle.op_core.proofs.Exports.CutsBack.{exports_are_text, exports_cut_back}
use Rattle.op_core.proofs.Exports.Exported.{picked_own, text_held}
use Rattle.op_core.proofs.FilteredLists.{any_filter, kept_each}
use Rattle.op_core.proofs.Sets.Filters.{rises-filter}
use Rattle.replica_state.specs.Imports.{is_due, piece_at, piece_own_text}
use Rattle.replica_state.specs.States.{State, IsState}
use Rattle.replica_state.proofs.FilePieces.{book_is_code, book_is_headed, head_has_piece}
use Rattle.replica_state.proofs.OwnExports.{none_due, own_piece}
use Rattle.book_folder.specs.Bases.{shown_in_files, shows}
use Rattle.book_folder.specs.Begun.{is_one_of}
use Rattle.book_folder.specs.Files.{FileParts, book_begun, book_if}
use Rattle.book_folder.specs.AsWritten.{are_alike, is_as_written}
use Rattle.book_folder.specs.FolderLaws.{IsSyncedFile}
use Rattle.book_folder.specs.Likes.{like, line_ends, plain}
use Rattle.book_folder.specs.Plans.{headless, is_book, is_whole}
use Rattle.book_folder.specs.Restored.{coming_pieces, restored_pieces}
use Rattle.book_folder.specs.Stale.{older_base}
use Rattle.book_folder.specs.Taking.{StoodParts, taken_in}
use Rattle.book_folder.specs.Wanted.{WishParts}
use Rattle.book_folder.proofs.LineLaws.{manner_same}
use Rattle.book_folder.proofs.Twice.NothingTaken.{not_rebased as unchanged_not_rebased, nothing_taken as unchanged_not_taken}
use Rattle.book_folder.proofs.Twice.OwnManner.{export_restored, own_manner}
use Rattle.book_folder.proofs.Twice.ShownBase.{book_there, export_same, shown_legal}

-- ---- a book that gets a file

-- a text like another one is like it the other way round
like_turned : (one other : List ℕ) → like one other ≡ true → like other one ≡ true
like_turned one other h =
    ap (same_bytes (plain other)) (same_bytes-is (plain one) (plain other) h) ∙ same_bytes-refl (plain other)

module _ (held : List Operation) (set : IsOpSet held) (book : List ℕ) (whole : is_whole held book ≡ true) where
  -- it is none of those that get none
  pub gets : is_one_of (headless held) book ≡ false
  gets = any_filter (same_bytes book) (λ b. not (is_whole held b)) (books_of held) ∙ none (books_of held)
    where
      both : (b : List ℕ) (c : Bool) → same_bytes book b ≡ c → (not (is_whole held b) && c) ≡ false
      both b true e = ap (λ x. not x && true) (ap (is_whole held) (sym (same_bytes-is book b e)) ∙ whole)
      both b false e = and_right (not (is_whole held b)) false refl

      none : (bs : List (List ℕ)) → list_any (λ b. not (is_whole held b) && same_bytes book b) bs ≡ false
      none [] = refl
      none (b ∷ bs) = λ i. both b (same_bytes book b) refl i || none bs i

  pub is_there : has_book held book ≡ true
  is_there = (and_parts (has_book held book) (is_book (book_begun (export held book)) book) whole).0

  -- its export begins with its code
  pub begins : book_in (export held book) ≡ Ok book
  begins = by (book_in (export held book)) refl
      (sym (ap (λ t. is_book (book_if (book_in t)) book) whole_text)
      ∙ (and_parts (has_book held book) (is_book (book_begun (export held book)) book) whole).1)
    where
      text : List ℕ
      text = export held book

      long : utf8_valid_len text ≡ length text
      long = utf8_valid_len-IsUtf8 text (exports_are_text held book set)

      whole_text : take (utf8_valid_len text) text ≡ text
      whole_text = take_all (utf8_valid_len text) text (omega (arith, long))

      by : (r : Result (List ℕ) BookFault) → book_in text ≡ r → is_book (book_if r) book ≡ true → book_in text ≡ Ok book
      by (Ok b) e h = e ∙ ap (λ (c : List ℕ). Ok c) (same_bytes-is b book h)
      by (Err fault) e h = absurd (false≢true h)

  -- so its head has an operation
  pub head_there : list_any (in_segment (segment book book_head)) held ≡ true
  head_there = text_held held (segment book book_head) (ap is_empty (sym own ∙ picked) ∙ some joined.head joined.head_fits.0)
    where
      joined : IsJoinOf book (export held book)
      joined = books_are_joins book (export held book) (book_is_code (export held book) book begins)
          (book_is_headed (export held book) book begins)

      own : picked_at held book book_head ≡ text_of held (segment book book_head)
      own = picked_own held (segment book book_head) refl

      picked : picked_at held book book_head ≡ joined.head
      picked =
          sym (ap (λ (ps : List PieceParts). piece_at ps book_head) (exports_cut_back held book set))
          ∙ ap piece_own_text (head_has_piece (export held book) book joined)

      some : (text : List ℕ) → IsHeaded book text → is_empty text ≡ false
      some text h = ap is_empty h.begins.text_is ∙ by h.begins.marked
        where
          by : (m : Bool)
              → is_empty ((if m then byte_order_mark else []) ++ (codes "\\id" ++ h.begins.blank ∷ (book ++ h.rest))) ≡ false
          by true = refl
          by false = refl

-- ---- a project's base

-- the base of a project, as a replica of its name
abbrev pub base_of : State → State
base_of s = record { name = s.name; held = shown_in_files (headless s.held) s.held }

pub base_state : (s : State) → IsState s → IsState (base_of s)
base_state s state =
    let passes : Operation → Bool = λ o. not (is_one_of (headless s.held) o.segment.book) && shows s.held o in record {
      name = state.name;
      set = record {
        rising = rises-filter passes s.held state.set.rising;
        each = kept_each IsOperation passes s.held state.set.each;
      };
      legal = shown_legal s.held (headless s.held) state.set state.legal;
    }

-- ---- a file that is as it was written from a base

module _ (s base : State) (set : IsOpSet s.held) (state : IsState base) (f : FileParts) (has : has_book base.held f.book ≡ true)
    (text : is_utf8 f.bytes ≡ true) (written : is_as_written (export base.held f.book) f.book f.bytes ≡ true) where
  abbrev pieces : List PieceParts
  pieces = coming_pieces base.held f.book f.bytes

  abbrev was : List ℕ
  was = export base.held f.book

  begun_alike : (is_book (book_begun was) f.book && are_alike (line_ends was)) ≡ true
  begun_alike = (and_parts (is_book (book_begun was) f.book && are_alike (line_ends was)) (like was f.bytes) written).0

  head_in_base : list_any (in_segment (segment f.book book_head)) base.held ≡ true
  head_in_base = head_there base.held state.set f.book
      (ap (λ b. b && is_book (book_begun was) f.book) has
      ∙ (and_parts (is_book (book_begun was) f.book) (are_alike (line_ends was)) begun_alike).0)

  -- its pieces are those of the base's export
  own_pieces : pieces ≡ pieces_of was
  own_pieces =
      ap (restored_pieces base.held f.book) (manner_same was f.bytes was alike
      ∙ own_manner was (and_parts (is_book (book_begun was) f.book) (are_alike (line_ends was)) begun_alike).1)
      ∙ export_restored base.held f.book state.set
    where
      alike : like f.bytes was ≡ true
      alike = like_turned was f.bytes
          (and_parts (is_book (book_begun was) f.book && are_alike (line_ends was)) (like was f.bytes) written).1

  -- which are what the base picks
  picks : (key : KeyParts) → piece_at pieces key ≡ picked_at base.held f.book key
  picks key =
      ap (λ (ps : List PieceParts). piece_at ps key) own_pieces
      ∙ own_piece base state f.book head_in_base key

  -- so no key is due
  not_due : (key : KeyParts) → is_due base.held f.book pieces key ≡ false
  not_due key =
      ap (λ (ps : List PieceParts). is_due base.held f.book ps key) own_pieces
      ∙ none_due base state f.book head_in_base key

  -- its base is no older one
  pub not_rebased : (older : List State) → older_base base older f ≡ Ok None
  not_rebased older = unchanged_not_rebased s base set f has text picks not_due older

  pub nothing_taken : (older : List State) (wishes : WishParts) (stood : List StoodParts) → wishes.settled ≡ []
      → taken_in s base older wishes stood f ≡ Ok (record { after = s; stood = stood; count = 0 })
  nothing_taken older wishes stood none = unchanged_not_taken s base set f has text picks not_due older wishes stood none

-- ---- a file as a sync leaves it

module _ (s : State) (state : IsState s) (f : FileParts) (file : IsSyncedFile s.held f) where
  none_less : is_one_of (headless s.held) f.book ≡ false
  none_less = gets s.held state.set f.book file.whole

  same_export : export (base_of s).held f.book ≡ export s.held f.book
  same_export = export_same s.held state.set (headless s.held) f.book none_less

  -- the base has the book
  base_has : has_book (base_of s).held f.book ≡ true
  base_has = book_there s.held state.set (headless s.held) f.book none_less (is_there s.held state.set f.book file.whole)

  -- and the file is as it was written from the base
  as_written : is_as_written (export (base_of s).held f.book) f.book f.bytes ≡ true
  as_written =
      ap (λ t. is_as_written t f.book f.bytes) same_export
      ∙ (λ i. begun i && file.ends i && like (export s.held f.book) f.bytes) ∙ file.alike
    where
      begun : is_book (book_begun (export s.held f.book)) f.book ≡ true
      begun = (and_parts (has_book s.held f.book) (is_book (book_begun (export s.held f.book)) f.book) file.whole).1

  -- so its base is no older one
  pub synced_not_rebased : (older : List State) → older_base (base_of s) older f ≡ Ok None
  synced_not_rebased = not_rebased s (base_of s) state.set (base_state s state) f base_has file.text as_written

  -- and nothing is taken in
  pub synced_not_taken : (older : List State) (wishes : WishParts) (stood : List StoodParts) → wishes.settled ≡ []
      → taken_in s (base_of s) older wishes stood f ≡ Ok (record { after = s; stood = stood; count = 0 })
  synced_not_taken older wishes stood none =
      nothing_taken s (base_of s) state.set (base_state s state) f base_has file.text as_written older wishes stood none
