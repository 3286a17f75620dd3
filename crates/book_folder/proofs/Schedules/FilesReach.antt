-- What is taken in of files is reached by edits over given ids.
use Rattle.std.proofs.Common.{◌≡◌, ℕ, Bool, true, false, cond, not, List, [], ◌∷◌, ◌++◌, map, filter, length, Option, Some, None, is_some, option_map}
use Rattle.std.proofs.Common.{Result, Ok, Err, refl, sym, ap, subst, ◌∙◌}
use Rattle.std.specs.List.{AllByRecursion, flat_map}
use Rattle.std.specs.Option.{option_or}
use Rattle.std.specs.Prelude.{IsUtf8}
use Rattle.std.specs.Str.{is_utf8}
use Rattle.std.specs.Str.Lossy.{utf8_valid_len}
use Rattle.std.proofs.lemmas.Bool.{or_left, or_right}
use Rattle.std.proofs.lemmas.Str.{IsUtf8-from_is_utf8}
use Rattle.usfm_ref.specs.Books.{is_book_code, same_bytes}
use Rattle.usfm_ref.specs.Keys.{KeyParts, key_cmp, book_head, head_of}
use Rattle.usfm_ref.specs.Rising.{rises_by}
use Rattle.usfm_ref.specs.Segments.{segment}
use Rattle.usfm_ref.proofs.Orders.{key_total}
use Rattle.usfm_ref.proofs.Sorted.{rises_filter, rises-rising}
use Rattle.verse_cut.specs.Joins.{IsJoinOf}
use Rattle.verse_cut.specs.Pieces.{PieceParts, pieces_of}
use Rattle.verse_cut.specs.Reading.{book_in, text_fits}
use Rattle.verse_cut.specs.declared.fault.BookFault.{BookFault}
use Rattle.verse_cut.proofs.BookLaws.{books_are_joins}
use Rattle.verse_cut.proofs.FitLaws.{fits_is_read}
use Rattle.op_core.specs.Export.{has_book, export}
use Rattle.op_core.specs.CutsBack.{picked_at}
use Rattle.op_core.specs.Lists.{keys_of, shown_ids}
use Rattle.op_core.specs.Ops.{Operation}
use Rattle.op_core.specs.Sets.{IsOpSet}
use Rattle.op_core.specs.Shown.{last, greatest, picked_text}
use Rattle.op_core.proofs.FilteredLists.{kept_each}
use Rattle.replica_state.specs.Changes.{ChangeParts, changes_ops, edits_by, edits_from, first_fault}
use Rattle.replica_state.specs.ChangeLaws.{begins}
use Rattle.replica_state.specs.Edits.{first_number, unless}
use Rattle.replica_state.specs.Imports.{due_change, due_changes, due_keys, import_into, import_ops, is_due, piece_at, piece_of, piece_own_text, walked_keys}
use Rattle.replica_state.specs.Since.{is_changed, since_change}
use Rattle.replica_state.specs.States.{State}
use Rattle.replica_state.specs.Steps.{edited_all, with_ops}
use Rattle.replica_state.specs.declared.fault.EditFault.{EditFault}
use Rattle.replica_state.specs.declared.fault.EditFault.TheVariants.{BadSegment, NotShown, NumbersUsedUp}
use Rattle.replica_state.specs.declared.fault.ImportFault.TheVariants as importing
use Rattle.replica_state.proofs.ChangeRuns.{begins_held, none_outside}
use Rattle.replica_state.proofs.DueKeys.{due_rise, piece_there, there_kept, walked}
use Rattle.replica_state.proofs.FilePieces.{book_is_code, book_is_headed, head_has_piece, piece_fits}
use Rattle.replica_state.proofs.SinceBegun.{head_begins, headed_differs, none_shown}
use Rattle.replica_state.proofs.World.PieceRanges.{IsKey, pieces_have_keys}
use Rattle.replica_state.proofs.World.Sets.{walked_are_keys}
use Rattle.book_folder.specs.Asks.{emptied, undone}
use Rattle.book_folder.specs.Coming.{AllTaken, added_by, all_taken, taken_all}
use Rattle.book_folder.specs.Files.{FileParts}
use Rattle.book_folder.specs.Likes.{like}
use Rattle.book_folder.specs.Restored.{coming_pieces, in_manner_of, restored_piece}
use Rattle.book_folder.specs.Taking.{AskedParts, StoodParts, Taken, asked, change_at, file_changes, imported, listed, settles, settling_change, stood_of, taken, taken_changed, taken_in, taken_strange, text_or, unless_asked}
use Rattle.book_folder.specs.Wanted.{WantedParts, WishParts}
use Rattle.book_folder.specs.declared.refusal.FolderFault.TheVariants as faults
use Rattle.book_folder.specs.declared.refusal.Place.{Place}
use Rattle.book_folder.specs.declared.refusal.Place.TheVariants as places
use Rattle.book_folder.specs.declared.refusal.Refusal.{Refusal}
use Rattle.book_folder.specs.declared.refusal.Refusal.TheVariants.{Of}
use Rattle.book_folder.proofs.Schedules.Along.{Along, along_edits}
use Rattle.book_folder.proofs.Schedules.BasesReach.{then_ok}
use Rattle.book_folder.proofs.ChangeAt.{change_at_is}
use Rattle.book_folder.proofs.Schedules.EditRanges.{IsRight, changes_right, code_of_book, due_right}
use Rattle.book_folder.proofs.Schedules.PieceTexts.{AreTexts, coming_texts, cut_texts}

-- ---- the changes of a file

module _ (held base : List Operation) (wanted : List WantedParts) (book : List ℕ) (pieces : List PieceParts) where
  abbrev change : KeyParts → Option ChangeParts
  change k = change_at held base wanted book pieces k

  -- the change of a key is of that key
  key_of_change : (k : KeyParts) (c : ChangeParts) → change k ≡ Some c → c.key ≡ k
  key_of_change k c e = by (settles held base wanted book k) (is_changed held base book pieces k)
      (sym (change_at_is held base wanted book pieces k) ∙ e)
    where
      by : (t u : Bool) → cond t (Some (settling_change held base book pieces k))
          (cond u (Some (since_change held base book pieces k)) None) ≡ Some c → c.key ≡ k
      by true u e =
          let is : settling_change held base book pieces k ≡ c = cc e in sym (ap (λ (x : ChangeParts). x.key) is)
      by false true e =
          let is : since_change held base book pieces k ≡ c = cc e in sym (ap (λ (x : ChangeParts). x.key) is)
      by false false e = cc e

  changed_keys : (keys : List KeyParts)
      → map (λ c. c.key) (flat_map (λ k. listed (change k)) keys) ≡ filter (λ k. is_some (change k)) keys
  changed_keys [] = refl
  changed_keys (k ∷ keys) = by (changed_keys keys) (change k) refl
    where
      by : map (λ c. c.key) (flat_map (λ k. listed (change k)) keys) ≡ filter (λ k. is_some (change k)) keys
          → (c : Option ChangeParts) → change k ≡ c
          → map (λ c. c.key) (listed c ++ flat_map (λ k. listed (change k)) keys)
          ≡ cond (is_some c) (k ∷ filter (λ k. is_some (change k)) keys) (filter (λ k. is_some (change k)) keys)
      by rest None e = rest
      by rest (Some c) e = λ i. key_of_change k c e i ∷ rest i

  -- the keys of a file's changes rise
  pub changes_rise : rises_by key_cmp (λ k. k) (map (λ c. c.key) (file_changes held base wanted book pieces)) ≡ true
  changes_rise =
      ap (rises_by key_cmp (λ k. k)) (changed_keys (walked_keys held book pieces))
      ∙ rises_filter key_cmp key_total (λ k. k) (λ k. is_some (change k)) (walked_keys held book pieces)
      (rises-rising key_cmp key_total (map head_of (keys_of held book) ++ (keys_of held book ++ map (λ p. p.key) pieces)))

-- ---- the changes of an import

module _ (held : List Operation) (file book : List ℕ) (named : book_in file ≡ Ok book) where
  abbrev cut : List PieceParts
  cut = pieces_of file

  abbrev due : List KeyParts
  due = due_keys held book cut

  keys_back : (keys : List KeyParts) → map (λ c. c.key) (map (due_change held book cut) keys) ≡ keys
  keys_back [] = refl
  keys_back (key ∷ keys) = ap (λ (ks : List KeyParts). key ∷ ks) (keys_back keys)

  -- the keys of the changes of an import rise
  pub import_rises : rises_by key_cmp (λ k. k) (map (λ c. c.key) (due_changes held book cut)) ≡ true
  import_rises = ap (rises_by key_cmp (λ k. k)) (keys_back due) ∙ due_rise held book cut

  none_wrong : (keys : List KeyParts) → first_fault held book (map (due_change held book cut) keys) ≡ None
  none_wrong [] = refl
  none_wrong (key ∷ keys) =
      let ids = shown_ids held (segment book key) in
      let fits : text_fits book key (piece_at cut key) ≡ true =
      (fits_is_read book key _).1 (piece_fits book file key (book_is_code file book named) (book_is_headed file book named)) in
      (λ i. option_or (cond (not (fits i)) (Some BadSegment) (option_map NotShown (none_outside ids ids (λ q h. h) i))) (none_wrong keys i))

  -- nothing is wrong with them
  pub import_is_right : first_fault held book (due_changes held book cut) ≡ None
  import_is_right = none_wrong due

  joined : IsJoinOf book file
  joined = books_are_joins book file (book_is_code file book named) (book_is_headed file book named)

  piece : piece_of cut book_head ≡ Some (record { key = book_head; start = 0; text = joined.head })
  piece = head_has_piece file book joined

  -- and they begin the book
  pub import_begins : begins held book (due_changes held book cut) ≡ true
  import_begins = by (has_book held book) refl
    where
      by : (b : Bool) → has_book held book ≡ b → begins held book (due_changes held book cut) ≡ true
      by true e = begins_held held book (due_changes held book cut) e
      by false e =
          let differs : same_bytes (picked_at held book book_head) (piece_at cut book_head) ≡ false =
          (λ i. same_bytes (picked_text (greatest (last (none_shown held book book_head e i)))) (piece_own_text (piece i)))
          ∙ headed_differs book joined.head joined.head_fits.0 in
          let head_due : is_due held book cut book_head ≡ true = or_left _ _ (ap not differs) in
          head_begins held book (due_change held book cut) (λ key. refl) due (due_rise held book cut)
          (there_kept (is_due held book cut) book_head (walked_keys held book cut) head_due
          (walked held book cut book_head (or_right _ _ (piece_there held book cut book_head cut (ap is_some piece)))))

-- ---- files

-- pieces as a base has them keep their keys
restored_keys : (base : List Operation) (book : List ℕ) (ps : List PieceParts) → AllByRecursion (λ (p : PieceParts). IsKey p.key) ps
    → AllByRecursion (λ (p : PieceParts). IsKey p.key) (map (restored_piece base book) ps)
restored_keys base book [] h = tt
restored_keys base book (p ∷ ps) h = (h.0, restored_keys base book ps h.1)

abbrev after_or : State → Result Taken Refusal → State
after_or s (Ok t) = t.after
after_or s (Err refusal) = s

-- what is taken in where nothing is asked
unasked : (place : Place) (fault : Option AskedParts) (r : Result Taken Refusal) (t : Taken) → unless_asked place fault r ≡ Ok t → r ≡ Ok t
unasked place None r t e = e
unasked place (Some fault) r t e = cc e

module _ (s base : State) (base_set : IsOpSet base.held) where
  -- edits of changes that were made
  edited_along : (t : State) (book : List ℕ) (place : Place) (stood : List StoodParts) (changes : List ChangeParts) (next : Taken)
      → Along s base.held t → is_book_code book ≡ true → AllByRecursion IsRight changes
      → rises_by key_cmp (λ k. k) (map (λ c. c.key) changes) ≡ true → begins t.held book changes ≡ true
      → taken place stood (edited_all t t (changes_ops t book changes)) ≡ Ok next → Along s base.held next.after
  edited_along t book place stood changes next a code ok rise begun e =
      by (first_fault t.held book changes) refl (first_number t.held (length changes)) refl e
    where
      by : (f : Option EditFault) → first_fault t.held book changes ≡ f → (first : Option ℕ) → first_number t.held (length changes) ≡ first
          → taken place stood (edited_all t t (unless f (edits_by NumbersUsedUp first t book changes))) ≡ Ok next
          → Along s base.held next.after
      by None right (Some n) numbered e =
          let same : with_ops t (edits_from n t book changes) ≡ next.after = ap (after_or t) e in
          subst (Along s base.held) same (along_edits s base.held t book changes n a code ok numbered right rise begun)
      by None right None numbered e = cc e
      by (Some fault) right first numbered e = cc e

  -- a file that was written from the base
  changed_along : (older : List State) (wishes : WishParts) (t : State) (stood : List StoodParts) (f : FileParts) (pieces : List PieceParts)
      (next : Taken) → Along s base.held t → has_book base.held f.book ≡ true → AreTexts pieces
      → AllByRecursion (λ (p : PieceParts). IsKey p.key) pieces
      → taken_changed t base older wishes stood f pieces ≡ Ok next → Along s base.held next.after
  unfolding taken_changed
  changed_along older wishes t stood f pieces next a has texts keys e =
      let changes = file_changes t.held base.held wishes.settled f.book pieces in
      edited_along t f.book (places.File f.at) (stood ++ stood_of t.held base.held f.book pieces) changes next a
      (code_of_book base.held f.book base_set.each has)
      (changes_right pieces texts t.held base.held wishes.settled f.book (walked_keys t.held f.book pieces)
      (walked_are_keys t.held f.book pieces a.state.set.each keys))
      (changes_rise t.held base.held wishes.settled f.book pieces) (begins_held t.held f.book changes (a.books f.book has))
      (unasked (places.File f.at)
      (asked wishes (undone older base.held t.name f.book pieces) (emptied base.held f.book pieces))
      (taken (places.File f.at) (stood ++ stood_of t.held base.held f.book pieces) (edited_all t t (changes_ops t f.book changes))) next e)

  -- the edits of an import
  imported_along : (t : State) (place : Place) (stood : List StoodParts) (file : List ℕ) (next : Taken) → Along s base.held t → IsUtf8 file
      → imported place stood (edited_all t t (import_ops t file)) ≡ Ok next → Along s base.held next.after
  imported_along t place stood file next a u e = by (book_in file) refl e
    where
      made : (book : List ℕ) → book_in file ≡ Ok book → (first : Option ℕ)
          → first_number t.held (length (due_changes t.held book (pieces_of file))) ≡ first
          → imported place stood (edited_all t t (edits_by importing.NumbersUsedUp first t book (due_changes t.held book (pieces_of file))))
          ≡ Ok next → Along s base.held next.after
      made book named (Some n) numbered e =
          let changes = due_changes t.held book (pieces_of file) in
          let same : with_ops t (edits_from n t book changes) ≡ next.after = ap (after_or t) e in
          subst (Along s base.held) same
          (along_edits s base.held t book changes n a (book_is_code file book named)
          (due_right (pieces_of file) (cut_texts file u) t.held book (due_keys t.held book (pieces_of file))
          (kept_each IsKey (is_due t.held book (pieces_of file)) (walked_keys t.held book (pieces_of file))
          (walked_are_keys t.held book (pieces_of file) a.state.set.each (pieces_have_keys file))))
          numbered (import_is_right t.held file book named)
          (import_rises t.held file book named) (import_begins t.held file book named))
      made book named None numbered e = cc e

      by : (r : Result (List ℕ) BookFault) → book_in file ≡ r
          → imported place stood (edited_all t t (import_into t (pieces_of file) r)) ≡ Ok next → Along s base.held next.after
      by (Err fault) named e = cc e
      by (Ok book) named e = made book named (first_number t.held (length (due_changes t.held book (pieces_of file)))) refl e

  -- a file of which it is not known what it was written from
  strange_along : (t : State) (stood : List StoodParts) (f : FileParts) (next : Taken) → Along s base.held t → IsUtf8 f.bytes
      → taken_strange t stood f ≡ Ok next → Along s base.held next.after
  unfolding taken_strange
  strange_along t stood f next a u e = by (has_book t.held f.book) (like (export t.held f.book) f.bytes) e
    where
      same : Taken
      same = record { after = t; stood = stood ++ stood_of t.held [] f.book (coming_pieces t.held f.book f.bytes); count = 0 }

      by : (b c : Bool)
          → cond b (cond c (Ok same) (Err (Of (places.File f.at) faults.FileChanged)))
          (imported (places.File f.at) (stood ++ stood_of t.held [] f.book (pieces_of f.bytes)) (edited_all t t (import_ops t f.bytes)))
          ≡ Ok next → Along s base.held next.after
      by true true e = subst (Along s base.held) (ap (after_or t) e) a
      by true false e = cc e
      by false c e = imported_along t (places.File f.at) (stood ++ stood_of t.held [] f.book (pieces_of f.bytes)) f.bytes next a u e

  -- a file
  taken_along : (older : List State) (wishes : WishParts) (t : State) (stood : List StoodParts) (f : FileParts) (next : Taken)
      → Along s base.held t → taken_in t base older wishes stood f ≡ Ok next → Along s base.held next.after
  unfolding taken_in
  taken_along older wishes t stood f next a e =
      let text = then_ok (text_or (places.File f.at) f.bytes)
      (λ text. cond (has_book base.held f.book) (taken_changed t base older wishes stood f (coming_pieces base.held f.book text))
      (taken_strange t stood f)) next e in
      let is = text_is (is_utf8 f.bytes) refl text.0 text.1.0 in
      by (IsUtf8-from_is_utf8 f.bytes is.0) (has_book base.held f.book) refl
      (ap (λ (x : List ℕ). cond (has_book base.held f.book) (taken_changed t base older wishes stood f (coming_pieces base.held f.book x))
      (taken_strange t stood f)) is.1 ∙ text.1.1)
    where
      text_is : (b : Bool) → is_utf8 f.bytes ≡ b → (text : List ℕ)
          → cond b (Ok f.bytes) (Err (Of (places.File f.at) (faults.NotText (utf8_valid_len f.bytes)))) ≡ Ok text
          → (is_utf8 f.bytes ≡ true) × (f.bytes ≡ text)
      text_is true u text e = (u, cc e)
      text_is false u text e = cc e

      by : IsUtf8 f.bytes → (b : Bool) → has_book base.held f.book ≡ b
          → cond b (taken_changed t base older wishes stood f (coming_pieces base.held f.book f.bytes)) (taken_strange t stood f) ≡ Ok next
          → Along s base.held next.after
      by u true has e =
          let made = in_manner_of (export base.held f.book) f.bytes in
          changed_along older wishes t stood f (coming_pieces base.held f.book f.bytes) next a has
          (coming_texts base.held base_set f.book f.bytes u) (restored_keys base.held f.book (pieces_of made) (pieces_have_keys made)) e
      by u false has e = strange_along t stood f next a u e

  -- files, one after another
  pub all_along : (older : List State) (wishes : WishParts) (t : AllTaken) (files : List FileParts) (next : AllTaken)
      → Along s base.held t.after → taken_all base older wishes t files ≡ Ok next → Along s base.held next.after
  all_along older wishes t [] next a e = subst (λ (x : AllTaken). Along s base.held x.after) (same t next e) a
    where
      same : (x y : AllTaken) → ◌≡◌ {A = Result AllTaken Refusal} (Ok x) (Ok y) → x ≡ y
      same x y e = cc e
  all_along older wishes t (f ∷ later) next a e =
      let one = then_ok (taken_in t.after base older wishes t.stood f)
      (λ n. taken_all base older wishes (all_taken n.after n.stood (t.added ++ added_by f.book n.count)) later) next e in
      all_along older wishes (all_taken one.0.after one.0.stood (t.added ++ added_by f.book one.0.count)) later next
      (taken_along older wishes t.after t.stood f one.0 a one.1.0) one.1.1
