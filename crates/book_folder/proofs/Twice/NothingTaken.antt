-- Of a file whose pieces are what its base picks, so that none is due, nothing is taken in, and nothing is asked.
use Rattle.std.proofs.Common.{◌≡◌, ℕ, suc, Bool, true, false, cond, not, ◌&&◌, ◌||◌, List, [], ◌∷◌, ◌++◌, map}
use Rattle.std.proofs.Common.{Option, None, Some, option_map, Result, Ok, Err, refl, sym, ap, ◌∙◌}
use Rattle.std.specs.List.{flat_map, list_any}
use Rattle.std.specs.Option.{option_or}
use Rattle.std.specs.Str.{is_utf8}
use Rattle.std.specs.Str.Lossy.{utf8_valid_len}
use Rattle.std.proofs.lemmas.Bool.{and_right, cond-true, false≢true}
use Rattle.std.proofs.lemmas.List.{append-nil}
use Rattle.usfm_ref.specs.Books.{same_bytes}
use Rattle.usfm_ref.specs.Keys.{KeyParts}
use Rattle.usfm_ref.specs.Segments.{segment}
use Rattle.usfm_ref.proofs.Orders.{same_bytes-refl}
use Rattle.verse_cut.specs.Pieces.{PieceParts}
use Rattle.verse_cut.specs.Reading.{is_empty}
use Rattle.op_core.specs.CutsBack.{picked_at}
use Rattle.op_core.specs.Export.{has_book}
use Rattle.op_core.specs.Lists.{keys_of}
use Rattle.op_core.specs.Ops.{Operation, own_text}
use Rattle.op_core.specs.Sets.{IsOpSet}
use Rattle.op_core.specs.Shown.{Pick, Line, Greatest, Empty, pick, picked_text}
use Rattle.replica_state.specs.Changes.{ChangeParts, changes_ops, edits_by}
use Rattle.replica_state.specs.Imports.{is_due, piece_at, walked_keys}
use Rattle.replica_state.specs.Since.{since_change}
use Rattle.replica_state.specs.States.{State}
use Rattle.replica_state.specs.Steps.{edited_all}
use Rattle.replica_state.specs.declared.fault.EditFault.TheVariants.{NumbersUsedUp}
use Rattle.replica_state.proofs.OwnExports.{left_for_none, none_pass}
use Rattle.book_folder.specs.Asks.{emptied, has_text_of, if_any, if_several, is_gone, is_new_of_another, is_undone, lacks_any, lacks_newer, undone, undone_keys, undone_since, unlikeness}
use Rattle.book_folder.specs.Bridges.{is_covered}
use Rattle.book_folder.specs.Files.{FileParts}
use Rattle.book_folder.specs.Likes.{like, plain}
use Rattle.book_folder.specs.Refusals.{◌>>=◌}
use Rattle.book_folder.specs.Restored.{coming_pieces}
use Rattle.book_folder.specs.Stale.{Candidate, found_with, is_candidate, less_unlike, older_base, older_base_by, older_base_if, older_base_in, oldest_of, place_of}
use Rattle.book_folder.specs.Taking.{AskedParts, StoodParts, Taken, asked, change_at, file_changes, has_other, listed, stood_at, stood_of, taken, taken_changed, taken_in, taken_strange, unless_asked}
use Rattle.book_folder.specs.Wanted.{WishParts}
use Rattle.book_folder.specs.declared.refusal.FolderFault.TheVariants as faults
use Rattle.book_folder.specs.declared.refusal.Place.TheVariants as places
use Rattle.book_folder.specs.declared.refusal.Refusal.{Refusal}
use Rattle.book_folder.specs.declared.refusal.Refusal.TheVariants.{Of}
use Rattle.book_folder.proofs.ChangeAt.{change_at_is}

-- ---- tests

any_none : {X : Type 0} (p : X → Bool) → ((x : X) → p x ≡ false) → (xs : List X) → list_any p xs ≡ false
any_none p h [] = refl
any_none p h (x ∷ xs) = λ i. h x i || any_none p h xs i

and_three : (a b c : Bool) → b ≡ c → ((a && not b) && c) ≡ false
and_three true true c e = refl
and_three true false c e = sym e
and_three false b c e = refl

-- ---- a file whose pieces are what its base picks

module _ (s base : State) (set : IsOpSet s.held) (f : FileParts) (has : has_book base.held f.book ≡ true) (text : is_utf8 f.bytes ≡ true)
    (picks : (key : KeyParts) → piece_at (coming_pieces base.held f.book f.bytes) key ≡ picked_at base.held f.book key)
    (not_due : (key : KeyParts) → is_due base.held f.book (coming_pieces base.held f.book f.bytes) key ≡ false) where
  abbrev pieces : List PieceParts
  pieces = coming_pieces base.held f.book f.bytes

  same_text : (key : KeyParts) → same_bytes (picked_at base.held f.book key) (piece_at pieces key) ≡ true
  same_text key = ap (same_bytes (picked_at base.held f.book key)) (picks key) ∙ same_bytes-refl (picked_at base.held f.book key)

  -- none has another text
  pub none_other : stood_of s.held base.held f.book pieces ≡ []
  none_other =
      ap (map (stood_at f.book pieces))
      (none_pass (has_other base.held f.book pieces) (walked_keys s.held f.book pieces) (λ key. ap not (same_text key)))

  -- and nothing was changed
  pub none_changed : file_changes s.held base.held [] f.book pieces ≡ []
  none_changed = all (walked_keys s.held f.book pieces)
    where
      not_changed : (b : Bool) → b ≡ false → (c : Bool) → (b && c) ≡ false
      not_changed true e c = absurd (false≢true (sym e))
      not_changed false e c = refl

      one : (key : KeyParts) → change_at s.held base.held [] f.book pieces key ≡ None
      one key =
          change_at_is s.held base.held [] f.book pieces key
          ∙ ap (λ b. cond b (Some (since_change s.held base.held f.book pieces key)) None)
          (not_changed (is_due base.held f.book pieces key) (not_due key) _)

      all : (keys : List KeyParts) → flat_map (λ key. listed (change_at s.held base.held [] f.book pieces key)) keys ≡ []
      all [] = refl
      all (key ∷ keys) = λ i. listed (one key i) ++ all keys i

  -- ---- nothing is asked

  has_text : (key : KeyParts) → has_text_of base.held f.book pieces key ≡ true
  has_text key =
      ap (like (picked_at base.held f.book key)) (picks key) ∙ same_bytes-refl (plain (picked_at base.held f.book key))

  -- what is picked is no older text
  pub not_undone : (own : List ℕ) (older : List Operation) (key : KeyParts) → is_undone older base.held own f.book pieces key ≡ false
  not_undone own older key = by (pick base.held (segment f.book key)) refl
    where
      by : (p : Pick) → pick base.held (segment f.book key) ≡ p
          → (is_new_of_another older own f.book key p && has_text_of older f.book pieces key) ≡ false
      by (Greatest o) e = and_three (not (same_bytes o.id.name own)) (like (picked_at older f.book key) (own_text o))
          (has_text_of older f.book pieces key)
          (ap (like (picked_at older f.book key)) (sym (picks key ∙ ap picked_text e)))
      by (Line chapter) e = refl
      by Empty e = refl

  none_undone : (older : List State) → undone older base.held s.name f.book pieces ≡ None
  unfolding undone_since
  none_undone [] = refl
  none_undone (o ∷ older) = λ i. option_or (fresh (has_book o.held f.book) i) (none_undone older i)
    where
      fresh : (b : Bool) → cond b (if_any (undone_keys o.held base.held s.name f.book pieces)) None ≡ None
      fresh true = ap if_any
          (none_pass (is_undone o.held base.held s.name f.book pieces) (keys_of base.held f.book) (not_undone s.name o.held))
      fresh false = refl

  none_emptied : emptied base.held f.book pieces ≡ None
  none_emptied = ap if_several (none_pass (is_gone base.held f.book pieces) (keys_of base.held f.book)
      (λ key. ap (λ t. is_empty t && not (is_empty (picked_at base.held f.book key)) && not (is_covered pieces key)) (picks key)
      ∙ either (is_empty (picked_at base.held f.book key)) (not (is_covered pieces key))))
    where
      either : (b c : Bool) → (b && not b && c) ≡ false
      either true c = refl
      either false c = refl

  none_lacked : (own : List ℕ) (older : List Operation) → lacks_any older base.held own f.book pieces ≡ false
  none_lacked own older = any_none (lacks_newer older base.held own f.book pieces)
      (λ key. and_right (is_new_of_another older own f.book key (pick base.held (segment f.book key)))
      (not (has_text_of base.held f.book pieces key)) (ap not (has_text key))) (keys_of base.held f.book)

  none_found : (own : List ℕ) (older : List State) (at : ℕ) → oldest_of None at older base.held own f.book pieces ≡ None
  unfolding found_with is_candidate
  none_found own [] at = refl
  none_found own (o ∷ older) at =
      ap (λ (c : Option Candidate). oldest_of c (suc at) older base.held own f.book pieces)
      (ap (λ b. cond b (Some (less_unlike None (record { at = at; unlike = unlikeness o.held f.book pieces }))) None)
      (and_right (has_book o.held f.book) (lacks_any o.held base.held own f.book pieces) (none_lacked own o.held)))
      ∙ none_found own older (suc at)

  -- its base is no older one
  pub not_rebased : (older : List State) → older_base base older f ≡ Ok None
  not_rebased older =
      ap (older_base_by base older f.book) (cond-true (is_utf8 f.bytes) (Some f.bytes) None text)
      ∙ ap (λ b. cond b (older_base_in base older f.book pieces) (Ok None)) has
      ∙ ap (λ (c : Option Candidate). older_base_if base older f.book pieces (option_map place_of c)) (none_found base.name older 0)

  -- ---- nothing is taken in

  unasked : (wishes : WishParts) → asked wishes None None ≡ None
  unasked wishes = λ i. option_or (either (wishes.undone || wishes.stale) i) (either wishes.emptied i)
    where
      nothing : Option AskedParts
      nothing = None

      either : (b : Bool) → cond b nothing nothing ≡ nothing
      either true = refl
      either false = refl

  pub nothing_taken : (older : List State) (wishes : WishParts) (stood : List StoodParts) → wishes.settled ≡ []
      → taken_in s base older wishes stood f ≡ Ok (record { after = s; stood = stood; count = 0 })
  unfolding taken_in taken_changed
  nothing_taken older wishes stood none =
      let place = places.File f.at in
      let by_base : List ℕ → Result Taken Refusal =
      λ text. taken_changed s base older wishes stood f (coming_pieces base.held f.book text) in
      ap (λ r. r >>= λ text. cond (has_book base.held f.book) (by_base text) (taken_strange s stood f))
      (cond-true (is_utf8 f.bytes) (Ok f.bytes) (Err (Of place (faults.NotText (utf8_valid_len f.bytes)))) text)
      ∙ ap (λ b. cond b (by_base f.bytes) (taken_strange s stood f)) has
      ∙ (λ i. unless_asked place (asked wishes (none_undone older i) (none_emptied i))
      (taken place (stood ++ none_other i) (edited_all s s (changes_ops s f.book (file_changes s.held base.held (none i) f.book pieces)))))
      ∙ ap (λ a. unless_asked place a
      (taken place (stood ++ []) (edited_all s s (changes_ops s f.book (file_changes s.held base.held [] f.book pieces))))) (unasked wishes)
      ∙ ap (λ (cs : List ChangeParts). taken place (stood ++ []) (edited_all s s (changes_ops s f.book cs))) none_changed
      ∙ ap (λ (n : Option ℕ). taken place (stood ++ []) (edited_all s s (edits_by NumbersUsedUp n s f.book [])))
      (left_for_none s.held set.each)
      ∙ ap (λ (more : List StoodParts). Ok (record { after = s; stood = more; count = 0 })) (append-nil stood)
