-- An import since a base is the import of its file where the segments of its book show what the base shows, with no conflict.
use Rattle.std.proofs.Common.{◌≡◌, ℕ, true, false, not, ◌&&◌, ◌||◌, List, [], ◌∷◌, map, filter, length}
use Rattle.std.proofs.Common.{Option, None, Some, Result, Ok, refl, sym, ap, ◌∙◌}
use Rattle.std.specs.List.{list_all, list_any}
use Rattle.std.specs.Option.{is_some}
use Rattle.std.proofs.Math.Bool.{and-true}
use Rattle.usfm_ref.specs.Books.{same_bytes}
use Rattle.usfm_ref.specs.Keys.{KeyParts}
use Rattle.usfm_ref.specs.Segments.{segment}
use Rattle.verse_cut.specs.Pieces.{PieceParts, pieces_of}
use Rattle.verse_cut.specs.declared.fault.BookFault.{BookFault}
use Rattle.op_core.specs.Ids.{Id, is_none_left}
use Rattle.op_core.specs.Ops.{Operation, own_text}
use Rattle.op_core.specs.Shown.{shown}
use Rattle.op_core.specs.Lists.{ids_of, shown_ids}
use Rattle.op_core.specs.NextIds.{is_among}
use Rattle.op_core.proofs.Exports.ByShown.{ShowSame, picked_same, wants_same}
use Rattle.op_core.proofs.FilteredLists.{filter_all}
use Rattle.replica_state.specs.States.{State}
use Rattle.replica_state.specs.Edits.{first_number}
use Rattle.replica_state.specs.Changes.{ChangeParts, edits_from, edits_by, edits_or}
use Rattle.replica_state.specs.Imports.{piece_of, piece_at, has_verse, is_due, walked_keys, due_keys, due_changes, import_into}
use Rattle.replica_state.specs.Steps.{Import, Imported, Step, edited_all, imported, step, with_ops}
use Rattle.replica_state.specs.Since.{has_greatest_text, seen_ids, is_changed, changed_keys, since_changes}
use Rattle.replica_state.specs.Since.{changed, changed_after, changed_in, imported_since}
use Rattle.replica_state.specs.SinceLaws.{IsImportWhereNothingCame}
use Rattle.replica_state.specs.declared.fault.ImportFault.TheVariants as importing
use Rattle.replica_state.specs.declared.fault.SinceFault.TheVariants.{NumbersUsedUp}
use Rattle.replica_state.proofs.ChangeRuns.{all_given}

module _ (held base : List Operation) (book : List ℕ) (same : ShowSame held base book)
    (alike : (key : KeyParts) → list_all (has_greatest_text base (segment book key)) (shown base (segment book key)) ≡ true) where
  due_same : (pieces : List PieceParts) (key : KeyParts) → is_due held book pieces key ≡ is_due base book pieces key
  due_same pieces key = λ i. not (same_bytes (picked_same held base book same key i) (piece_at pieces key))
      || (wants_same held base book same key i && is_some (piece_of pieces key) && not (has_verse pieces key.chapter))

  -- where nothing is in conflict, all that is shown stood in the file
  all_seen : (key : KeyParts) → seen_ids held base (segment book key) ≡ shown_ids held (segment book key)
  all_seen key =
      let ids = shown_ids held (segment book key) in
      ap (λ (ops : List Operation). filter (is_among (ids_of ops)) ids)
      (filter_all (has_greatest_text base (segment book key)) (shown base (segment book key)) (alike key) ∙ sym (same key))
      ∙ all_given ids

  none_doubled : (text : List ℕ) (ops : List Operation)
      → (is_none_left (ids_of ops) && list_any (λ o. same_bytes (own_text o) text) ops) ≡ false
  none_doubled text [] = refl
  none_doubled text (o ∷ ops) = refl

  changed_is_due : (pieces : List PieceParts) (key : KeyParts) → is_changed held base book pieces key ≡ is_due held book pieces key
  changed_is_due pieces key =
      let g = segment book key in
      (λ i. is_due base book pieces key
      && not (is_none_left (all_seen key i) && list_any (λ o. same_bytes (own_text o) (piece_at pieces key)) (shown held g)))
      ∙ ap (λ b. is_due base book pieces key && not b) (none_doubled (piece_at pieces key) (shown held g))
      ∙ and-true (is_due base book pieces key)
      ∙ sym (due_same pieces key)

pub is_import_where_nothing_came : IsImportWhereNothingCame
is_import_where_nothing_came s base file book count state set none named same alike replied =
    since_is ∙ by (first_number t.held (length changes)) (ap (λ (x : Step). x.reply) (sym import_is) ∙ replied)
    ∙ (λ i. record { after = (sym import_is i).after; answer = Ok count })
  where
    t : State
    t = with_ops s base

    pieces : List PieceParts
    pieces = pieces_of file

    changes : List ChangeParts
    changes = due_changes t.held book pieces

    keys_are : changed_keys t.held base book pieces ≡ due_keys t.held book pieces
    keys_are = λ i. filter (λ key. changed_is_due t.held base book same alike pieces key i) (walked_keys t.held book pieces)

    changes_are : since_changes t.held base book pieces ≡ changes
    changes_are = λ i.
        map (λ key. record { key = key; text = piece_at pieces key; ids = all_seen t.held base book same alike key i }) (keys_are i)

    since_is : imported_since s base file ≡ changed s t book changes
    since_is =
        ap (λ (r : Result (List ℕ) BookFault). changed_in s base pieces r) named
        ∙ ap (λ (c : Option Id). changed_after s base book pieces c) none
        ∙ ap (changed s t book) changes_are

    import_is : step t (Import file) ≡ imported t (edits_or importing.NumbersUsedUp t book changes)
    import_is = ap (λ (r : Result (List ℕ) BookFault). imported t (import_into t pieces r)) named

    by : (f : Option ℕ) → (imported t (edits_by importing.NumbersUsedUp f t book changes)).reply ≡ Imported (Ok count)
        → edited_all s t (edits_by NumbersUsedUp f t book changes)
        ≡ record { after = (imported t (edits_by importing.NumbersUsedUp f t book changes)).after; answer = Ok count }
    by None e = cc e
    by (Some first) e =
        let edits = edits_from first t book changes in
        let counted : length edits ≡ count = cc e in
        ap (λ (n : ℕ). record { after = with_ops t edits; answer = Ok n }) counted
