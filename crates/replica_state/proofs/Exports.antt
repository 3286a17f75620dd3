-- After an import the export of its book is the file.
use Rattle.std.proofs.Common.{◌≡◌, ℕ, Bool, true, false, not, cond, ◌||◌, List, [], ◌∷◌, ◌++◌}
use Rattle.std.proofs.Common.{filter, length, Option, None, Some, Result, Ok, arith, refl, sym, ap, ◌∙◌}
use Rattle.std.specs.List.{list_any, list_all}
use Rattle.std.specs.Ordering.{is_eq}
use Rattle.std.proofs.lemmas.Bool.{and_parts, cond-true, cond-false}
use Rattle.usfm_ref.specs.Keys.{KeyParts, key_cmp, book_head}
use Rattle.usfm_ref.specs.Rising.{rises_by}
use Rattle.usfm_ref.proofs.Orders.{key_total}
use Rattle.usfm_ref.proofs.Sorted.{rises_filter}
use Rattle.verse_cut.specs.Keys.{key_below}
use Rattle.verse_cut.specs.Pieces.{pieces_of}
use Rattle.verse_cut.specs.Joins.{KeyText, filled, at_book_head, texts_joined}
use Rattle.verse_cut.specs.Reading.{book_in, is_empty}
use Rattle.verse_cut.specs.declared.fault.BookFault.{BookFault}
use Rattle.op_core.specs.Ops.{Operation}
use Rattle.op_core.specs.Sets.{join}
use Rattle.op_core.specs.Export.{exported_keys, export}
use Rattle.op_core.specs.CutsBack.{picked_at, later_texts}
use Rattle.op_core.specs.NextIds.{next_number}
use Rattle.op_core.proofs.Exports.CutsBack.{keys_rise, split, texts_rise}
use Rattle.op_core.proofs.Exports.Exported.{picks_are_exported}
use Rattle.replica_state.specs.States.{State, IsState}
use Rattle.replica_state.specs.Edits.{first_number}
use Rattle.replica_state.specs.Changes.{ChangeParts, edits_from, edits_by, edits_or}
use Rattle.replica_state.specs.Imports.{due_changes, import_into}
use Rattle.replica_state.specs.ImportLaws.{ImportsAreExported}
use Rattle.replica_state.specs.Steps.{Step, Import, Imported, imported, step}
use Rattle.replica_state.specs.declared.fault.ImportFault.TheVariants.{NumbersUsedUp}
use Rattle.replica_state.proofs.Appended.{is_there, key_is}
use Rattle.replica_state.proofs.Changes.{is_first, edits_after}
use Rattle.replica_state.proofs.DueKeys.{there_kept}
use Rattle.replica_state.proofs.ImportedTexts as imports
use Rattle.replica_state.proofs.KeyLists.{same_key-cmp}
use Rattle.replica_state.proofs.KeyTexts.{own_text, at_key, text_at, same_texts, filled_are, filled_at}
use Rattle.replica_state.proofs.ImportedTexts.{empty_is}

-- ---- the texts of an export

-- keys that pass a test are among those that are kept, and no others
there_passes : (p : KeyParts → Bool) (q : KeyParts) (ks : List KeyParts) → p q ≡ false → is_there q (filter p ks) ≡ false
there_passes p q [] f = refl
there_passes p q (k ∷ ks) f = by (there_passes p q ks f) (p k) refl
  where
    by : is_there q (filter p ks) ≡ false → (b : Bool) → p k ≡ b → is_there q (cond b (k ∷ filter p ks) (filter p ks)) ≡ false
    by rest false e = rest
    by rest true e = apart (is_eq (key_cmp q k)) refl
      where
        apart : (c : Bool) → is_eq (key_cmp q k) ≡ c → (c || is_there q (filter p ks)) ≡ false
        apart true g = cc (sym f ∙ ap p (key_is q k g) ∙ e)
        apart false g = rest

-- the texts after the head of a book are those that are picked
pub later_at : (held : List Operation) (book : List ℕ) (q : KeyParts) → key_below book_head q ≡ true
    → text_at (filled (later_texts held book)) q ≡ picked_at held book q
later_at held book q after =
    filled_at held book (filter (key_below book_head) (exported_keys held book)) q ∙ by (is_empty (picked_at held book q)) refl
  where
    either : (b : Bool) → picked_at held book q ≡ [] → cond b (picked_at held book q) [] ≡ picked_at held book q
    either true h = refl
    either false h = sym h

    by : (e : Bool) → is_empty (picked_at held book q) ≡ e
        → cond (is_there q (filter (key_below book_head) (exported_keys held book))) (picked_at held book q) [] ≡ picked_at held book q
    by true e = either (is_there q (filter (key_below book_head) (exported_keys held book))) (empty_is (picked_at held book q) e)
    by false e =
        let there : is_there q (exported_keys held book) ≡ true =
        (λ i. list_any (λ k. sym (same_key-cmp q k) i) (exported_keys held book)) ∙ picks_are_exported held book q e in
        cond-true _ _ _ (there_kept (key_below book_head) q (exported_keys held book) after there)

-- a key that is not below the head has no text below it
pub later_none : (held : List Operation) (book : List ℕ) (q : KeyParts) → key_below book_head q ≡ false
    → text_at (filled (later_texts held book)) q ≡ []
later_none held book q apart =
    filled_at held book (filter (key_below book_head) (exported_keys held book)) q
    ∙ cond-false _ _ _ (there_passes (key_below book_head) q (exported_keys held book) apart)

-- a list after the head of the book has nothing at keys that are not
after_none : (ts : List KeyText) (q : KeyParts) → list_all (λ t. key_below book_head t.key) ts ≡ true → key_below book_head q ≡ false
    → text_at ts q ≡ []
after_none [] q h f = refl
after_none (t ∷ ts) q h f = by (after_none ts q p.1 f) (is_eq (key_cmp q t.key)) refl
  where
    p : (key_below book_head t.key ≡ true) × (list_all (λ t. key_below book_head t.key) ts ≡ true)
    p = and_parts (key_below book_head t.key) (list_all (λ t. key_below book_head t.key) ts) h

    by : text_at ts q ≡ [] → (b : Bool) → is_eq (key_cmp q t.key) ≡ b → text_at (t ∷ ts) q ≡ []
    by rest true e = cc (sym f ∙ ap (key_below book_head) (key_is q t.key e) ∙ p.0)
    by rest false e = ap own_text (cond-false _ _ _ e) ∙ rest

-- a text that is after the head of the book is not the head's
pub after_head : (head : List ℕ) (ts : List KeyText) (q : KeyParts) → key_below book_head q ≡ true
    → text_at (at_book_head head ∷ ts) q ≡ text_at ts q
after_head head ts q h = by (is_eq (key_cmp q book_head)) refl
  where
    by : (b : Bool) → is_eq (key_cmp q book_head) ≡ b → own_text (cond b (Some (at_book_head head)) (at_key ts q)) ≡ text_at ts q
    by true e = cc (sym h ∙ ap (key_below book_head) (key_is q book_head e))
    by false e = refl

-- empty texts add nothing to a join
joined_filled : (ts : List KeyText) → texts_joined ts ≡ texts_joined (filled ts)
joined_filled [] = refl
joined_filled (t ∷ ts) = by (joined_filled ts) (is_empty t.text) refl
  where
    by : texts_joined ts ≡ texts_joined (filled ts) → (b : Bool) → is_empty t.text ≡ b
        → t.text ++ texts_joined ts ≡ texts_joined (cond (not b) (t ∷ filled ts) (filled ts))
    by rest true e = ap (λ (r : List ℕ). r ++ texts_joined ts) (empty_is t.text e) ∙ rest
    by rest false e = ap (λ (r : List ℕ). t.text ++ r) rest

module _ (s : State) (state : IsState s) (book file : List ℕ) (named : book_in file ≡ Ok book) where
  abbrev now : List Operation
  now = imports.now s state book file named

  head_is : picked_at now book book_head ≡ (imports.joined s state book file named).head
  head_is = imports.picked_is_piece s state book file named book_head ∙ imports.piece_text s state book file named book_head

  filled_rise : (ts : List KeyText) → rises_by key_cmp (λ t. t.key) ts ≡ true → rises_by key_cmp (λ t. t.key) (filled ts) ≡ true
  filled_rise ts h = rises_filter key_cmp key_total (λ (t : KeyText). t.key) (λ (t : KeyText). not (is_empty t.text)) ts h

  later_is : filled (later_texts now book) ≡ (imports.joined s state book file named).later
  later_is =
      let j = imports.joined s state book file named in
      let above = and_parts (list_all (λ (t : KeyText). key_below book_head t.key) j.later)
      (rises_by key_cmp (λ (t : KeyText). t.key) j.later) j.rise in
      let own = and_parts (list_all (λ (t : KeyText). key_below book_head t.key) (later_texts now book))
      (rises_by key_cmp (λ (t : KeyText). t.key) (later_texts now book)) (texts_rise now book []) in
      same_texts (filled (later_texts now book)) j.later (filled_rise (later_texts now book) own.1) above.1
      (filled_are (later_texts now book)) j.filled (λ q. at q (key_below book_head q) refl above.0)
    where
      at : (q : KeyParts) (b : Bool) → key_below book_head q ≡ b
          → list_all (λ (t : KeyText). key_below book_head t.key) (imports.joined s state book file named).later ≡ true
          → text_at (filled (later_texts now book)) q ≡ text_at (imports.joined s state book file named).later q
      at q true e above =
          later_at now book q e ∙ imports.picked_is_piece s state book file named q ∙ imports.piece_text s state book file named q
          ∙ after_head (imports.joined s state book file named).head (imports.joined s state book file named).later q e
      at q false e above = later_none now book q e ∙ sym (after_none (imports.joined s state book file named).later q above e)

  pub export_is_file : export now book ≡ file
  export_is_file =
      let j = imports.joined s state book file named in
      split now book (exported_keys now book) (keys_rise now book) (picks_are_exported now book book_head)
      ∙ ap (λ (r : List ℕ). picked_at now book book_head ++ r) (joined_filled (later_texts now book))
      ∙ (λ i. head_is i ++ texts_joined (later_is i))
      ∙ sym j.join

pub imports_are_exported : ImportsAreExported
imports_are_exported s file book count state named reply =
    ap (λ (t : Step). export t.after.held book) stepped
    ∙ by (first_number s.held (length changes)) refl (sym (ap (λ (t : Step). t.reply) stepped) ∙ reply)
  where
    changes : List ChangeParts
    changes = due_changes s.held book (pieces_of file)

    stepped : step s (Import file) ≡ imported s (edits_or NumbersUsedUp s book changes)
    stepped = ap (λ (r : Result (List ℕ) BookFault). imported s (import_into s (pieces_of file) r)) named

    by : (f : Option ℕ) → first_number s.held (length changes) ≡ f
        → (imported s (edits_by NumbersUsedUp f s book changes)).reply ≡ Imported (Ok count)
        → export (imported s (edits_by NumbersUsedUp f s book changes)).after.held book ≡ file
    by (Some first) e r =
        ap (λ (n : ℕ). export (join s.held (edits_from n s book changes)) book) (is_first s.held (length changes) first (sym e)).is
        ∙ ap (λ (ops : List Operation). export ops book)
        (edits_after s book s.held (next_number s.held) changes state.set.rising (omega arith))
        ∙ export_is_file s state book file named
    by None e r = cc r
