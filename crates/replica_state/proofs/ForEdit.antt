-- An edit of a book, and an import of it, hang on the operations of the book and on the greatest number alone; and what they make is new.
use Rattle.std.proofs.Common.{◌≡◌, ℕ, suc, ◌+◌, nat_le, true, cond, not, ◌||◌, ◌&&◌, List, [], ◌∷◌, ◌++◌, map, filter, length, Option, Some, None, Result, Ok, Err, refl, sym, ap, subst, ◌∙◌, arith}
use Rattle.std.specs.List.{find}
use Rattle.std.specs.Option.{is_some, option_map}
use Rattle.usfm_ref.specs.Books.{same_bytes}
use Rattle.usfm_ref.specs.Keys.{KeyParts, book_head, head_of, key_cmp, same_key}
use Rattle.usfm_ref.specs.Rising.{rising}
use Rattle.usfm_ref.specs.Segments.{segment}
use Rattle.usfm_ref.specs.declared.segment.Segment.{Segment}
use Rattle.verse_cut.specs.Pieces.{PieceParts, pieces_of}
use Rattle.verse_cut.specs.Reading.{book_in, text_fits}
use Rattle.verse_cut.specs.declared.fault.BookFault.{BookFault}
use Rattle.op_core.specs.Export.{has_book}
use Rattle.op_core.specs.Ids.{Id, last_number}
use Rattle.op_core.specs.Lists.{ids_of, keys_of, shown_ids}
use Rattle.op_core.specs.Loops.Index.{AreApart}
use Rattle.op_core.specs.NextIds.{greatest_number, is_among}
use Rattle.op_core.specs.OneBook.{ops_of_book}
use Rattle.op_core.specs.Ops.{Operation}
use Rattle.op_core.specs.Sets.{rises}
use Rattle.op_core.specs.Shown.{shown}
use Rattle.op_core.proofs.Exports.ByShown.{ShowSame, picked_same, wants_same}
use Rattle.op_core.proofs.Exports.OneBook.{has_book_same, shown_same}
use Rattle.op_core.proofs.IdOrders.NextIds.{beyond}
use Rattle.replica_state.specs.Changes.{ChangeParts, edits_by, edits_from, edits_or}
use Rattle.replica_state.specs.Edits.{edit_by, edit_fault, edit_op, edit_over_op, edit_with, first_not_shown, first_number, next_id, own_id, unless}
use Rattle.replica_state.specs.Imports.{due_changes, has_verse, import_into, import_ops, is_due, piece_at, piece_of, walked_keys}
use Rattle.replica_state.specs.States.{State}
use Rattle.replica_state.specs.declared.fault.EditFault.{EditFault}
use Rattle.replica_state.specs.declared.fault.EditFault.TheVariants.{BadSegment, NoBook, NotShown}
use Rattle.replica_state.specs.declared.fault.ImportFault.TheVariants.{NumbersUsedUp}
use Rattle.replica_state.proofs.Changes.{edits_beyond, edits_rise, is_first}

-- ---- two replicas of one name that hold the same of a book, and the same greatest number

module _ (s t : State) (book : List ℕ) (name : s.name ≡ t.name) (of : ops_of_book s.held book ≡ ops_of_book t.held book)
    (greatest : greatest_number s.held ≡ greatest_number t.held) where
  -- a segment of the book shows the same
  pub shows_alike : (g : Segment) → g.book ≡ book → shown s.held g ≡ shown t.held g
  shows_alike g e =
      sym (shown_same s.held book g e) ∙ ap (λ (ops : List Operation). shown ops g) of ∙ shown_same t.held book g e

  ids_alike : (g : Segment) → g.book ≡ book → shown_ids s.held g ≡ shown_ids t.held g
  ids_alike g e = ap ids_of (shows_alike g e)

  has_alike : (code : List ℕ) → code ≡ book → has_book s.held code ≡ has_book t.held code
  has_alike code e =
      ap (has_book s.held) e ∙ sym (has_book_same s.held book) ∙ ap (λ (ops : List Operation). has_book ops book) of
      ∙ has_book_same t.held book ∙ sym (ap (has_book t.held) e)

  first_alike : (count : ℕ) → first_number s.held count ≡ first_number t.held count
  first_alike count = ap (λ n. cond (nat_le (n + count) last_number) (Some (suc n)) None) greatest

  next_alike : next_id s ≡ next_id t
  next_alike = λ i. option_map (λ n. record { number = n; name = name i }) (first_alike 1 i)

  -- ---- edits

  fault_alike : (g : Segment) → g.book ≡ book → (text : List ℕ) → edit_fault s.held g text ≡ edit_fault t.held g text
  fault_alike g e text =
      ap (λ b. cond (not (text_fits g.book g.key text)) (Some BadSegment) (cond (b || same_key g.key book_head) None (Some NoBook)))
      (has_alike g.book e)

  pub edit_alike : (g : Segment) → g.book ≡ book → (text : List ℕ) → edit_op s g text ≡ edit_op t g text
  edit_alike g e text = λ i. unless (fault_alike g e text i) (edit_by (next_alike i) g (ids_alike g e i) text)

  pub edit_over_alike : (g : Segment) → g.book ≡ book → (text : List ℕ) (given : List Id)
      → edit_over_op s g text given ≡ edit_over_op t g text given
  edit_over_alike g e text given = λ i. unless (fault_alike g e text i)
      (unless (option_map NotShown (find (λ id. not (is_among (ids_alike g e i) id)) given))
      (edit_by (next_alike i) g (filter (is_among given) (ids_alike g e i)) text))

  -- ---- imports

  same_book : ShowSame s.held t.held book
  same_book key = shows_alike (segment book key) refl

  keys_alike : keys_of s.held book ≡ keys_of t.held book
  keys_alike = ap (λ (ops : List Operation). rising key_cmp (map (λ o. o.segment.key) ops)) of

  module _ (pieces : List PieceParts) where
    walked_alike : walked_keys s.held book pieces ≡ walked_keys t.held book pieces
    walked_alike = ap (λ keys. rising key_cmp (map head_of keys ++ (keys ++ map (λ p. p.key) pieces))) keys_alike

    due_alike : (key : KeyParts) → is_due s.held book pieces key ≡ is_due t.held book pieces key
    due_alike key = λ i. not (same_bytes (picked_same s.held t.held book same_book key i) (piece_at pieces key))
        || (wants_same s.held t.held book same_book key i && is_some (piece_of pieces key) && not (has_verse pieces key.chapter))

    changes_alike : due_changes s.held book pieces ≡ due_changes t.held book pieces
    changes_alike = λ i. map
        (λ key. record { key = key; text = piece_at pieces key; ids = ids_alike (segment book key) refl i })
        (filter (λ key. due_alike key i) (walked_alike i))

    edits_alike : (n : ℕ) (changes : List ChangeParts) → edits_from n s book changes ≡ edits_from n t book changes
    edits_alike n [] = refl
    edits_alike n (c ∷ changes) = λ i.
        edit_with (record { number = n; name = name i }) (segment book c.key)
        (filter (is_among c.ids) (ids_alike (segment book c.key) refl i)) c.text
        ∷ edits_alike (suc n) changes i

    into_alike : edits_or NumbersUsedUp s book (due_changes s.held book pieces)
        ≡ edits_or NumbersUsedUp t book (due_changes t.held book pieces)
    into_alike =
        ap (edits_or NumbersUsedUp s book) changes_alike
        ∙ ap (λ f. edits_by NumbersUsedUp f s book changes) (first_alike (length changes))
        ∙ by (first_number t.held (length changes))
      where
        changes : List ChangeParts
        changes = due_changes t.held book pieces

        by : (f : Option ℕ) → edits_by NumbersUsedUp f s book changes ≡ edits_by NumbersUsedUp f t book changes
        by None = refl
        by (Some first) = ap Ok (edits_alike first changes)

  -- an import of the book makes the same
  pub import_alike : (file : List ℕ) → book_in file ≡ Ok book → import_ops s file ≡ import_ops t file
  import_alike file e =
      ap (import_into s (pieces_of file)) e ∙ into_alike (pieces_of file) ∙ sym (ap (import_into t (pieces_of file)) e)

-- ---- what is made is new

-- operations rise, and none of their ids is held
pub record AreNew (held new : List Operation) : Type 0 where
  pub rising : rises new ≡ true
  pub apart : AreApart held new

unless_made : {X : Type 0} (fault : Option EditFault) (r : Result X EditFault) (x : X) → unless fault r ≡ Ok x → r ≡ Ok x
unless_made None r x e = e
unless_made (Some fault) r x e = cc e

-- an edit by the next id is new
made_new : (s : State) (g : Segment) (named : List Id) (text : List ℕ) (o : Operation) → edit_by (next_id s) g named text ≡ Ok o
    → AreNew s.held (o ∷ [])
made_new s g named text o = by (first_number s.held 1) refl
  where
    by : (f : Option ℕ) → first_number s.held 1 ≡ f → edit_by (option_map (own_id s) f) g named text ≡ Ok o → AreNew s.held (o ∷ [])
    by None e made = cc made
    by (Some n) e made =
        let is = (is_first s.held 1 n (sym e)).is in
        let same : edit_with (own_id s n) g named text ≡ o = cc made in
        subst (λ (p : Operation). AreNew s.held (p ∷ [])) same
        (record { rising = refl; apart = (beyond s.held (own_id s n) (omega (arith, is)), tt) })

-- an edit over all that is shown is new
pub edit_new : (s : State) (g : Segment) (text : List ℕ) (o : Operation) → edit_op s g text ≡ Ok o → AreNew s.held (o ∷ [])
edit_new s g text o e = made_new s g (shown_ids s.held g) text o (unless_made (edit_fault s.held g text) _ o e)

-- and so is one over given ids
pub edit_over_new : (s : State) (g : Segment) (text : List ℕ) (given : List Id) (o : Operation) → edit_over_op s g text given ≡ Ok o
    → AreNew s.held (o ∷ [])
edit_over_new s g text given o e =
    made_new s g (filter (is_among given) (shown_ids s.held g)) text o
    (unless_made (option_map NotShown (first_not_shown s.held g given)) _ o (unless_made (edit_fault s.held g text) _ o e))

-- and what an import makes
pub import_new : (s : State) (file : List ℕ) (ops : List Operation) → import_ops s file ≡ Ok ops → AreNew s.held ops
import_new s file ops = by (book_in file)
  where
    by : (read : Result (List ℕ) BookFault) → import_into s (pieces_of file) read ≡ Ok ops → AreNew s.held ops
    by (Err fault) made = cc made
    by (Ok book) made = from (first_number s.held (length changes)) refl made
      where
        changes : List ChangeParts
        changes = due_changes s.held book (pieces_of file)

        from : (f : Option ℕ) → first_number s.held (length changes) ≡ f → edits_by NumbersUsedUp f s book changes ≡ Ok ops
            → AreNew s.held ops
        from None e made = cc made
        from (Some n) e made =
            let is = (is_first s.held (length changes) n (sym e)).is in
            let same : edits_from n s book changes ≡ ops = cc made in
            subst (AreNew s.held) same (record {
              rising = edits_rise s book n changes;
              apart = edits_beyond s book s.held n changes (omega (arith, is));
            })
