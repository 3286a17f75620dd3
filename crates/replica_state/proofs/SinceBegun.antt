-- An import since a base is a receiving and then edits over given ids. Where no operation of the book is held, the first edit is
-- that of the book's head, which begins the book.
use Rattle.std.proofs.Common.{◌≡◌, ℕ, Bool, true, false, not, List, [], ◌∷◌, ◌++◌, map, length, codes}
use Rattle.std.proofs.Common.{Some, Ok, refl, sym, ap, subst, ◌∙◌}
use Rattle.std.specs.List.{list_all, list_any}
use Rattle.std.specs.Option.{is_some}
use Rattle.std.specs.Prelude.{if◌then◌else◌}
use Rattle.std.specs.Ordering.{is_lt}
use Rattle.std.proofs.lemmas.Bool.{and_parts, and_from, and_right, or_left, or_right, false≢true, false_from_ne_true}
use Rattle.usfm_ref.specs.Books.{same_bytes}
use Rattle.usfm_ref.specs.Keys.{KeyParts, key_cmp, book_head, same_key}
use Rattle.usfm_ref.specs.Rising.{rises_by}
use Rattle.usfm_ref.specs.Segments.{segment}
use Rattle.usfm_ref.proofs.Orders.{key_total}
use Rattle.usfm_ref.proofs.Sorted.{above_trans, is_less}
use Rattle.verse_cut.specs.Fits.{IsHeaded, byte_order_mark}
use Rattle.verse_cut.specs.Joins.{IsJoinOf}
use Rattle.verse_cut.specs.Keys.{key_below}
use Rattle.verse_cut.specs.Pieces.{PieceParts, pieces_of}
use Rattle.verse_cut.specs.Reading.{book_in}
use Rattle.verse_cut.proofs.BookLaws.{books_are_joins}
use Rattle.verse_cut.proofs.FitLaws.{fits_is_read}
use Rattle.verse_cut.proofs.KeyOrder.{above_book_head}
use Rattle.op_core.specs.Ids.{is_none_left}
use Rattle.op_core.specs.Ops.{Operation, in_segment, own_text}
use Rattle.op_core.specs.Shown.{is_replaced, is_shown, shown, last, greatest, picked_text}
use Rattle.op_core.specs.CutsBack.{picked_at}
use Rattle.op_core.specs.NextIds.{next_number}
use Rattle.op_core.specs.Export.{of_book, has_book}
use Rattle.op_core.proofs.FilteredLists.{filter_none, none_of_less}
use Rattle.op_core.proofs.Sets.Union.{rises-join}
use Rattle.replica_state.specs.States.{State}
use Rattle.replica_state.specs.Receives.{lacked}
use Rattle.replica_state.specs.Imports.{piece_own_text, piece_of, piece_at, is_due, walked_keys}
use Rattle.replica_state.specs.Steps.{Command, Receive, Received, Step, received, step, with_ops}
use Rattle.replica_state.specs.Runs.{after_all, NoneRefused, IsTaken}
use Rattle.replica_state.specs.Changes.{ChangeParts, edits_from}
use Rattle.replica_state.specs.ChangeLaws.{edits_over, begins}
use Rattle.replica_state.specs.Since.{seen_ids, is_changed, changed_keys, since_change, since_changes}
use Rattle.replica_state.specs.SinceLaws.{IsReceivingAndEdits}
use Rattle.replica_state.proofs.Appended.{is_there, not_there}
use Rattle.replica_state.proofs.ChangeRuns.{begins_held, run}
use Rattle.replica_state.proofs.DueKeys.{piece_there, there_kept, walked}
use Rattle.replica_state.proofs.FilePieces.{book_is_code, book_is_headed, head_has_piece, piece_fits}
use Rattle.replica_state.proofs.SinceRuns.{Accepted, accepted, any_received, changed_rise, keys_back, none_wrong}

-- a book without operations shows nothing
pub none_shown : (ops : List Operation) (book : List ℕ) (key : KeyParts) → has_book ops book ≡ false → shown ops (segment book key) ≡ []
none_shown ops book key h =
    let g = segment book key in
    filter_none (is_shown ops g) ops
    (none_of_less (is_shown ops g) (of_book book)
    (λ o e. (and_parts (same_bytes o.segment.book book) (same_key o.segment.key key)
    (and_parts (in_segment g o) (not (is_replaced ops g o.id)) e).0).0) ops h)

-- a text with a book's heading is not empty
pub headed_differs : (book text : List ℕ) → IsHeaded book text → same_bytes [] text ≡ false
headed_differs book text h = ap (same_bytes []) h.begins.text_is ∙ by h.begins.marked
  where
    by : (m : Bool)
        → same_bytes [] ((if m then byte_order_mark else []) ++ (codes "\\id" ++ h.begins.blank ∷ (book ++ h.rest))) ≡ false
    by true = refl
    by false = refl

-- the head of the book, where it is among rising keys, is the first
pub head_begins : (held : List Operation) (book : List ℕ) (f : KeyParts → ChangeParts) → ((key : KeyParts) → (f key).key ≡ key)
    → (keys : List KeyParts) → rises_by key_cmp (λ k. k) keys ≡ true → is_there book_head keys ≡ true → begins held book (map f keys) ≡ true
head_begins held book f of_key [] rise h = refl
head_begins held book f of_key (key ∷ keys) rise h = by (same_key key book_head) refl
  where
    by : (b : Bool) → same_key key book_head ≡ b → begins held book (map f (key ∷ keys)) ≡ true
    by true e = or_right _ _ (ap (λ (k : KeyParts). same_key k book_head) (of_key key) ∙ e)
    by false e =
        let above : key_below book_head key ≡ true = above_book_head key ∙ ap not e in
        let later = (and_parts (list_all (λ k. is_lt (key_cmp key k)) keys) (rises_by key_cmp (λ k. k) keys) rise).0 in
        cc (sym h ∙ not_there book_head (key ∷ keys)
        (and_from _ _ above (above_trans key_cmp key_total (λ k. k) book_head key keys (is_less _ above) later)))

module _ (held base : List Operation) (file book : List ℕ) (named : book_in file ≡ Ok book) where
  abbrev pieces : List PieceParts
  pieces = pieces_of file

  abbrev keys : List KeyParts
  keys = changed_keys held base book pieces

  joined : IsJoinOf book file
  joined = books_are_joins book file (book_is_code file book named) (book_is_headed file book named)

  piece : piece_of pieces book_head ≡ Some (record { key = book_head; start = 0; text = joined.head })
  piece = head_has_piece file book joined

  -- of a book that neither has, the head is changed
  head_changed : has_book held book ≡ false → has_book base book ≡ false → is_changed held base book pieces book_head ≡ true
  head_changed none nor = and_from _ _ due (ap not (and_right (is_none_left (seen_ids held base (segment book book_head))) _ unshown))
    where
      differs : same_bytes (picked_at base book book_head) (piece_at pieces book_head) ≡ false
      differs =
          (λ i. same_bytes (picked_text (greatest (last (none_shown base book book_head nor i)))) (piece_own_text (piece i)))
          ∙ headed_differs book joined.head joined.head_fits.0

      due : is_due base book pieces book_head ≡ true
      due = or_left _ _ (ap not differs)

      unshown : list_any (λ o. same_bytes (own_text o) (piece_at pieces book_head)) (shown held (segment book book_head)) ≡ false
      unshown = ap (list_any (λ (o : Operation). same_bytes (own_text o) (piece_at pieces book_head)))
          (none_shown held book book_head none)

  -- so the edits begin the book, where what is held has the book if the base does
  pub begun : (has_book base book ≡ true → has_book held book ≡ true) → begins held book (since_changes held base book pieces) ≡ true
  begun also = by (has_book held book) refl
    where
      by : (b : Bool) → has_book held book ≡ b → begins held book (since_changes held base book pieces) ≡ true
      by true e = begins_held held book (since_changes held base book pieces) e
      by false e =
          let nor : has_book base book ≡ false = false_from_ne_true _ (λ f. false≢true (sym e ∙ also f)) in
          head_begins held book (since_change held base book pieces) (λ key. refl) keys (changed_rise held base book pieces)
          (there_kept (is_changed held base book pieces) book_head (walked_keys held book pieces) (head_changed e nor)
          (walked held book pieces book_head (or_right _ _ (piece_there held book pieces book_head pieces (ap is_some piece)))))

pub is_receiving_and_edits : IsReceivingAndEdits
is_receiving_and_edits s base file book count state set named answered = (
  (subst (λ (x : Step). IsTaken x.reply) (sym first) refl, subst (λ (x : Step). NoneRefused x.after later) (sym first) all.0),
  ap (λ (x : Step). after_all x.after later) first ∙ all.1 ∙ sym taken.is,
)
  where
    t : State
    t = with_ops s base

    changes : List ChangeParts
    changes = since_changes t.held base book (pieces_of file)

    later : List Command
    later = edits_over book changes

    taken : Accepted s base file book
    taken = accepted s base file book count named answered

    first : step s (Receive base) ≡ record { after = t; reply = Received (Ok (length (lacked s.held base))) }
    first = ap (received s base) taken.none

    all : NoneRefused t later × (after_all t later ≡ with_ops t (edits_from (next_number t.held) t book changes))
    all =
        run t book changes t (next_number t.held) refl (rises-join s.held base state.set.rising) refl taken.room
        (ap (rises_by key_cmp (λ k. k)) (keys_back t.held base book (pieces_of file) (changed_keys t.held base book (pieces_of file)))
        ∙ changed_rise t.held base book (pieces_of file))
        (begun t.held base file book named
        (any_received s.held base (λ g. same_bytes g.book book) state.set.rising set.rising taken.none))
        (none_wrong t.held base book (pieces_of file)
        (λ key. (fits_is_read book key _).1 (piece_fits book file key (book_is_code file book named) (book_is_headed file book named)))
        (changed_keys t.held base book (pieces_of file)))
        (λ q h. refl)
