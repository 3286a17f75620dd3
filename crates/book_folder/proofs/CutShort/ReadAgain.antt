-- Of a file that is read again, nothing comes in by the base that makes the files as they were read.
use Rattle.std.proofs.Common.{◌≡◌, ℕ, Bool, true, false, cond, not, List, inl, inr, map, None, Some, refl, sym, ap, ◌∙◌}
use Rattle.std.specs.Option.{is_some}
use Rattle.std.proofs.lemmas.Bool.{and_parts}
use Rattle.usfm_ref.specs.Books.{same_bytes}
use Rattle.usfm_ref.specs.Keys.{KeyParts, book_head, same_key}
use Rattle.usfm_ref.specs.Segments.{segment}
use Rattle.usfm_ref.specs.declared.segment.Segment.{Segment}
use Rattle.usfm_ref.proofs.Orders.{same_bytes-is}
use Rattle.verse_cut.specs.Joins.{IsJoinOf}
use Rattle.verse_cut.specs.Pieces.{PieceParts, pieces_of}
use Rattle.verse_cut.specs.Reading.{is_empty}
use Rattle.verse_cut.proofs.BookLaws.{books_are_joins}
use Rattle.op_core.specs.CutsBack.{picked_at}
use Rattle.op_core.specs.Export.{export, has_book, of_book}
use Rattle.op_core.specs.Ops.{Operation, in_segment}
use Rattle.op_core.specs.Sets.{clash}
use Rattle.op_core.specs.Shown.{last, text_if_any}
use Rattle.op_core.proofs.Exports.Exported.{picked_own, text_held}
use Rattle.op_core.proofs.FilteredLists.{any_weaker}
use Rattle.replica_state.specs.Imports.{is_due, piece_at, piece_of}
use Rattle.replica_state.specs.States.{State, IsState}
use Rattle.replica_state.proofs.FilePieces.{book_is_code, book_is_headed, head_has_piece}
use Rattle.book_folder.specs.Bases.{stood_text}
use Rattle.book_folder.specs.Files.{FileParts}
use Rattle.book_folder.specs.ReadAgain.{IsTaken, ReadAgainNothingComesIn, pieces_by, read_base}
use Rattle.book_folder.specs.Restored.{in_manner_of, restored_piece}
use Rattle.book_folder.specs.Taking.{StoodParts, has_other}
use Rattle.book_folder.proofs.CutShort.AsReadBase.{shown_as_base, text_as_found}
use Rattle.book_folder.proofs.CutShort.PicksArePieces.{Becomes}
use Rattle.book_folder.proofs.CutShort.RestoredAgain.{again_not_due, again_picked, some_at}
use Rattle.book_folder.proofs.Twice.NothingTaken.{nothing_taken}

module _ (s base : State) (state : IsState s) (from : IsState base) (none : clash s.held base.held ≡ None) (stood : List StoodParts)
    (f : FileParts) (taken : IsTaken s base stood f)
    (manner : in_manner_of (export (read_base stood base s).held f.book) f.bytes ≡ in_manner_of (export base.held f.book) f.bytes) where
  abbrev text : List ℕ
  text = in_manner_of (export base.held f.book) f.bytes

  abbrev now : List Operation
  now = (read_base stood base s).held

  -- the text at each key is the file's, or what the base has
  becomes : (key : KeyParts) → Becomes base.held now f.book (pieces_by base f) key
  becomes key = by (same_bytes (picked_at base.held f.book key) (piece_at (pieces_by base f) key)) refl
    where
      g : Segment
      g = segment f.book key

      by : (b : Bool) → same_bytes (picked_at base.held f.book key) (piece_at (pieces_by base f) key) ≡ b
          → Becomes base.held now f.book (pieces_by base f) key
      by true e =
          let unstood : (o : Operation) → o.segment ≡ g → stood_text stood o ≡ None =
          λ o h. taken.written o key h ∙ ap (λ b. cond (not b) (Some (piece_at (pieces_by base f) key)) None) e in
          inr (
            ap (λ (ops : List Operation). text_if_any (last ops))
                (shown_as_base base.held s.held from.set state.set none stood g unstood),
            same_bytes-is (picked_at base.held f.book key) (piece_at (pieces_by base f) key) e,
            taken.lines key,
          )
      by false e =
          let other : has_other base.held f.book (pieces_by base f) key ≡ true = ap not e in
          let stands : (o : Operation) → o.segment ≡ g → stood_text stood o ≡ Some (piece_at (pieces_by base f) key) =
          λ o h. taken.written o key h ∙ ap (λ b. cond b (Some (piece_at (pieces_by base f) key)) None) other in
          inl (text_as_found base.held s.held from.set state.set none stood g (piece_at (pieces_by base f) key) stands
          (taken.shown key other))

  -- its pieces by the two bases are pieces of one text
  again_is : pieces_by (read_base stood base s) f ≡ map (restored_piece now f.book) (pieces_of text)
  again_is = ap (λ (t : List ℕ). map (restored_piece now f.book) (pieces_of t)) manner

  picks : (key : KeyParts) → piece_at (pieces_by (read_base stood base s) f) key ≡ picked_at now f.book key
  picks key =
      ap (λ (ps : List PieceParts). piece_at ps key) again_is
      ∙ again_picked base.held now f.book text taken.begun becomes key

  not_due : (key : KeyParts) → is_due now f.book (pieces_by (read_base stood base s) f) key ≡ false
  not_due key =
      ap (λ (ps : List PieceParts). is_due now f.book ps key) again_is
      ∙ again_not_due base.held now f.book text taken.begun becomes key

  -- the head of the book has a piece, so the base has the book
  has : has_book now f.book ≡ true
  has =
      any_weaker (in_segment (segment f.book book_head)) (of_book f.book)
      (λ o e. (and_parts (same_bytes o.segment.book f.book) (same_key o.segment.key book_head) e).0) now
      (text_held now (segment f.book book_head) (ap is_empty (sym (picked_own now (segment f.book book_head) refl)) ∙ head))
    where
      joined : IsJoinOf f.book text
      joined = books_are_joins f.book text (book_is_code text f.book taken.begun) (book_is_headed text f.book taken.begun)

      piece : is_some (piece_of (pieces_of text) book_head) ≡ true
      piece = ap is_some (head_has_piece text f.book joined)

      head : is_empty (picked_at now f.book book_head) ≡ false
      head =
          ap is_empty (sym (again_picked base.held now f.book text taken.begun becomes book_head))
          ∙ some_at base.held now f.book text taken.begun now book_head piece

pub read_again_nothing_comes_in : ReadAgainNothingComesIn
read_again_nothing_comes_in s base older wishes stood more f state from none text taken manner unsettled =
    nothing_taken s (read_base stood base s) state.set f (has s base state from none stood f taken manner) text
    (picks s base state from none stood f taken manner) (not_due s base state from none stood f taken manner) older wishes more unsettled
