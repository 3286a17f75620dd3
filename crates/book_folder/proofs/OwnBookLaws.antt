-- What comes in of a file hangs on what its base has of the file's own book.
use Rattle.std.proofs.Common.{◌≡◌, ℕ, cond, not, ◌||◌, ◌&&◌, List, [], ◌∷◌, ◌++◌, map, filter, Option, Some, None, refl, sym, ap, ◌∙◌}
use Rattle.std.specs.List.{flat_map}
use Rattle.std.specs.Option.{is_some, option_or}
use Rattle.usfm_ref.specs.Books.{same_bytes}
use Rattle.usfm_ref.specs.Keys.{KeyParts, key_cmp}
use Rattle.usfm_ref.specs.Rising.{rising}
use Rattle.usfm_ref.specs.Segments.{segment}
use Rattle.verse_cut.specs.Pieces.{PieceParts, pieces_of}
use Rattle.op_core.specs.Export.{export, has_book}
use Rattle.op_core.specs.Ids.{Id, is_none_left}
use Rattle.op_core.specs.Lists.{ids_of, keys_of, shown_ids}
use Rattle.op_core.specs.NextIds.{is_among}
use Rattle.op_core.specs.OneBook.{ops_of_book}
use Rattle.op_core.specs.Ops.{Operation, own_text}
use Rattle.op_core.specs.Shown.{is_empty, last, pick, picked_text, shown, text_if_any}
use Rattle.op_core.proofs.Exports.ByShown.{ShowSame, pick_same, wants_same}
use Rattle.op_core.proofs.Exports.OneBook.{export_same, has_book_same, shown_same}
use Rattle.replica_state.specs.Changes.{changes_ops}
use Rattle.replica_state.specs.Imports.{has_verse, piece_at, piece_of, walked_keys}
use Rattle.replica_state.specs.Since.{is_changed, seen_ids, shows_text}
use Rattle.replica_state.specs.States.{State}
use Rattle.replica_state.specs.Steps.{edited_all}
use Rattle.book_folder.specs.Asks.{emptied, has_text_of, if_any, if_several, is_new_of_another, undone, undone_since}
use Rattle.book_folder.specs.Begun.{differ, is_in_conflict}
use Rattle.book_folder.specs.Bridges.{is_covered}
use Rattle.book_folder.specs.Files.{FileParts}
use Rattle.book_folder.specs.OwnBooks.{OtherBooksSayNothing}
use Rattle.book_folder.specs.Refusals.{◌>>=◌}
use Rattle.book_folder.specs.Restored.{coming_pieces, in_manner_of, restored_by}
use Rattle.book_folder.specs.Taking.{StoodParts, asked, change_at, change_by, file_changes, is_wanted, listed, settling_ids, stood_at, stood_of, taken, taken_changed, taken_in, taken_strange, text_or, unless_asked}
use Rattle.book_folder.specs.Wanted.{WantedParts, WishParts}
use Rattle.book_folder.specs.declared.refusal.Place.TheVariants as places

module _ (b c : List Operation) (book : List ℕ) (of : ops_of_book b book ≡ ops_of_book c book) where
  shows : ShowSame b c book
  shows key =
      sym (shown_same b book (segment book key) refl) ∙ ap (λ (ops : List Operation). shown ops (segment book key)) of
      ∙ shown_same c book (segment book key) refl

  picks : (key : KeyParts) → pick b (segment book key) ≡ pick c (segment book key)
  picks key = pick_same b c book shows key

  keys : keys_of b book ≡ keys_of c book
  keys = ap (λ (ops : List Operation). rising key_cmp (map (λ o. o.segment.key) ops)) of

  has : has_book b book ≡ has_book c book
  has = sym (has_book_same b book) ∙ ap (λ (ops : List Operation). has_book ops book) of ∙ has_book_same c book

  exports : export b book ≡ export c book
  exports = sym (export_same b book) ∙ ap (λ (ops : List Operation). export ops book) of ∙ export_same c book

  -- the pieces of a file, as the base has them
  pieces_same : (text : List ℕ) → coming_pieces b book text ≡ coming_pieces c book text
  pieces_same text = λ i. map
      (λ p. record { key = p.key; start = p.start; text = restored_by (picks p.key i) p.text })
      (pieces_of (in_manner_of (exports i) text))

  module _ (pieces : List PieceParts) where
    -- ---- what is asked

    emptied_same : emptied b book pieces ≡ emptied c book pieces
    emptied_same = λ i. if_several
        (filter (λ key. is_empty (piece_at pieces key) && not (is_empty (picked_text (picks key i))) && not (is_covered pieces key))
        (keys i))

    module _ (own : List ℕ) where
      since_same : (older : List Operation) → undone_since older b own book pieces ≡ undone_since older c own book pieces
      unfolding undone_since
      since_same older = λ i. cond (has_book older book) (if_any
          (filter (λ key. is_new_of_another older own book key (picks key i) && has_text_of older book pieces key) (keys i))) None

      undone_same : (older : List State) → undone older b own book pieces ≡ undone older c own book pieces
      undone_same [] = refl
      undone_same (old ∷ rest) = λ i. option_or (since_same old.held i) (undone_same rest i)

    -- ---- what is changed

    module _ (held : List Operation) where
      settling_same : (wanted : List WantedParts) (key : KeyParts)
          → settling_ids held b wanted book key ≡ settling_ids held c wanted book key
      settling_same wanted key = λ i. cond
          (is_wanted wanted book key && differ (shows key i) && is_in_conflict held (segment book key)
          && not (is_none_left (filter (is_among (shown_ids held (segment book key))) (ids_of (shows key i)))))
          (Some (filter (is_among (shown_ids held (segment book key))) (ids_of (shows key i)))) None

      seen_same : (key : KeyParts) → seen_ids held b (segment book key) ≡ seen_ids held c (segment book key)
      seen_same key = λ i. filter
          (is_among (ids_of (filter (λ o. same_bytes (own_text o) (text_if_any (last (shows key i)))) (shows key i))))
          (shown_ids held (segment book key))

      changed_same : (key : KeyParts) → is_changed held b book pieces key ≡ is_changed held c book pieces key
      changed_same key = λ i.
          (not (same_bytes (picked_text (picks key i)) (piece_at pieces key))
          || (wants_same b c book shows key i && is_some (piece_of pieces key) && not (has_verse pieces key.chapter)))
          && not (is_none_left (seen_same key i) && shows_text held (segment book key) (piece_at pieces key))

      change_same : (wanted : List WantedParts) (key : KeyParts)
          → change_at held b wanted book pieces key ≡ change_at held c wanted book pieces key
      unfolding change_at
      change_same wanted key =
          ap (λ ids. change_by ids held b book pieces key) (settling_same wanted key) ∙ by (settling_ids held c wanted book key)
        where
          by : (ids : Option (List Id)) → change_by ids held b book pieces key ≡ change_by ids held c book pieces key
          by (Some ids) = refl
          by None = λ i. cond (changed_same key i)
              (Some (record { key = key; text = piece_at pieces key; ids = seen_same key i })) None

      changes_same : (wanted : List WantedParts) → file_changes held b wanted book pieces ≡ file_changes held c wanted book pieces
      changes_same wanted = λ i. flat_map (λ key. listed (change_same wanted key i)) (walked_keys held book pieces)

      stood_same : stood_of held b book pieces ≡ stood_of held c book pieces
      stood_same = λ i. map (stood_at book pieces)
          (filter (λ key. not (same_bytes (picked_text (picks key i)) (piece_at pieces key))) (walked_keys held book pieces))

module _ (s base other : State) (older : List State) (wishes : WishParts) (stood : List StoodParts) (f : FileParts)
    (of : ops_of_book base.held f.book ≡ ops_of_book other.held f.book) where
  taken_same : (pieces : List PieceParts)
      → taken_changed s base older wishes stood f pieces ≡ taken_changed s other older wishes stood f pieces
  unfolding taken_changed
  taken_same pieces = λ i. unless_asked (places.File f.at)
      (asked wishes (undone_same base.held other.held f.book of pieces s.name older i)
      (emptied_same base.held other.held f.book of pieces i))
      (taken (places.File f.at) (stood ++ stood_same base.held other.held f.book of pieces s.held i)
      (edited_all s s (changes_ops s f.book (changes_same base.held other.held f.book of pieces s.held wishes.settled i))))

  in_same : taken_in s base older wishes stood f ≡ taken_in s other older wishes stood f
  unfolding taken_in
  in_same = λ i. text_or (places.File f.at) f.bytes >>= λ text.
      cond (has base.held other.held f.book of i) (both text i) (taken_strange s stood f)
    where
      both : (text : List ℕ) → taken_changed s base older wishes stood f (coming_pieces base.held f.book text)
          ≡ taken_changed s other older wishes stood f (coming_pieces other.held f.book text)
      both text =
          ap (taken_changed s base older wishes stood f) (pieces_same base.held other.held f.book of text)
          ∙ taken_same (coming_pieces other.held f.book text)

pub other_books_say_nothing : OtherBooksSayNothing
other_books_say_nothing s base other older wishes stood f of = in_same s base other older wishes stood f of
