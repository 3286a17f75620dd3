-- The edits of changes whose keys are within their ranges, and whose texts are UTF-8, are operations; and the changes of files are such.
use Rattle.std.proofs.Common.{◌≡◌, ◌<◌, ◌≤◌, ◌+◌, ℕ, suc, Bool, true, false, cond, List, [], ◌∷◌, map, filter, length, IsUtf8, Option, Some, None, refl, sym, ap, subst, ◌∙◌, arith}
use Rattle.std.specs.List.{AllByRecursion, flat_map, list_all}
use Rattle.std.proofs.lemmas.Bool.{and_from, and_parts, le-leb}
use Rattle.usfm_ref.specs.Books.{is_book_code}
use Rattle.usfm_ref.specs.Keys.{KeyParts, is_key}
use Rattle.usfm_ref.specs.Segments.{segment}
use Rattle.usfm_ref.proofs.Orders.{same_bytes-is}
use Rattle.verse_cut.specs.Fits.{Fits}
use Rattle.verse_cut.specs.Pieces.{PieceParts}
use Rattle.op_core.specs.Export.{has_book, of_book}
use Rattle.op_core.specs.Ids.{is_id}
use Rattle.op_core.specs.Lists.{ids_of, shown_ids}
use Rattle.op_core.specs.NextIds.{greatest_number, is_among}
use Rattle.op_core.specs.Ops.{Operation, IsOperation}
use Rattle.op_core.specs.Shown.{is_shown, shown}
use Rattle.op_core.proofs.Exports.Exported.{found_of}
use Rattle.op_core.proofs.FilteredLists.{kept_each}
use Rattle.replica_state.specs.Changes.{ChangeParts, edits_from}
use Rattle.replica_state.specs.Imports.{due_change}
use Rattle.replica_state.specs.Since.{is_changed, since_change}
use Rattle.replica_state.specs.States.{State, IsState}
use Rattle.replica_state.proofs.Changes.{given_fall}
use Rattle.replica_state.proofs.World.PieceRanges.{IsKey}
use Rattle.replica_state.proofs.World.Sets.{AreKeys, text_at}
use Rattle.book_folder.specs.Taking.{change_at, listed, settles, settling_change}
use Rattle.book_folder.specs.Wanted.{WantedParts}
use Rattle.book_folder.proofs.ChangeAt.{change_at_is}
use Rattle.book_folder.proofs.Schedules.PieceTexts.{AreTexts}
use Rattle.book_folder.proofs.Schedules.Reached.{all_both}

-- a change of a key within its ranges to a text that is UTF-8
pub record IsRight (c : ChangeParts) : Type 0 where
  pub key : IsKey c.key
  pub text : IsUtf8 c.text

-- ---- edits

all_kept : {X : Type 0} (p q : X → Bool) (xs : List X) → list_all p xs ≡ true → list_all p (filter q xs) ≡ true
all_kept p q [] h = refl
all_kept {X} p q (x ∷ xs) h = by (all_kept p q xs both.1) (q x)
  where
    both : (p x ≡ true) × (list_all p xs ≡ true)
    both = and_parts (p x) (list_all p xs) h

    by : list_all p (filter q xs) ≡ true → (b : Bool) → list_all p (cond b (x ∷ filter q xs) (filter q xs)) ≡ true
    by rest true = and_from _ _ both.0 rest
    by rest false = rest

ids_right : (ops : List Operation) → AllByRecursion IsOperation ops → list_all is_id (ids_of ops) ≡ true
ids_right [] h = refl
ids_right (o ∷ ops) h = and_from _ _ h.0.id (ids_right ops h.1)

module _ (t : State) (state : IsState t) (book : List ℕ) (code : is_book_code book ≡ true) where
  -- each edit is an operation
  pub edits_are : (n : ℕ) (changes : List ChangeParts) → greatest_number t.held < n → n + length changes ≤ 1000000000000001
      → AllByRecursion IsRight changes → AllByRecursion (λ (c : ChangeParts). Fits book c.key c.text) changes
      → AllByRecursion IsOperation (edits_from n t book changes)
  edits_are n [] above room right fits = tt
  edits_are n (c ∷ changes) above room right fits =
      let g = segment book c.key in
      let shown_right = ids_right (shown t.held g) (kept_each IsOperation (is_shown t.held g) t.held state.set.each) in (
        record {
          id = and_from _ _ (and_from _ _ (le-leb 1 n (omega (arith, above))) (le-leb n 1000000000000000 (omega (arith, room)))) state.name;
          segment = and_from (is_book_code book) (is_key c.key.chapter c.key.place) code right.0.key;
          ids = all_kept is_id (is_among c.ids) (shown_ids t.held g) shown_right;
          falls = given_fall t.held g c.ids (record { number = n; name = t.name }) state.set.rising above;
          text = record { utf8 = right.0.text; fits = fits.0 };
        },
        edits_are (suc n) changes (omega (arith, above)) (omega (arith, room)) right.1 fits.1,
      )

-- ---- changes

-- the book of an operation is a book's code
pub code_of_book : (ops : List Operation) (book : List ℕ) → AllByRecursion IsOperation ops → has_book ops book ≡ true
    → is_book_code book ≡ true
code_of_book ops book each has =
    let one = found_of IsOperation (of_book book) ops each has in
    ap is_book_code (sym (same_bytes-is one.0.segment.book book one.2))
    ∙ (and_parts (is_book_code one.0.segment.book) (is_key one.0.segment.key.chapter one.0.segment.key.place) one.1.segment).0

module _ (pieces : List PieceParts) (texts : AreTexts pieces) where
  -- the changes of an import are right
  pub due_right : (held : List Operation) (book : List ℕ) (keys : List KeyParts) → AreKeys keys
      → AllByRecursion IsRight (map (due_change held book pieces) keys)
  due_right held book [] h = tt
  due_right held book (key ∷ keys) h = (record { key = h.0; text = text_at pieces key texts }, due_right held book keys h.1)

  module _ (held base : List Operation) (wanted : List WantedParts) (book : List ℕ) where
    one_right : (key : KeyParts) → IsKey key → (c : ChangeParts) → change_at held base wanted book pieces key ≡ Some c → IsRight c
    one_right key is c e = by (settles held base wanted book key) (is_changed held base book pieces key)
        (sym (change_at_is held base wanted book pieces key) ∙ e)
      where
        by : (t u : Bool) → cond t (Some (settling_change held base book pieces key))
            (cond u (Some (since_change held base book pieces key)) None) ≡ Some c → IsRight c
        by true u e =
            let same : settling_change held base book pieces key ≡ c = cc e in
            subst IsRight same (record { key = is; text = text_at pieces key texts })
        by false true e =
            let same : since_change held base book pieces key ≡ c = cc e in
            subst IsRight same (record { key = is; text = text_at pieces key texts })
        by false false e = cc e

    -- and so are those of a file
    pub changes_right : (keys : List KeyParts) → AreKeys keys
        → AllByRecursion IsRight (flat_map (λ key. listed (change_at held base wanted book pieces key)) keys)
    changes_right [] h = tt
    changes_right (key ∷ keys) h =
        all_both IsRight (listed (change_at held base wanted book pieces key)) _
        (by (change_at held base wanted book pieces key) refl) (changes_right keys h.1)
      where
        by : (c : Option ChangeParts) → change_at held base wanted book pieces key ≡ c → AllByRecursion IsRight (listed c)
        by None e = tt
        by (Some c) e = (one_right key h.0 c e, tt)
