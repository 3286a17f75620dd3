-- What is written down of files beside their base, looked up for an operation's segment.
use Rattle.std.proofs.Common.{◌≡◌, ℕ, Bool, true, false, cond, ◌&&◌, ◌||◌, List, [], ◌∷◌, ◌++◌, map, filter, Option, None, Some, option_map, refl, sym, ap, ◌∙◌}
use Rattle.std.specs.Cmp.{tied_itself}
use Rattle.std.specs.List.{find}
use Rattle.std.specs.Option.{option_or}
use Rattle.std.specs.Ordering.{is_eq}
use Rattle.std.proofs.lemmas.Bool.{and_from, and_right, false_from_ne_true, false≢true}
use Rattle.std.proofs.lemmas.List.Folds.{find-append}
use Rattle.usfm_ref.specs.Books.{same_bytes}
use Rattle.usfm_ref.specs.Keys.{KeyParts, key_cmp, same_key}
use Rattle.usfm_ref.specs.Segments.{segment}
use Rattle.usfm_ref.specs.declared.segment.Segment.{Segment}
use Rattle.usfm_ref.proofs.Orders.{key_total, same_bytes-refl, same_key-is, same_key-refl}
use Rattle.verse_cut.specs.Pieces.{PieceParts}
use Rattle.op_core.specs.Ops.{Operation}
use Rattle.replica_state.specs.Imports.{piece_at}
use Rattle.replica_state.proofs.Appended.{is_there, key_is}
use Rattle.book_folder.specs.Taking.{StoodParts, has_other, stood_at}

abbrev is_of : Segment → StoodParts → Bool
is_of g s = same_bytes s.book g.book && same_key s.key g.key

-- the text that is written down for a segment
abbrev pub text_in : List StoodParts → Segment → Option (List ℕ)
text_in stood g = option_map (λ (s : StoodParts). s.text) (find (is_of g) stood)

-- what is written down of two lists is that of the first, or of the second
pub in_both : (xs ys : List StoodParts) (g : Segment) → text_in (xs ++ ys) g ≡ option_or (text_in xs g) (text_in ys g)
in_both xs ys g = ap (option_map (λ (s : StoodParts). s.text)) (find-append (is_of g) xs ys) ∙ by (find (is_of g) xs)
  where
    by : (r : Option StoodParts) → option_map (λ (s : StoodParts). s.text) (option_or r (find (is_of g) ys))
        ≡ option_or (option_map (λ (s : StoodParts). s.text) r) (text_in ys g)
    by None = refl
    by (Some s) = refl

module _ (book : List ℕ) (pieces : List PieceParts) where
  -- of another book nothing is written down
  pub of_other_book : (g : Segment) → same_bytes book g.book ≡ false → (keys : List KeyParts)
      → text_in (map (stood_at book pieces) keys) g ≡ None
  of_other_book g h [] = refl
  of_other_book g h (k ∷ keys) =
      ap (λ b. option_map (λ (s : StoodParts). s.text)
      (cond (b && same_key k g.key) (Some (stood_at book pieces k)) (find (is_of g) (map (stood_at book pieces) keys)))) h
      ∙ of_other_book g h keys

  module _ (base : List Operation) (key : KeyParts) where
    abbrev other : KeyParts → Bool
    other k = has_other base book pieces k

    abbrev in_keys : List KeyParts → Option (List ℕ)
    in_keys keys = text_in (map (stood_at book pieces) (filter other keys)) (segment book key)

    abbrev piece_if : Bool → Option (List ℕ)
    piece_if b = cond b (Some (piece_at pieces key)) None

    -- of a key the file's piece is written down, where it is another text than the base picks
    pub of_own_book : (keys : List KeyParts) → in_keys keys ≡ piece_if (other key && is_there key keys)
    of_own_book [] = ap piece_if (sym (and_right (other key) false refl))
    of_own_book (k ∷ keys) = by (other k) refl (is_eq (key_cmp key k)) refl (of_own_book keys)
      where
        -- a key that comes elsewhere in the order is another one
        other_key : (j : KeyParts) → is_eq (key_cmp key j) ≡ false → same_key j key ≡ false
        other_key j f = false_from_ne_true _ (λ t.
            false≢true (sym f ∙ ap (λ (i : KeyParts). is_eq (key_cmp key i)) (same_key-is j key t)
            ∙ ap is_eq (tied_itself key_total key)))

        by : (b : Bool) → other k ≡ b → (c : Bool) → is_eq (key_cmp key k) ≡ c
            → in_keys keys ≡ piece_if (other key && is_there key keys)
            → text_in (map (stood_at book pieces) (cond b (k ∷ filter other keys) (filter other keys))) (segment book key)
            ≡ piece_if (other key && (c || is_there key keys))
        by false e false f rest = rest
        by false e true f rest =
            let no : other key ≡ false = ap other (key_is key k f) ∙ e in
            rest ∙ ap (λ b. piece_if (b && is_there key keys)) no ∙ sym (ap (λ b. piece_if (b && true)) no)
        by true e false f rest =
            ap (λ b. option_map (λ (s : StoodParts). s.text)
            (cond b (Some (stood_at book pieces k)) (find (is_of (segment book key)) (map (stood_at book pieces) (filter other keys)))))
            (and_right (same_bytes book book) (same_key k key) (other_key k f)) ∙ rest
        by true e true f rest =
            let is : key ≡ k = key_is key k f in
            ap (λ b. option_map (λ (s : StoodParts). s.text)
            (cond b (Some (stood_at book pieces k)) (find (is_of (segment book key)) (map (stood_at book pieces) (filter other keys)))))
            (and_from _ _ (same_bytes-refl book) (ap (λ (j : KeyParts). same_key j key) (sym is) ∙ same_key-refl key))
            ∙ ap (λ (j : KeyParts). Some (piece_at pieces j)) (sym is)
            ∙ sym (ap piece_if (and_from (other key) true (ap other is ∙ e) refl))
