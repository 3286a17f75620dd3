-- The keys that an import edits are among those that it walks.
use Rattle.std.proofs.Common.{◌≡◌, ℕ, Bool, true, false, not, cond, ◌&&◌, ◌||◌, List, []}
use Rattle.std.proofs.Common.{◌∷◌, ◌++◌, map, filter, Option, None, Some, refl, sym, ap, ◌∙◌}
use Rattle.std.specs.List.{list_any, flat_map}
use Rattle.std.specs.Option.{is_some}
use Rattle.std.specs.Ordering.{is_eq}
use Rattle.std.proofs.lemmas.List.Folds.{list_any-append}
use Rattle.std.proofs.lemmas.Bool.{or_left, or_right}
use Rattle.usfm_ref.specs.Books.{same_bytes}
use Rattle.usfm_ref.specs.Keys.{KeyParts, key_cmp, head_of, same_key}
use Rattle.usfm_ref.specs.Rising.{rises_by}
use Rattle.usfm_ref.specs.Segments.{segment}
use Rattle.usfm_ref.proofs.Members.{tested_rising}
use Rattle.usfm_ref.proofs.Orders.{key_total, key_exact}
use Rattle.usfm_ref.proofs.Sorted.{rises_filter, rises-rising}
use Rattle.verse_cut.specs.Pieces.{PieceParts}
use Rattle.verse_cut.specs.Reading.{is_empty}
use Rattle.op_core.specs.Ops.{Operation}
use Rattle.op_core.specs.Shown.{wants_chapter_line}
use Rattle.op_core.specs.Export.{keys_in, exported_keys}
use Rattle.op_core.specs.CutsBack.{picked_at}
use Rattle.op_core.specs.Lists.{keys_of}
use Rattle.op_core.proofs.Exports.Exported.{any-rising, picks_are_exported}
use Rattle.op_core.proofs.FilteredLists.{any_map}
use Rattle.replica_state.specs.Imports.{piece_own_text, piece_of, is_due, walked_keys, due_keys, has_verse}
use Rattle.replica_state.proofs.Appended.{is_there, key_is}
use Rattle.replica_state.proofs.KeyLists.{same_key-cmp}

-- a key that passes a test is among the keys that do
pub there_kept : (p : KeyParts → Bool) (q : KeyParts) (ks : List KeyParts) → p q ≡ true → is_there q ks ≡ true
    → is_there q (filter p ks) ≡ true
there_kept p q [] t h = h
there_kept p q (k ∷ ks) t h = by (λ g. there_kept p q ks t g) (is_eq (key_cmp q k)) refl (p k) refl h
  where
    by : (is_there q ks ≡ true → is_there q (filter p ks) ≡ true) → (b : Bool) → is_eq (key_cmp q k) ≡ b → (c : Bool) → p k ≡ c
        → (b || is_there q ks) ≡ true → is_there q (cond c (k ∷ filter p ks) (filter p ks)) ≡ true
    by rest true e true f h = or_left _ _ e
    by rest true e false f h = cc (sym f ∙ ap p (sym (key_is q k e)) ∙ t)
    by rest false e true f h = or_right _ _ (rest h)
    by rest false e false f h = rest h

module _ (held : List Operation) (book : List ℕ) (pieces : List PieceParts) where
  pub due_rise : rises_by key_cmp (λ k. k) (due_keys held book pieces) ≡ true
  due_rise = rises_filter key_cmp key_total (λ k. k) (is_due held book pieces) (walked_keys held book pieces)
      (rises-rising key_cmp key_total (map head_of (keys_of held book) ++ (keys_of held book ++ map (λ p. p.key) pieces)))

  -- a key that has a piece is among those of the pieces
  pub piece_there : (q : KeyParts) (ps : List PieceParts) → is_some (piece_of ps q) ≡ true → is_there q (map (λ p. p.key) ps) ≡ true
  piece_there q [] h = cc h
  piece_there q (p ∷ ps) h = by (λ g. piece_there q ps g) (is_eq (key_cmp q p.key)) h
    where
      by : (is_some (piece_of ps q) ≡ true → is_there q (map (λ p. p.key) ps) ≡ true) → (b : Bool)
          → is_some (cond b (Some p) (piece_of ps q)) ≡ true → (b || is_there q (map (λ p. p.key) ps)) ≡ true
      by rest true h = refl
      by rest false h = rest h

  pub heads_map : (q : KeyParts) (ks : List KeyParts) → is_there q (map head_of ks) ≡ list_any (λ k. is_eq (key_cmp q (head_of k))) ks
  heads_map q ks = any_map (λ k. is_eq (key_cmp q k)) head_of ks

  flat_there : (q : KeyParts) (ks : List KeyParts)
      → is_there q (flat_map (λ key. head_of key ∷ key ∷ []) ks) ≡ (list_any (λ k. is_eq (key_cmp q (head_of k))) ks || is_there q ks)
  flat_there q [] = refl
  flat_there q (k ∷ ks) =
      ap (λ b. is_eq (key_cmp q (head_of k)) || (is_eq (key_cmp q k) || b)) (flat_there q ks)
      ∙ four (is_eq (key_cmp q (head_of k))) (is_eq (key_cmp q k)) (list_any (λ k. is_eq (key_cmp q (head_of k))) ks) (is_there q ks)
    where
      four : (a b c d : Bool) → (a || (b || (c || d))) ≡ ((a || c) || (b || d))
      four true b c d = refl
      four false true true d = refl
      four false true false d = refl
      four false false c d = refl

  exported_there : (q : KeyParts) → list_any (same_key q) (exported_keys held book) ≡ true
      → (is_there q (map head_of (keys_of held book)) || is_there q (keys_of held book)) ≡ true
  exported_there q h =
      (λ i. heads_map q (keys_of held book) i || any-rising (λ k. is_eq (key_cmp q k)) (keys_in held book) i)
      ∙ ap (λ b. b || is_there q (keys_in held book)) (any-rising (λ k. is_eq (key_cmp q (head_of k))) (keys_in held book))
      ∙ sym (flat_there q (keys_in held book))
      ∙ sym (any-rising (λ k. is_eq (key_cmp q k)) (flat_map (λ key. head_of key ∷ key ∷ []) (keys_in held book)))
      ∙ (λ i. list_any (λ k. sym (same_key-cmp q k) i) (exported_keys held book))
      ∙ h

  pub walked : (q : KeyParts) → ((is_there q (map head_of (keys_of held book)) || is_there q (keys_of held book))
      || is_there q (map (λ p. p.key) pieces)) ≡ true → is_there q (walked_keys held book pieces) ≡ true
  walked q h =
      tested_rising key_cmp key_total key_exact q (map head_of (keys_of held book) ++ (keys_of held book ++ map (λ p. p.key) pieces))
      ∙ list_any-append (λ k. is_eq (key_cmp q k)) (map head_of (keys_of held book)) (keys_of held book ++ map (λ p. p.key) pieces)
      ∙ ap (λ b. is_there q (map head_of (keys_of held book)) || b)
      (list_any-append (λ k. is_eq (key_cmp q k)) (keys_of held book) (map (λ p. p.key) pieces))
      ∙ regroup (is_there q (map head_of (keys_of held book))) (is_there q (keys_of held book)) (is_there q (map (λ p. p.key) pieces))
      ∙ h
    where
      regroup : (a b c : Bool) → (a || (b || c)) ≡ ((a || b) || c)
      regroup true b c = refl
      regroup false b c = refl

  -- a key that is due has a picked text that is not empty, or a piece
  pub due_among : (q : KeyParts) → is_due held book pieces q ≡ true
      → ((is_there q (map head_of (keys_of held book)) || is_there q (keys_of held book)) || is_there q (map (λ p. p.key) pieces)) ≡ true
  due_among q h = by (is_empty (picked_at held book q)) refl
    where
      none : (t : List ℕ) → is_empty t ≡ true → (o : Option PieceParts)
          → (not (same_bytes t (piece_own_text o))
          || ((wants_chapter_line held (segment book q) && is_some o) && not (has_verse pieces q.chapter))) ≡ true → is_some o ≡ true
      none [] e (Some p) d = refl
      none [] e None d = last (wants_chapter_line held (segment book q)) d
        where
          last : (w : Bool) → ((w && false) && not (has_verse pieces q.chapter)) ≡ true → false ≡ true
          last true d = d
          last false d = d
      none (b ∷ bs) e o d = absurd (cc)

      by : (e : Bool) → is_empty (picked_at held book q) ≡ e
          → ((is_there q (map head_of (keys_of held book)) || is_there q (keys_of held book)) || is_there q (map (λ p. p.key) pieces))
          ≡ true
      by true e = or_right _ _ (piece_there q pieces (none (picked_at held book q) e (piece_of pieces q) h))
      by false e = or_left _ _ (exported_there q (picks_are_exported held book q e))

  due_walked : (q : KeyParts) → is_due held book pieces q ≡ true → is_there q (walked_keys held book pieces) ≡ true
  due_walked q h = walked q (due_among q h)

  -- a key without an edit is not due
  pub not_due : (q : KeyParts) → is_there q (due_keys held book pieces) ≡ false → is_due held book pieces q ≡ false
  not_due q h = by (is_due held book pieces q) refl
    where
      by : (b : Bool) → is_due held book pieces q ≡ b → is_due held book pieces q ≡ false
      by true e = cc (sym h ∙ there_kept (is_due held book pieces) q (walked_keys held book pieces) e (due_walked q e))
      by false e = e
