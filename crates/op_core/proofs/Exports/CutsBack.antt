-- The export of a book cuts back into its picked texts.
use Rattle.std.proofs.Common.{◌≡◌, ℕ, ◌<◌, Bool, true, false, not, cond, ◌&&◌, ◌||◌, List, [], ◌∷◌, ◌++◌, IsUtf8, map, filter, refl, sym, ap, subst, ◌∙◌, inl, ⊎_elim, arith}
use Rattle.std.proofs.lemmas.Bool.{and_parts, and_from, cond-true, cond-false, ne_eqb}
use Rattle.std.proofs.lemmas.List.{get_or-map, length-map}
use Rattle.std.proofs.lemmas.List.Elements.{All-nil, All-cons, All-map}
use Rattle.std.proofs.lemmas.Map.Views.{Contains-from_any}
use Rattle.std.proofs.lemmas.Str.{IsUtf8-append, IsUtf8-nil}
use Rattle.std.specs.List.{All, Contains, list_all, list_any, flat_map}
use Rattle.usfm_ref.specs.Keys.{KeyParts, key_cmp, book_head, head_of, is_head, same_key}
use Rattle.usfm_ref.specs.Rising.{rises_by}
use Rattle.usfm_ref.proofs.Orders.{key_total, same_key-is}
use Rattle.usfm_ref.proofs.Sorted.{above_trans, is_less, rises_filter, rises-rising}
use Rattle.verse_cut.specs.Keys.{key_below}
use Rattle.verse_cut.specs.Fits.{Fits, FitsBy}
use Rattle.verse_cut.specs.Pieces.{pieces_of}
use Rattle.verse_cut.specs.Reading.{is_empty}
use Rattle.verse_cut.specs.Joins.{texts_joined, TextsRise, TextsFit, HasHead, HeadsAreThere, at_book_head}
use Rattle.verse_cut.proofs.KeyOrder.{below_self, above_book_head, not_book_head}
use Rattle.verse_cut.proofs.JoinLaws.{fitting_texts_cut_back}
use Rattle.op_core.specs.Ops.{Operation}
use Rattle.op_core.specs.Sets.{IsOpSet}
use Rattle.op_core.specs.Export.{keys_in, exported_keys}
use Rattle.op_core.specs.CutsBack.{picked_at, keyed_text, later_texts, ExportsCutBack, ExportsAreText}
use Rattle.op_core.proofs.Exports.Exported.{pick_fits, pick_is_text, picks_are_exported, head_picked}
use Rattle.op_core.proofs.FilteredLists.{filter_all}

-- ---- keys after the head of the book

none_same : (ks : List KeyParts) → list_all (key_below book_head) ks ≡ true → list_any (same_key book_head) ks ≡ false
none_same [] h = refl
none_same (k ∷ ks) h =
    let p = and_parts (key_below book_head k) (list_all (key_below book_head) ks) h in
    by (same_key book_head k) refl p.0 (none_same ks p.1)
  where
    by : (b : Bool) → same_key book_head k ≡ b → key_below book_head k ≡ true → list_any (same_key book_head) ks ≡ false
        → (b || list_any (same_key book_head) ks) ≡ false
    by true e below later = absurd
        (let self : key_below book_head k ≡ false = ap (key_below book_head) (sym (same_key-is book_head k e)) ∙ below_self book_head in cc)
    by false e below later = later

module _ (held : List Operation) (book : List ℕ) where
  abbrev pub text_at : KeyParts → List ℕ
  text_at key = picked_at held book key

  joined_map : (ks : List KeyParts) → texts_joined (map (keyed_text held book) ks) ≡ flat_map text_at ks
  joined_map [] = refl
  joined_map (k ∷ ks) = ap (λ r. text_at k ++ r) (joined_map ks)

  -- the head's text, if it is no key then it is empty, and the texts after it
  pub split : (ks : List KeyParts) → rises_by key_cmp (λ k. k) ks ≡ true
      → (is_empty (text_at book_head) ≡ false → list_any (same_key book_head) ks ≡ true)
      → flat_map text_at ks ≡ text_at book_head ++ texts_joined (map (keyed_text held book) (filter (key_below book_head) ks))
  split [] rises there = sym (none_there (text_at book_head) (λ e. there e)) ∙ sym (nothing (text_at book_head))
    where
      none_there : (t : List ℕ) → (is_empty t ≡ false → false ≡ true) → t ≡ []
      none_there [] f = refl
      none_there (b ∷ bs) f = absurd (let e : false ≡ true = f refl in cc)

      nothing : (t : List ℕ) → t ++ [] ≡ t
      nothing [] = refl
      nothing (b ∷ bs) = ap (λ (r : List ℕ). b ∷ r) (nothing bs)
  split (k ∷ ks) rises there = by (same_key k book_head) refl
    where
      above : (list_all (key_below k) ks ≡ true) × (rises_by key_cmp (λ k. k) ks ≡ true)
      above = and_parts (list_all (key_below k) ks) (rises_by key_cmp (λ k. k) ks) rises

      empty_is : (t : List ℕ) → is_empty t ≡ true → t ≡ []
      empty_is [] h = refl
      empty_is (b ∷ bs) h = absurd (cc)

      no_text : list_any (same_key book_head) (k ∷ ks) ≡ false → (e : Bool) → is_empty (text_at book_head) ≡ e → text_at book_head ≡ []
      no_text none true e = empty_is (text_at book_head) e
      no_text none false e = absurd (let yes = there e in cc)

      by : (b : Bool) → same_key k book_head ≡ b
          → flat_map text_at (k ∷ ks)
          ≡ text_at book_head ++ texts_joined (map (keyed_text held book) (filter (key_below book_head) (k ∷ ks)))
      by true e =
          let is : k ≡ book_head = same_key-is k book_head e in
          let after : list_all (key_below book_head) ks ≡ true = ap (λ (q : KeyParts). list_all (key_below q) ks) (sym is) ∙ above.0 in
          let own : key_below book_head k ≡ false = ap (key_below book_head) is ∙ below_self book_head in
          ap (λ (q : KeyParts). text_at q ++ flat_map text_at ks) is
          ∙ ap (λ r. text_at book_head ++ r)
          (sym (joined_map ks)
          ∙ ap (λ (l : List KeyParts). texts_joined (map (keyed_text held book) l))
          (sym (cond-false _ _ _ own ∙ filter_all (key_below book_head) ks after)))
      by false e =
          let first : key_below book_head k ≡ true = above_book_head k ∙ ap not e in
          let after : list_all (key_below book_head) (k ∷ ks) ≡ true =
          and_from (key_below book_head k) (list_all (key_below book_head) ks) first
          (above_trans key_cmp key_total (λ q. q) book_head k ks (is_less _ first) above.0)
          in
          let none = no_text (none_same (k ∷ ks) after) (is_empty (text_at book_head)) refl in
          sym (joined_map (k ∷ ks))
          ∙ ap (λ (l : List KeyParts). texts_joined (map (keyed_text held book) l)) (sym (filter_all (key_below book_head) (k ∷ ks) after))
          ∙ ap (λ (t : List ℕ). t ++ texts_joined (map (keyed_text held book) (filter (key_below book_head) (k ∷ ks)))) (sym none)

  -- ---- rising keys

  above_map : (k : KeyParts) (ks : List KeyParts)
      → list_all (λ t. key_below k t.key) (map (keyed_text held book) ks) ≡ list_all (key_below k) ks
  above_map k [] = refl
  above_map k (x ∷ ks) = ap (λ b. key_below k x && b) (above_map k ks)

  rises_map : (ks : List KeyParts) → rises_by key_cmp (λ t. t.key) (map (keyed_text held book) ks) ≡ rises_by key_cmp (λ k. k) ks
  rises_map [] = refl
  rises_map (k ∷ ks) = λ i. above_map k ks i && rises_map ks i

  kept_after : (ks : List KeyParts) → list_all (key_below book_head) (filter (key_below book_head) ks) ≡ true
  kept_after [] = refl
  kept_after (k ∷ ks) = by (kept_after ks) (key_below book_head k) refl
    where
      by : list_all (key_below book_head) (filter (key_below book_head) ks) ≡ true → (b : Bool) → key_below book_head k ≡ b
          → list_all (key_below book_head) (cond b (k ∷ filter (key_below book_head) ks) (filter (key_below book_head) ks)) ≡ true
      by later true e = and_from (key_below book_head k) _ e later
      by later false e = later

  -- the keys of an export rise
  pub keys_rise : rises_by key_cmp (λ k. k) (exported_keys held book) ≡ true
  keys_rise = rises-rising key_cmp key_total (flat_map (λ key. head_of key ∷ key ∷ []) (keys_in held book))

  -- the texts of an export rise by their keys, from the book's head on
  pub texts_rise : (head : List ℕ) → TextsRise (at_book_head head ∷ later_texts held book)
  texts_rise head =
      and_from (list_all (λ t. key_below book_head t.key) (later_texts held book)) (rises_by key_cmp (λ t. t.key) (later_texts held book))
      (above_map book_head (filter (key_below book_head) (exported_keys held book)) ∙ kept_after (exported_keys held book))
      (rises_map (filter (key_below book_head) (exported_keys held book))
      ∙ rises_filter key_cmp key_total (λ k. k) (key_below book_head) (exported_keys held book) keys_rise)

  -- ---- what fits, and heads that are there

  all_kept : (P : KeyParts → Type 0) (ks : List KeyParts) → ((k : KeyParts) → key_below book_head k ≡ true → P k)
      → All P (filter (key_below book_head) ks)
  all_kept P [] f = All-nil P
  all_kept P (k ∷ ks) f = by (all_kept P ks f) (key_below book_head k) refl
    where
      by : All P (filter (key_below book_head) ks) → (b : Bool) → key_below book_head k ≡ b
          → All P (cond b (k ∷ filter (key_below book_head) ks) (filter (key_below book_head) ks))
      by later true e = All-cons P k (filter (key_below book_head) ks) (f k e) later
      by later false e = later

  fits_after : IsOpSet held → (k : KeyParts) → key_below book_head k ≡ true → Fits book k (text_at k)
  fits_after set k h =
      ⊎_elim (λ e. subst (Fits book k) (sym e) (subst (FitsBy book k []) (sym (not_book_head k h)) (inl refl))) (λ f. f)
      (pick_fits held book k set)

  -- each text of an export fits its key
  pub texts_fit : IsOpSet held → TextsFit book (later_texts held book)
  texts_fit set = All-map (λ t. Fits book t.key t.text) (keyed_text held book) (filter (key_below book_head) (exported_keys held book))
      (all_kept (λ k. Fits book k (text_at k)) (exported_keys held book) (fits_after set))

  any_kept : (q : KeyParts) (ks : List KeyParts) → key_below book_head q ≡ true → list_any (same_key q) ks ≡ true
      → list_any (same_key q) (filter (key_below book_head) ks) ≡ true
  any_kept q [] after h = h
  any_kept q (k ∷ ks) after h = by (any_kept q ks after) (same_key q k) refl h
    where
      by : (list_any (same_key q) ks ≡ true → list_any (same_key q) (filter (key_below book_head) ks) ≡ true) → (b : Bool)
          → same_key q k ≡ b → (b || list_any (same_key q) ks) ≡ true → list_any (same_key q) (filter (key_below book_head) (k ∷ ks)) ≡ true
      by later true e h =
          let here : key_below book_head k ≡ true = ap (key_below book_head) (sym (same_key-is q k e)) ∙ after in
          ap (list_any (same_key q)) (cond-true _ _ _ here) ∙ ap (λ b. b || list_any (same_key q) (filter (key_below book_head) ks)) e
      by later false e h = by_kept (key_below book_head k)
        where
          by_kept : (b : Bool) → list_any (same_key q) (cond b (k ∷ filter (key_below book_head) ks) (filter (key_below book_head) ks))
              ≡ true
          by_kept true = ap (λ c. c || list_any (same_key q) (filter (key_below book_head) ks)) e ∙ later h
          by_kept false = later h

  contains_text : (q : KeyParts) (ks : List KeyParts) → Contains ks q → Contains (map (keyed_text held book) ks) (keyed_text held book q)
  contains_text q ks (j, lt, is) = (
    j,
    omega (arith, length-map ks (keyed_text held book)),
    get_or-map (keyed_text held book) ks j q
        (keyed_text held book q) lt ∙ ap (keyed_text held book) is,
  )

  head_after : (k : KeyParts) → 0 < k.chapter → key_below book_head (head_of k) ≡ true
  head_after k h = above_book_head (head_of k) ∙ ap (λ b. not (b && true)) (ne_eqb k.chapter 0 (λ e. omega arith))

  has_head : (k : KeyParts) → is_empty (text_at k) ≡ false → is_head k.place ≡ false → 0 < k.chapter → HasHead k (later_texts held book)
  has_head k some verse more =
      let full = head_picked held book k some verse more in
      let there = any_kept (head_of k) (exported_keys held book) (head_after k more) (picks_are_exported held book (head_of k) full) in (
        keyed_text held book (head_of k),
        contains_text (head_of k) (filter (key_below book_head) (exported_keys held book))
            (Contains-from_any same_key-is (head_of k) (filter (key_below book_head) (exported_keys held book)) there),
        refl,
        full,
      )

  heads_are_there : HeadsAreThere (later_texts held book)
  heads_are_there =
      All-map (λ t. is_empty t.text ≡ false → is_head t.key.place ≡ false → 0 < t.key.chapter → HasHead t.key (later_texts held book))
      (keyed_text held book) (filter (key_below book_head) (exported_keys held book))
      (all_kept (λ k. is_empty (text_at k) ≡ false → is_head k.place ≡ false → 0 < k.chapter → HasHead k (later_texts held book))
      (exported_keys held book) (λ k after. has_head k))

  texts_are_text : IsOpSet held → (ks : List KeyParts) → IsUtf8 (flat_map text_at ks)
  texts_are_text set [] = IsUtf8-nil
  texts_are_text set (k ∷ ks) = IsUtf8-append (text_at k) (flat_map text_at ks) (pick_is_text held book k set) (texts_are_text set ks)

-- an export cuts back into the texts that it was put together from
pub exports_cut_back : ExportsCutBack
exports_cut_back held book set =
    ap pieces_of (split held book (exported_keys held book) (keys_rise held book) (picks_are_exported held book book_head))
    ∙ fitting_texts_cut_back book (picked_at held book book_head) (later_texts held book) (pick_fits held book book_head set)
    (texts_fit held book set) (texts_rise held book (picked_at held book book_head)) (heads_are_there held book)

-- an export is UTF-8
pub exports_are_text : ExportsAreText
exports_are_text held book set = texts_are_text held book set (exported_keys held book)
