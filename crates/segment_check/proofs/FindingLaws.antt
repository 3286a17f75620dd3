-- The order of findings, and where they start.
use Rattle.std.proofs.Common.{◌≡◌, ℕ, zero, suc, ◌+◌, ◌<◌, ◌≤◌, Bool, true, List, [], ◌∷◌, ◌++◌, length, map, ◌⊎◌, ⊎_elim, inl, inr, sym, refl, ap, ◌∙◌, subst, arith, append_assoc, length-append}
use Rattle.std.specs.Prelude.{filter, nat_lt, ◌&&◌}
use Rattle.std.specs.List.{All, AllPairs, flat_map, list_all}
use Rattle.std.proofs.lemmas.Bool.{and_parts}
use Rattle.std.proofs.lemmas.Bool.Decides.{nat_tests}
use Rattle.std.proofs.lemmas.List.Elements.{All-nil, All-head, All-tail, All-append, All-map}
use Rattle.std.proofs.lemmas.List.Kept.{AllPairs-filter}
use Rattle.std.proofs.lemmas.List.Sums.{AllPass-from_list_all}
use Rattle.sty_sheet.specs.Records.{Record}
use Rattle.usfm_token.specs.Tokens.{Lexeme, mark, words, mark_bytes, slice_of, joined, tokens_of, AreLexemes}
use Rattle.usfm_token.proofs.Walk.{each-tokens_of, first_not_empty}
use Rattle.verse_cut.specs.Keys.{text_after}
use Rattle.verse_cut.specs.Marks.{Site, sites_from}
use Rattle.verse_cut.specs.Pieces.{pieces_of}
use Rattle.segment_check.specs.Scenes.{Scene, scenes_after, scenes_of}
use Rattle.verse_cut.specs.Places.{key_at}
use Rattle.segment_check.specs.Findings.{all_codes, holds_of, found_at, spots_of, findings}
use Rattle.segment_check.specs.Laws.{code_rank, IsTokenStart, StartsNeverFall, CodesRise, NoTwoAlike, StartsAreTokens}
use Rattle.segment_check.specs.declared.code.Code.{Code}
use Rattle.segment_check.specs.declared.finding.Finding.{Finding}

-- ---- pairs

module _ {X : Type 0} (R : X → X → Type 0) where
  pairs_cons : (x : X) (xs : List X) → All (R x) xs → AllPairs R xs → AllPairs R (x ∷ xs)
  pairs_cons x xs h t zero zero d p q = absurd (omega arith)
  pairs_cons x xs h t zero (suc j) d p q = h j d (omega arith)
  pairs_cons x xs h t (suc i) zero d p q = absurd (omega arith)
  pairs_cons x xs h t (suc i) (suc j) d p q = t i j d (omega arith) (omega arith)

  pairs_head : (x : X) (xs : List X) → AllPairs R (x ∷ xs) → All (R x) xs
  pairs_head x xs h k d q = h zero (suc k) d (omega arith) (omega arith)

  pairs_tail : (x : X) (xs : List X) → AllPairs R (x ∷ xs) → AllPairs R xs
  pairs_tail x xs h i j d p q = h (suc i) (suc j) d (omega arith) (omega arith)

  pairs_nil : AllPairs R []
  pairs_nil i j d p q = absurd (omega arith)

  pairs_append : (xs ys : List X) → AllPairs R xs → AllPairs R ys → All (λ x. All (R x) ys) xs → AllPairs R (xs ++ ys)
  pairs_append [] ys h k a = k
  pairs_append (x ∷ xs) ys h k a =
      pairs_cons x (xs ++ ys) (All-append (R x) xs ys (pairs_head x xs h) (All-head (λ y. All (R y) ys) x xs a))
      (pairs_append xs ys (pairs_tail x xs h) k (All-tail (λ y. All (R y) ys) x xs a))

pairs_map : {X Y : Type 0} (R : Y → Y → Type 0) (f : X → Y) (xs : List X) → AllPairs (λ x y. R (f x) (f y)) xs → AllPairs R (map f xs)
pairs_map R f [] h = pairs_nil R
pairs_map R f (x ∷ xs) h =
    pairs_cons R (f x) (map f xs) (All-map (R (f x)) f xs (pairs_head (λ x y. R (f x) (f y)) x xs h))
    (pairs_map R f xs (pairs_tail (λ x y. R (f x) (f y)) x xs h))

-- ---- codes

abbrev rises : List Code → Bool
rises [] = true
rises (c ∷ cs) = list_all (λ d. nat_lt (code_rank c) (code_rank d)) cs && rises cs

abbrev Below : Code → Code → Type 0
Below c d = code_rank c < code_rank d

codes_pairs : (cs : List Code) → rises cs ≡ true → AllPairs Below cs
codes_pairs [] h = pairs_nil Below
codes_pairs (c ∷ cs) h =
    let p = and_parts (list_all (λ d. nat_lt (code_rank c) (code_rank d)) cs) (rises cs) h in
    pairs_cons Below c cs (λ k d q. below _ _ (AllPass-from_list_all (λ d. nat_lt (code_rank c) (code_rank d)) cs p.0 k d q))
    (codes_pairs cs p.1)
  where
    below : (a b : ℕ) → nat_lt a b ≡ true → a < b
    below a b h = grind (arith, nat_tests)

-- ---- findings

-- by start, and at one start by code
abbrev Before : Finding → Finding → Type 0
Before a b = (a.start < b.start) ⊎ ((a.start ≡ b.start) × (code_rank a.code < code_rank b.code))

module _ (sheet : List Record) (s : List ℕ) where
  abbrev found : Scene → List Finding
  found scene = found_at sheet (spots_of sheet s) (pieces_of s) scene

  abbrev tell : Scene → Code → Finding
  tell scene c = record { code = c; start = scene.here.at; key = key_at (pieces_of s) scene.here.at }

  own : (scene : Scene) → All (λ f. f.start ≡ scene.here.at) (found scene)
  own scene =
      All-map (λ f. f.start ≡ scene.here.at) (tell scene) (filter (holds_of sheet (spots_of sheet s) scene) all_codes) (λ k d q. refl)

  ordered : (scene : Scene) → AllPairs Before (found scene)
  ordered scene =
      pairs_map Before (tell scene) (filter (holds_of sheet (spots_of sheet s) scene) all_codes)
      (λ i j d p q. inr (
        refl,
        AllPairs-filter Below (holds_of sheet (spots_of sheet s) scene) all_codes
            (codes_pairs all_codes refl) i j d p q,
      ))

  abbrev rest : List Site → ℕ → List Lexeme → List Finding
  rest before at ts = flat_map found (scenes_after before (sites_from at ts))

  later : (before : List Site) (at : ℕ) (ts : List Lexeme) → All (λ f. at ≤ f.start) (rest before at ts)
  later before at [] = All-nil (λ f. at ≤ f.start)
  later before at (words t ∷ ts) = λ k d q. let h = later before (at + length t) ts k d q in omega (arith, h)
  later before at (mark m ∷ ts) =
      let site : Site = record { at = at; parts = m; after = text_after ts } in
      All-append (λ f. at ≤ f.start) (found (record { before = before; here = site }))
      (rest (before ++ site ∷ []) (at + length (mark_bytes m)) ts)
      (λ k d q. let h = own (record { before = before; here = site }) k d q in omega (arith, h))
      (λ k d q. let h = later (before ++ site ∷ []) (at + length (mark_bytes m)) ts k d q in omega (arith, h))

  pairs : (before : List Site) (at : ℕ) (ts : List Lexeme) → AreLexemes ts → AllPairs Before (rest before at ts)
  pairs before at [] each = pairs_nil Before
  pairs before at (words t ∷ ts) each = pairs before (at + length t) ts each.2
  pairs before at (mark m ∷ ts) each =
      let site : Site = record { at = at; parts = m; after = text_after ts } in
      let scene : Scene = record { before = before; here = site } in
      let some : 0 < length (mark_bytes m) = first_not_empty (mark m) ts each in
      pairs_append Before (found scene) (rest (before ++ site ∷ []) (at + length (mark_bytes m)) ts) (ordered scene)
      (pairs (before ++ site ∷ []) (at + length (mark_bytes m)) ts each.2)
      (λ k d q k' d' q'.
      let a = own scene k d q in
      let b = later (before ++ site ∷ []) (at + length (mark_bytes m)) ts k' d' q' in
      inl (omega (arith, a, b, some)))

  joined-snoc : (ts : List Lexeme) (t : Lexeme) → length (joined (ts ++ t ∷ [])) ≡ length (joined ts) + length (slice_of t)
  joined-snoc [] t = let e = length-append (slice_of t) [] in omega (arith, e)
  joined-snoc (u ∷ ts) t =
      let a = length-append (slice_of u) (joined (ts ++ t ∷ [])) in
      let b = length-append (slice_of u) (joined ts) in
      let c = joined-snoc ts t in
      omega (arith, a, b, c)

  starts : (before : List Site) (pre : List Lexeme) (at : ℕ) (ts : List Lexeme) → tokens_of s ≡ pre ++ ts → at ≡ length (joined pre)
      → All (λ f. IsTokenStart s f.start) (rest before at ts)
  starts before pre at [] is place = All-nil (λ f. IsTokenStart s f.start)
  starts before pre at (words t ∷ ts) is place =
      starts before (pre ++ words t ∷ []) (at + length t) ts (is ∙ sym (append_assoc pre (words t ∷ []) ts))
      (ap (λ n. n + length t) place ∙ sym (joined-snoc pre (words t)))
  starts before pre at (mark m ∷ ts) is place =
      let site : Site = record { at = at; parts = m; after = text_after ts } in
      let scene : Scene = record { before = before; here = site } in
      let here : IsTokenStart s at = record { before = pre; token = mark m; after = ts; tokens_are = is; start_is = place } in
      All-append (λ f. IsTokenStart s f.start) (found scene) (rest (before ++ site ∷ []) (at + length (mark_bytes m)) ts)
      (λ k d q. subst (IsTokenStart s) (sym (own scene k d q)) here)
      (starts (before ++ site ∷ []) (pre ++ mark m ∷ []) (at + length (mark_bytes m)) ts (is ∙ sym (append_assoc pre (mark m ∷ []) ts))
      (ap (λ n. n + length (mark_bytes m)) place ∙ sym (joined-snoc pre (mark m))))

in_order : (sheet : List Record) (s : List ℕ) → AllPairs Before (findings sheet s)
unfolding findings scenes_of
in_order sheet s = pairs sheet s [] 0 (tokens_of s) (each-tokens_of s)

-- the starts of findings never fall
pub starts_never_fall : StartsNeverFall
starts_never_fall sheet s i j d p q = ⊎_elim (λ h. omega arith) (λ h. let e = h.0 in omega (arith, e)) (in_order sheet s i j d p q)

-- at one start the codes of findings rise
pub codes_rise : CodesRise
codes_rise sheet s i j d p q same = ⊎_elim (λ h. absurd (omega arith)) (λ h. h.1) (in_order sheet s i j d p q)

-- no two findings have one start and one code
pub no_two_alike : NoTwoAlike
no_two_alike sheet s i j d p q same alike = let h = codes_rise sheet s i j d p q same in let e = ap code_rank alike in omega (arith, h, e)

-- each finding starts where a token starts
pub starts_are_tokens : StartsAreTokens
unfolding findings scenes_of
starts_are_tokens sheet s = starts sheet s [] [] 0 (tokens_of s) refl refl
