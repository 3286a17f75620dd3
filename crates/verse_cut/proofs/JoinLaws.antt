-- Fitting texts join and cut back.
use Rattle.std.proofs.Common.{◌≡◌, ℕ, zero, suc, ◌+◌, ◌<◌, true, false, cond, List, [], ◌∷◌, ◌++◌, length, get_or, Some, sym, refl, ap, ◌∙◌, subst, ⊎_elim, arith, append_assoc, length-append, inl, inr}
use Rattle.std.proofs.lemmas.Bool.{and_parts, false_from_ne_true}
use Rattle.std.proofs.lemmas.List.{append-nil}
use Rattle.std.proofs.lemmas.List.Elements.{All-head, All-tail}
use Rattle.std.proofs.str.Laws.{order}
use Rattle.std.specs.List.{All, Contains, list_all}
use Rattle.std.specs.Prelude.{◌⊎◌}
use Rattle.usfm_ref.specs.Keys.{KeyParts, key_cmp, book_head, head_of, is_head}
use Rattle.usfm_ref.specs.Rising.{rises_by}
use Rattle.usfm_token.specs.Tokens.{Lexeme, slice_of, joined, tokens_of, BeginsMark, BeginsWithNoText}
use Rattle.usfm_token.proofs.TokenLemmas.{tokens_of-nil}
use Rattle.usfm_token.proofs.TokenLaws.{joined-tokens_of, after_text}
use Rattle.usfm_token.proofs.Seam.{tokens_join}
use Rattle.verse_cut.specs.Keys.{key_below}
use Rattle.verse_cut.specs.Fits.{FitsKey, FitsBy}
use Rattle.verse_cut.specs.Reading.{key_of, Later, goes_on, opens_at, cut_from, pieces_with, cut_of, is_quiet, leads, is_empty}
use Rattle.verse_cut.specs.Joins.{KeyText, texts_joined, filled, TextsRise, TextsFit, HasHead, at_book_head, pieces_from, FittingTextsCutBack}
use Rattle.verse_cut.proofs.KeyOrder.{below_trans, below_self, below_chapter, not_below_chapter, not_below_own_head, not_book_head}
use Rattle.verse_cut.proofs.MarkLaws.{cut_is_read}
use Rattle.verse_cut.proofs.Quiet.{key_of-append, by_key, quiet_goes_on, key_in_force, leads_parts, head_quiet, fits_leads, leads_byte}

-- ---- rising keys

-- the first key is greater than k, and each other is greater than the one before it
abbrev pub Rise : KeyParts → List KeyText → Type 0
Rise k [] = Unit {0}
Rise k (t ∷ ts) = (key_below k t.key ≡ true) × Rise t.key ts

-- texts whose keys rise and are above a key rise from it
pub rise_from : (k : KeyParts) (ts : List KeyText) → list_all (λ u. key_below k u.key) ts ≡ true → rises_by key_cmp (λ u. u.key) ts ≡ true
    → Rise k ts
rise_from k [] above rises = tt
rise_from k (t ∷ ts) above rises =
    let a = and_parts (key_below k t.key) (list_all (λ u. key_below k u.key) ts) above in
    let r = and_parts (list_all (λ u. key_below t.key u.key) ts) (rises_by key_cmp (λ u. u.key) ts) rises in
    (a.0, rise_from t.key ts r.0 r.1)

-- texts after the head of a book
pub rise_after : (head : List ℕ) (ts : List KeyText) → TextsRise (at_book_head head ∷ ts) → Rise book_head ts
rise_after head ts h =
    let r = and_parts (list_all (λ u. key_below book_head u.key) ts) (rises_by key_cmp (λ u. u.key) ts) h in
    rise_from book_head ts r.0 r.1

-- what rises from a key rises from each lower one
pub rise_weaken : (g k : KeyParts) (ts : List KeyText) → key_below g k ≡ true → Rise k ts → Rise g ts
rise_weaken g k [] p r = tt
rise_weaken g k (t ∷ ts) p r = (below_trans g k t.key p r.0, r.1)

-- of texts that rise from a key each has a key above it
pub rise_all : (k : KeyParts) (ts : List KeyText) → Rise k ts → (j : ℕ) (d : KeyText) → j < length ts
    → key_below k (get_or ts j d).key ≡ true
rise_all k [] r j d lt = absurd (omega arith)
rise_all k (t ∷ ts) r zero d lt = r.0
rise_all k (t ∷ ts) r (suc j) d lt = rise_all k ts (rise_weaken k t.key ts r.0 r.1) j d (omega arith)

-- ---- texts of keys after the book head

-- each text fits its key, whatever its book
abbrev pub FitKeys : List KeyText → Type 0
FitKeys ts = All (λ t. FitsKey t.key t.text) ts

-- texts that rise and fit their book fit their keys
pub fit_keys : (book : List ℕ) (ts : List KeyText) → Rise book_head ts → TextsFit book ts → FitKeys ts
fit_keys book ts rise fit j d lt = subst (FitsBy book (get_or ts j d).key (get_or ts j d).text)
    (not_book_head (get_or ts j d).key (rise_all book_head ts rise j d lt)) (fit j d lt)

-- texts that fit their keys begin with a mark, joined too
pub begins_mark : (ts : List KeyText) → FitKeys ts → BeginsMark (texts_joined ts)
begins_mark [] h = λ lt. absurd (omega arith)
begins_mark (t ∷ ts) h =
    by (begins_mark ts (All-tail (λ t. FitsKey t.key t.text) t ts h)) t.text (All-head (λ t. FitsKey t.key t.text) t ts h)
  where
    by : BeginsMark (texts_joined ts) → (s : List ℕ) → FitsKey t.key s → BeginsMark (s ++ texts_joined ts)
    by go [] f = go
    by go (b ∷ bs) f =
        λ lt. ap (λ s. get_or s 0 0) (sym (joined-tokens_of (b ∷ bs))) ∙ leads_byte t.key (tokens_of (b ∷ bs)) (fits_leads t.key b bs f)

-- ---- the join, text after text

-- the first text that is not empty, and each one after such a text, is no verse of another chapter than the one in force
abbrev HeadsFrom : KeyParts → List KeyText → Type 0
HeadsFrom g [] = Unit {0}
HeadsFrom g (t ∷ ts) =
    elim t.text [ [] ↦ HeadsFrom g ts | b ∷ bs ↦ (is_head t.key.place ≡ false → g.chapter ≡ t.key.chapter) × HeadsFrom t.key ts ]

-- tokens that lead with a key above all before open a piece, and go to it
leads_open : (g k : KeyParts) (l us : List Lexeme) (at : ℕ) → leads k l ≡ true → BeginsWithNoText us → key_below g k ≡ true
    → (is_head k.place ≡ false → g.chapter ≡ k.chapter)
    → cut_from g at (l ++ us) ≡ opens_at k at (joined l) (cut_from k (at + length (joined l)) us)
leads_open g k [] us at h b above same = absurd (cc)
leads_open g k (t ∷ ts) us at h b above same =
    let p = leads_parts k t ts h in
    let on = at + length (slice_of t) in
    let all = ts ++ us in
    let key_is : key_of g.chapter t (ts ++ us) ≡ Some k = key_of-append g.chapter t ts us b ∙ key_in_force k g.chapter t ts p.0 same in
    let place : at + length (slice_of t) + length (joined ts)
    ≡ at + length (slice_of t ++ joined ts) = omega (arith, length-append (slice_of t) (joined ts)) in
    let far : ℕ → Later = λ a. cut_from k a us in
    ap (by_key g at (slice_of t) on all) key_is
    ∙ ap (λ e. cond e (opens_at k at (slice_of t) (cut_from k on all)) (goes_on (slice_of t) (cut_from g on all))) above
    ∙ ap (opens_at k at (slice_of t)) (quiet_goes_on k ts us on b p.1)
    ∙ ap (λ a. opens_at k at (slice_of t) (goes_on (joined ts) (far a))) place
    ∙ (λ i. (
      [],
      record {
        key = k;
        start = at;
        text = sym (append_assoc (slice_of t) (joined ts) (far (at + length (slice_of t ++ joined ts))).0) i;
      } ∷ (far
          (at + length (slice_of t ++ joined ts))).1,
    ))

abbrev CutsFrom : KeyParts → ℕ → List KeyText → Type 0
CutsFrom g at ts = cut_from g at (tokens_of (texts_joined ts)) ≡ ([], pieces_from at (filled ts))

one_text : (k g : KeyParts) (s : List ℕ) (at : ℕ) (ts : List KeyText)
    → ((g : KeyParts) (at : ℕ) → Rise g ts → HeadsFrom g ts → CutsFrom g at ts) → FitsKey k s → BeginsMark (texts_joined ts)
    → key_below g k ≡ true → Rise k ts → HeadsFrom g (record { key = k; text = s } ∷ ts) → CutsFrom g at (record { key = k; text = s } ∷ ts)
one_text k g [] at ts go fits begins above rise heads = go g at (rise_weaken g k ts above rise) heads
one_text k g (b ∷ bs) at ts go fits begins above rise heads =
    let s : List ℕ = b ∷ bs in
    let us = tokens_of (texts_joined ts) in
    let whole = joined-tokens_of (b ∷ bs) in
    ap (cut_from g at) (tokens_join (b ∷ bs) (texts_joined ts) begins)
    ∙ leads_open g k (tokens_of (b ∷ bs)) us at (fits_leads k b bs fits) (after_text (texts_joined ts) begins) above heads.0
    ∙ ap (λ x. opens_at k at x (cut_from k (at + length x) us)) whole
    ∙ ap (opens_at k at s) (go k (at + length s) rise heads.1)
    ∙ (λ i. ([], record { key = k; start = at; text = append-nil s i } ∷ pieces_from (at + length s) (filled ts)))

cuts_from : (ts : List KeyText) (g : KeyParts) (at : ℕ) → FitKeys ts → Rise g ts → HeadsFrom g ts → CutsFrom g at ts
cuts_from [] g at fits rise heads = ap (cut_from g at) tokens_of-nil
cuts_from (t ∷ ts) g at fits rise heads =
    let more = All-tail (λ t. FitsKey t.key t.text) t ts fits in
    one_text t.key g t.text at ts (λ g at r h. cuts_from ts g at more r h) (All-head (λ t. FitsKey t.key t.text) t ts fits)
    (begins_mark ts more) rise.0 rise.1 heads

-- ---- where each verse's head is there, the chapter in force at a verse is its own

-- a head that is there is the first or one of the others
has_head_cons : (k : KeyParts) (t : KeyText) (ts : List KeyText) → HasHead k (t ∷ ts)
    → ((t.key ≡ head_of k) × (is_empty t.text ≡ false)) ⊎ HasHead k ts
has_head_cons k t ts (h, c, key, some) = by c
  where
    by : Contains (t ∷ ts) h → ((t.key ≡ head_of k) × (is_empty t.text ≡ false)) ⊎ HasHead k ts
    by (zero, lt, is) = inl (ap (λ x. x.key) is ∙ key, ap (λ x. is_empty x.text) is ∙ some)
    by (suc j, lt, is) = inr (h, (j, omega arith, is), key, some)

-- each verse's head is not above the greatest key so far, or is to come
abbrev Ready : KeyParts → List KeyText → KeyText → Type 0
Ready g ts t =
    is_empty t.text ≡ false → is_head t.key.place ≡ false → 0 < t.key.chapter → (key_below g (head_of t.key) ≡ false) ⊎ HasHead t.key ts

-- after an empty text
ready_skip : (g : KeyParts) (t : KeyText) (ts : List KeyText) (u : KeyText) → is_empty t.text ≡ true → Ready g (t ∷ ts) u → Ready g ts u
ready_skip g t ts u empty h some verse more =
    ⊎_elim (λ low. inl low) (λ there. ⊎_elim (λ first. absurd (cc (first.1, empty))) (λ later. inr later) (has_head_cons u.key t ts there))
    (h some verse more)

-- after a text that is not empty
ready_on : (g : KeyParts) (t : KeyText) (ts : List KeyText) (u : KeyText) → key_below g t.key ≡ true → Ready g (t ∷ ts) u → Ready t.key ts u
ready_on g t ts u above h some verse more =
    ⊎_elim
    (λ low. inl (false_from_ne_true _
    (λ e. let too : key_below g (head_of u.key) ≡ true = below_trans g t.key (head_of u.key) above e in absurd (cc (too, low)))))
    (λ there. ⊎_elim (λ first. inl (ap (λ k. key_below k (head_of u.key)) first.0 ∙ below_self (head_of u.key))) (λ later. inr later)
    (has_head_cons u.key t ts there))
    (h some verse more)

-- the first text that is not empty finds its chapter in force
in_force : (g : KeyParts) (t : KeyText) (ts : List KeyText) → key_below g t.key ≡ true → Rise t.key ts → is_empty t.text ≡ false
    → Ready g (t ∷ ts) t → is_head t.key.place ≡ false → g.chapter ≡ t.key.chapter
in_force g t ts above rise some ready verse =
    let low = below_chapter g t.key above in
    ⊎_elim
    (λ more.
    ⊎_elim
    (λ here. let high = not_below_chapter g (head_of t.key) here in omega arith)
    (λ there.
    ⊎_elim
    (λ first. let head : is_head t.key.place ≡ true = ap (λ k. is_head k.place) first.0 in absurd (cc))
    (λ later. absurd (to_come later))
    (has_head_cons t.key t ts there))
    (ready some verse more))
    (λ none. omega arith)
    (order 0 t.key.chapter)
  where
    to_come : HasHead t.key ts → ⊥
    to_come (h, (j, lt, is), key, full) =
        let above_t : key_below t.key (head_of t.key) ≡ true = ap (key_below t.key) (sym (ap (λ x. x.key) is ∙ key))
        ∙ rise_all t.key ts rise j h lt in
        let none = not_below_own_head t.key in
        cc

abbrev HeadsBy : KeyParts → KeyText → List KeyText → List ℕ → Type 0
HeadsBy g t ts [] = HeadsFrom g ts
HeadsBy g t ts (b ∷ bs) = (is_head t.key.place ≡ false → g.chapter ≡ t.key.chapter) × HeadsFrom t.key ts

heads_from : (ts : List KeyText) (g : KeyParts) → Rise g ts → All (Ready g ts) ts → HeadsFrom g ts
heads_from [] g rise ready = tt
heads_from (t ∷ ts) g rise ready =
    by t.text refl
    (λ empty. heads_from ts g (rise_weaken g t.key ts rise.0 rise.1) (λ j d lt. ready_skip g t ts (get_or ts j d) empty (more j d lt)))
    (heads_from ts t.key rise.1 (λ j d lt. ready_on g t ts (get_or ts j d) rise.0 (more j d lt)))
  where
    more : All (Ready g (t ∷ ts)) ts
    more = All-tail (Ready g (t ∷ ts)) t ts ready

    by : (s : List ℕ) → t.text ≡ s → (is_empty t.text ≡ true → HeadsFrom g ts) → HeadsFrom t.key ts → HeadsBy g t ts s
    by [] is skip on = skip (ap is_empty is)
    by (b ∷ bs) is skip on = (in_force g t ts rise.0 rise.1 (ap is_empty is) (All-head (Ready g (t ∷ ts)) t ts ready), on)

-- fitting texts by rising keys join and cut back
pub fitting_texts_cut_back : FittingTextsCutBack
unfolding cut_of
fitting_texts_cut_back book head ts fits_head fits rises heads =
    let rest = texts_joined ts in
    let us = tokens_of (texts_joined ts) in
    let rise = rise_after head ts rises in
    let keys = fit_keys book ts rise fits in
    let begins = begins_mark ts keys in
    let quiet : is_quiet book_head (tokens_of head) ≡ true =
    ⊎_elim (λ e. ap (λ s. is_quiet book_head (tokens_of s)) e ∙ ap (is_quiet book_head) tokens_of-nil)
    (λ f. head_quiet head f.1) fits_head in
    let ready = heads_from ts book_head rise (λ j d lt some verse more. inr (heads j d lt some verse more)) in
    sym (cut_is_read (head ++ texts_joined ts))
    ∙ ap (λ l. pieces_with book_head 0 [] (cut_from book_head 0 l)) (tokens_join head rest begins)
    ∙ ap (pieces_with book_head 0 []) (quiet_goes_on book_head (tokens_of head) us 0 (after_text rest begins) quiet)
    ∙ ap (λ x. pieces_with book_head 0 [] (goes_on x (cut_from book_head (0 + length x) us))) (joined-tokens_of head)
    ∙ ap (λ l. pieces_with book_head 0 [] (goes_on head l)) (cuts_from ts book_head (0 + length head) keys rise ready)
    ∙ (λ i. record { key = book_head; start = 0; text = append-nil head i } ∷ pieces_from (0 + length head) (filled ts))
