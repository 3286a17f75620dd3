-- Words sorted by their forms, those of one form in their order, are those of each form, the forms rising.
use Rattle.std.proofs.Common.{◌≡◌, ℕ, suc, ◌<◌, ◌≤◌, Bool, true, false, not, ◌&&◌, ◌||◌, cond, List, [], ◌∷◌, ◌++◌, map, filter, length, get_or, refl, sym, ap, subst, ◌∙◌, arith}
use Rattle.std.specs.declared.cmp.Ordering.{Ordering}
use Rattle.std.specs.declared.cmp.Ordering.TheVariants.{Less, Equal, Greater}
use Rattle.std.specs.Ordering.{is_eq, is_lt, ordering_reverse}
use Rattle.std.specs.Cmp.{tied_itself, IsStrictWeakOrder}
use Rattle.std.specs.Cmp.Lexicographic.{texts_ties}
use Rattle.std.specs.FinMap.Entries.{by_order}
use Rattle.std.specs.List.{flat_map, list_any, AllByRecursion}
use Rattle.std.specs.List.Sorted.{IsSortedBy, IsStableBy, IsPermutation, ties}
use Rattle.std.proofs.lemmas.Bool.{true≢false}
use Rattle.std.proofs.lemmas.List.Sorted.{list_any-IsPermutation, ranks_by, sorted_far}
use Rattle.usfm_ref.specs.Rising.{rises_by, with_item, rising}
use Rattle.usfm_ref.proofs.Members.{same_tested, tested_rising}
use Rattle.usfm_ref.proofs.Sorted.{rises-rising, tied_back, parts, first_above, above_trans, Above}
use Rattle.concordance.specs.Words.{form_cmp}
use Rattle.concordance.proofs.OrderLemmas.{form_total, form_exact}
use Rattle.book_reports.specs.BookWords.{by_form}
use Rattle.book_reports.specs.declared.words.BookWord.{BookWord}

-- the form of a word
abbrev pub form_of : BookWord → List ℕ
form_of w = w.word.form

-- the words of a form
abbrev at : List ℕ → List BookWord → List BookWord
at form ws = filter (λ w. is_eq (form_cmp form (form_of w))) ws

abbrev grouped : List BookWord → List (List ℕ) → List BookWord
grouped ws forms = flat_map (λ form. at form ws) forms

-- a form is among some
abbrev among : List ℕ → List (List ℕ) → Bool
among q forms = list_any (λ form. is_eq (form_cmp q form)) forms

-- none of these is before the form
abbrev NotBefore : List ℕ → List BookWord → Type 0
NotBefore form ws = AllByRecursion (λ w. is_lt (form_cmp (form_of w) form) ≡ false) ws

abbrev Sorted : List BookWord → Type 0
Sorted [] = Unit {0}
Sorted (w ∷ ws) = NotBefore (form_of w) ws × Sorted ws

-- ---- words of forms

none_of : (form : List ℕ) (ws : List BookWord) → among form (map form_of ws) ≡ false → at form ws ≡ []
none_of form [] h = refl
none_of form (w ∷ ws) h = by (is_eq (form_cmp form (form_of w))) refl (none_of form ws)
  where
    by : (b : Bool) → is_eq (form_cmp form (form_of w)) ≡ b → (among form (map form_of ws) ≡ false → at form ws ≡ [])
        → at form (w ∷ ws) ≡ []
    by true e rest = absurd (true≢false (sym (ap (λ b. b || among form (map form_of ws)) e) ∙ h))
    by false e rest =
        ap (λ b. cond b (w ∷ at form ws) (at form ws)) e ∙ rest (ap (λ b. b || among form (map form_of ws)) (sym e) ∙ h)

not_tied : (r : Ordering) → is_lt r ≡ true → is_eq r ≡ false
not_tied Less h = refl
not_tied Equal h = cc h
not_tied Greater h = refl

-- forms above that of a word have none of it
others : (w : BookWord) (ws : List BookWord) (forms : List (List ℕ)) → Above form_cmp form_total (λ (f : List ℕ). f) (form_of w) forms
    → grouped (w ∷ ws) forms ≡ grouped ws forms
others w ws [] h = refl
others w ws (form ∷ forms) h =
    let p = first_above form_cmp form_total (λ (f : List ℕ). f) (form_of w) form forms h in
    let apart = tied_back form_cmp form_total (form_of w) form false (not_tied _ p.0) in
    λ i. cond (apart i) (w ∷ at form ws) (at form ws) ++ others w ws forms p.1 i

none_above : (q : List ℕ) (forms : List (List ℕ)) → Above form_cmp form_total (λ (f : List ℕ). f) q forms → among q forms ≡ false
none_above q [] h = refl
none_above q (form ∷ forms) h =
    let p = first_above form_cmp form_total (λ (f : List ℕ). f) q form forms h in
    λ i. not_tied (form_cmp q form) p.0 i || none_above q forms p.1 i

-- ---- sorted words

-- a form before all words is that of none
before_none : (q form : List ℕ) (ws : List BookWord) → form_cmp q form ≡ Less → NotBefore form ws → among q (map form_of ws) ≡ false
before_none q form [] less h = refl
before_none q form (w ∷ ws) less h = by (form_cmp q (form_of w)) refl (before_none q form ws less h.1)
  where
    by : (r : Ordering) → form_cmp q (form_of w) ≡ r → among q (map form_of ws) ≡ false → among q (map form_of (w ∷ ws)) ≡ false
    by Equal e rest =
        let same = ap (λ f. is_lt (form_cmp f form)) (form_exact q (form_of w) e) in
        absurd (true≢false (sym (ap is_lt less) ∙ same ∙ h.0))
    by Less e rest = λ i. is_eq (e i) || rest i
    by Greater e rest = λ i. is_eq (e i) || rest i

module _ (w : BookWord) (ws : List BookWord) (first : NotBefore (form_of w) ws)
    (rest : grouped ws (rising form_cmp (map form_of ws)) ≡ ws) where
  abbrev forms : List (List ℕ)
  forms = rising form_cmp (map form_of ws)

  one : is_eq (form_cmp (form_of w) (form_of w)) ≡ true
  one = ap is_eq (tied_itself form_total (form_of w))

  here : at (form_of w) (w ∷ ws) ≡ w ∷ at (form_of w) ws
  here = ap (λ b. cond b (w ∷ at (form_of w) ws) (at (form_of w) ws)) one

  -- its form is not that of a later one
  alone : Above form_cmp form_total (λ (f : List ℕ). f) (form_of w) forms → grouped (w ∷ ws) (form_of w ∷ forms) ≡ w ∷ ws
  alone h =
      let later = sym (tested_rising form_cmp form_total form_exact (form_of w) (map form_of ws)) in
      let none = none_of (form_of w) ws (later ∙ none_above (form_of w) forms h) in
      (λ i. here i ++ others w ws forms h i) ∙ (λ i. (w ∷ none i) ++ rest i)

  with_forms : (fs : List (List ℕ)) → forms ≡ fs → rises_by form_cmp (λ (f : List ℕ). f) fs ≡ true
      → grouped (w ∷ ws) (with_item form_cmp (form_of w) fs) ≡ w ∷ ws
  with_forms [] e rises = ap (λ fs. grouped (w ∷ ws) (form_of w ∷ fs)) (sym e)
      ∙ alone (subst (Above form_cmp form_total (λ (f : List ℕ). f) (form_of w)) (sym e) refl)
  with_forms (f ∷ fs) e rises = by (form_cmp (form_of w) f) refl
    where
      above : Above form_cmp form_total (λ (g : List ℕ). g) f fs
      above = (parts form_cmp form_total (λ (g : List ℕ). g) f fs rises).0

      by : (r : Ordering) → form_cmp (form_of w) f ≡ r
          → grouped (w ∷ ws) (by_order r (form_of w ∷ f ∷ fs) (f ∷ fs) (f ∷ with_item form_cmp (form_of w) fs)) ≡ w ∷ ws
      by Less less =
          let later = above_trans form_cmp form_total (λ (g : List ℕ). g) (form_of w) f fs less above in
          let all : Above form_cmp form_total (λ (g : List ℕ). g) (form_of w) (f ∷ fs) = (λ i. is_lt (less i) && later i) in
          ap (λ gs. grouped (w ∷ ws) (form_of w ∷ gs)) (sym e)
          ∙ alone (subst (Above form_cmp form_total (λ (g : List ℕ). g) (form_of w)) (sym e) all)
      by Equal same =
          let is = form_exact (form_of w) f same in
          let later : Above form_cmp form_total (λ (g : List ℕ). g) (form_of w) fs =
          subst (λ g. Above form_cmp form_total (λ (h : List ℕ). h) g fs) (sym is) above in
          (λ i. (ap (λ g. at g (w ∷ ws)) (sym is) ∙ here ∙ ap (λ g. w ∷ at g ws) is) i ++ others w ws fs later i)
          ∙ ap (λ l. w ∷ l) (ap (grouped ws) (sym e) ∙ rest)
      by Greater greater =
          let less : form_cmp f (form_of w) ≡ Less = form_total.antisymm f (form_of w) ∙ ap ordering_reverse greater in
          let here : among f forms ≡ true = ap (among f) e ∙ (λ i. is_eq (tied_itself form_total f i) || among f fs) in
          absurd (true≢false (sym here ∙ tested_rising form_cmp form_total form_exact f (map form_of ws)
          ∙ before_none f (form_of w) ws less first))

-- sorted words are those of each form, the forms rising
sorted_grouped : (ws : List BookWord) → Sorted ws → grouped ws (rising form_cmp (map form_of ws)) ≡ ws
sorted_grouped [] h = refl
sorted_grouped (w ∷ ws) h =
    with_forms w ws h.0 (sorted_grouped ws h.1) (rising form_cmp (map form_of ws)) refl (rises-rising form_cmp form_total (map form_of ws))

-- ---- what a stable sort gives

abbrev pub before : BookWord → BookWord → Bool
before v w = is_lt (form_cmp (form_of v) (form_of w))

pub forms_rank : IsStrictWeakOrder before
forms_rank = ranks_by form_total form_of

far_sorted : (ws : List BookWord)
    → ((i j : ℕ) (d : BookWord) → i ≤ j → j < length ws → before (get_or ws j d) (get_or ws i d) ≡ false) → Sorted ws
far_sorted [] k = tt
far_sorted (w ∷ ws) k = (
  all w ws (λ j d l. k 0 (suc j) d (omega arith) (omega arith)),
  far_sorted ws (λ i j d a b. k (suc i) (suc j) d (omega arith) (omega arith)),
)
  where
    all : (v : BookWord) (vs : List BookWord) → ((j : ℕ) (d : BookWord) → j < length vs → before (get_or vs j d) v ≡ false)
        → NotBefore (form_of v) vs
    all v [] k = tt
    all v (u ∷ us) k = (k 0 u (omega arith), all v us (λ j d l. k (suc j) d (omega arith)))

tie_read : (r : Ordering) → (not (is_lt r) && not (is_lt (ordering_reverse r))) ≡ is_eq r
tie_read Less = refl
tie_read Equal = refl
tie_read Greater = refl

-- a word of a form
abbrev worded : List ℕ → BookWord
worded form = record { book = []; word = record { form = form; keys = [] } }

tied_is : (form : List ℕ) (w : BookWord) → ties before (worded form) w ≡ is_eq (form_cmp form (form_of w))
tied_is form w =
    ap (λ r. not (is_lt (form_cmp form (form_of w))) && not (is_lt r)) (form_total.antisymm (form_of w) form)
    ∙ tie_read (form_cmp form (form_of w))

same_at : (form : List ℕ) (ws vs : List BookWord) → IsStableBy before ws vs → at form vs ≡ at form ws
same_at form ws vs stable =
    (λ i. filter (λ w. sym (tied_is form w) i) vs) ∙ stable (worded form) ∙ (λ i. filter (λ w. tied_is form w i) ws)

among_keys : (q : List ℕ) (ws : List BookWord) → among q (map form_of ws) ≡ list_any (λ w. is_eq (form_cmp q (form_of w))) ws
among_keys q [] = refl
among_keys q (w ∷ ws) = ap (λ b. is_eq (form_cmp q (form_of w)) || b) (among_keys q ws)

same_forms : (ws vs : List BookWord) → IsPermutation ws vs → rising form_cmp (map form_of vs) ≡ rising form_cmp (map form_of ws)
same_forms ws vs p =
    same_tested form_cmp form_total form_exact (rising form_cmp (map form_of vs)) (rising form_cmp (map form_of ws))
    (rises-rising form_cmp form_total (map form_of vs)) (rises-rising form_cmp form_total (map form_of ws))
    (λ q.
    tested_rising form_cmp form_total form_exact q (map form_of vs) ∙ among_keys q vs
    ∙ sym (list_any-IsPermutation (λ w. is_eq (form_cmp q (form_of w))) ws vs p)
    ∙ sym (among_keys q ws) ∙ sym (tested_rising form_cmp form_total form_exact q (map form_of ws)))

-- words that a stable sort by their forms gives
pub sorted_is : (ws vs : List BookWord) → IsPermutation ws vs → IsSortedBy before vs → IsStableBy before ws vs → vs ≡ by_form ws
sorted_is ws vs p sorted stable =
    sym (sorted_grouped vs (far_sorted vs (λ i j d a b. sorted_far before forms_rank vs sorted i j d a b)))
    ∙ (λ i. flat_map (λ form. same_at form ws vs stable i) (same_forms ws vs p i))
    ∙ (λ i. flat_map (λ form. filter (λ w. sym (texts_ties form (form_of w)) i) ws) (rising form_cmp (map form_of ws)))
