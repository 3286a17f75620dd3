-- The words of OccursUnder, put into a set one after the other.
use Rattle.std.proofs.Common.{◌≡◌, ℕ, Bool, true, false, cond, ◌||◌, List, [], ◌∷◌, ◌++◌, refl, ap, ◌∙◌, Bor}
use Rattle.std.specs.List.{list_any}
use Rattle.std.specs.Str.{bytes_eq}
use Rattle.std.proofs.lemmas.List.Folds.{list_any-append}
use Rattle.std.proofs.lemmas.Slice.Eq.{bytes_eq-Decides}
use Rattle.indexmap.specs.IndexSet.{insert_key}

turn : (h s : Bool) → (h || (s || false)) ≡ (s || h)
turn true true = refl
turn true false = refl
turn false true = refl
turn false false = refl

-- a word may come before or after the others
pub move_word : (s h r : Bool) → ((s || h) || r) ≡ (h || (s || r))
move_word true true r = refl
move_word true false r = refl
move_word false true r = refl
move_word false false r = refl

-- whether two lent words are equal
abbrev pub same_text : Bor (List ℕ) → Bor (List ℕ) → Bool
same_text x y = bytes_eq x.now y.now

-- with one word more
pub with_word : (word : List ℕ) (k : Bor (List ℕ)) (keys : List (Bor (List ℕ)))
    → list_any (λ x. bytes_eq word x.now) (insert_key same_text keys k)
    ≡ (bytes_eq word k.now || list_any (λ x. bytes_eq word x.now) keys)
with_word word k keys = by (list_any (same_text k) keys) refl (bytes_eq word k.now) refl
  where
    by : (t : Bool) → list_any (same_text k) keys ≡ t → (s : Bool) → bytes_eq word k.now ≡ s
        → list_any (λ x. bytes_eq word x.now) (cond t keys (keys ++ k ∷ [])) ≡ (s || list_any (λ x. bytes_eq word x.now) keys)
    by true e true f = ap (λ (w : List ℕ). list_any (λ x. bytes_eq w x.now) keys) ((bytes_eq-Decides word k.now).0 f) ∙ e
    by true e false f = refl
    by false e s f =
        list_any-append (λ (x : Bor (List ℕ)). bytes_eq word x.now) keys (k ∷ [])
        ∙ ap (λ b. list_any (λ x. bytes_eq word x.now) keys || (b || false)) f
        ∙ turn (list_any (λ x. bytes_eq word x.now) keys) s
