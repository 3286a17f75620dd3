-- The words that allow a node, looked up one by one among those of OccursUnder.
use Rattle.std.proofs.Common.{◌≡◌, ℕ, Bool, true, false, ◌&&◌, ◌||◌, List, [], ◌∷◌, ◌++◌, Option}
use Rattle.std.proofs.Common.{None, Some, sym, refl, ap, ◌∙◌}
use Rattle.std.proofs.Math.Bool.{or-false}
use Rattle.std.specs.Prelude.{codes, if◌then◌else◌}
use Rattle.std.specs.List.{list_any}
use Rattle.std.specs.Option.{option_map_or, option_to_list}
use Rattle.std.specs.Str.{bytes_eq}
use Rattle.sty_sheet.specs.Records.{has_word}
use Rattle.sty_sheet.proofs.EachOnce.{bytes_eq-sym}
use Rattle.segment_check.specs.TreeConditions.{is_among}

mix : (a b c d : Bool) → ((a || b) || (c || d)) ≡ ((a || c) || (b || d))
mix true b c d = refl
mix false true true d = refl
mix false true false d = refl
mix false false c d = refl

any_or : {X : Type 0} (p q : X → Bool) (xs : List X) → list_any (λ x. p x || q x) xs ≡ (list_any p xs || list_any q xs)
any_or p q [] = refl
any_or p q (x ∷ xs) =
    ap (λ b. (p x || q x) || b) (any_or p q xs) ∙ mix (p x) (q x) (list_any p xs) (list_any q xs)

any_never : {X : Type 0} (xs : List X) → list_any (λ x. false) xs ≡ false
any_never [] = refl
any_never (x ∷ xs) = any_never xs

among_turned : (names : List (List ℕ)) (word : List ℕ) → is_among names word ≡ list_any (λ n. bytes_eq n word) names
among_turned [] word = refl
among_turned (n ∷ names) word = λ i. bytes_eq-sym word n i || among_turned names word i

-- one of the words is one of the names where one of the names is one of the words
each_name : (names words : List (List ℕ)) → list_any (is_among names) words ≡ list_any (λ n. has_word n words) names
each_name names [] = sym (any_never names)
each_name names (w ∷ words) =
    (λ i. among_turned names w i || each_name names words i)
    ∙ sym (any_or (λ n. bytes_eq n w) (λ n. has_word n words) names)

-- a name, if there is one, and perhaps NEST, each looked up among the words
pub each_allowed : (name : Option (List ℕ)) (nest : Bool) (words : List (List ℕ))
    → (option_map_or (λ n. has_word n words) name false || (nest && has_word (codes "NEST") words))
    ≡ list_any (is_among (option_to_list name ++ (if nest then codes "NEST" ∷ [] else []))) words
each_allowed None true words = sym (each_name (codes "NEST" ∷ []) words ∙ or-false (has_word (codes "NEST") words))
each_allowed None false words = sym (each_name [] words)
each_allowed (Some n) true words =
    sym (each_name (n ∷ codes "NEST" ∷ []) words
    ∙ ap (λ b. has_word n words || b) (or-false (has_word (codes "NEST") words)))
each_allowed (Some n) false words = sym (each_name (n ∷ []) words)
