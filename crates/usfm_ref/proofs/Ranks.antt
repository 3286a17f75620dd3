-- The place of a code in the canon, found in a list of the canon's codes with their places.
use Rattle.std.proofs.Common.{◌≡◌, ℕ, suc, ◌==◌, Bool, true, false, List, [], ◌∷◌, Option, Some, None, length, arith, refl, sym, ap, ◌∙◌}
use Rattle.std.specs.List.{list_all, list_any, find, position_or_len}
use Rattle.std.specs.Ordering.{is_eq}
use Rattle.std.proofs.lemmas.Bool.{and_parts, cond-true, cond-false, true≢false}
use Rattle.std.proofs.lemmas.Bool.Decides.{nat_tests}
use Rattle.std.specs.Cmp.Lexicographic.{texts_ties}
use Rattle.usfm_ref.proofs.Orders.{same_bytes-is}
use Rattle.usfm_ref.specs.Books.{canon, rank_of, same_bytes, code_cmp, has_canon}

-- equal by the test of numbers
same_number : {m n : ℕ} → (m == n) ≡ true → m ≡ n
same_number h = grind (arith, nat_tests)

abbrev are_ranked : List (List ℕ × ℕ) → Bool
are_ranked known = list_all (λ e. rank_of e.0 == e.1) known

-- what is beside a code, and 66 for all others
abbrev pub beside : Option (List ℕ × ℕ) → ℕ
beside None = 66
beside (Some e) = e.1

abbrev rank_beside : List (List ℕ × ℕ) → List ℕ → ℕ
rank_beside known code = beside (find (λ e. is_eq (code_cmp code e.0)) known)

-- where none of some codes is among those of a list, and all of others are, none of these is one of those
misses : (known : List (List ℕ × ℕ)) (code : List ℕ) (some : List (List ℕ))
    → list_all (λ one. list_any (λ e. is_eq (code_cmp one e.0)) known) some ≡ true
    → list_any (λ e. is_eq (code_cmp code e.0)) known ≡ false → position_or_len (λ one. same_bytes one code) some ≡ length some
misses known code [] h none = refl
misses known code (one ∷ some) h none =
    let p =
    and_parts (list_any (λ e. is_eq (code_cmp one e.0)) known) (list_all (λ c. list_any (λ e. is_eq (code_cmp c e.0)) known) some) h in
    let rest = misses known code some p.1 none in
    by p.0 rest (same_bytes one code) refl
  where
    by : list_any (λ e. is_eq (code_cmp one e.0)) known ≡ true → position_or_len (λ c. same_bytes c code) some ≡ length some → (b : Bool)
        → same_bytes one code ≡ b → position_or_len (λ c. same_bytes c code) (one ∷ some) ≡ suc (length some)
    by has rest true e =
        absurd (true≢false (sym has ∙ ap (λ c. list_any (λ e. is_eq (code_cmp c e.0)) known) (same_bytes-is one code e) ∙ none))
    by has rest false e = rw e (omega (arith, rest))

-- a code that is not among those of a list with the canon has the last place
no_rank : (known : List (List ℕ × ℕ)) (code : List ℕ) → list_all (λ one. list_any (λ e. is_eq (code_cmp one e.0)) known) canon ≡ true
    → list_any (λ e. is_eq (code_cmp code e.0)) known ≡ false → rank_of code ≡ 66
unfolding rank_of
no_rank known code h none = misses known code canon h none

among : (known : List (List ℕ × ℕ)) (code : List ℕ) → are_ranked known ≡ true
    → (list_any (λ e. is_eq (code_cmp code e.0)) known ≡ false → rank_of code ≡ 66) → rank_beside known code ≡ rank_of code
among [] code h none = sym (none refl)
among (e ∷ known) code h none =
    let p = and_parts (rank_of e.0 == e.1) (are_ranked known) h in
    by p.0 (among known code p.1) (is_eq (code_cmp code e.0)) refl
  where
    by : (rank_of e.0 == e.1) ≡ true
        → ((list_any (λ e. is_eq (code_cmp code e.0)) known ≡ false → rank_of code ≡ 66) → rank_beside known code ≡ rank_of code)
        → (b : Bool) → is_eq (code_cmp code e.0) ≡ b → rank_beside (e ∷ known) code ≡ rank_of code
    by ranked rest true t =
        let same : code ≡ e.0 = same_bytes-is code e.0 (texts_ties code e.0 ∙ t) in
        ap beside (cond-true _ _ _ t) ∙ sym (same_number ranked) ∙ ap rank_of (sym same)
    by ranked rest false t = ap beside (cond-false _ _ _ t) ∙ rest (λ n. none (rw t n))

-- what stands beside a code is its place, where the list has the canon
pub beside-is : (known : List (List ℕ × ℕ)) (code : List ℕ) → has_canon known ≡ true
    → beside (find (λ e. is_eq (code_cmp code e.0)) known) ≡ rank_of code
beside-is known code h =
    let p = and_parts (are_ranked known) (list_all (λ one. list_any (λ e. is_eq (code_cmp one e.0)) known) canon) h in
    among known code p.0 (no_rank known code p.1)
