-- What a question is made of, put together.
use Rattle.std.proofs.Common.{Bor, ◌≡◌, ℕ, ◌<◌, ◌≤◌, ◌^◌, List, [], ◌∷◌, ◌++◌, map, Option, None, Some, unwrap_or, IfSome, refl, sym, ap, ◌∙◌, arith, append_assoc}
use Rattle.std.specs.Fmt.{decimal}
use Rattle.op_core.specs.Ids.{Id}
use Rattle.op_core.specs.Ops.{Operation, own_text}
use Rattle.op_core.specs.Lists.{ids_of}
use Rattle.conflict_settling.specs.Answers.{IsNumberIn}

-- five pieces that were appended one after another
pub five : (start one two three four last a b c d e : List ℕ) → start ≡ [] → one ≡ start ++ a → two ≡ one ++ b → three ≡ two ++ c
    → four ≡ three ++ d → last ≡ four ++ e → last ≡ a ++ (b ++ (c ++ (d ++ e)))
five start one two three four last a b c d e none f g h i j =
    j ∙ ap (λ (x : List ℕ). x ++ e) (i ∙ ap (λ (x : List ℕ). x ++ d) (h ∙ ap (λ (x : List ℕ). x ++ c) (g ∙ ap (λ (x : List ℕ). x ++ b)
    (f ∙ ap (λ (x : List ℕ). x ++ a) none))))
    ∙ append_assoc ((a ++ b) ++ c) d e ∙ append_assoc (a ++ b) c (d ++ e) ∙ append_assoc a b (c ++ (d ++ e))

-- the ids of operations that are lent
pub ids_now : (ops : List (Bor Operation)) → map (λ op. op.now.id) ops ≡ ids_of (map (λ op. op.now) ops)
ids_now [] = refl
ids_now (op ∷ ops) = ap (λ (ids : List Id). op.now.id ∷ ids) (ids_now ops)

-- the texts of operations that are lent
pub texts_now : (ops : List (Bor Operation)) → map (λ op. own_text op.now) ops ≡ map own_text (map (λ op. op.now) ops)
texts_now [] = refl
texts_now (op ∷ ops) = ap (λ (texts : List (List ℕ)). own_text op.now ∷ texts) (texts_now ops)

-- ---- numbers

-- a word is no number, where what is read of it is none of those
pub no_number : (count number : ℕ) (word : List ℕ) (r : Option ℕ)
    → ((k : ℕ) → 0 < k → k < 2 ^ 64 → word ≡ decimal k → r ≡ Some k) → number ≡ unwrap_or r 0 → count < 2 ^ 64
    → (0 < number → number ≤ count → ⊥) → (k : ℕ) → IsNumberIn count word k → ⊥
no_number count number word r only is short none k n =
    let same : number ≡ k = is ∙ ap (λ (o : Option ℕ). unwrap_or o 0) (only k n.from_one (omega (arith, n.within, short)) n.spelled) in
    none (omega (arith, same, n.from_one)) (omega (arith, same, n.within))

-- what is read of a word is its number
pub read_number : (word : List ℕ) (r : Option ℕ) (number : ℕ) → IfSome r (λ n. word ≡ decimal n) → number ≡ unwrap_or r 0 → 0 < number
    → word ≡ decimal number
read_number word None number reads is pos = absurd (omega (arith, is, pos))
read_number word (Some n) number reads is pos = reads ∙ ap decimal (sym is)
