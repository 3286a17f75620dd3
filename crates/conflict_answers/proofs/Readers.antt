-- What the readers of lines find, and that there is nothing where they find nothing.
use Rattle.std.proofs.Common.{◌≡◌, ◌≢◌, ◌+◌, ◌<◌, ◌≤◌, ◌^◌, ℕ, zero, suc, ◌==◌, Bool, true, false, List, [], ◌∷◌, ◌++◌, length, take, drop, Option, Some, None, IfSome, MatchOption, Bor, codes, refl, sym, ap, ◌∙◌, arith, append_assoc, take-append-drop}
use Rattle.std.specs.Fmt.{decimal}
use Rattle.std.specs.Option.{option_map}
use Rattle.std.proofs.lemmas.Bool.{eqb-true}
use Rattle.std.proofs.lemmas.List.{append_cancel_left}
use Rattle.usfm_ref.specs.Books.{is_book_code}
use Rattle.usfm_ref.specs.Keys.{KeyParts, is_key}
use Rattle.usfm_ref.specs.References.{key_text, ref_text}
use Rattle.op_core.specs.Ids.{Id, id_text, is_id}
use Rattle.conflict_answers.specs.Spelling.{counted_lines, id_texts, take_line}
use Rattle.conflict_answers.specs.Loops.Cuts.{Lacks}
use Rattle.conflict_answers.proofs.Lines.{zero_is}
use Rattle.conflict_answers.proofs.Plain.{book_plain, decimal_plain, id_plain, key_plain, plain_lacks}

-- what is found is not missed
pub missed : {A B : Type 0} (f : A → B) (o : Option A) (x : B) → o ≡ None → option_map f o ≡ Some x → ⊥
missed f None x n e = cc
missed f (Some a) x n e = cc

-- after the same front comes the same
pub same_rest : (front a b bytes : List ℕ) → bytes ≡ front ++ a → bytes ≡ front ++ b → a ≡ b
same_rest front a b bytes e f = append_cancel_left front a b (sym e ∙ f)

-- fronts of one length are the same, and so is what comes after them
pub same_fronts : (a b x y : List ℕ) → length a ≡ length b → a ++ x ≡ b ++ y → (a ≡ b) × (x ≡ y)
same_fronts [] [] x y l e = (refl, e)
same_fronts [] (d ∷ b) x y l e = absurd (omega (arith, l))
same_fronts (c ∷ a) [] x y l e = absurd (omega (arith, l))
same_fronts (c ∷ a) (d ∷ b) x y l e =
    let head : c ≡ d = cc in
    let rest : a ++ x ≡ b ++ y = cc in
    let short : length a ≡ length b = omega (arith, l) in
    let both = same_fronts a b x y short rest in
    ((λ i. head i ∷ both.0 i), both.1)

-- bytes that are split at a length, beside other bytes of that length
pub split_so : (n : ℕ) (bytes front back x y : List ℕ) → front ≡ take n bytes → back ≡ drop n bytes → length front ≡ n
    → length x ≡ n → bytes ≡ x ++ y → (front ≡ x) × (back ≡ y)
split_so n bytes front back x y f b l m e =
    same_fronts front x back y (l ∙ sym m) ((λ i. f i ++ b i) ∙ take-append-drop n bytes ∙ e)

-- ---- the lines, word by word

pub take_told : (id : Id) (rest : List ℕ) → take_line id ++ rest ≡ codes "take" ++ 32 ∷ (id_text id ++ 10 ∷ rest)
take_told id rest = ap (λ (bs : List ℕ). codes "take " ++ bs) (append_assoc (id_text id) (10 ∷ []) rest)

pub counted_told : (word text rest : List ℕ)
    → counted_lines word text ++ rest ≡ word ++ 32 ∷ (decimal (length text) ++ 10 ∷ (text ++ 10 ∷ rest))
counted_told word text rest =
    append_assoc word (32 ∷ (decimal (length text) ++ 10 ∷ (text ++ 10 ∷ []))) rest
    ∙ ap (λ (bs : List ℕ). word ++ 32 ∷ bs)
    (append_assoc (decimal (length text)) (10 ∷ (text ++ 10 ∷ [])) rest
    ∙ ap (λ (bs : List ℕ). decimal (length text) ++ 10 ∷ bs) (append_assoc text (10 ∷ []) rest))

pub ref_told : (book : List ℕ) (key : KeyParts) (rest : List ℕ)
    → ref_text book key ++ 32 ∷ rest ≡ book ++ 32 ∷ (key_text key ++ 32 ∷ rest)
ref_told book key rest = append_assoc book (32 ∷ key_text key) (32 ∷ rest)

pub id_lacks : (id : Id) → is_id id ≡ true → Lacks 10 (id_text id)
id_lacks id v = plain_lacks 10 (id_text id) (omega arith) (id_plain id v)

pub number_lacks : (n : ℕ) → n < 2 ^ 64 → Lacks 10 (decimal n)
number_lacks n short = plain_lacks 10 (decimal n) (omega arith) (decimal_plain n short)

pub book_lacks : (book : List ℕ) → is_book_code book ≡ true → Lacks 32 book
book_lacks book is = plain_lacks 32 book (omega arith) (book_plain book is)

pub key_lacks : (key : KeyParts) → is_key key.chapter key.place ≡ true → Lacks 32 (key_text key)
key_lacks key is = plain_lacks 32 (key_text key) (omega arith) (key_plain key is)

-- ---- an option whose value is known

pub some_is : {A : Type 0} (a b : A) → Some a ≡ Some b → a ≡ b
some_is a b e = cc

pub none_is : {A : Type 0} (o : Option A) (a : A) → o ≡ None → o ≡ Some a → ⊥
none_is None a n e = cc
none_is (Some b) a n e = cc

pub nothing_is : {A : Type 0} (a : A) → ◌≡◌ {A = Option A} None (Some a) → ⊥
nothing_is a e = cc

-- ---- what comes after a front

pub behind_found : (front bytes : List ℕ) (r : Option (Bor (List ℕ)))
    → MatchOption r ((rest : List ℕ) → bytes ≢ front ++ rest) (λ x. bytes ≡ front ++ x.now) → IfSome r (λ x. bytes ≡ front ++ x.now)
behind_found front bytes None m = tt
behind_found front bytes (Some x) m = m

pub behind_only : (front bytes : List ℕ) (r : Option (Bor (List ℕ)))
    → MatchOption r ((rest : List ℕ) → bytes ≢ front ++ rest) (λ x. bytes ≡ front ++ x.now) → (rest : List ℕ) → bytes ≡ front ++ rest
    → option_map (λ x. x.now) r ≡ Some rest
behind_only front bytes None m rest e = absurd (m rest e)
behind_only front bytes (Some x) m rest e = ap Some (same_rest front x.now rest bytes m e)

-- a number that is not written as 0 is above it
pub above_0 : (n : ℕ) (text : List ℕ) → (text ≡ codes "0" → ⊥) → text ≡ decimal n → 0 < n
above_0 zero text unlike is = absurd (unlike (is ∙ zero_is))
above_0 (suc n) text unlike is = omega arith

-- the words of two ids or more begin with a space
pub words_begin : (ids : List Id) → 2 ≤ length ids → (words : List ℕ) × (id_texts ids ≡ 32 ∷ words)
words_begin [] two = absurd (omega (arith, two))
words_begin (id ∷ ids) two = (id_text id ++ id_texts ids, refl)

-- ---- what is left of bytes

pub some_left : (xs : List ℕ) (r : Bool) → r ≡ (length xs == 0) → r ≡ false → xs ≢ []
some_left [] r e f g = cc (sym e ∙ f)
some_left (x ∷ xs) r e f g = cc g

pub none_left : (xs : List ℕ) (r : Bool) → r ≡ (length xs == 0) → r ≡ true → xs ≡ []
none_left [] r e f = refl
none_left (x ∷ xs) r e f = absurd (omega (arith, eqb-true (length (x ∷ xs)) 0 (sym e ∙ f)))
