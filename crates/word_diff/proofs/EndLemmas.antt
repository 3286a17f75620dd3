-- What two lists of words have in common at their front and at their end.
use Rattle.std.proofs.Common.{◌≡◌, ℕ, suc, ◌+◌, ◌-◌, ◌<◌, ◌≤◌, Bool, true, false, List, [], ◌∷◌, ◌++◌, length, take, drop, reverse, get_or, sym, refl, ap, ◌∙◌, arith, cond, Bor, length-drop, take-append-drop}
use Rattle.std.proofs.lemmas.List.{get_or-map, get_or-reverse, reverse-append, reverse-reverse, length-reverse, length-map, drop_at, take_rest, take-map, drop-map}
use Rattle.std.proofs.lemmas.List.Sums.{common_prefix_len-le, common_prefix_len-drop_yes, common_prefix_len-drop_no}
use Rattle.std.specs.Cmp.Lexicographic.{same_text}
use Rattle.word_diff.specs.Common.{front_len, end_len}
use Rattle.word_diff.specs.Words.{same_word, texts}

abbrev Words : Type 0
Words = List (List ℕ)

-- what an index reads where there is nothing
abbrev pub no_text : Bor (List ℕ)
no_text = record { ref_ptr = (0, 0); now = [] }

-- there are as many texts by their bytes
pub length-texts : (list : List (Bor (List ℕ))) → length (texts list) ≡ length list
length-texts list = length-map list (λ (text : Bor (List ℕ)). text.now)

-- the first texts of a list
pub texts-take : (n : ℕ) (list : List (Bor (List ℕ))) → texts (take n list) ≡ take n (texts list)
texts-take n list = sym (take-map (λ (text : Bor (List ℕ)). text.now) n list)

-- and those after them
pub texts-drop : (n : ℕ) (list : List (Bor (List ℕ))) → texts (drop n list) ≡ drop n (texts list)
texts-drop n list = sym (drop-map (λ (text : Bor (List ℕ)). text.now) n list)

-- the words of an end
pub end_texts : (list : List (Bor (List ℕ))) (a : ℕ) → texts (take (length list - a) (drop a list)) ≡ drop a (texts list)
end_texts list a = ap texts (take_rest list a) ∙ texts-drop a list

-- the bytes of a text of a list
pub text_at : (list : List (Bor (List ℕ))) (k : ℕ) → k < length list → (get_or list k no_text).now ≡ get_or (texts list) k []
text_at list k lt = sym (get_or-map (λ (text : Bor (List ℕ)). text.now) list k no_text [] lt)

-- and counted from the end
pub text_at_end : (list : List (Bor (List ℕ))) (k : ℕ) → k < length list
    → (get_or list (length list - 1 - k) no_text).now ≡ get_or (reverse (texts list)) k []
text_at_end list k lt =
    let len = length-texts list in
    text_at list (length list - 1 - k) (omega arith)
    ∙ ap (λ (n : ℕ). get_or (texts list) (n - 1 - k) []) (sym len)
    ∙ sym (get_or-reverse (texts list) k [] (omega arith))

-- one more word that both have
pub front_more : (xs ys : Words) (i total : ℕ) → i < length xs → i < length ys → same_word (get_or xs i []) (get_or ys i []) ≡ true
    → i + front_len (drop i xs) (drop i ys) ≡ total → i + 1 + front_len (drop (i + 1) xs) (drop (i + 1) ys) ≡ total
front_more xs ys i total in_xs in_ys same so_far =
    omega (arith, common_prefix_len-drop_yes same_word xs ys i [] [] in_xs in_ys same)

-- the first word that differs ends the front
pub front_stops : (xs ys : Words) (i total : ℕ) → i < length xs → i < length ys → same_word (get_or xs i []) (get_or ys i []) ≡ false
    → i + front_len (drop i xs) (drop i ys) ≡ total → i ≡ total
front_stops xs ys i total in_xs in_ys other so_far =
    omega (arith, common_prefix_len-drop_no same_word xs ys i [] [] in_xs in_ys other)

-- and so does the end of either
pub front_left : (xs ys : Words) (i total : ℕ) → length xs ≤ i → i + front_len (drop i xs) (drop i ys) ≡ total → i ≡ total
front_left xs ys i total past so_far =
    omega (arith, (common_prefix_len-le same_word (drop i xs) (drop i ys)).0, length-drop i xs)

pub front_right : (xs ys : Words) (i total : ℕ) → length ys ≤ i → i + front_len (drop i xs) (drop i ys) ≡ total → i ≡ total
front_right xs ys i total past so_far =
    omega (arith, (common_prefix_len-le same_word (drop i xs) (drop i ys)).1, length-drop i ys)

taken : (x y : List ℕ) (xs ys : Words) (b : Bool) → b ≡ same_word x y → take (front_len xs ys) xs ≡ take (front_len xs ys) ys
    → take (cond b (1 + front_len xs ys) 0) (x ∷ xs) ≡ take (cond b (1 + front_len xs ys) 0) (y ∷ ys)
taken x y xs ys true is same =
    let n = front_len xs ys in
    let next : 1 + n ≡ suc n = omega arith in
    rw next (λ i. same_text x y is i ∷ same i)
taken x y xs ys false is same = refl

-- both begin with the common front
pub front_same : (xs ys : Words) → take (front_len xs ys) xs ≡ take (front_len xs ys) ys
front_same [] [] = refl
front_same [] (y ∷ ys) = refl
front_same (x ∷ xs) [] = refl
front_same (x ∷ xs) (y ∷ ys) = taken x y xs ys (same_word x y) refl (front_same xs ys)

end_of : (xs : Words) (n : ℕ) → n ≤ length xs → drop (length xs - n) xs ≡ reverse (take n (reverse xs))
end_of xs n le =
    let back = reverse xs in
    let parts : xs ≡ reverse (drop n back) ++ reverse (take n back) =
    sym (reverse-reverse xs) ∙ ap reverse (sym (take-append-drop n back)) ∙ reverse-append (take n back) (drop n back) in
    let len : length (reverse (drop n back)) ≡ length xs - n = length-reverse (drop n back) ∙ length-drop n back
    ∙ ap (λ (k : ℕ). k - n) (length-reverse xs) in
    ap (drop (length xs - n)) parts ∙ drop_at (reverse (drop n back)) (reverse (take n back)) (length xs - n) len

-- the common end is no longer than either
pub end_len-le : (xs ys : Words) → (end_len xs ys ≤ length xs) × (end_len xs ys ≤ length ys)
end_len-le xs ys =
    let le = common_prefix_len-le same_word (reverse xs) (reverse ys) in
    (omega (arith, le.0, length-reverse xs), omega (arith, le.1, length-reverse ys))

-- both end with it
pub end_same : (xs ys : Words) → drop (length xs - end_len xs ys) xs ≡ drop (length ys - end_len xs ys) ys
end_same xs ys =
    let le = end_len-le xs ys in
    end_of xs (end_len xs ys) le.0 ∙ ap reverse (front_same (reverse xs) (reverse ys)) ∙ sym (end_of ys (end_len xs ys) le.1)
