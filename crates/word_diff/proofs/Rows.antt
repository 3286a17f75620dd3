-- The rows of the table.
use Rattle.std.proofs.Common.{◌≡◌, ℕ, zero, suc, ◌+◌, ◌-◌, ◌<◌, ◌≤◌, Bool, true, false, List, [], ◌∷◌, ◌++◌, length, drop, get_or, sym, refl, ap, ◌∙◌, ⊎_elim, arith, cond, replicate, length-append, length-drop}
use Rattle.std.specs.Prelude.{max}
use Rattle.std.specs.Global.{Vec}
use Rattle.std.proofs.str.Laws.{order}
use Rattle.std.proofs.lemmas.List.{get_or_append_left, get_or_at, get_or-map, length-map, drop_more, replicate_more}
use Rattle.word_diff.specs.Words.{same_word}
use Rattle.word_diff.specs.Table.{row_len, common_len, row_of, rows, table_of}

abbrev Words : Type 0
Words = List (List ℕ)

-- by the first words of both
pub common_len-cons : (x y : List ℕ) (xs ys : Words) → common_len (x ∷ xs) (y ∷ ys)
    ≡ cond (same_word x y) (common_len xs ys + 1) (max (common_len xs (y ∷ ys)) (common_len (x ∷ xs) ys))
unfolding common_len row_len
common_len-cons x y xs ys = refl

-- no words are in common with none
pub common_len-nil : (xs : Words) → common_len xs [] ≡ 0
unfolding common_len row_len
common_len-nil [] = refl
common_len-nil (x ∷ xs) = refl

-- and none with any
pub common_len-none : (ys : Words) → common_len [] ys ≡ 0
unfolding common_len
common_len-none ys = refl

-- the row for no words
pub row_of-nil : (xs : Words) → row_of xs [] ≡ 0 ∷ []
unfolding row_of
row_of-nil xs = ap (λ (n : ℕ). n ∷ []) (common_len-nil xs)

-- a row has a number for each end
pub length-row_of : (xs ys : Words) → length (row_of xs ys) ≡ length ys + 1
unfolding row_of
length-row_of xs [] = refl
length-row_of xs (y ∷ ys) = omega (arith, length-row_of xs ys, length-append (row_of xs ys) (common_len xs (y ∷ ys) ∷ []))

-- what the row has for the end of b words
pub row_of-at : (xs ys : Words) (b : ℕ) → b ≤ length ys → get_or (row_of xs ys) b 0 ≡ common_len xs (drop (length ys - b) ys)
unfolding row_of
row_of-at xs [] zero le = refl
row_of-at xs [] (suc b) le = absurd (omega arith)
row_of-at xs (y ∷ ys) b le = ⊎_elim
    (λ (lt : b < suc (length ys)).
    let place : suc (length ys) - b ≡ suc (length ys - b) = omega arith in
    get_or_append_left (row_of xs ys) (common_len xs (y ∷ ys) ∷ []) 0 b (omega (arith, length-row_of xs ys))
    ∙ row_of-at xs ys b (omega arith) ∙ ap (λ (n : ℕ). common_len xs (drop n (y ∷ ys))) (sym place))
    (λ past.
    let place : 0 ≡ suc (length ys) - b = omega arith in
    get_or_at (row_of xs ys) (common_len xs (y ∷ ys)) [] 0 b (omega (arith, length-row_of xs ys))
    ∙ ap (λ (n : ℕ). common_len xs (drop n (y ∷ ys))) place)
    (order b (suc (length ys)))

-- the row for no words before ys
pub row_of-none : (ys : Words) → row_of [] ys ≡ replicate (length ys + 1) 0
unfolding row_of common_len
row_of-none [] = refl
row_of-none (y ∷ ys) =
    let next : length ys + 1 + 1 ≡ suc (length ys) + 1 = omega arith in
    ap (λ (l : List ℕ). l ++ 0 ∷ []) (row_of-none ys) ∙ replicate_more (length ys + 1) 0 ∙ ap (λ (n : ℕ). replicate n 0) next

-- the table for no words
pub table_of-nil : (ys : Words) → table_of [] ys ≡ row_of [] ys ∷ []
unfolding table_of
table_of-nil ys = refl

-- a table has a row for each end
pub length-table_of : (xs ys : Words) → length (table_of xs ys) ≡ length xs + 1
unfolding table_of
length-table_of [] ys = refl
length-table_of (x ∷ xs) ys = omega (arith, length-table_of xs ys, length-append (table_of xs ys) (row_of (x ∷ xs) ys ∷ []))

-- the row that the table has for the end of a words
pub table_of-at : (xs ys : Words) (a : ℕ) → a ≤ length xs → get_or (table_of xs ys) a [] ≡ row_of (drop (length xs - a) xs) ys
unfolding table_of
table_of-at [] ys zero le = refl
table_of-at [] ys (suc a) le = absurd (omega arith)
table_of-at (x ∷ xs) ys a le = ⊎_elim
    (λ (lt : a < suc (length xs)).
    let place : suc (length xs) - a ≡ suc (length xs - a) = omega arith in
    get_or_append_left (table_of xs ys) (row_of (x ∷ xs) ys ∷ []) [] a (omega (arith, length-table_of xs ys))
    ∙ table_of-at xs ys a (omega arith) ∙ ap (λ (n : ℕ). row_of (drop n (x ∷ xs)) ys) (sym place))
    (λ past.
    let place : 0 ≡ suc (length xs) - a = omega arith in
    get_or_at (table_of xs ys) (row_of (x ∷ xs) ys) [] [] a (omega (arith, length-table_of xs ys))
    ∙ ap (λ (n : ℕ). row_of (drop n (x ∷ xs)) ys) place)
    (order a (suc (length xs)))

-- the last row of the table for the end of k words
pub last_row : (xs ys : Words) (k : ℕ) → k ≤ length xs
    → get_or (table_of (drop (length xs - k) xs) ys) k [] ≡ row_of (drop (length xs - k) xs) ys
last_row xs ys k le =
    let end = drop (length xs - k) xs in
    let len : length end ≡ k = omega (arith, length-drop (length xs - k) xs) in
    let none : length end - k ≡ 0 = omega arith in
    table_of-at end ys k (omega arith) ∙ ap (λ (n : ℕ). row_of (drop n end) ys) none

-- the end with one word more
pub end_more : (ys : Words) (k : ℕ) → k < length ys → drop (length ys - (k + 1)) ys ≡ get_or ys (length ys - 1 - k) [] ∷ drop
    (length ys - k) ys
end_more ys k lt =
    let here : length ys - 1 - k ≡ length ys - (k + 1) = omega arith in
    let next : length ys - (k + 1) + 1 ≡ length ys - k = omega arith in
    drop_more ys (length ys - (k + 1)) [] (omega arith)
    ∙ (λ i. get_or ys (sym here i) [] ∷ drop (next i) ys)

-- a row grows by the number for the end with one word more
pub row_more : (xs ys : Words) (k : ℕ) → k < length ys
    → row_of xs (drop (length ys - (k + 1)) ys) ≡ row_of xs (drop (length ys - k) ys) ++ common_len xs (drop (length ys - (k + 1)) ys) ∷ []
unfolding row_of
row_more xs ys k lt = rw (end_more ys k lt) refl

-- and the table by the row for it
pub table_more : (xs ys : Words) (k : ℕ) → k < length xs
    → table_of (drop (length xs - (k + 1)) xs) ys ≡ table_of (drop (length xs - k) xs) ys ++ row_of (drop (length xs - (k + 1)) xs) ys ∷ []
unfolding table_of
table_more xs ys k lt = rw (end_more xs k lt) refl

first_and_rest : (xs : Words) → 0 < length xs → xs ≡ get_or xs 0 [] ∷ drop 1 xs
first_and_rest [] some = absurd (omega arith)
first_and_rest (x ∷ xs) some = refl

-- the next number of a row, by two of the row below and the last of its own
entry_is : (xs ys : Words) (k : ℕ) → 0 < length xs → k < length ys → common_len xs (drop (length ys - (k + 1)) ys)
    ≡ cond (same_word (get_or xs 0 []) (get_or ys (length ys - 1 - k) [])) (get_or (row_of (drop 1 xs) ys) k 0 + 1)
    (max (get_or (row_of (drop 1 xs) ys) (k + 1) 0) (get_or (row_of xs (drop (length ys - k) ys)) k 0))
entry_is xs ys k some lt =
    let x = get_or xs 0 [] in
    let y = get_or ys (length ys - 1 - k) [] in
    let below = drop 1 xs in
    let end = drop (length ys - k) ys in
    let more : drop (length ys - (k + 1)) ys ≡ y ∷ end = end_more ys k lt in
    let parts : xs ≡ x ∷ below = first_and_rest xs some in
    let len : length end ≡ k = omega (arith, length-drop (length ys - k) ys) in
    let none : length end - k ≡ 0 = omega arith in
    let diagonal : common_len below end ≡ get_or (row_of below ys) k 0 = sym (row_of-at below ys k (omega arith)) in
    let skip_x : common_len below (y ∷ end) ≡ get_or (row_of below ys) (k + 1) 0 =
    sym (row_of-at below ys (k + 1) (omega arith) ∙ ap (common_len below) more) in
    let skip_y : common_len xs end ≡ get_or (row_of xs end) k 0 =
    sym (row_of-at xs end k (omega arith) ∙ ap (λ (n : ℕ). common_len xs (drop n end)) none) in
    ap (common_len xs) more ∙ ap (λ (l : Words). common_len l (y ∷ end)) parts ∙ common_len-cons x y below end
    ∙ ap (λ (l : Words). cond (same_word x y) (common_len below end + 1) (max (common_len below (y ∷ end)) (common_len l end))) (sym parts)
    ∙ (λ i. cond (same_word x y) (diagonal i + 1) (max (skip_x i) (skip_y i)))

-- the next number of a row, where the two words are one
pub entry_same : (xs ys : Words) (k : ℕ) → 0 < length xs → k < length ys
    → same_word (get_or xs 0 []) (get_or ys (length ys - 1 - k) []) ≡ true
    → get_or (row_of (drop 1 xs) ys) k 0 + 1 ≡ common_len xs (drop (length ys - (k + 1)) ys)
entry_same xs ys k some lt same = sym (entry_is xs ys k some lt ∙ ap (λ (b : Bool). cond b (get_or (row_of (drop 1 xs) ys) k 0 + 1)
    (max (get_or (row_of (drop 1 xs) ys) (k + 1) 0) (get_or (row_of xs (drop (length ys - k) ys)) k 0))) same)

-- and where they are not
pub entry_other : (xs ys : Words) (k : ℕ) → 0 < length xs → k < length ys
    → same_word (get_or xs 0 []) (get_or ys (length ys - 1 - k) []) ≡ false
    → max (get_or (row_of (drop 1 xs) ys) (k + 1) 0) (get_or (row_of xs (drop (length ys - k) ys)) k 0)
    ≡ common_len xs (drop (length ys - (k + 1)) ys)
entry_other xs ys k some lt other = sym (entry_is xs ys k some lt ∙ ap (λ (b : Bool). cond b (get_or (row_of (drop 1 xs) ys) k 0 + 1)
    (max (get_or (row_of (drop 1 xs) ys) (k + 1) 0) (get_or (row_of xs (drop (length ys - k) ys)) k 0))) other)

-- a row that an index reads
pub read_row : (list : List (Vec ℕ)) (k : ℕ) (d : Vec ℕ) → k < length list → d ≡ get_or list k d → d.items ≡ get_or (rows list) k []
read_row list k d lt is =
    ap (λ (row : Vec ℕ). row.items) is ∙ sym (get_or-map (λ (row : Vec ℕ). row.items) list k d [] lt)

-- the row that a table has for the end from i on
pub table_row : (xs ys : Words) (list : List (Vec ℕ)) (row : Vec ℕ) (a i : ℕ) → rows list ≡ table_of xs ys → a + i ≡ length xs
    → row ≡ get_or list a row → row.items ≡ row_of (drop i xs) ys
table_row xs ys list row a i table place is =
    let long = length-map list (λ (one : Vec ℕ). one.items) in
    let within : a < length list = omega (arith, ap length table, length-table_of xs ys, long) in
    let from : length xs - a ≡ i = omega arith in
    read_row list a row within is ∙ ap (λ (l : Words). get_or l a []) table ∙ table_of-at xs ys a (omega arith)
    ∙ ap (λ (n : ℕ). row_of (drop n xs) ys) from

-- a table has a row more than words
pub table_rows : (xs ys : Words) (list : List (Vec ℕ)) → rows list ≡ table_of xs ys → length list ≡ length xs + 1
table_rows xs ys list table =
    omega (arith, ap length table, length-table_of xs ys, length-map list (λ (one : Vec ℕ). one.items))
