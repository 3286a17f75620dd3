use Rattle.std.proofs.Common.{◌≡◌, ℕ, ◌+◌, ◌-◌, ◌<◌, List, [], ◌∷◌, ◌++◌, length, take, drop, get_or, sym, ap, ◌∙◌, arith, Bor, length-drop, replicate}
use Rattle.std.specs.Global.{Vec}
use Rattle.std.proofs.lemmas.List.{length-map, drop-drop, drop_all, map_push}
use Rattle.word_diff.specs.Table.{row_of, rows, table_of}
use Rattle.word_diff.specs.Words.{texts}
use Rattle.word_diff.proofs.EndLemmas.{length-texts, end_texts}
use Rattle.word_diff.proofs.Rows.{read_row, row_of-none, length-table_of, last_row, table_more, table_of-nil}
use Rattle.word_diff.proofs.table.table.Goals as goal

row_count : (old new : List (Bor (List ℕ))) (list : List (Vec ℕ)) (k : ℕ) → k < length old
    → rows list ≡ table_of (drop (length (texts old) - k) (texts old)) (texts new) → length list ≡ k + 1
row_count old new list k lt is =
    omega (
      arith,
      ap length is,
      length-map list (λ (row : Vec ℕ). row.items),
      length-table_of (drop (length (texts old) - k) (texts old)) (texts new),
      length-drop (length (texts old) - k) (texts old),
      length-texts old,
    )

-- one row of zeros is the table for no words
first_rows : (xs ys : List (List ℕ)) (list before : List (Vec ℕ)) (row : Vec ℕ) → list ≡ before ++ row ∷ [] → before ≡ []
    → row.items ≡ replicate (length ys + 1) 0 → rows list ≡ table_of (drop (length xs - 0) xs) ys
first_rows xs ys list before row is none zeros =
    ap rows (is ∙ ap (λ (l : List (Vec ℕ)). l ++ row ∷ []) none)
    ∙ ap (λ (r : List ℕ). r ∷ []) (zeros ∙ sym (row_of-none ys))
    ∙ sym (ap (λ (l : List (List ℕ)). table_of l ys) (drop_all (length xs - 0) xs (omega arith)) ∙ table_of-nil ys)

pub loop-k-init : goal.loop-k-init
loop-k-init c =
    let zeros : c.in_ok-vec.field-0.items ≡ replicate (length (texts c.args.new.now) + 1) 0 =
    c.in_ok-vec.ensures.items_if_clones_equal (λ y e. e) ∙ ap (λ (n : ℕ). replicate (n + 1) 0) (sym (length-texts c.args.new.now)) in
    first_rows (texts c.args.old.now) (texts c.args.new.now) c.push.new.self.items c.in_ok-rows.rows.items c.in_ok-vec.field-0
    c.in_ok-push.ensures.items c.in_ok-rows.ensures.items zeros

pub index-requires : goal.index-requires
index-requires c =
    omega (
      arith,
      c.loop-k.rows.ok.0,
      row_count c.args.old.now c.args.new.now c.loop-k.rows.items c.loop-k.k c.loop-k-test.true c.loop-k.invariant,
    )

pub next_row-requires-clause-below_is : goal.next_row-requires-clause-below_is
next_row-requires-clause-below_is c =
    let old = c.args.old.now in
    let xs = texts old in
    let ys = texts c.args.new.now in
    let k = c.loop-k.k in
    let a = length old - 1 - k in
    let count = row_count old c.args.new.now c.loop-k.rows.items k c.loop-k-test.true c.loop-k.invariant in
    let place : a + 1 ≡ length xs - k = omega (arith, length-texts old) in
    let rest : drop 1 (texts (take (length old - a) (drop a old))) ≡ drop (length xs - k) xs =
    ap (drop 1) (end_texts old a) ∙ drop-drop 1 a xs ∙ ap (λ (n : ℕ). drop n xs) place in
    c.deref.ensures.value ∙ read_row c.loop-k.rows.items k c.index.result.now (omega arith) c.index.ensures
    ∙ ap (λ (l : List (List ℕ)). get_or l k []) c.loop-k.invariant
    ∙ last_row xs ys k (omega (arith, length-texts old))
    ∙ ap (λ (l : List (List ℕ)). row_of l ys) (sym rest)

pub loop-k-preserved : goal.loop-k-preserved
loop-k-preserved c =
    let old = c.args.old.now in
    let xs = texts old in
    let ys = texts c.args.new.now in
    let k = c.loop-k.k in
    let a = length old - 1 - k in
    let place : a ≡ length xs - (k + 1) = omega (arith, length-texts old) in
    let row : c.in_ok-row.row.items ≡ row_of (drop (length xs - (k + 1)) xs) ys =
    c.in_ok-row.ensures ∙ ap (λ (l : List (List ℕ)). row_of l ys) (end_texts old a ∙ ap (λ (n : ℕ). drop n xs) place) in
    ap rows c.in_ok-push-2.ensures.items ∙ map_push (λ (row : Vec ℕ). row.items) c.loop-k.rows.items c.in_ok-row.row
    ∙ (λ i. c.loop-k.invariant i ++ row i ∷ []) ∙ sym (table_more xs ys k (omega (arith, length-texts old)))
