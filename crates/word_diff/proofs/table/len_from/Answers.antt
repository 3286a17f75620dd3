use Rattle.std.proofs.Common.{◌≡◌, ℕ, ◌-◌, ◌≤◌, List, length, drop, get_or, ap, ◌∙◌, arith, Bor}
use Rattle.std.specs.Global.{Vec}
use Rattle.std.proofs.lemmas.List.{get_or_read}
use Rattle.word_diff.specs.Table.{common_len, row_of, rows, table_of}
use Rattle.word_diff.specs.Words.{texts}
use Rattle.word_diff.proofs.EndLemmas.{length-texts}
use Rattle.word_diff.proofs.Rows.{length-row_of, row_of-at, table_row, table_rows}
use Rattle.word_diff.proofs.table.len_from.Goals as goal

row_is : (old new : List (Bor (List ℕ))) (list : List (Vec ℕ)) (row : Vec ℕ) (i : ℕ) → rows list ≡ table_of (texts old) (texts new)
    → i ≤ length old → row ≡ get_or list (length old - i) row → row.items ≡ row_of (drop i (texts old)) (texts new)
row_is old new list row i table le is =
    table_row (texts old) (texts new) list row (length old - i) i table (omega (arith, length-texts old)) is

pub bounds-list-old : goal.bounds-list-old
bounds-list-old c =
    omega (arith, table_rows (texts c.args.old.now) (texts c.args.new.now) c.args.list.now c.requires.table, length-texts c.args.old.now)

pub index-requires : goal.index-requires
index-requires c =
    let row = c.index-list-old.result in
    let is = row_is c.args.old.now c.args.new.now c.args.list.now row c.args.i c.requires.table c.requires.in_old c.index-list-old.is in
    omega (
      arith,
      row.ok.0,
      ap length is,
      length-row_of (drop c.args.i (texts c.args.old.now)) (texts c.args.new.now),
      length-texts c.args.new.now,
    )

pub returns : goal.returns
returns c =
    let row = c.index-list-old.result in
    let xs = drop c.args.i (texts c.args.old.now) in
    let ys = texts c.args.new.now in
    let b = length c.args.new.now - c.args.j in
    let is = row_is c.args.old.now c.args.new.now c.args.list.now row c.args.i c.requires.table c.requires.in_old c.index-list-old.is in
    let within : b ≤ length ys = omega (arith, length-texts c.args.new.now) in
    let from : length ys - b ≡ c.args.j = omega (arith, length-texts c.args.new.now, c.requires.in_new) in
    get_or_read row.items b c.index.result.now (omega (arith, ap length is, length-row_of xs ys)) c.index.ensures 0
    ∙ ap (λ (l : List ℕ). get_or l b 0) is ∙ row_of-at xs ys b within ∙ ap (λ (n : ℕ). common_len xs (drop n ys)) from
