use Rattle.std.proofs.Common.{◌≡◌, ℕ, ◌+◌, ◌-◌, ◌<◌, Bool, true, false, List, [], ◌∷◌, ◌++◌, length, drop, get_or, sym, ap, ◌∙◌, arith, Bor, length-drop}
use Rattle.std.specs.Prelude.{max}
use Rattle.std.proofs.lemmas.List.{get_or_read, drop_all}
use Rattle.word_diff.specs.Table.{common_len, row_of}
use Rattle.word_diff.specs.Words.{same_word, texts}
use Rattle.word_diff.proofs.EndLemmas.{no_text, length-texts, text_at}
use Rattle.word_diff.proofs.Lengths.{common_len-le}
use Rattle.word_diff.proofs.Rows.{length-row_of, row_of-at, row_of-nil, row_more, entry_same, entry_other}
use Rattle.word_diff.proofs.table.next_row.Goals as goal
use Rattle.word_diff.proofs.table.next_row.Goals.{then-eq, else-eq}

tested : (old new : List (Bor (List ℕ))) (k : ℕ) (b : Bool) → 0 < length old → k < length new
    → same_word (get_or old 0 no_text).now (get_or new (length new - 1 - k) no_text).now ≡ b
    → same_word (get_or (texts old) 0 []) (get_or (texts new) (length (texts new) - 1 - k) []) ≡ b
tested old new k b some lt is =
    ap (λ (n : ℕ). same_word (get_or (texts old) 0 []) (get_or (texts new) (n - 1 - k) [])) (length-texts new)
    ∙ sym (λ i. same_word (text_at old 0 some i) (text_at new (length new - 1 - k) (omega arith) i)) ∙ is

below_len : (xs : List (List ℕ)) (new : List (Bor (List ℕ))) (below : List ℕ) → below ≡ row_of xs (texts new)
    → length below ≡ length new + 1
below_len xs new below is = omega (arith, ap length is, length-row_of xs (texts new), length-texts new)

pub loop-k-init : goal.loop-k-init
loop-k-init c =
    let ys = texts c.args.new.now in
    c.in_ok-push.ensures.items ∙ ap (λ (l : List ℕ). l ++ 0 ∷ []) c.in_ok-row.ensures.items
    ∙ sym (ap (row_of (texts c.args.old.now)) (drop_all (length ys - 0) ys (omega arith)) ∙ row_of-nil (texts c.args.old.now))

pub bounds-below-k : goal.bounds-below-k
bounds-below-k c = omega (arith, below_len _ c.args.new.now c.args.below.now c.requires.below_is)

pub overflow_add-longest : goal.overflow_add-longest
overflow_add-longest c =
    let xs = drop 1 (texts c.args.old.now) in
    let ys = texts c.args.new.now in
    let k = c.loop-k.k in
    omega (
      arith,
      ap (λ (l : List ℕ). get_or l k 0) c.requires.below_is,
      row_of-at xs ys k (omega (arith, length-texts c.args.new.now)),
      common_len-le xs (drop (length ys - k) ys),
      length-drop 1 (texts c.args.old.now),
      length-texts c.args.old.now,
    )

pub bounds-below-k-else-eq : goal.bounds-below-k-else-eq
bounds-below-k-else-eq c = omega (arith, below_len _ c.args.new.now c.args.below.now c.requires.below_is)

pub index-requires : goal.index-requires
index-requires c =
    let ys = texts c.args.new.now in
    let len = length-row_of (texts c.args.old.now) (drop (length ys - c.loop-k.k) ys) in
    omega (
      arith,
      c.loop-k.row.ok.0,
      ap length c.loop-k.invariant,
      len,
      length-drop (length ys - c.loop-k.k) ys,
      length-texts c.args.new.now,
    )

pub loop-k-preserved : goal.loop-k-preserved
loop-k-preserved c =
    let old = c.args.old.now in
    let new = c.args.new.now in
    let xs = texts old in
    let ys = texts new in
    let k = c.loop-k.k in
    let lt : k < length ys = omega (arith, length-texts new) in
    let some : 0 < length xs = omega (arith, length-texts old, c.requires.some) in
    let longest : c.if-eq.longest ≡ common_len xs (drop (length ys - (k + 1)) ys) = elim c.if-eq.branch [
      | then-eq w ↦ w.longest-is ∙ ap (λ (l : List ℕ). get_or l k 0 + 1) c.requires.below_is
          ∙ entry_same xs ys k some lt (tested old new k true c.requires.some c.loop-k-test.true (sym c.eq.ensures ∙ w.if-eq.true))
      | else-eq w ↦
          let end = drop (length ys - k) ys in
          let last : w.index.result.now ≡ get_or (row_of xs end) k 0 =
          get_or_read c.loop-k.row.items k w.index.result.now
          (omega (arith, ap length c.loop-k.invariant, length-row_of xs end, length-drop (length ys - k) ys)) w.index.ensures 0
          ∙ ap (λ (l : List ℕ). get_or l k 0) c.loop-k.invariant in
          w.longest-is ∙ w.max-longest.ensures ∙ (λ i. max (get_or (c.requires.below_is i) (k + 1) 0) (last i))
          ∙ entry_other xs ys k some lt (tested old new k false c.requires.some c.loop-k-test.true (sym c.eq.ensures ∙ w.if-eq.false))
    ] in
    c.in_ok-push-2.ensures.items ∙ (λ i. c.loop-k.invariant i ++ longest i ∷ []) ∙ sym (row_more xs ys k lt)
