use Rattle.std.proofs.Common.{ℕ, List, [], get_or, true, false, sym, ap, ◌∙◌, arith}
use Rattle.std.specs.Cmp.Lexicographic.{texts_ties}
use Rattle.std.proofs.lemmas.List.{get_or_default}
use Rattle.usfm_ref.specs.Books.{code_cmp}
use Rattle.usfm_ref.proofs.Orders.{code_total}
use Rattle.usfm_ref.proofs.Sorted.{found_here, found_not, found_end, tied_back}
use Rattle.usfm_ref.proofs.Ranks.{beside, beside-is}
use Rattle.usfm_ref.proofs.book.rank_among.Goals as goal

pub returns-then-eq : goal.returns-then-eq
returns-then-eq c =
    let xs = c.args.known.now in
    let x = get_or xs c.place-at.result ([], 0) in
    let code = c.args.code.now in
    let h = found_here code_cmp code_total
    (λ (e : List ℕ × ℕ). e.0) code xs c.place-at.result x c.requires.rising c.place-at.ensures c.if-at-known.true
    (get_or_default xs _ ([], 0) x c.if-at-known.true)
    (tied_back code_cmp code_total x.0 code true (sym (texts_ties x.0 code) ∙ sym c.eq.ensures ∙ c.if-eq.true)) in
    sym (ap beside h) ∙ beside-is xs code c.requires.canon

pub returns-else-eq : goal.returns-else-eq
returns-else-eq c =
    let xs = c.args.known.now in
    let x = get_or xs c.place-at.result ([], 0) in
    let code = c.args.code.now in
    let h = found_not code_cmp code_total (λ (e : List ℕ × ℕ). e.0) code xs c.place-at.result x c.requires.rising c.place-at.ensures
    (get_or_default xs _ ([], 0) x c.if-at-known.true)
    (tied_back code_cmp code_total x.0 code false (sym (texts_ties x.0 code) ∙ sym c.eq.ensures ∙ c.if-eq.false)) in
    sym (ap beside h) ∙ beside-is xs code c.requires.canon

pub returns-else-at-known : goal.returns-else-at-known
returns-else-at-known c = sym
    (ap beside (found_end code_cmp code_total
    (λ (e : List ℕ × ℕ). e.0) c.args.code.now c.args.known.now c.place-at.result c.requires.rising c.place-at.ensures
    (omega (arith, c.if-at-known.false)))) ∙ beside-is c.args.known.now c.args.code.now c.requires.canon
