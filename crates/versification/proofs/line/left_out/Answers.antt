use Rattle.std.proofs.Common.{◌≡◌, ℕ, List, Bor, length, map, sym, arith}
use Rattle.std.proofs.lemmas.List.{length-map}
use Rattle.versification.specs.Lines.{book_in}
use Rattle.versification.proofs.Words.{not_one}
use Rattle.versification.proofs.line.left_out.Goals as goal

pub returns-in-len2-up : goal.returns-in-len2-up
returns-in-len2-up c =
    let ws = map {A = Bor (List ℕ)} {B = List ℕ} (λ w. w.now) c.args.words.now in
    let many : length ws ≡ length c.args.words.now = length-map c.args.words.now (λ w. w.now) in
    let two = c.in-len2-up.len_at_least in
    sym (not_one (book_in c.args.code.now) ws (λ one. omega (arith, many, one, two)))
