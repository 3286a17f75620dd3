use Rattle.std.proofs.Common.{◌≡◌, ℕ, Bool, true, false, cond, List, refl, ap}
use Rattle.std.specs.Prelude.{Option, Some, None, IsSome, IfSome}
use Rattle.usfm_ref.specs.Books.{is_book_code}
use Rattle.command_faults.proofs.book_fronts.code_book.Goals as goal

some_if : (r : Option (List ℕ)) (code : List ℕ) (b : Bool) → (IsSome r → b ≡ true) → (b ≡ true → IsSome r) → IfSome r (λ x. x ≡ code)
    → r ≡ cond b (Some code) None
some_if None code false there is same = refl
some_if None code true there is same = let no = is refl in cc
some_if (Some x) code true there is same = ap (λ (y : List ℕ). Some y) same
some_if (Some x) code false there is same = let no = there refl in cc

pub returns : goal.returns
returns c =
    some_if c.of_code.result c.args.code (is_book_code c.args.code) c.of_code.ensures.accepts.0 c.of_code.ensures.accepts.1
    c.of_code.ensures.book
