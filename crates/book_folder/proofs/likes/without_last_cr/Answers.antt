use Rattle.std.proofs.Common.{◌≡◌, ◌++◌, ◌∷◌, [], Some, None, ap, sym, ◌∙◌, arith}
use Rattle.std.proofs.lemmas.Str.Pattern.{strip_suffix_char}
use Rattle.book_folder.specs.Likes.{without_last_cr}
use Rattle.book_folder.proofs.Ends.{without_last_cr_ends, without_last_cr_stays}
use Rattle.book_folder.proofs.likes.without_last_cr.Goals as goal

pub returns-in-Some : goal.returns-in-Some
returns-in-Some c =
    let line : c.args.line.now
    ≡ c.in-Some.front.now ++ 13 ∷ [] = strip_suffix_char 13 c.args.line.now (Some c.in-Some.front) c.in-Some.ensures.cases (omega arith) in
    sym (ap without_last_cr line ∙ without_last_cr_ends c.in-Some.front.now)

pub returns-in-None : goal.returns-in-None
returns-in-None c =
    sym (without_last_cr_stays c.args.line.now (strip_suffix_char 13 c.args.line.now None c.in-None.ensures.cases (omega arith)))
