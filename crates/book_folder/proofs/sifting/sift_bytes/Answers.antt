use Rattle.std.proofs.Common.{Ok, sym, subst}
use Rattle.book_folder.specs.Refusals.{AnswersStep}
use Rattle.book_folder.specs.Sifting.{sift_bytes}
use Rattle.book_folder.proofs.PassedOver.{not_judged}
use Rattle.book_folder.proofs.sifting.sift_bytes.Goals as goal

pub returns-in-Err : goal.returns-in-Err
returns-in-Err c =
    let asked = c.args.wishes.now.joined in
    subst (AnswersStep (Ok (sift_bytes asked c.args.replica.now c.args.bytes.now)) c.args.replica.now)
    (sym c.passed_over.ensures)
    (not_judged asked c.args.replica.now c.args.bytes.now c.in-Err.refusal c.in-Err.ensures)
