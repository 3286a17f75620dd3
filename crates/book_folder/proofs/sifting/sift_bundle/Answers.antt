use Rattle.std.proofs.Common.{Ok, sym, subst}
use Rattle.book_folder.specs.Refusals.{AnswersStep}
use Rattle.book_folder.specs.Sifting.{sift_ops}
use Rattle.book_folder.proofs.PassedOver.{not_received}
use Rattle.book_folder.proofs.sifting.sift_bundle.Goals as goal

pub returns-in-Err : goal.returns-in-Err
returns-in-Err c =
    let asked = c.args.wishes.now.joined in
    subst (AnswersStep (Ok (sift_ops asked c.args.replica.now c.args.bundle.now)) c.receive_or_keep.new.replica)
    (sym c.passed_over.ensures)
    (not_received asked c.args.replica.now c.receive_or_keep.new.replica c.args.bundle.now c.in-Err.refusal
    c.in-Err.ensures.kept c.in-Err.ensures.step)
