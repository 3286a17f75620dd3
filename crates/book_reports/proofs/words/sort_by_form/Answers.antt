use Rattle.std.proofs.Common.{rules}
use Rattle.std.proofs.lemmas.List.Sorted.{answers_always}
use Rattle.book_reports.proofs.FormOrder.{before, forms_rank, sorted_is}
use Rattle.book_reports.proofs.words.sort_by_form.Goals as goal

pub returns : goal.returns
returns c =
    sorted_is c.args.words.now.items c.sort_by.new.self.items c.sort_by.ensures.permutation
    (c.in_ok-sort_by.ensures.sorted before forms_rank (answers_always _ _ _ (λ f a r f' k. search rules)))
    (c.sort_by.ensures.stable before forms_rank (answers_always _ _ _ (λ f a r f' k. search rules)))
