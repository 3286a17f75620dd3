use Rattle.std.proofs.Common.{sym, ap, ◌∙◌, not}
use Rattle.op_core.specs.Lists.{keys_of}
use Rattle.replica_state.specs.States.{State}
use Rattle.replica_state.proofs.Edits.{book_has_keys, first_is, is_none_left}
use Rattle.replica_state.proofs.replica.Replica.has_book.Goals as goal

pub returns : goal.returns
returns c =
    c.is_some.ensures ∙ first_is c.keys.result c.next.result c.next.new.self c.next.ensures.steps
    ∙ ap (λ l. not (is_none_left l)) (c.keys.ensures ∙ ap (λ (s : State). keys_of s.held c.args.book) c.self.view_is)
    ∙ sym (book_has_keys c.args.self.now.held c.args.book)
