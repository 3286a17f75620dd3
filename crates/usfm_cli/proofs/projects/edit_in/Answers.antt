use Rattle.std.proofs.Common.{Global, Err, ap, ◌∙◌}
use Rattle.std.proofs.lemmas.Bool.{false≢true}
use Rattle.std.proofs.lemmas.Result.{err_from_is_err_and}
use Rattle.replica_state.specs.States.{State}
use Rattle.project_file.proofs.Files.{read_once}
use Rattle.usfm_cli.specs.Commands.{is_late, outcome}
use Rattle.usfm_cli.proofs.EditedBooks.{edits_by_copy, edit_refused, edit_wants, edit_made, edit_state, edit_joins, edit_room}
use Rattle.usfm_cli.proofs.Loading.{loads_or_wants, refused_wants, refused_for}
use Rattle.usfm_cli.proofs.projects.edit_in.Goals as goal

pub returns-in_err-whole-clause-memory : goal.returns-in_err-whole-clause-memory
returns-in_err-whole-clause-memory c = λ e s loads place.
    absurd (loads_or_wants c.args.project.now s c.in_err-whole.field-0.0 loads c.in_err-whole.ensures.refused
    (λ m. c.in_err-whole.ensures.full s loads place.full (ap Err m)))

pub returns-in_err-seen-clause-memory : goal.returns-in_err-seen-clause-memory
returns-in_err-seen-clause-memory c = λ e s loads place.
    absurd (false≢true (c.in_err-seen.ensures.none
    (ap (λ (t : State). t.held) (read_once c.args.project.now c.in_ok-whole.whole s c.in_ok-whole.ensures.read loads)
    ∙ edits_by_copy c.args.command.now c.args.book s c.requires place)))

pub returns-in_err-output-clause-answer : goal.returns-in_err-output-clause-answer
returns-in_err-output-clause-answer c =
    let from = err_from_is_err_and c.from_residual-in_err-output.result c.from_residual-in_err-output.ensures.1 in
    rw (from.1, from.2) (λ e. edit_refused c.args.project.now c.in_ok-whole.whole c.in_ok-whole.ensures.read
    c.in_ok-whole.ensures.valid c.args.book c.args.command.now c.requires c.in_ok-seen.seen c.in_ok-seen.ensures.held
    c.in_err-output.field-0.0
    (refused_for Global (is_late c.args.command.now) (outcome c.in_ok-seen.seen c.args.command.now) c.obey.new.replica
    c.in_err-output.field-0.0 c.in_err-output.ensures (λ m. e (ap Err m))))

pub returns-in_err-output-clause-memory : goal.returns-in_err-output-clause-memory
returns-in_err-output-clause-memory c =
    let from = err_from_is_err_and c.from_residual-in_err-output.result c.from_residual-in_err-output.ensures.1 in
    rw (from.1, from.2) (λ e s loads place. edit_wants c.args.project.now c.in_ok-whole.whole c.in_ok-whole.ensures.read
    c.in_ok-whole.ensures.valid c.args.book c.args.command.now c.requires c.in_ok-seen.seen c.in_ok-seen.ensures.held
    (is_late c.args.command.now) s loads
    (refused_wants Global (is_late c.args.command.now) (outcome c.in_ok-seen.seen c.args.command.now) c.obey.new.replica
    c.in_err-output.field-0.0 c.in_err-output.ensures (cc e)))

pub returns-in_err-made-clause-answer : goal.returns-in_err-made-clause-answer
returns-in_err-made-clause-answer c =
    let from = err_from_is_err_and c.from_residual-in_err-made.result c.from_residual-in_err-made.ensures.1 in
    rw (from.1, from.2) (λ e. absurd (e (ap Err (edit_joins c.args.project.now c.in_ok-whole.whole c.in_ok-whole.ensures.read
    c.in_ok-whole.ensures.valid c.args.book c.args.command.now c.requires c.in_ok-seen.seen c.in_ok-seen.ensures.held
    c.obey.new.replica c.in_ok-output.output.items c.in_ok-output.ensures
    c.in_err-made.field-0.0 c.in_err-made.ensures.refused))))

pub returns-in_err-made-clause-memory : goal.returns-in_err-made-clause-memory
returns-in_err-made-clause-memory c = λ e s loads place.
    edit_room c.args.project.now c.in_ok-whole.whole c.in_ok-whole.ensures.read c.in_ok-whole.ensures.valid c.args.book
    c.args.command.now c.requires c.in_ok-seen.seen c.in_ok-seen.ensures.held
    c.obey.new.replica c.in_ok-output.output.items c.in_ok-output.ensures
    (is_late c.args.command.now) s loads

pub returns-clause-answer : goal.returns-clause-answer
returns-clause-answer c = λ _.
    edit_made c.args.project.now c.in_ok-whole.whole c.in_ok-whole.ensures.read c.in_ok-whole.ensures.valid c.args.book
    c.args.command.now c.requires c.in_ok-seen.seen c.in_ok-seen.ensures.held
    c.obey.new.replica c.in_ok-output.output.items c.in_ok-output.ensures
    c.in_ok-made.made.items c.in_ok-made.ensures.spelled

pub returns-clause-after : goal.returns-clause-after
returns-clause-after c = λ s loads.
    edit_state c.args.project.now c.in_ok-whole.whole c.in_ok-whole.ensures.read c.in_ok-whole.ensures.valid c.args.book
    c.args.command.now c.requires c.in_ok-seen.seen c.in_ok-seen.ensures.held
    c.obey.new.replica c.in_ok-output.output.items c.in_ok-output.ensures
    c.in_ok-made.made.items c.in_ok-made.ensures.again s loads
