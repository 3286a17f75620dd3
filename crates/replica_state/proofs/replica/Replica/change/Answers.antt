use Rattle.std.proofs.Common.{Option, List, length, refl, sym, ap, ◌∙◌}
use Rattle.std.proofs.lemmas.List.{length-map}
use Rattle.replica_state.specs.Changes.{edits_or, change_view, changes_view}
use Rattle.replica_state.specs.Edits.{first_number, unless}
use Rattle.replica_state.specs.Steps.{edited_all}
use Rattle.replica_state.specs.declared.change.Change.{Change}
use Rattle.replica_state.specs.declared.fault.EditFault.{EditFault}
use Rattle.replica_state.specs.declared.fault.EditFault.TheVariants.{NumbersUsedUp}
use Rattle.replica_state.proofs.ChangeLists.{made_is}
use Rattle.replica_state.proofs.ChangeRuns.{all_fit}
use Rattle.replica_state.proofs.OwnExports.{left_for_none}
use Rattle.replica_state.proofs.replica.Replica.change.Goals as goal

pub returns-in_default-first_number-clause-none : goal.returns-in_default-first_number-clause-none
returns-in_default-first_number-clause-none c = λ none.
    cc (c.in_default-first_number.ensures.number
    ∙ ap (λ (changes : List Change). first_number c.args.self.now.held (length changes)) none
    ∙ left_for_none c.args.self.now.held c.first_number.ensures.state.set.each)

pub make-requires-clause-fits : goal.make-requires-clause-fits
make-requires-clause-fits c =
    all_fit c.args.self.now.held c.args.book (changes_view c.args.changes.now) (sym c.first_fault.ensures ∙ c.in_default.is)

pub returns-clause-step : goal.returns-clause-step
returns-clause-step c = λ _.
    let s = c.args.self.now in
    let changes = changes_view c.args.changes.now in
    let many = sym (length-map c.args.changes.now change_view) in
    ap (λ (r : Option EditFault). edited_all s s (unless r (edits_or NumbersUsedUp s c.args.book changes)))
    (sym c.first_fault.ensures ∙ c.in_default.is)
    ∙ made_is NumbersUsedUp s s c.make.new.self c.args.book changes changes c.in-Some-first_number.first (length c.args.changes.now) _
    refl c.in-Some-first_number.ensures.number many c.in_ok-make.ensures.ok (c.in_ok-make.ensures.count ∙ many)
