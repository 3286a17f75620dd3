use Rattle.std.proofs.Common.{suc, Err, arith, sym, ap, subst, ◌∙◌}
use Rattle.std.proofs.lemmas.Bool.{false≢true}
use Rattle.std.proofs.lemmas.Result.{err_from_is_err_and}
use Rattle.op_core.specs.Sets.{clash, join}
use Rattle.op_core.proofs.Sets.Fronts.{join_none}
use Rattle.op_core.proofs.Sets.SideBySide.{clash_none}
use Rattle.usfm_cli.specs.declared.gathered.Gathered.{Gathered}
use Rattle.usfm_cli.specs.Loops.Gathered.{held_in, AreSoMany}
use Rattle.usfm_cli.proofs.GatheredSets.{second_takes, one_before, more_before, refused_after}
use Rattle.usfm_cli.proofs.gathered.Gathered.receive.Goals as goal

pub returns-in-Nothing-clause-ok : goal.returns-in-Nothing-clause-ok
returns-in-Nothing-clause-ok c =
    sym (ap (λ (s : Gathered). join (held_in s) c.args.bundle) c.in-Nothing.is ∙ join_none c.args.bundle c.ops.ensures.set.rising)

pub returns-in-Nothing-clause-agrees : goal.returns-in-Nothing-clause-agrees
returns-in-Nothing-clause-agrees c = ap (λ (s : Gathered). clash (held_in s) c.args.bundle) c.in-Nothing.is ∙ clash_none c.args.bundle

pub returns-in-Nothing-clause-count : goal.returns-in-Nothing-clause-count
returns-in-Nothing-clause-count c = λ before many. ap suc (subst (λ (g : Gathered). AreSoMany before g) c.in-Nothing.is many)

pub returns-in_err-gathered-in-One-clause-refused : goal.returns-in_err-gathered-in-One-clause-refused
returns-in_err-gathered-in-One-clause-refused c =
    let from = err_from_is_err_and c.from_residual.result c.from_residual.ensures.1 in
    rw (from.1, from.2) (λ before many. second_takes before c.args.self c.in-One.first c.args.bundle c.in-One.is many
    (λ none. false≢true (c.in_err-gathered-in-One.ensures.none none)))

pub returns-in_err-receive-in-One-clause-refused : goal.returns-in_err-receive-in-One-clause-refused
returns-in_err-receive-in-One-clause-refused c =
    let from = err_from_is_err_and c.from_residual-in_err-receive-in-One.result c.from_residual-in_err-receive-in-One.ensures.1 in
    rw (from.1, from.2) (λ before many. refused_after before c.args.self c.in_ok-gathered-in-One.gathered c.args.bundle
    c.in_err-receive-in-One.field-0.0 (c.in_ok-gathered-in-One.ensures.ok ∙ sym (ap held_in c.in-One.is))
    (one_before before c.args.self c.in-One.first c.in-One.is many)
    c.in_err-receive-in-One.ensures.refused (λ lacks m. c.in_err-receive-in-One.ensures.clash lacks (ap Err m)))

pub returns-in_ok-receive-in-One-clause-count : goal.returns-in_ok-receive-in-One-clause-count
returns-in_ok-receive-in-One-clause-count c = λ before many.
    omega (arith, one_before before c.args.self c.in-One.first c.in-One.is many)

pub returns-in_err-receive-in-Many-clause-refused : goal.returns-in_err-receive-in-Many-clause-refused
returns-in_err-receive-in-Many-clause-refused c =
    let from = err_from_is_err_and c.from_residual-in_err-receive-in-Many.result c.from_residual-in_err-receive-in-Many.ensures.1 in
    rw (from.1, from.2) (λ before many. refused_after before c.args.self c.in-Many.gathered c.args.bundle
    c.in_err-receive-in-Many.field-0.0 (sym (ap held_in c.in-Many.is))
    (omega (arith, more_before before c.args.self c.in-Many.gathered c.in-Many.is many))
    c.in_err-receive-in-Many.ensures.refused (λ lacks m. c.in_err-receive-in-Many.ensures.clash lacks (ap Err m)))

pub returns-in_ok-receive-in-Many-clause-count : goal.returns-in_ok-receive-in-Many-clause-count
returns-in_ok-receive-in-Many-clause-count c = λ before many.
    omega (arith, more_before before c.args.self c.in-Many.gathered c.in-Many.is many)
