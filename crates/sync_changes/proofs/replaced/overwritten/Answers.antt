use Rattle.std.proofs.Common.{◌≡◌, ℕ, List, IfOk, ap, subst, ◌∙◌}
use Rattle.op_core.specs.Lists.{ids_of}
use Rattle.segment_history.specs.Loops.Gathering.{ops_of}
use Rattle.sync_changes.specs.Loops.Parts.{is_absent, unnamed}
use Rattle.sync_changes.proofs.Overwriting.{taken_is}
use Rattle.sync_changes.proofs.replaced.overwritten.Goals as goal

pub returns : goal.returns
returns c =
    subst (λ (wanted : List (List ℕ)). IfOk c.makers_taken.result (λ names. names.items ≡ wanted))
    (taken_is c.args.files.now (ops_of c.args.edited.now c.args.segment.now) c.args.olds.now c.args.segment.now c.in_ok-named.named
    c.deref.result.now c.deref-2.result.now (ids_of (unnamed (ops_of c.args.shown.now c.args.segment.now))) c.in_ok-named.ensures
    (λ id. ap (λ sets. is_absent sets id) c.deref.ensures.value ∙ c.in_ok-sets.ensures id)
    (c.deref-2.ensures.value ∙ c.in_ok-ids.ensures))
    c.makers_taken.ensures
