use Rattle.std.proofs.Common.{ap, ◌∙◌, arith}
use Rattle.std.proofs.lemmas.Result.{err_from_is_err_and}
use Rattle.bundle_codec.specs.Reading.{judge_thinned}
use Rattle.bundle_codec.specs.Views.{operations_in}
use Rattle.bundle_codec.proofs.NoMemory.{refuses_fields}
use Rattle.bundle_codec.proofs.Seen.{judged_spells}
use Rattle.bundle_codec.proofs.bundle.bundle_of.Goals.{then-not-full+in_ok-judge_thinned, else-not-full}
use Rattle.bundle_codec.proofs.bundle.bundle_of.Goals as goal

pub returns-in_err-fields : goal.returns-in_err-fields
returns-in_err-fields c =
    let p = err_from_is_err_and c.from_residual.result c.from_residual.ensures.1 in
    rw (p.1, p.2) (refuses_fields c.args.bytes.now c.in_err-fields.field-0.0 c.in_err-fields.ensures.reads)

pub invariant_of-result : goal.invariant_of-result
invariant_of-result c =
    let ops = operations_in c.in_ok-fields.fields.count c.in_ok-fields.fields.bytes.now in
    judged_spells c.in_ok-fields.fields.full c.args.bytes.now c.in_ok-fields.fields.count c.in_ok-fields.fields.bytes.now
    c.in_ok-fields.rest.now (λ i. omega (arith, c.type_inv.bytes i)) c.in_ok-fields.ensures.reads
    (elim c.if-not-full.branch [
      | then-not-full+in_ok-judge_thinned w ↦
          ap (λ full. judge_thinned full ops) w.if-not-full.true ∙ w.in_ok-judge_thinned.ensures
      | else-not-full w ↦ ap (λ full. judge_thinned full ops) w.if-not-full.false
    ])
    c.in_ok-fields.ensures.spells
