use Rattle.std.proofs.Common.{◌≡◌, ℕ, ◌+◌, List, [], ◌∷◌, ◌++◌, Ok, arith, refl, sym, ap, subst, ◌∙◌}
use Rattle.std.proofs.lemmas.Result.{err_from_is_err_and}
use Rattle.project_status.specs.Others.{OtherParts}
use Rattle.usfm_cli.specs.Commands.{is_late_in}
use Rattle.usfm_cli.specs.Copies.{known_of}
use Rattle.usfm_cli.specs.Turns.{RefusedFor}
use Rattle.usfm_cli.proofs.OtherCopies.{ToldSoFar, told, one_told, one_kept, one_refused}
use Rattle.usfm_cli.proofs.copies.others_of.Goals as goal

pub returns-in-Err : goal.returns-in-Err
returns-in-Err c =
    let others = c.loop-file.others in
    one_refused c.args.files.now c.loop-file.file-index others.items c.loop-file.invariant c.file-item.result c.loop-file-test.true
    c.file-item.is c.len.result c.in-Err.fault (omega (arith, others.ok.0, c.len.ensures))
    (subst (λ (bytes : List ℕ). RefusedFor (is_late_in bytes) (known_of bytes) c.in-Err.fault) c.bytes.ensures c.in-Err.ensures)

pub returns-in_err-push-in-Ok : goal.returns-in_err-push-in-Ok
returns-in_err-push-in-Ok c =
    let file = c.file-item.result in
    let known = c.in-Ok.known in
    let tells : known_of file.bytes ≡ Ok known = subst (λ (bytes : List ℕ). known_of bytes ≡ Ok known) c.bytes.ensures c.in-Ok.ensures in
    let from = err_from_is_err_and c.from_residual.result c.from_residual.ensures.1 in
    rw (from.1, from.2) (
      refl,
      one_kept c.args.files.now c.loop-file.file-index c.loop-file.others.items c.loop-file.invariant file
          c.loop-file-test.true c.file-item.is known tells,
    )

pub loop-file-preserved : goal.loop-file-preserved
loop-file-preserved c =
    let files = c.args.files.now in
    let n = c.loop-file.file-index in
    let others = c.loop-file.others.items in
    let file = c.file-item.result in
    let known = c.in-Ok.known in
    let tells : known_of file.bytes ≡ Ok known = subst (λ (bytes : List ℕ). known_of bytes ≡ Ok known) c.bytes.ensures c.in-Ok.ensures in
    let is : c.new.result ≡ told file known = c.new.ensures ∙ (λ i. record { file = c.name.ensures i; known = known }) in
    let more = one_told files n others c.loop-file.invariant file c.loop-file-test.true c.file-item.is known tells in
    let items : c.push.new.self.items ≡ others ++ told file known ∷ [] =
    c.in_ok-push-in-Ok.ensures.items ∙ ap (λ (o : OtherParts). others ++ o ∷ []) is in
    subst (ToldSoFar files (n + 1)) (sym items) more
