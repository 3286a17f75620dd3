use Rattle.std.proofs.Common.{◌≡◌, List, ℕ, ◌∷◌, ◌++◌, length, ap, subst, ◌∙◌, IfOk}
use Rattle.bundle_codec.specs.Spelling.{bundle}
use Rattle.project_file.specs.Projects.{magic}
use Rattle.project_file.proofs.Files.{file_read_again}
use Rattle.project_file.proofs.Received.{fronted}
use Rattle.project_file.proofs.project.save.Goals as goal

pub returns-clause-spelled : goal.returns-clause-spelled
returns-clause-spelled c =
    let front = c.in_ok-bytes.ensures ∙ ap (λ (w : List ℕ). magic ++ (length w ∷ w)) c.name.ensures.name in
    let whole = ap (λ (w : List ℕ). w ++ bundle c.args.replica.now.held) front ∙ fronted c.args.replica.now in
    subst (λ (w : List ℕ). IfOk c.bundle_after.result (λ v. v.items ≡ w)) whole c.bundle_after.ensures

pub returns-clause-again : goal.returns-clause-again
returns-clause-again c = file_read_again c.bundle_after.result c.args.replica.now c.name.ensures.valid (returns-clause-spelled c)
