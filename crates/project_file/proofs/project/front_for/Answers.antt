use Rattle.std.proofs.Common.{List, ℕ, [], ◌∷◌, ◌++◌, length, ap, ◌∙◌, append_assoc}
use Rattle.project_file.specs.Projects.{magic}
use Rattle.project_file.proofs.project.front_for.Goals as goal

pub returns : goal.returns
unfolding magic
returns c =
    let name = c.as_bytes-name.result.now in
    let front = c.in_ok-extend_from_slice.ensures.items ∙ ap (λ (w : List ℕ). w ++ magic) c.new-bytes.ensures.items in
    let counted = c.in_ok-extend_from_slice-2.ensures.items ∙ ap (λ (w : List ℕ). w ++ length name ∷ []) front in
    c.in_ok-extend_from_slice-3.ensures.items ∙ ap (λ (w : List ℕ). w ++ name) counted
    ∙ append_assoc magic (length name ∷ []) name
    ∙ ap (λ (w : List ℕ). magic ++ (length w ∷ w)) (c.as_bytes-name.ensures.value ∙ c.text.ensures.text)
