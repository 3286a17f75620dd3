use Rattle.std.proofs.Common.{◌≡◌, ℕ, ◌≤◌, List, length, map, take, arith, sym, ap, ◌∙◌}
use Rattle.std.specs.List.{flat_map}
use Rattle.std.proofs.lemmas.List.{take_all}
use Rattle.std.proofs.lemmas.List.Folds.{flat_map-map}
use Rattle.op_core.specs.Ops.{Operation}
use Rattle.usfm_cli.specs.Commands.{shown_line}
use Rattle.usfm_cli.proofs.steps.shown_lines.Goals as goal

all_lines : {B : Type 0} (v : B → Operation) (xs ys : List B) (n : ℕ) (ops : List Operation) (bytes : List ℕ) →
    bytes ≡ flat_map (λ b. shown_line (v b)) (take n xs) → length xs ≤ n → xs ≡ ys → map v ys ≡ ops → bytes ≡ flat_map shown_line ops
all_lines v xs ys n ops bytes e l same views =
    e ∙ ap (flat_map (λ b. shown_line (v b))) (take_all n xs l ∙ same) ∙ sym (flat_map-map shown_line v ys) ∙ ap (flat_map shown_line) views

pub returns : goal.returns
returns c =
    all_lines (λ op. op.now) c.deref-op-items.result.now c.in_ok-shown.shown.items c.loop-op.op-index _ c.loop-op.bytes.items
    c.loop-op.invariant (omega (arith, c.deref-op-items.ensures.len)) c.deref-op-items.ensures.value c.in_ok-shown.ensures.ops
