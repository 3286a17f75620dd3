use Rattle.std.proofs.Common.{List, ℕ, ◌++◌, length, ap, ◌∙◌, append_assoc, arith}
use Rattle.std.specs.Int.{w64, to_be_bytes}
use Rattle.sha2.specs.Sha256.{sha256}
use Rattle.sealed_bundle.specs.Seals.{magic, header_of, opened}
use Rattle.sealed_bundle.proofs.Openings.{sealed_again}
use Rattle.sealed_bundle.proofs.sealing.seal.Goals as goal

pub returns-clause-sealed : goal.returns-clause-sealed
unfolding magic header_of
returns-clause-sealed c =
    let bundle = c.args.bytes.now in
    let first = c.in_ok-extend_from_slice.ensures.items ∙ ap (λ (w : List ℕ). w ++ magic) c.in_ok-sealed.ensures.items in
    let counted = c.in_ok-extend_from_slice-2.ensures.items ∙ (λ i. first i ++ c.to_be_bytes.ensures i) in
    let summed = c.in_ok-extend_from_slice-3.ensures.items ∙ (λ i. counted i ++ c.digest.ensures i) in
    c.in_ok-extend_from_slice-4.ensures.items ∙ ap (λ (w : List ℕ). w ++ bundle) summed
    ∙ ap (λ (w : List ℕ). w ++ bundle) (append_assoc magic (to_be_bytes w64 (length bundle)) (sha256 bundle))

pub returns-clause-again : goal.returns-clause-again
returns-clause-again c = ap opened (returns-clause-sealed c) ∙ sealed_again c.args.bytes.now (omega arith)
