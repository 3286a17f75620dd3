use Rattle.std.proofs.Common.{◌≡◌, ℕ, ◌+◌, ◌<◌, List, [], ◌∷◌, ◌++◌, length, take, get_or, sym, ap, ◌∙◌, arith, length-append}
use Rattle.std.proofs.lemmas.List.{get_or-map, length-map, take-map, take_more}
use Rattle.std.proofs.lemmas.List.Folds.{length-flat_map-take}
use Rattle.word_diff.specs.declared.part.Kind.TheVariants.{Kept}
use Rattle.word_diff.specs.declared.part.Part.{Part}
use Rattle.word_diff.specs.Joins.{all_bytes}
use Rattle.word_diff.specs.Parts.{Span, span, spans}
use Rattle.word_diff.specs.Words.{joined}
use Rattle.word_diff.proofs.WordLaws.{joined-append}
use Rattle.word_diff.proofs.joining.total_len.Goals as goal

abbrev no_part : Part
no_part = record { kind = Kept; text = record { ref_ptr = (0, 0); now = [] } }

bytes_take : (parts : List Part) (i : ℕ) → all_bytes (spans (take i parts)) ≡ take i (all_bytes (spans parts))
bytes_take parts i = ap all_bytes (sym (take-map span i parts)) ∙ sym (take-map (λ (s : Span). s.bytes) i (spans parts))

bytes_len : (parts : List Part) → length (all_bytes (spans parts)) ≡ length parts
bytes_len parts = length-map (spans parts) (λ (s : Span). s.bytes) ∙ length-map parts span

bytes_at : (parts : List Part) (i : ℕ) → i < length parts → get_or (all_bytes (spans parts)) i [] ≡ (get_or parts i no_part).text.now
bytes_at parts i lt =
    get_or-map (λ (s : Span). s.bytes) (spans parts) i (span no_part) [] (omega (arith, length-map parts span))
    ∙ ap (λ (s : Span). s.bytes) (get_or-map span parts i no_part (span no_part) lt)

grown : (parts : List Part) (i : ℕ) → i < length parts
    → length (joined (all_bytes (spans (take (i + 1) parts)))) ≡ length (joined (all_bytes (spans (take i parts)))) + length
    (get_or parts i no_part).text.now
grown parts i lt =
    let bs = all_bytes (spans parts) in
    let more : take (i + 1) bs ≡ take i bs ++ get_or bs i [] ∷ [] = take_more bs i [] (omega (arith, bytes_len parts)) in
    let parted = ap joined (bytes_take parts (i + 1) ∙ more) ∙ joined-append (take i bs) (get_or bs i [] ∷ []) in
    omega (
      arith,
      ap length parted,
      length-append (joined (take i bs)) (get_or bs i [] ++ []),
      length-append (get_or bs i []) [],
      ap length (ap joined (bytes_take parts i)),
      ap length (bytes_at parts i lt),
    )

pub overflow_add-total : goal.overflow_add-total
overflow_add-total c =
    let parts = c.args.parts.now in
    let bs = all_bytes (spans parts) in
    let i = c.loop-part.part-index in
    omega (
      arith,
      c.requires,
      c.loop-part.invariant,
      ap length (ap joined (bytes_take parts i)),
      ap length (bytes_at parts i c.loop-part-test.true),
      length-flat_map-take (λ (text : List ℕ). text) bs i [] (omega (arith, bytes_len parts, c.loop-part-test.true)),
    )

pub loop-part-preserved : goal.loop-part-preserved
loop-part-preserved c =
    let g = grown c.args.parts.now c.loop-part.part-index c.loop-part-test.true in
    omega (arith, g, c.loop-part.invariant)
