-- Parts whose words are added one after another.
use Rattle.std.proofs.Common.{◌≡◌, ℕ, ◌+◌, ◌<◌, List, [], ◌∷◌, ◌++◌, length, take, get_or, sym, ap, ◌∙◌, append-nil}
use Rattle.std.proofs.lemmas.List.{map_push, take_more}
use Rattle.std.proofs.lemmas.Grind.{flat_map-append}
use Rattle.word_diff.specs.declared.part.Part.{Part}
use Rattle.word_diff.specs.Parts.{Span, span, spans}
use Rattle.word_merge.specs.Steps.{steps_in, steps_of}

-- a part more
pub part_more : (parts : List Part) (i : ℕ) (d : Part) (old more : List Part) → i < length parts
    → spans more ≡ spans old ++ steps_in (span (get_or parts i d)) → spans old ≡ steps_of (spans (take i parts))
    → spans more ≡ steps_of (spans (take (i + 1) parts))
part_more parts i d old more l pushed so =
    let part = get_or parts i d in
    let grown : spans (take (i + 1) parts) ≡ spans (take i parts) ++ span part ∷ [] =
    ap spans (take_more parts i d l) ∙ map_push span (take i parts) part in
    pushed ∙ ap (λ (ss : List Span). ss ++ steps_in (span part)) so
    ∙ ap (λ (ss : List Span). steps_of (spans (take i parts)) ++ ss) (sym (append-nil (steps_in (span part))))
    ∙ sym (ap steps_of grown ∙ flat_map-append steps_in (spans (take i parts)) (span part ∷ []))
