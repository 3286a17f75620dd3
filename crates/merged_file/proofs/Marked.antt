-- A picked text with the remarks of others after it.
use Rattle.std.proofs.Common.{Bor, ◌≡◌, ℕ, ◌-◌, ◌≤◌, List, [], ◌∷◌, ◌++◌, length, map, take, drop, sym, ap, ◌∙◌, arith, append_assoc}
use Rattle.std.specs.List.{flat_map}
use Rattle.std.proofs.lemmas.List.{take_all, length-drop}
use Rattle.std.proofs.lemmas.List.Folds.{flat_map-map}
use Rattle.usfm_ref.specs.declared.segment.Segment.{Segment}
use Rattle.op_core.specs.Ops.{Operation}
use Rattle.merged_file.specs.Remarks.{line_end, remarks_of, with_remarks}

-- all items but the first, as a walk over them all meets them
pub walked : {X : Type 0} (xs : List X) (i : ℕ) → length (take (length xs - 1) (drop 1 xs)) ≤ i
    → take i (take (length xs - 1) (drop 1 xs)) ≡ drop 1 xs
walked xs i all =
    take_all i (take (length xs - 1) (drop 1 xs)) all
    ∙ take_all (length xs - 1) (drop 1 xs) (omega (arith, length-drop 1 xs))

-- where there are two texts or more, the end of the line and the remarks of all but the first come after the text
pub marked : (g : Segment) (made text with_text with_end after : List ℕ) (distinct : List (Bor Operation)) (texts : List Operation)
    → map (λ op. op.now) distinct ≡ texts → 2 ≤ length distinct → with_text ≡ made ++ text → with_end ≡ with_text ++ line_end text
    → after ≡ with_end ++ flat_map (λ op. remarks_of g op.now) (drop 1 distinct)
    → after ≡ made ++ with_remarks g text (drop 1 texts)
marked g made text with_text with_end after [] texts same two is_text is_end is_after = absurd (omega (arith, two))
marked g made text with_text with_end after (x ∷ []) texts same two is_text is_end is_after = absurd (omega (arith, two))
marked g made text with_text with_end after (x ∷ y ∷ rest) texts same two is_text is_end is_after =
    let told : List ℕ = flat_map (remarks_of g) (map (λ (op : Bor Operation). op.now) (y ∷ rest)) in
    is_after ∙ (λ i. is_end i ++ sym (flat_map-map (remarks_of g) (λ (op : Bor Operation). op.now) (y ∷ rest)) i)
    ∙ ap (λ (bytes : List ℕ). (bytes ++ line_end text) ++ told) is_text ∙ append_assoc (made ++ text) (line_end text) told
    ∙ append_assoc made text (line_end text ++ told) ∙ ap (λ (ops : List Operation). made ++ with_remarks g text (drop 1 ops)) same

pub two_or_more : {X : Type 0} (xs : List X) → 1 ≤ length (take (length xs - 1) (drop 1 xs)) → 2 ≤ length xs
two_or_more xs some =
    let all = ap length (take_all (length xs - 1) (drop 1 xs) (omega (arith, length-drop 1 xs))) in
    omega (arith, some, all, length-drop 1 xs)
