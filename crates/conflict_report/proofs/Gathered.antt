-- Parts that are gathered one after another.
use Rattle.std.proofs.Common.{Bor, ◌≡◌, ℕ, ◌≤◌, true, nat_le, List, [], ◌∷◌, ◌++◌, length, map, Result, Ok, Err, OnOk, sym, ap, ◌∙◌, arith, append-nil, append_assoc}
use Rattle.std.specs.List.{flat_map}
use Rattle.std.proofs.lemmas.Bool.{cond-true}
use Rattle.std.proofs.lemmas.Bool.Decides.{nat_tests}
use Rattle.std.proofs.lemmas.List.{length-map}
use Rattle.std.proofs.lemmas.List.Folds.{flat_map-map}
use Rattle.usfm_ref.specs.declared.segment.Segment.{Segment}
use Rattle.op_core.specs.Ops.{Operation}
use Rattle.usfm_export.proofs.Pieces.{flat_map-push}
use Rattle.conflict_report.specs.Reports.{conflict_line, text_lines, conflict_lines}
use Rattle.conflict_report.specs.Loops.Parts.{part_bytes, bytes_of}
use Rattle.conflict_report.specs.declared.part.Part.{Part}

-- one part more
pub bytes_push : (parts : List Part) (part : Part) → bytes_of (parts ++ part ∷ []) ≡ bytes_of parts ++ part_bytes part
bytes_push parts part = flat_map-push part_bytes parts part

-- ---- a walk over items, of which some are left

-- the texts of one item more are gathered
pub walk_more : {X : Type 0} (f : X → List ℕ) (all before after : List ℕ) (left rest : List X) (x : X) → left ≡ x ∷ rest
    → before ++ flat_map f left ≡ all → after ≡ before ++ f x → after ++ flat_map f rest ≡ all
walk_more f all before after left rest x e h more =
    ap (λ (bytes : List ℕ). bytes ++ flat_map f rest) more ∙ append_assoc before (f x) (flat_map f rest)
    ∙ ap (λ items. before ++ flat_map f items) (sym e) ∙ h

-- none is left
pub walk_end : {X : Type 0} (f : X → List ℕ) (all before : List ℕ) (left : List X) → left ≡ [] → before ++ flat_map f left ≡ all
    → before ≡ all
walk_end f all before left e h = sym (append-nil before) ∙ ap (λ items. before ++ flat_map f items) (sym e) ∙ h

-- ---- one segment

-- a conflict of two or more texts is reported by its line and their lines
pub conflict_told : {U E : Type 0} (g : Segment) (texts : List (Bor Operation)) (distinct : List Operation) (count : ℕ)
    (line before middle after : List ℕ) (r : Result U E)
    → map (λ op. op.now) texts ≡ distinct → count ≡ length texts → 2 ≤ count → line ≡ conflict_line g count → middle ≡ before ++ line
    → OnOk r (after ≡ middle ++ flat_map (λ op. text_lines op.now) texts) → OnOk r (after ≡ before ++ conflict_lines g distinct)
conflict_told g texts distinct count line before middle after (Err e) same counted two is more rest = tt
conflict_told g texts distinct count line before middle after (Ok u) same counted two is more rest =
    let n : count ≡ length distinct = counted ∙ sym (length-map texts (λ op. op.now)) ∙ ap length same in
    let lines : flat_map (λ op. text_lines op.now) texts ≡ flat_map text_lines distinct = sym (flat_map-map text_lines (λ op. op.now) texts)
    ∙ ap (flat_map text_lines) same in
    let many : nat_le 2 (length distinct) ≡ true = grind (arith, nat_tests) in
    rest ∙ (λ i. more i ++ lines i) ∙ append_assoc before line (flat_map text_lines distinct)
    ∙ ap (λ (bytes : List ℕ). before ++ (bytes ++ flat_map text_lines distinct)) (is ∙ ap (conflict_line g) n)
    ∙ ap (λ (bytes : List ℕ). before ++ bytes) (sym (cond-true _ _ _ many))
