use Rattle.std.proofs.Common.{◌≡◌, ◌∷◌, ◌++◌, take}
use Rattle.std.specs.List.{flat_map}
use Rattle.usfm_ref.specs.References.{key_text}
use Rattle.book_reports.proofs.lines.push_keys.Given as goal

abbrev pub invariant-loop-key : goal.invariant-loop-key
invariant-loop-key l = l.bytes.items ≡ l.initial.bytes.items ++ flat_map (λ k. 32 ∷ key_text k) (take l.key-index l.keys)
