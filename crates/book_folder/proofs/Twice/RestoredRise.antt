-- Pieces keep their keys where they are as a base has them.
use Rattle.std.proofs.Common.{◌≡◌, ◌&&◌, ℕ, List, [], ◌∷◌, map, refl, ap}
use Rattle.std.specs.List.{list_all}
use Rattle.std.specs.Ordering.{is_lt}
use Rattle.usfm_ref.specs.Keys.{KeyParts, key_cmp}
use Rattle.usfm_ref.specs.Rising.{rises_by}
use Rattle.verse_cut.specs.Pieces.{PieceParts}
use Rattle.op_core.specs.Ops.{Operation}
use Rattle.book_folder.specs.Restored.{restored_piece}

pub restored_rise : (base : List Operation) (book : List ℕ) (ps : List PieceParts)
    → rises_by key_cmp (λ p. p.key) (map (restored_piece base book) ps) ≡ rises_by key_cmp (λ p. p.key) ps
restored_rise base book [] = refl
restored_rise base book (p ∷ ps) = λ i. above p.key ps i && restored_rise base book ps i
  where
    above : (k : KeyParts) (qs : List PieceParts)
        → list_all (λ q. is_lt (key_cmp k q.key)) (map (restored_piece base book) qs) ≡ list_all (λ q. is_lt (key_cmp k q.key)) qs
    above k [] = refl
    above k (q ∷ qs) = ap (λ b. is_lt (key_cmp k q.key) && b) (above k qs)
