-- Keys that are picked as their chapter's own line.
use Rattle.std.proofs.Common.{◌≡◌, ℕ, Bool, true, false, not, cond, ◌&&◌, ◌||◌, List, Option, None, Some, refl, sym, ap, ◌∙◌}
use Rattle.std.specs.Option.{is_some}
use Rattle.usfm_ref.specs.Books.{same_bytes}
use Rattle.usfm_ref.specs.Keys.{KeyParts}
use Rattle.usfm_ref.specs.Segments.{segment}
use Rattle.usfm_ref.proofs.Orders.{same_bytes-is}
use Rattle.verse_cut.specs.Pieces.{PieceParts}
use Rattle.op_core.specs.Ops.{Operation}
use Rattle.op_core.specs.Shown.{wants_chapter_line, chapter_line, last, shown, Line, greatest, pick, picked_text}
use Rattle.replica_state.specs.Imports.{piece_own_text, piece_of, piece_at, has_verse, loses_line, is_due}

module _ (held : List Operation) (book : List ℕ) (pieces : List PieceParts) (key : KeyParts) (chapter : ℕ)
    (line : Line chapter ≡ pick held (segment book key)) where
  wants : wants_chapter_line held (segment book key) ≡ true
  wants = by (wants_chapter_line held (segment book key)) (last (shown held (segment book key))) line
    where
      by : (b : Bool) (l : Option Operation) → Line chapter ≡ cond b (Line key.chapter) (greatest l) → b ≡ true
      by true l e = refl
      by false None e = absurd (cc)
      by false (Some o) e = absurd (cc)

  pub line_stays : (v : Bool) → same_bytes (chapter_line chapter) (piece_at pieces key) ≡ true → v ≡ has_verse pieces key.chapter
      → not v ≡ is_due held book pieces key
  line_stays v h e =
      sym (ap (λ t. not (same_bytes (picked_text t) (piece_at pieces key)) || loses_line held book pieces key) (sym line)
      ∙ ap (λ b. not b || loses_line held book pieces key) h
      ∙ (λ i. wants i && there (piece_of pieces key) (same_bytes-is (chapter_line chapter) (piece_at pieces key) h) i && not (sym e i)))
    where
      there : (o : Option PieceParts) → chapter_line chapter ≡ piece_own_text o → is_some o ≡ true
      there None e = absurd (cc)
      there (Some p) e = refl
