-- A book with no operation.
use Rattle.std.proofs.Common.{◌≡◌, ℕ, false, List, [], ◌∷◌, map, Err, ap}
use Rattle.std.specs.List.{flat_map}
use Rattle.usfm_ref.specs.Keys.{key_cmp, head_of}
use Rattle.usfm_ref.specs.Rising.{rising}
use Rattle.usfm_ref.specs.Segments.{segment}
use Rattle.op_core.specs.Ops.{Operation}
use Rattle.op_core.specs.Shown.{pick, picked_text}
use Rattle.op_core.specs.Export.{of_book, has_book, export}
use Rattle.op_core.proofs.FilteredLists.{filter_none}
use Rattle.usfm_export.specs.Books.{AnswersText}
use Rattle.usfm_export.specs.declared.fault.TextFault.{TextFault}
use Rattle.usfm_export.specs.declared.fault.TextFault.TheVariants as texts

-- its export is empty
pub empty_export : (held : List Operation) (book : List ℕ) → has_book held book ≡ false → export held book ≡ []
empty_export held book h =
    ap (λ (ops : List Operation). flat_map (λ key. picked_text (pick held (segment book key)))
    (rising key_cmp (flat_map (λ key. head_of key ∷ key ∷ []) (map (λ (o : Operation). o.segment.key) ops))))
    (filter_none (of_book book) held h)

-- so it is where a book's text is refused since the book has no operation
pub refused_empty : (held : List Operation) (book : List ℕ) (fault : TextFault) → fault ≡ texts.NoBook
    → AnswersText {A = ℕ} held book (Err fault) → export held book ≡ []
refused_empty held book texts.NoBook e h = empty_export held book h
refused_empty held book texts.Memory e h = cc e
