-- What an editor does to line ends and to U+FEFF says nothing.
use Rattle.std.proofs.Common.{◌≡◌, ◌++◌, ◌∷◌, [], ◌==◌, ℕ, true, List, cond, refl, sym, ap, ◌∙◌}
use Rattle.std.specs.List.{flat_map}
use Rattle.std.specs.Str.{is_utf8}
use Rattle.usfm_ref.proofs.Orders.{same_bytes-is}
use Rattle.verse_cut.specs.Pieces.{PieceParts}
use Rattle.verse_cut.specs.Reading.{after_bom}
use Rattle.op_core.specs.Export.{export, has_book}
use Rattle.replica_state.specs.States.{State}
use Rattle.book_folder.specs.Files.{FileParts}
use Rattle.book_folder.specs.Laws.{LineEndsSayNothing}
use Rattle.book_folder.specs.Likes.{like, plain, line_ends, in_line_ends, without_cr}
use Rattle.book_folder.specs.Restored.{coming_ends, in_manner_of, restored_pieces, coming_pieces, front_of}
use Rattle.book_folder.specs.Taking.{StoodParts, taken_in, taken_changed}
use Rattle.book_folder.specs.Wanted.{WishParts}
use Rattle.book_folder.specs.declared.likes.LineEnds.{LineEnds}
use Rattle.book_folder.specs.declared.likes.LineEnds.TheVariants.{Lf, CrLf, Mixed}

-- texts that are like each other have the same lines in whatever manner texts come in
ends_same : (ends : LineEnds) (one other : List ℕ) → without_cr one ≡ without_cr other
    → in_line_ends (coming_ends ends) one ≡ in_line_ends (coming_ends ends) other
ends_same Lf one other e = ap (λ t. flat_map (λ b. cond (b == 10) (10 ∷ []) (b ∷ [])) t) e
ends_same CrLf one other e = ap (λ t. flat_map (λ b. cond (b == 10) (13 ∷ 10 ∷ []) (b ∷ [])) t) e
ends_same Mixed one other e = ap (λ t. flat_map (λ b. cond (b == 10) (10 ∷ []) (b ∷ [])) t) e

-- texts that are like each other are the same in the manner of another one
pub manner_same : (was one other : List ℕ) → like one other ≡ true → in_manner_of was one ≡ in_manner_of was other
manner_same was one other h =
    ap (λ (t : List ℕ). front_of was ++ t)
    (ends_same (line_ends was) (after_bom one) (after_bom other) (same_bytes-is (plain one) (plain other) h))

-- what is taken in of a file that was written from a base goes by its place, its book and its pieces alone
changed_same : (s base : State) (older : List State) (wishes : WishParts) (stood : List StoodParts) (f g : FileParts)
    (pieces : List PieceParts) → f.at ≡ g.at → f.book ≡ g.book
    → taken_changed s base older wishes stood f pieces ≡ taken_changed s base older wishes stood g pieces
unfolding taken_changed
changed_same s base older wishes stood f g pieces at book =
    λ i. taken_changed s base older wishes stood (record { at = at i; book = book i; name = f.name; bytes = f.bytes }) pieces

-- what is taken in of a text of a file that was written from a base
pub text_taken : (s base : State) (older : List State) (wishes : WishParts) (stood : List StoodParts) (f : FileParts)
    → is_utf8 f.bytes ≡ true → has_book base.held f.book ≡ true
    → taken_in s base older wishes stood f ≡ taken_changed s base older wishes stood f (coming_pieces base.held f.book f.bytes)
unfolding taken_in
text_taken s base older wishes stood f text has = rw (text, has) refl

pub line_ends_say_nothing : LineEndsSayNothing
line_ends_say_nothing s base older wishes stood f g same uf ug at book has =
    text_taken s base older wishes stood f uf has
    ∙ ap (taken_changed s base older wishes stood f)
    (ap (λ (b : List ℕ). restored_pieces base.held b (in_manner_of (export base.held b) f.bytes)) book
    ∙ ap (λ (t : List ℕ). restored_pieces base.held g.book t) (manner_same (export base.held g.book) f.bytes g.bytes same))
    ∙ changed_same s base older wishes stood f g (coming_pieces base.held g.book g.bytes) at book
    ∙ sym (text_taken s base older wishes stood g ug (sym (ap (has_book base.held) book) ∙ has))
