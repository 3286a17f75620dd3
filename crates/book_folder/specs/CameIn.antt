-- Laws of what came in (this project's own rule): the project shows it, and it brings nothing again.
use Rattle.std.specs.Prelude.{◌≡◌, ℕ, Bool, true, List, map, None, Ok}
use Rattle.std.specs.List.{AllByRecursion}
use Rattle.usfm_ref.specs.Keys.{KeyParts}
use Rattle.usfm_ref.specs.Segments.{segment}
use Rattle.verse_cut.specs.Pieces.{PieceParts}
use Rattle.op_core.specs.Ops.{Operation}
use Rattle.op_core.specs.Sets.{IsOpSet, clash, join}
use Rattle.bundle_codec.specs.Joining.{whole_at}
use Rattle.replica_state.specs.Imports.{piece_at}
use Rattle.replica_state.specs.Since.{shows_text}
use Rattle.replica_state.specs.States.{State, IsState}
use Rattle.book_folder.specs.Coming.{bundles_begun}
use Rattle.book_folder.specs.Files.{FileParts}
use Rattle.book_folder.specs.Taking.{StoodParts, Taken, has_other, taken_changed}
use Rattle.book_folder.specs.Wanted.{WishParts}

-- What is written is shown: where a file has another text in a segment than its base picks, and the
-- base was received, the project shows the file's text there once the file was taken in.
abbrev pub WrittenIsShown : Type 0
WrittenIsShown =
    (s base : State) (older : List State) (wishes : WishParts) (stood : List StoodParts)
    (f : FileParts) (pieces : List PieceParts) (key : KeyParts) (t : Taken) →
    IsState s → IsState base → clash s.held base.held ≡ None → join s.held base.held ≡ s.held →
    taken_changed s base older wishes stood f pieces ≡ Ok t →
    has_other base.held f.book pieces key ≡ true →
    shows_text t.after.held (segment f.book key) (piece_at pieces key) ≡ true

-- bytes are a bundle, and a project holds what it has
pub record IsReceived (s : State) (bytes : List ℕ) : Type 0 where
  pub ops : List Operation
  pub set : IsOpSet ops
  pub read : whole_at bytes ≡ Ok ops
  pub agrees : clash s.held ops ≡ None
  pub held : join s.held ops ≡ s.held

-- Bundles bring nothing again: of bundles that a project has received already nothing comes in, and
-- nothing is asked.
abbrev pub BundlesBringNothingAgain : Type 0
BundlesBringNothingAgain =
    (s : State) (asked : Bool) (bundles : List (List ℕ)) → IsState s →
    AllByRecursion (IsReceived s) bundles →
    bundles_begun asked s bundles ≡ Ok (record { after = s; made = map (λ bytes. 0) bundles })
