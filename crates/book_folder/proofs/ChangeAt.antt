-- The change of a key, by whether a file settles its conflict and whether it was changed there.
use Rattle.std.proofs.Common.{◌≡◌, ℕ, Bool, true, false, cond, List, None, Some, refl}
use Rattle.usfm_ref.specs.Keys.{KeyParts}
use Rattle.verse_cut.specs.Pieces.{PieceParts}
use Rattle.op_core.specs.Ops.{Operation}
use Rattle.replica_state.specs.Since.{is_changed, since_change}
use Rattle.book_folder.specs.Taking.{settles, still_shown, settling_change, change_by, change_at}
use Rattle.book_folder.specs.Wanted.{WantedParts}

pub change_at_is : (held base : List Operation) (wanted : List WantedParts) (book : List ℕ) (pieces : List PieceParts) (key : KeyParts)
    → change_at held base wanted book pieces key
    ≡ cond (settles held base wanted book key) (Some (settling_change held base book pieces key))
    (cond (is_changed held base book pieces key) (Some (since_change held base book pieces key)) None)
unfolding change_at
change_at_is held base wanted book pieces key = by (settles held base wanted book key)
  where
    by : (b : Bool)
        → change_by (cond b (Some (still_shown held base book key)) None) held base book pieces key
        ≡ cond b (Some (settling_change held base book pieces key))
        (cond (is_changed held base book pieces key) (Some (since_change held base book pieces key)) None)
    by true = refl
    by false = refl
