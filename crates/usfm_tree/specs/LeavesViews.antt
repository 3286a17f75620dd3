-- What an iterator over leaves has left.
use Rattle.std.specs.Prelude.{ℕ, List, map}
use Rattle.usfm_token.specs.Tokens.{slice_of, tokens_of}
use Rattle.usfm_token.specs.View.{rest_of}
use Rattle.usfm_tree.specs.declared.leaves.Leaves.{Leaves}

-- the leaves that an iterator has still to give
abbrev pub leaves_left : Leaves → List (List ℕ)
leaves_left l = map slice_of (tokens_of (rest_of l.tokens))
