-- What is asked before a file is taken in (this project's own rule): whether texts that are gone
-- from it, or texts that came in and are undone in it, are meant.
use Rattle.std.specs.Prelude.{ℕ, Bool, false, not, ◌&&◌, List, [], ◌∷◌, filter, count_by, Option, None, Some, if◌then◌else◌}
use Rattle.std.specs.List.{list_any}
use Rattle.std.specs.Option.{option_or}
use Rattle.usfm_ref.specs.Books.{same_bytes}
use Rattle.usfm_ref.specs.Keys.{KeyParts}
use Rattle.usfm_ref.specs.Segments.{segment}
use Rattle.verse_cut.specs.Pieces.{PieceParts}
use Rattle.op_core.specs.Ops.{Operation, own_text}
use Rattle.op_core.specs.Shown.{Pick, Line, Greatest, Empty, pick, is_empty}
use Rattle.op_core.specs.CutsBack.{picked_at}
use Rattle.op_core.specs.Export.{has_book}
use Rattle.op_core.specs.Lists.{keys_of}
use Rattle.replica_state.specs.States.{State}
use Rattle.replica_state.specs.Imports.{piece_at, walked_keys}
use Rattle.book_folder.specs.Bridges.{is_covered}
use Rattle.book_folder.specs.Likes.{like}

-- ---- texts that are gone

-- whether a base has a text for a key, and a file has none, nor a bridge that covers it
abbrev pub is_gone : List Operation → List ℕ → List PieceParts → KeyParts → Bool
is_gone base book pieces key =
    is_empty (piece_at pieces key) && not (is_empty (picked_at base book key))
    && not (is_covered pieces key)

-- the keys of a book for which a base has a text and a file has none, rising, without those that a
-- bridge of the file covers
abbrev pub gone_keys : List Operation → List ℕ → List PieceParts → List KeyParts
gone_keys base book pieces = filter (is_gone base book pieces) (keys_of base book)

-- what has at least two items
abbrev pub if_several : {A : Type 0} → List A → Option (List A)
if_several [] = None
if_several (x ∷ []) = None
if_several (x ∷ y ∷ rest) = Some (x ∷ y ∷ rest)

-- the keys of the texts that are gone, where that is asked about: they are at least two
abbrev pub emptied : List Operation → List ℕ → List PieceParts → Option (List KeyParts)
emptied base book pieces = if_several (gone_keys base book pieces)

-- ---- texts that came in and are undone

-- whether an operation that a base picks for a key is another replica's, and its text is not like
-- what an older base picks
abbrev pub is_new_of_another : List Operation → List ℕ → List ℕ → KeyParts → Pick → Bool
is_new_of_another older own book key (Greatest o) =
    not (same_bytes o.id.name own) && not (like (picked_at older book key) (own_text o))
is_new_of_another older own book key (Line chapter) = false
is_new_of_another older own book key Empty = false

-- whether a file has the text of a key that a base picks
abbrev pub has_text_of : List Operation → List ℕ → List PieceParts → KeyParts → Bool
has_text_of base book pieces key = like (picked_at base book key) (piece_at pieces key)

-- whether another's text came in for a key between an older base and a base, and a file has the
-- older one
abbrev pub is_undone : List Operation → List Operation → List ℕ → List ℕ → List PieceParts
    → KeyParts → Bool
is_undone older base own book pieces key =
    is_new_of_another older own book key (pick base (segment book key))
    && has_text_of older book pieces key

-- the keys of a book for which others' texts came in between an older base and a base, and a file
-- has the older ones, rising
abbrev pub undone_keys : List Operation → List Operation → List ℕ → List ℕ → List PieceParts
    → List KeyParts
undone_keys older base own book pieces =
    filter (is_undone older base own book pieces) (keys_of base book)

-- what is not empty
abbrev pub if_any : {A : Type 0} → List A → Option (List A)
if_any [] = None
if_any (x ∷ rest) = Some (x ∷ rest)

-- The keys that a file undoes by an older base, where there are any. Whether it has the newer texts
-- of others does not matter.
unfoldable pub undone_since : List Operation → List Operation → List ℕ → List ℕ → List PieceParts
    → Option (List KeyParts)
undone_since older base own book pieces =
    if has_book older book then if_any (undone_keys older base own book pieces) else None

-- the keys that a file undoes by the first of several older bases by which it undoes any
abbrev pub undone : List State → List Operation → List ℕ → List ℕ → List PieceParts
    → Option (List KeyParts)
undone [] base own book pieces = None
undone (older ∷ rest) base own book pieces =
    option_or (undone_since older.held base own book pieces) (undone rest base own book pieces)

-- whether another's text came in for a key between an older base and a base, and a file does not
-- have it
abbrev pub lacks_newer : List Operation → List Operation → List ℕ → List ℕ → List PieceParts
    → KeyParts → Bool
lacks_newer older base own book pieces key =
    is_new_of_another older own book key (pick base (segment book key))
    && not (has_text_of base book pieces key)

-- whether a file lacks a text of another's that came in between an older base and a base
abbrev pub lacks_any : List Operation → List Operation → List ℕ → List ℕ → List PieceParts → Bool
lacks_any older base own book pieces =
    list_any (lacks_newer older base own book pieces) (keys_of base book)

-- of how many keys a file has another text than a base picks
abbrev pub unlikeness : List Operation → List ℕ → List PieceParts → ℕ
unlikeness base book pieces =
    count_by (λ key. not (has_text_of base book pieces key)) (walked_keys base book pieces)
