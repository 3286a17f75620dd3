-- What is shown among the operations of one segment, of those whose ids pass, and what is said of it.
use Rattle.std.specs.Prelude.{◌≡◌, ℕ, Bool, true, not, ◌&&◌, ◌||◌, List, [], ◌∷◌, map, filter, Option, if◌then◌else◌}
use Rattle.std.specs.BTreeSet.{BTreeSet, contains}
use Rattle.std.specs.List.{list_any}
use Rattle.usfm_ref.specs.Books.{book_cmp, same_bytes}
use Rattle.usfm_ref.specs.Rising.{rising}
use Rattle.usfm_ref.specs.declared.segment.Segment.{Segment}
use Rattle.op_core.specs.Ids.{Id, id_cmp, same_id}
use Rattle.op_core.specs.Export.{has_book}
use Rattle.op_core.specs.Lists.{is_held, ids_of}
use Rattle.op_core.specs.Names.{name_cmp}
use Rattle.op_core.specs.Ops.{Operation, names}
use Rattle.op_core.specs.Thinned.{of_ids}
use Rattle.bundle_codec.specs.Summaries.{covers}
use Rattle.segment_history.specs.Loops.Gathering.{ops_of, is_one_of}
use Rattle.sync_changes.specs.Changes.{by_files, brought, came_in, makers, same_texts, has_text}
use Rattle.sync_changes.specs.Changes.{NamesParts, is_late}
use Rattle.sync_changes.specs.declared.files.FileEdits.{FileEdits}
use Rattle.sync_changes.specs.declared.older.Older.{Older}
use Rattle.sync_changes.specs.declared.part.Part.{Part}
use Rattle.sync_changes.specs.declared.part.Part.TheVariants.{All, Known, Brought, CameIn, Files}

-- which ids are looked at
abbrev pub in_part : Part → Id → Bool
in_part All = λ id. true
in_part (Known known) = covers known.now
in_part (Brought files) = brought files.now
in_part (CameIn known files) = came_in (covers known.now) files.now
in_part (Files files) = by_files files.now

-- whether an operation's id passes, and it names the id
abbrev pub passes_naming : (Id → Bool) → Id → Operation → Bool
passes_naming p id o = p o.id && names o id

-- a set has the ids that those of the operations name whose ids pass
abbrev pub HasNamed : List Operation → (Id → Bool) → BTreeSet Id → Type 0
HasNamed ops p set = (id : Id) → contains id_cmp set id ≡ list_any (passes_naming p id) ops

-- whether the operation's id passes, and none whose id passes names it
abbrev pub is_left : List Operation → (Id → Bool) → Operation → Bool
is_left ops p o = p o.id && not (list_any (passes_naming p o.id) ops)

-- those of the operations whose ids pass and that none of these names
abbrev pub left : List Operation → (Id → Bool) → List Operation
left ops p = filter (is_left ops p) ops

-- the texts of these
abbrev pub left_texts : List Operation → (Id → Bool) → List (Option (List ℕ))
left_texts ops p = map (λ o. o.text) (left ops p)

-- ---- what is said of a segment by its operations

-- the operations that none of them names
abbrev pub unnamed : List Operation → List Operation
unnamed ops = filter (λ o. not (list_any (λ p. names p o.id) ops)) ops

-- whether a segment that has these operations shows the same but for what came in
abbrev pub shows_same_by : List Operation → (Id → Bool) → FileEdits → Bool
shows_same_by ops knows files =
    same_texts (left_texts ops knows) (left_texts ops (brought files))

-- what is said of a segment that has these operations, as something came in
abbrev pub came_by : List Operation → (Id → Bool) → FileEdits → Segment → List NamesParts
came_by ops knows files g =
    if shows_same_by ops knows files then []
    else record { segment = g; names = makers (of_ids (came_in knows files) ops) } ∷ []

-- whether a segment that has these operations shows a text, or showed none but for the files
abbrev pub is_kept_by : List Operation → FileEdits → Bool
is_kept_by ops files =
    has_text (left_texts ops (λ id. true)) || not (has_text (left_texts ops (brought files)))

-- the segment with these operations, if its texts were removed
abbrev pub removed_by : List Operation → FileEdits → Segment → List Segment
removed_by ops files g = if is_kept_by ops files then [] else g ∷ []

-- ---- older sets

-- a set has the books with an operation
abbrev pub HasBooks : List Operation → BTreeSet (List ℕ) → Type 0
HasBooks held books = (book : List ℕ) → contains book_cmp books book ≡ has_book held book

-- a set has these ids
abbrev pub HasIds : List Id → BTreeSet Id → Type 0
HasIds ids set = (id : Id) → contains id_cmp set id ≡ list_any (same_id id) ids

-- whether an older set has the segment's book, and its operations there that none of them names do
-- not have the id
abbrev pub lacks : Segment → Id → Older → Bool
lacks g id old =
    contains book_cmp old.books g.book && not (is_held (unnamed (ops_of old.gathered g)) id)

-- what is late in a segment is told by older sets
abbrev pub HasOlder : List (List Operation) → List Segment → List Older → Type 0
HasOlder older segments olds = (g : Segment) (id : Id) → is_one_of segments g ≡ true →
    list_any (lacks g id) olds ≡ is_late older g id

-- whether one of some sets has not the id
abbrev pub is_absent : List (BTreeSet Id) → Id → Bool
is_absent sets id = list_any (λ set. not (contains id_cmp set id)) sets

-- whether the operation is another copy's, is among those that are named, and is absent somewhere
abbrev pub is_taken : FileEdits → BTreeSet Id → List (BTreeSet Id) → Id → Bool
is_taken files named sets id = not (same_bytes id.name files.name)
    && (contains id_cmp named id && is_absent sets id)

-- whether the operation of an id is another copy's, is named by an edit that the files made among
-- these operations, and is late by older sets
abbrev pub is_overwritten_by : FileEdits → List Operation → List Older → Segment → Id → Bool
is_overwritten_by files ops olds g id = not (same_bytes id.name files.name)
    && (list_any (passes_naming (by_files files) id) ops && list_any (lacks g id) olds)

-- the makers of what the base shows in a segment and is overwritten, where the segment has these
-- operations, and these in the base
abbrev pub overwritten_by : FileEdits → List Operation → List Operation → List Older → Segment
    → List (List ℕ)
overwritten_by files ops shown olds g = rising name_cmp (map (λ id. id.name)
    (filter (is_overwritten_by files ops olds g) (ids_of (unnamed shown))))
