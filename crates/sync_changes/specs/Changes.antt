-- What a sync changed, by segments and names (this project's own rule), told from what is held after
-- it, from what was known before it, and from what the files were written from.
use Rattle.std.specs.Prelude.{ℕ, nat_lt, Bool, not, ◌&&◌, List, [], ◌∷◌, map, filter, Option, if◌then◌else◌}
use Rattle.std.specs.Cmp.Lexicographic.{pointwise}
use Rattle.std.specs.List.{list_any, flat_map}
use Rattle.usfm_ref.specs.Books.{same_bytes}
use Rattle.usfm_ref.specs.Rising.{rising}
use Rattle.usfm_ref.specs.Segments.{segment_cmp}
use Rattle.usfm_ref.specs.declared.segment.Segment.{Segment}
use Rattle.op_core.specs.Export.{has_book}
use Rattle.op_core.specs.Ids.{Id}
use Rattle.op_core.specs.Lists.{is_held}
use Rattle.op_core.specs.Names.{name_cmp}
use Rattle.op_core.specs.Ops.{Operation, or_empty, same_text}
use Rattle.op_core.specs.Shown.{shown, is_replaced, is_empty}
use Rattle.op_core.specs.Thinned.{of_ids}
use Rattle.segment_history.specs.Histories.{of_segment}
use Rattle.sync_changes.specs.declared.files.FileEdits.{FileEdits}

-- ---- whose an operation is

-- whether an id is that of an edit that the files made: it has the copy's own name, and a number
-- above the one from which on these edits are numbered
abbrev pub by_files : FileEdits → Id → Bool
by_files files id = same_bytes id.name files.name && nat_lt files.above id.number

-- whether the files did not make the operation of an id
abbrev pub brought : FileEdits → Id → Bool
brought files id = not (by_files files id)

-- whether the operation of an id came in: it was not known, and the files did not make it
abbrev pub came_in : (Id → Bool) → FileEdits → Id → Bool
came_in knows files id = not (knows id) && brought files id

-- the segments of the operations whose ids pass, in the order of books and keys, each once
abbrev pub segments_of : (Id → Bool) → List Operation → List Segment
segments_of p held = rising segment_cmp (map (λ o. o.segment) (of_ids p held))

-- the names under which operations were made, rising, each once
abbrev pub makers : List Operation → List (List ℕ)
makers ops = rising name_cmp (map (λ o. o.id.name) ops)

-- a segment, and names
pub record NamesParts : Type 0 where
  pub segment : Segment
  pub names : List (List ℕ)

-- ---- what came in

-- the texts that a segment shows, or that they were left out, by rising ids
abbrev pub shown_texts : List Operation → Segment → List (Option (List ℕ))
shown_texts held g = map (λ o. o.text) (shown held g)

-- whether two lists of texts are the same
abbrev pub same_texts : List (Option (List ℕ)) → List (Option (List ℕ)) → Bool
same_texts = pointwise same_text

-- whether a segment shows the same by the known operations by themselves and by all but those that
-- the files made
abbrev pub shows_same : List Operation → (Id → Bool) → FileEdits → Segment → Bool
shows_same held knows files g =
    same_texts (shown_texts (of_ids knows held) g) (shown_texts (of_ids (brought files) held) g)

-- the segment with the makers of what came in there, if it shows something else by it
abbrev pub came_at : List Operation → (Id → Bool) → FileEdits → Segment → List NamesParts
came_at held knows files g =
    if shows_same held knows files g then []
    else record {
      segment = g;
      names = makers (of_segment (of_ids (came_in knows files) held) g);
    } ∷ []

-- the segments that show something else by what came in
abbrev pub came : List Operation → (Id → Bool) → FileEdits → List NamesParts
came held knows files =
    flat_map (came_at held knows files) (segments_of (came_in knows files) held)

-- ---- what the files removed

-- whether one of these texts is not empty
abbrev pub has_text : List (Option (List ℕ)) → Bool
has_text texts = list_any (λ text. not (is_empty (or_empty text))) texts

-- the segment, if it shows no text that is not empty, and showed one but for the files
abbrev pub removed_at : List Operation → FileEdits → Segment → List Segment
removed_at held files g =
    if has_text (shown_texts (of_ids (brought files) held) g) && not (has_text (shown_texts held g))
    then g ∷ [] else []

-- the segments that have no text any more by an edit that the files made
abbrev pub removed : List Operation → FileEdits → List Segment
removed held files = flat_map (removed_at held files) (segments_of (by_files files) held)

-- ---- whose texts the files replaced

-- whether some of the older sets has the segment's book, and does not show the operation of the id
-- in the segment
abbrev pub is_late : List (List Operation) → Segment → Id → Bool
is_late older g id = list_any (λ old. has_book old g.book && not (is_held (shown old g) id)) older

-- whether an operation of the segment is another copy's, came in late, and is named as replaced by
-- an edit that the files made in the segment
abbrev pub is_overwritten : List Operation → FileEdits → List (List Operation) → Segment
    → Operation → Bool
is_overwritten held files older g o =
    not (same_bytes o.id.name files.name)
    && (is_replaced (of_ids (by_files files) held) g o.id && is_late older g o.id)

-- the segment with names, if there is one
abbrev pub if_named : Segment → List (List ℕ) → List NamesParts
if_named g [] = []
if_named g (name ∷ names) = record { segment = g; names = name ∷ names } ∷ []

-- the segment with the makers of those of what the base shows there that were overwritten, if there
-- are any
abbrev pub replaced_at : List Operation → FileEdits → List Operation → List (List Operation)
    → Segment → List NamesParts
replaced_at held files base older g =
    if_named g (makers (filter (is_overwritten held files older g) (shown base g)))

-- the segments in which the files replaced what other copies made and what came in late
abbrev pub replaced : List Operation → FileEdits → List Operation → List (List Operation)
    → List NamesParts
replaced held files base older =
    flat_map (replaced_at held files base older) (segments_of (by_files files) held)

-- ---- all of it

-- what came in, what the files removed, and whose texts they replaced
pub record SyncParts : Type 0 where
  pub came : List NamesParts
  pub removed : List Segment
  pub replaced : List NamesParts

-- what a sync changed
abbrev pub sync_changes : List Operation → (Id → Bool) → FileEdits → List Operation
    → List (List Operation) → SyncParts
sync_changes held knows files base older = record {
  came = came held knows files;
  removed = removed held files;
  replaced = replaced held files base older;
}
