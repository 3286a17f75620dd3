-- What the program's folder keeps (this project's own rule): the base that makes the files as they
-- were read, and the one that makes them as they are written.
use Rattle.std.specs.Prelude.{ℕ, Bool, not, ◌&&◌, false, List, filter, Option, None, Some, option_map, Result, if◌then◌else◌}
use Rattle.std.specs.List.{find}
use Rattle.std.specs.Option.{is_none}
use Rattle.usfm_ref.specs.Books.{same_bytes}
use Rattle.usfm_ref.specs.Keys.{same_key}
use Rattle.op_core.specs.Ops.{Operation, own_text}
use Rattle.op_core.specs.Lists.{shown_ids}
use Rattle.op_core.specs.NextIds.{is_among}
use Rattle.bundle_codec.specs.Spelling.{bundle}
use Rattle.bundle_codec.specs.Joining.{bundles_joined}
use Rattle.book_folder.specs.Begun.{is_one_of, joined_or}
use Rattle.book_folder.specs.Taking.{StoodParts}
use Rattle.book_folder.specs.declared.refusal.Place.TheVariants as places
use Rattle.book_folder.specs.declared.refusal.Refusal.{Refusal}

-- bytes, if they are other than some
abbrev pub other_than : List ℕ → List ℕ → Option (List ℕ)
other_than read bytes = if same_bytes bytes read then None else Some bytes

-- whether an operation's segment shows it
abbrev pub shows : List Operation → Operation → Bool
shows held o = is_among (shown_ids held o.segment) o.id

-- what the books show that get a file
abbrev pub shown_in_files : List (List ℕ) → List Operation → List Operation
shown_in_files headless held =
    filter (λ o. not (is_one_of headless o.segment.book) && shows held o) held

-- the base that makes the books' files as they are written: what the books show that get a file
abbrev pub next_base : List (List ℕ) → List Operation → List ℕ
next_base headless held = bundle (shown_in_files headless held)

-- the text that a file has for an operation's segment, where that is another one than its base
-- picks
abbrev pub stood_text : List StoodParts → Operation → Option (List ℕ)
stood_text stood o =
    option_map (λ s. s.text)
    (find (λ s. same_bytes s.book o.segment.book && same_key s.key o.segment.key) stood)

-- whether this is an operation's text
abbrev pub is_text : Option (List ℕ) → Operation → Bool
is_text None o = false
is_text (Some text) o = same_bytes text (own_text o)

-- what the base shows where a file has what it picks
abbrev pub kept_shown : List StoodParts → List Operation → List Operation
kept_shown stood base = filter (λ o. shows base o && is_none (stood_text stood o)) base

-- what the project shows with the text that a file has, where that is another one than the base
-- picks
abbrev pub found_shown : List StoodParts → List Operation → List Operation
found_shown stood held = filter (λ o. shows held o && is_text (stood_text stood o) o) held

-- The base that makes the files as they were read: where a file has the text that the base picks,
-- what the base shows; else what the project shows with the file's text.
abbrev pub base_as_read : List StoodParts → List Operation → List Operation
    → Result (List ℕ) Refusal
base_as_read stood base held =
    joined_or places.Project
    (bundles_joined (bundle (kept_shown stood base)) (bundle (found_shown stood held)))
