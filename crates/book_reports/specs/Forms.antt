-- How findings and hits are written by a form (this project's own rule): by the bytes before them,
-- or by lines and columns, as editors and compilers write `FILE:LINE:COLUMN: ..`.
use Rattle.std.specs.Prelude.{ℕ, List, [], ◌∷◌, ◌++◌, length, Option, None, Some, codes, if◌then◌else◌}
use Rattle.std.specs.Fmt.{decimal}
use Rattle.std.specs.List.{flat_map}
use Rattle.usfm_ref.specs.References.{ref_text}
use Rattle.segment_check.specs.Codes.{code_name}
use Rattle.segment_check.specs.declared.finding.Finding.{Finding}
use Rattle.concordance.specs.Hits.{HitParts}
use Rattle.line_column.specs.Places.{place_at}
use Rattle.line_column.specs.declared.walk.Place.{Place}
use Rattle.line_excerpt.specs.Excerpts.{excerpt}
use Rattle.line_excerpt.specs.declared.excerpt.SetOff.{SetOff}
use Rattle.book_reports.specs.Lines.{mark_length}
use Rattle.book_reports.specs.declared.form.Form.{Form}
use Rattle.book_reports.specs.declared.form.Places.{Places}
use Rattle.book_reports.specs.declared.form.Places.TheVariants.{Starts, Lines, FileLines}

-- how it is said where something stands in a book: by lines and columns where they are asked for, and
-- else by bytes
abbrev pub places_of : Form → Places
places_of form = if form.by_lines then Lines else Starts

-- the same of a book's file
abbrev pub places_in_file : Form → Places
places_in_file form = if form.by_lines then FileLines else Starts

-- a line and a column, each after a colon, and a colon and a space
abbrev pub place_text : Place → List ℕ
place_text at = 58 ∷ decimal at.line ++ 58 ∷ decimal at.column ++ 58 ∷ 32 ∷ []

-- the end of a line: after a space the line of the text, where this many bytes from a place on are
-- set off, if something sets them off; and a line feed
abbrev pub line_end : Option SetOff → List ℕ → ℕ → ℕ → List ℕ
line_end None text start len = 10 ∷ []
line_end (Some set_off) text start len = 32 ∷ excerpt set_off text start len ++ 10 ∷ []

-- ---- findings

-- where a finding stands in the text of a book, which may be that of a file, and its code
abbrev pub finding_front : Places → List ℕ → List ℕ → List ℕ → Finding → List ℕ
finding_front Starts file book text f =
    ref_text book f.key ++ 32 ∷ code_name f.code ++ 32 ∷ decimal f.start
finding_front Lines file book text f =
    ref_text book f.key ++ place_text (place_at text f.start) ++ code_name f.code
finding_front FileLines file book text f =
    file ++ place_text (place_at text f.start) ++ code_name f.code ++ 32 ∷ ref_text book f.key

-- a finding in the text of a book, as a line
abbrev pub finding_in : Places → Option SetOff → List ℕ → List ℕ → List ℕ → Finding → List ℕ
finding_in places set_off file book text f =
    finding_front places file book text f
    ++ line_end set_off text f.start (mark_length text f.start)

-- a line for each finding
abbrev pub findings_in : Places → Option SetOff → List ℕ → List ℕ → List ℕ → List Finding
    → List ℕ
findings_in places set_off file book text found =
    flat_map (finding_in places set_off file book text) found

-- ---- hits

-- where a hit stands in the text of a book, which may be that of a file
abbrev pub hit_front : Places → List ℕ → List ℕ → List ℕ → HitParts → List ℕ
hit_front Starts file book text h = ref_text book h.key ++ 32 ∷ decimal h.start
hit_front Lines file book text h =
    ref_text book h.key ++ place_text (place_at text h.start) ++ codes "found"
hit_front FileLines file book text h =
    file ++ place_text (place_at text h.start) ++ codes "found" ++ 32 ∷ ref_text book h.key

-- a hit in the text of a book, as a line
abbrev pub hit_in : Places → Option SetOff → List ℕ → List ℕ → List ℕ → HitParts → List ℕ
hit_in places set_off file book text h =
    hit_front places file book text h ++ line_end set_off text h.start (length h.text)

-- a line for each hit
abbrev pub hits_in : Places → Option SetOff → List ℕ → List ℕ → List ℕ → List HitParts → List ℕ
hits_in places set_off file book text hits =
    flat_map (hit_in places set_off file book text) hits
