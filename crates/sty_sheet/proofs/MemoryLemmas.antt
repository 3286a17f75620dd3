-- Where memory is taken before a sheet is refused: how many records begin before the first fault, told from each line on.
use Rattle.std.proofs.Common.{◌≡◌, ◌≢◌, ℕ, ◌+◌, ◌≤◌, Bool, true, false, cond, List, [], ◌∷◌, length, Option, None, Some, Ok, refl, sym, ap, ◌∙◌, arith}
use Rattle.std.specs.Prelude.{is_some, ◌||◌, IsTrue}
use Rattle.std.specs.Option.{option_or}
use Rattle.std.specs.Str.{bytes_eq}
use Rattle.std.proofs.lemmas.Bool.{le-leb}
use Rattle.sty_sheet.specs.Fields.{Field, passed, marker, occurs_under, endmarker, name, style_type, text_type, is_marker, fields_of, kind_named}
use Rattle.sty_sheet.specs.Memory.{before_fault, begun_before_fault, may_take, takes_memory}
use Rattle.sty_sheet.specs.Records.{Record}
use Rattle.sty_sheet.specs.Sheets.{field_fault, first_fault, all_records, sheet_of}
use Rattle.sty_sheet.specs.Loops.Steps.{Reading, after_field}
use Rattle.sty_sheet.specs.declared.fault.SheetFault.{SheetFault}
use Rattle.sty_sheet.specs.declared.fault.SheetFault.TheVariants.{Memory, FieldBeforeMarker, EmptyMarker, BadStyleType}
use Rattle.sty_sheet.specs.declared.kind.StyleKind.{StyleKind}
use Rattle.sty_sheet.proofs.Resume.{resume, resume_is, total, step_seen, faulty_or}

counted : Bool → ℕ
counted false = 0
counted true = 1

-- the record that was begun, if one was, and those that begin before the first fault of the fields to come
pub begun_ahead : Bool → ℕ → List Field → ℕ
begun_ahead seen n fs = counted seen + length (all_records (before_fault seen n fs))

one_more : (f : Field) (fs : List Field) → length (all_records (f ∷ fs)) ≡ counted (is_marker f) + length (all_records fs)
unfolding counted
one_more passed fs = omega arith
one_more (marker value) fs = omega arith
one_more (occurs_under value) fs = omega arith
one_more (endmarker value) fs = omega arith
one_more (name value) fs = omega arith
one_more (style_type value) fs = omega arith
one_more (text_type value) fs = omega arith

counted_or : (a b : Bool) → counted (a || b) ≤ counted a + counted b
unfolding counted
counted_or true b = omega arith
counted_or false b = omega arith

sound_first : (seen : Bool) (n : ℕ) (f : Field) (fs : List Field) → field_fault seen n f ≡ None
    → before_fault seen n (f ∷ fs) ≡ f ∷ before_fault (seen || is_marker f) (n + 1) fs
sound_first seen n f fs h = ap (λ o. cond (is_some o) [] (f ∷ before_fault (seen || is_marker f) (n + 1) fs)) h

on_by : (seen : Bool) (n : ℕ) (f : Field) (fs : List Field) → field_fault seen n f ≡ None
    → begun_ahead (seen || is_marker f) (n + 1) fs ≤ begun_ahead seen n (f ∷ fs)
unfolding begun_ahead
on_by seen n f fs h =
    let first = ap (λ l. length (all_records l)) (sound_first seen n f fs h) in
    let more = one_more f (before_fault (seen || is_marker f) (n + 1) fs) in
    let seen = counted_or seen (is_marker f) in
    omega arith

-- one line more without a fault, of fields of which no more begin records than b
pub still_within : (s t : Reading) (n b : ℕ) (f g : Field) (fs gs : List Field) → gs ≡ g ∷ fs → f ≡ g
    → field_fault (is_some s.begun) (n + 1) f ≡ None → t ≡ after_field s f → begun_ahead (is_some s.begun) (n + 1) gs ≤ b
    → begun_ahead (is_some t.begun) (n + 1 + 1) fs ≤ b
still_within s t n b f g fs gs line same due on within =
    let step = on_by (is_some s.begun) (n + 1) f fs due in
    let seen = ap (λ (r : Reading). begun_ahead (is_some r.begun) (n + 1 + 1) fs) on
    ∙ ap (λ o. begun_ahead o (n + 1 + 1) fs) (step_seen s.whole s.begun f) in
    let here = ap (begun_ahead (is_some s.begun) (n + 1)) (line ∙ ap (λ h. h ∷ fs) (sym same)) in
    omega arith

-- the records ahead of the first line are no more than those that begin before the first fault
pub within_at_first : (text : List ℕ) → begun_ahead false 1 (fields_of text) ≤ begun_before_fault text
unfolding begun_ahead counted
within_at_first text = omega arith

-- ---- after a record was begun no field is misplaced

well_placed : (n : ℕ) (f : Field) (m : ℕ) → field_fault true n f ≢ Some (FieldBeforeMarker m)
well_placed n passed m h = cc h
well_placed n (marker value) m h = by (bytes_eq value []) h
  where
    by : (b : Bool) → cond b (Some (EmptyMarker n)) None ≢ Some (FieldBeforeMarker m)
    by true h = cc h
    by false h = cc h
well_placed n (occurs_under value) m h = cc h
well_placed n (endmarker value) m h = cc h
well_placed n (name value) m h = cc h
well_placed n (style_type value) m h = by (kind_named value) h
  where
    by : (k : Option StyleKind) → (elim k [ None ↦ Some (BadStyleType n) | Some kind ↦ None ]) ≢ Some (FieldBeforeMarker m)
    by None h = cc h
    by (Some kind) h = cc h
well_placed n (text_type value) m h = cc h

none_misplaced : (n : ℕ) (fs : List Field) (m : ℕ) → first_fault true n fs ≢ Some (FieldBeforeMarker m)
none_misplaced n [] m h = cc h
none_misplaced n (f ∷ fs) m h = by (field_fault true n f) (well_placed n f m) (none_misplaced (n + 1) fs m) h
  where
    by : (o : Option SheetFault) → o ≢ Some (FieldBeforeMarker m) → first_fault true (n + 1) fs ≢ Some (FieldBeforeMarker m)
        → option_or o (first_fault true (n + 1) fs) ≢ Some (FieldBeforeMarker m)
    by None other later h = later h
    by (Some fault) other later h = other h

settled : (b : ℕ) (due : Option SheetFault) (rs : List Record) → ((m : ℕ) → due ≢ Some (FieldBeforeMarker m)) → 2 ≤ b
    → IsTrue (may_take b (faulty_or due rs))
unfolding faulty_or
settled b None rs other two = refl
settled b (Some Memory) rs other two = le-leb 2 b two
settled b (Some (FieldBeforeMarker m)) rs other two = absurd (other m refl)
settled b (Some (EmptyMarker m)) rs other two = le-leb 2 b two
settled b (Some (BadStyleType m)) rs other two = le-leb 2 b two

may_take_on : (b : ℕ) (s : Reading) (n : ℕ) (fs : List Field) → is_some s.begun ≡ true → 2 ≤ b → IsTrue (may_take b (resume s n fs))
may_take_on b s n fs seen two =
    ap (may_take b) (resume_is s n fs)
    ∙ settled b (first_fault (is_some s.begun) (n + 1) fs) (total s fs)
    (λ m h. none_misplaced (n + 1) fs m (ap (λ o. first_fault o (n + 1) fs) (sym seen) ∙ h)) two

-- where a line begins another record, memory may be taken
pub takes_here : (text : List ℕ) (s : Reading) (n : ℕ) (f g : Field) (fs gs : List Field) → gs ≡ g ∷ fs → f ≡ g
    → is_some s.begun ≡ true → is_marker f ≡ true → field_fault (is_some s.begun) (n + 1) f ≡ None
    → begun_ahead (is_some s.begun) (n + 1) gs ≤ begun_before_fault text → resume s n gs ≡ sheet_of text
    → IsTrue (takes_memory text)
unfolding takes_memory begun_ahead counted
takes_here text s n f g fs gs line same seen begins due within reads =
    let first = ap (λ l. length (all_records l)) (sound_first (is_some s.begun) (n + 1) f fs due) in
    let more = one_more f (before_fault (is_some s.begun || is_marker f) (n + 1 + 1) fs) in
    let here = ap (λ l. length (all_records (before_fault (is_some s.begun) (n + 1) l))) (line ∙ ap (λ h. h ∷ fs) (sym same)) in
    let one = ap counted seen in
    let other = ap counted begins in
    ap (may_take (begun_before_fault text)) (sym reads) ∙ may_take_on (begun_before_fault text) s n gs seen (omega arith)

-- to read a right sheet memory may be taken
pub right_takes : (text : List ℕ) (rs : List Record) → sheet_of text ≡ Ok rs → IsTrue (takes_memory text)
unfolding takes_memory
right_takes text rs reads = ap (may_take (begun_before_fault text)) reads
