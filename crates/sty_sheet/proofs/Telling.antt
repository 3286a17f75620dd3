-- What a call answers where a fault is due.
use Rattle.std.proofs.Common.{◌≡◌, ◌≢◌, ℕ, Bool, true, false, cond, [], Option, None, Some, Err, refl}
use Rattle.std.specs.Prelude.{is_some}
use Rattle.std.specs.Option.{option_map}
use Rattle.std.specs.Str.{bytes_eq}
use Rattle.sty_sheet.specs.Fields.{Field, passed, marker, occurs_under, endmarker, name, style_type, text_type, kind_named}
use Rattle.sty_sheet.specs.Sheets.{misplaced, field_fault}
use Rattle.sty_sheet.specs.Loops.Steps.{Tells}
use Rattle.sty_sheet.specs.declared.fault.SheetFault.{SheetFault}
use Rattle.sty_sheet.specs.declared.fault.SheetFault.TheVariants.{Memory, FieldBeforeMarker, EmptyMarker, BadStyleType}
use Rattle.sty_sheet.specs.declared.kind.StyleKind.{StyleKind}

not_misplaced : (seen : Bool) (n : ℕ) → misplaced seen n ≢ Some Memory
not_misplaced true n h = cc h
not_misplaced false n h = cc h

-- no field's fault is out of memory
pub no_memory : (seen : Bool) (n : ℕ) (f : Field) → field_fault seen n f ≢ Some Memory
no_memory seen n passed h = cc h
no_memory seen n (marker value) h = by (bytes_eq value []) h
  where
    by : (b : Bool) → cond b (Some (EmptyMarker n)) None ≢ Some Memory
    by true h = cc h
    by false h = cc h
no_memory seen n (occurs_under value) h = not_misplaced seen n h
no_memory seen n (endmarker value) h = not_misplaced seen n h
no_memory seen n (name value) h = not_misplaced seen n h
no_memory false n (style_type value) h = cc h
no_memory true n (style_type value) h = by (kind_named value) h
  where
    by : (k : Option StyleKind) → (elim k [ None ↦ Some (BadStyleType n) | Some kind ↦ None ]) ≢ Some Memory
    by None h = cc h
    by (Some kind) h = cc h
no_memory seen n (text_type value) h = not_misplaced seen n h

-- the fault of a field is the one that is due
pub tells_due : (seen : Bool) (n : ℕ) (f : Field) (fault : SheetFault) → field_fault seen n f ≡ Some fault
    → Tells (Err fault) (field_fault seen n f)
tells_due seen n f Memory h = absurd (no_memory seen n f h)
tells_due seen n f (FieldBeforeMarker m) h = h
tells_due seen n f (EmptyMarker m) h = h
tells_due seen n f (BadStyleType m) h = h

-- an image is there exactly where something is
pub is_some_map : {A B : Type 0} (f : A → B) (o : Option A) → is_some (option_map f o) ≡ is_some o
is_some_map f None = refl
is_some_map f (Some x) = refl
