-- What a sheet's definition gives from here on: s is what was read, n lines, and fs are the fields of the lines to come.
use Rattle.std.proofs.Common.{◌≡◌, ℕ, ◌+◌, false, cond, List, [], ◌∷◌, Option, None, Some, Result, Ok, Err, sym, refl, ap, ◌∙◌}
use Rattle.std.specs.Prelude.{is_some, ◌||◌, not}
use Rattle.std.specs.List.{fold}
use Rattle.std.specs.Option.{option_or}
use Rattle.std.proofs.lemmas.List.Sums.{take_while-cons}
use Rattle.sty_sheet.specs.Lines.{first_word}
use Rattle.sty_sheet.specs.Fields.{Field, passed, marker, occurs_under, endmarker, name, style_type, text_type, is_marker, fields_of}
use Rattle.sty_sheet.specs.Records.{Record}
use Rattle.sty_sheet.specs.Sheets.{field_fault, first_fault, own_fields, all_records, record_with, sheet_with, sheet_of}
use Rattle.sty_sheet.specs.Loops.Steps.{Reading, with_field, put, finished, after_field, Tells}
use Rattle.sty_sheet.specs.Views.{Gives}
use Rattle.sty_sheet.specs.declared.fault.SheetFault.TheVariants.{Memory, FieldBeforeMarker, EmptyMarker, BadStyleType}
use Rattle.sty_sheet.specs.declared.fault.SheetFault.{SheetFault}
use Rattle.sty_sheet.proofs.EachOnce.{puts_all}
use Rattle.sty_sheet.proofs.RecordFields.{takes_all}

-- the records to come, the one that was begun with its further fields before them
ahead : Option Record → List Field → List Record
ahead None fs = all_records fs
ahead (Some r) fs = fold (λ r f. with_field f r) r (own_fields fs) ∷ all_records fs

-- the fault, if there is one, or else the records
unfoldable pub faulty_or : Option SheetFault → List Record → Result (List Record) SheetFault
faulty_or (Some fault) rs = Err fault
faulty_or None rs = Ok rs

-- what the definition gives from a state of the reading on
pub resume : Reading → ℕ → List Field → Result (List Record) SheetFault
resume s n fs = faulty_or (first_fault (is_some s.begun) (n + 1) fs) (fold put s.whole (ahead s.begun fs))

own_more : (f : Field) (fs : List Field) → is_marker f ≡ false → own_fields (f ∷ fs) ≡ f ∷ own_fields fs
own_more f fs h = take_while-cons (λ f. not (is_marker f)) f fs ∙ ap (λ t. cond (not t) (f ∷ own_fields fs) []) h

own_none : (value : List ℕ) (fs : List Field) → own_fields (marker value ∷ fs) ≡ []
own_none value fs = take_while-cons (λ f. not (is_marker f)) (marker value) fs

begun_more : (r : Record) (f : Field) (fs : List Field) → is_marker f ≡ false
    → fold (λ r f. with_field f r) r (own_fields (f ∷ fs)) ≡ fold (λ r f. with_field f r) (with_field f r) (own_fields fs)
begun_more r f fs h = ap (fold (λ r f. with_field f r) r) (own_more f fs h)

-- the records, those that are whole before those to come
pub total : Reading → List Field → List Record
total s fs = fold put s.whole (ahead s.begun fs)

-- the first fault of the fields to come, or the records
pub resume_is : (s : Reading) (n : ℕ) (fs : List Field) → resume s n fs ≡ faulty_or (first_fault (is_some s.begun) (n + 1) fs) (total s fs)
unfolding resume total
resume_is s n fs = refl

begins_record : (value : List ℕ) (fs : List Field) → ahead None (marker value ∷ fs) ≡ ahead (Some (record_with (first_word value) [])) fs
unfolding ahead
begins_record value fs = ap (λ r. r ∷ all_records fs) (sym (takes_all (first_word value) (own_fields fs)))

whole_of : Reading → List Record
whole_of s = s.whole

step_total : (rs : List Record) (o : Option Record) (f : Field) (fs : List Field)
    → total (record { whole = rs; begun = o }) (f ∷ fs) ≡ total (after_field (record { whole = rs; begun = o }) f) fs
unfolding total ahead
step_total rs None passed fs = refl
step_total rs None (occurs_under value) fs = refl
step_total rs None (endmarker value) fs = refl
step_total rs None (name value) fs = refl
step_total rs None (style_type value) fs = refl
step_total rs None (text_type value) fs = refl
step_total rs None (marker value) fs = ap (fold put rs) (begins_record value fs)
step_total rs (Some r) passed fs = ap (λ q. fold put rs (q ∷ all_records fs)) (begun_more r passed fs refl)
step_total rs (Some r) (occurs_under value) fs = ap (λ q. fold put rs (q ∷ all_records fs)) (begun_more r (occurs_under value) fs refl)
step_total rs (Some r) (endmarker value) fs = ap (λ q. fold put rs (q ∷ all_records fs)) (begun_more r (endmarker value) fs refl)
step_total rs (Some r) (name value) fs = ap (λ q. fold put rs (q ∷ all_records fs)) (begun_more r (name value) fs refl)
step_total rs (Some r) (style_type value) fs = ap (λ q. fold put rs (q ∷ all_records fs)) (begun_more r (style_type value) fs refl)
step_total rs (Some r) (text_type value) fs = ap (λ q. fold put rs (q ∷ all_records fs)) (begun_more r (text_type value) fs refl)
step_total rs (Some r) (marker value) fs =
    ap (λ own. fold put rs (fold (λ r f. with_field f r) r own ∷ all_records (marker value ∷ fs))) (own_none value fs)
    ∙ ap (fold put (put rs r)) (begins_record value fs)

-- a record is begun after a field where one was before it, or the field is a marker
pub step_seen : (rs : List Record) (o : Option Record) (f : Field)
    → is_some (after_field (record { whole = rs; begun = o }) f).begun ≡ (is_some o || is_marker f)
step_seen rs None passed = refl
step_seen rs None (occurs_under value) = refl
step_seen rs None (endmarker value) = refl
step_seen rs None (name value) = refl
step_seen rs None (style_type value) = refl
step_seen rs None (text_type value) = refl
step_seen rs None (marker value) = refl
step_seen rs (Some r) passed = refl
step_seen rs (Some r) (occurs_under value) = refl
step_seen rs (Some r) (endmarker value) = refl
step_seen rs (Some r) (name value) = refl
step_seen rs (Some r) (style_type value) = refl
step_seen rs (Some r) (text_type value) = refl
step_seen rs (Some r) (marker value) = refl

-- where a field has no fault, the reading goes on in the state after it
pub goes_on : (s : Reading) (n : ℕ) (f : Field) (fs : List Field) → field_fault (is_some s.begun) (n + 1) f ≡ None
    → resume s n (f ∷ fs) ≡ resume (after_field s f) (n + 1) fs
unfolding resume total
goes_on s n f fs h =
    ap (λ o. faulty_or (option_or o (first_fault (is_some s.begun || is_marker f) (n + 1 + 1) fs)) (total s (f ∷ fs))) h
    ∙ (λ i. faulty_or (first_fault (sym (step_seen s.whole s.begun f) i) (n + 1 + 1) fs) (step_total s.whole s.begun f fs i))

-- where it has one, that is what the sheet has
pub stops : (s : Reading) (n : ℕ) (f : Field) (fs : List Field) (fault : SheetFault) → field_fault (is_some s.begun) (n + 1) f ≡ Some fault
    → resume s n (f ∷ fs) ≡ Err fault
unfolding resume faulty_or
stops s n f fs fault h =
    ap (λ o. faulty_or (option_or o (first_fault (is_some s.begun || is_marker f) (n + 1 + 1) fs))
    (fold put s.whole (ahead s.begun (f ∷ fs)))) h

ends_by : (rs : List Record) (o : Option Record) → fold put rs (ahead o []) ≡ finished (record { whole = rs; begun = o })
unfolding ahead
ends_by rs None = refl
ends_by rs (Some r) = refl

-- at the end the sheet has the records that were read, the last one too
pub ends : (s : Reading) (n : ℕ) → resume s n [] ≡ Ok (finished s)
unfolding resume faulty_or
ends s n = ap Ok (ends_by s.whole s.begun)

starts_by : (o : Option SheetFault) (fs : List Field) → faulty_or o (fold put [] (all_records fs)) ≡ sheet_with o fs
unfolding faulty_or
starts_by (Some fault) fs = refl
starts_by None fs = ap Ok (puts_all (all_records fs))

-- from the start on it is the definition
pub starts : (text : List ℕ) → resume (record { whole = []; begun = None }) 0 (fields_of text) ≡ sheet_of text
unfolding resume ahead sheet_of
starts text = starts_by (first_fault false 1 (fields_of text)) (fields_of text)

-- One line more, where result is what the definition gives.

-- the same of a line that an iterator gives
pub takes_line : (s t : Reading) (n : ℕ) (f g : Field) (fs gs : List Field) (sheet : Result (List Record) SheetFault)
    → gs ≡ g ∷ fs → f ≡ g → field_fault (is_some s.begun) (n + 1) f ≡ None → t ≡ after_field s f → resume s n gs ≡ sheet
    → resume t (n + 1) fs ≡ sheet
takes_line s t n f g fs gs sheet line same due on reads =
    ap (λ s. resume s (n + 1) fs) on ∙ sym (goes_on s n f fs due) ∙ ap (λ h. resume s n (h ∷ fs)) same ∙ ap (resume s n) (sym line) ∙ reads

-- and of one that is refused
pub refuses_line : (s : Reading) (n : ℕ) (f g : Field) (fs gs : List Field) (sheet : Result (List Record) SheetFault) (fault : SheetFault)
    → gs ≡ g ∷ fs → f ≡ g → Tells (Err fault) (field_fault (is_some s.begun) (n + 1) f) → resume s n gs ≡ sheet → Gives (Err fault) sheet
refuses_line s n f g fs gs sheet Memory line same due reads = tt
refuses_line s n f g fs gs sheet (FieldBeforeMarker m) line same due reads =
    sym reads ∙ ap (resume s n) line ∙ ap (λ h. resume s n (h ∷ fs)) (sym same) ∙ stops s n f fs _ due
refuses_line s n f g fs gs sheet (EmptyMarker m) line same due reads =
    sym reads ∙ ap (resume s n) line ∙ ap (λ h. resume s n (h ∷ fs)) (sym same) ∙ stops s n f fs _ due
refuses_line s n f g fs gs sheet (BadStyleType m) line same due reads =
    sym reads ∙ ap (resume s n) line ∙ ap (λ h. resume s n (h ∷ fs)) (sym same) ∙ stops s n f fs _ due
