-- A record that is put among others is the one that is found.
use Rattle.std.proofs.Common.{◌≡◌, ℕ, Bool, true, false, cond, List, [], ◌∷◌, Option, None, Some, sym, refl, ap, ◌∙◌}
use Rattle.std.specs.Prelude.{find, reverse, Result, Ok, Err}
use Rattle.std.specs.List.{fold}
use Rattle.std.specs.Option.{option_or}
use Rattle.std.specs.Str.{bytes_eq}
use Rattle.std.proofs.lemmas.List.{reverse-append}
use Rattle.std.proofs.lemmas.List.Folds.{find-append}
use Rattle.std.proofs.lemmas.Slice.Eq.{bytes_eq-Decides}
use Rattle.sty_sheet.specs.Fields.{Field, fields_of}
use Rattle.sty_sheet.specs.Records.{Record, named}
use Rattle.sty_sheet.specs.Sheets.{first_fault, all_records, of_marker, each_once, sheet_with, sheet_of}
use Rattle.sty_sheet.specs.Loops.Steps.{put}
use Rattle.sty_sheet.specs.declared.fault.SheetFault.{SheetFault}
use Rattle.sty_sheet.proofs.EachOnce.{puts_all}
use Rattle.sty_sheet.proofs.RecordFields.{or_assoc}

-- the record, if it is of the marker
alone : List ℕ → Record → Option Record
alone m r = cond (bytes_eq m r.marker) (Some r) None

none_or : {A : Type 0} (t : Bool) (x : A) → cond t (Some x) None ≡ option_or (cond t (Some x) None) None
none_or true x = refl
none_or false x = refl

-- where r takes the place of q, or q stays before it
put_by : (m : List ℕ) (q r : Record) (qs : List Record) (same mr mq : Bool) → bytes_eq r.marker q.marker ≡ same → bytes_eq m r.marker ≡ mr
    → bytes_eq m q.marker ≡ mq
    → named m (put qs r) ≡ option_or (alone m r) (named m qs)
    → cond same (cond mr (Some r) (named m qs)) (cond mq (Some q) (named m (put qs r)))
    ≡ option_or (cond mr (Some r) None) (cond mq (Some q) (named m qs))
unfolding alone
put_by m q r qs true true mq s a b rest = refl
put_by m q r qs true false false s a b rest = refl
put_by m q r qs true false true s a b rest =
    let no : false ≡ true = sym a ∙ (bytes_eq-Decides m r.marker).1
    ((bytes_eq-Decides m q.marker).0 b ∙ sym ((bytes_eq-Decides r.marker q.marker).0 s)) in
    absurd (cc)
put_by m q r qs false true true s a b rest =
    let no : false ≡ true = sym s ∙ (bytes_eq-Decides r.marker q.marker).1
    (sym ((bytes_eq-Decides m r.marker).0 a) ∙ (bytes_eq-Decides m q.marker).0 b) in
    absurd (cc)
put_by m q r qs false false true s a b rest = refl
put_by m q r qs false true false s a b rest = rest ∙ ap (λ t. option_or (cond t (Some r) None) (named m qs)) a
put_by m q r qs false false false s a b rest = rest ∙ ap (λ t. option_or (cond t (Some r) None) (named m qs)) a

named_in : (m : List ℕ) (t : Bool) (q r : Record) (qs rs : List Record)
    → named m (cond t (r ∷ qs) (q ∷ rs)) ≡ cond t (named m (r ∷ qs)) (named m (q ∷ rs))
named_in m true q r qs rs = refl
named_in m false q r qs rs = refl

named_put : (m : List ℕ) (rs : List Record) (r : Record) → named m (put rs r) ≡ option_or (alone m r) (named m rs)
unfolding alone
named_put m [] r = none_or (bytes_eq m r.marker) r
named_put m (q ∷ qs) r =
    named_in m (bytes_eq r.marker q.marker) q r qs (put qs r)
    ∙ put_by m q r qs (bytes_eq r.marker q.marker) (bytes_eq m r.marker) (bytes_eq m q.marker) refl refl refl (named_put m qs r)

named_puts : (m : List ℕ) (before rs : List Record) → named m (fold put before rs)
    ≡ option_or (find (of_marker m) (reverse rs)) (named m before)
unfolding alone
named_puts m before [] = refl
named_puts m before (r ∷ rs) =
    named_puts m (put before r) rs ∙ ap (option_or (find (of_marker m) (reverse rs))) (named_put m before r)
    ∙ sym (or_assoc (find (of_marker m) (reverse rs)) (alone m r) (named m before))
    ∙ ap (λ o. option_or o (named m before)) (sym (find-append (of_marker m) (reverse rs) (r ∷ []))
    ∙ ap (find (of_marker m)) (sym (reverse-append (r ∷ []) rs)))

or_nothing : {A : Type 0} (o : Option A) → option_or o None ≡ o
or_nothing None = refl
or_nothing (Some x) = refl

last_named : (m : List ℕ) (rs : List Record) → named m (each_once rs) ≡ find (of_marker m) (reverse rs)
last_named m rs = ap (named m) (sym (puts_all rs)) ∙ named_puts m [] rs ∙ or_nothing (find (of_marker m) (reverse rs))

records_in : Result (List Record) SheetFault → List Record
records_in (Ok rs) = rs
records_in (Err fault) = []

last_of_sheet : (o : Option SheetFault) (fs : List Field) (rs : List Record) (m : List ℕ) → sheet_with o fs ≡ Ok rs
    → named m rs ≡ find (of_marker m) (reverse (all_records fs))
unfolding records_in
last_of_sheet (Some fault) fs rs m h = absurd (cc)
last_of_sheet None fs rs m h = ap (λ r. named m (records_in r)) (sym h) ∙ last_named m (all_records fs)

-- of a marker the last record of the sheet is the one that is found
pub last_record_counts : (text : List ℕ) (rs : List Record) (m : List ℕ) → sheet_of text ≡ Ok rs
    → named m rs ≡ find (of_marker m) (reverse (all_records (fields_of text)))
unfolding sheet_of
last_record_counts text rs m h = last_of_sheet (first_fault false 1 (fields_of text)) (fields_of text) rs m h
