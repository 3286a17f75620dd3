-- A record takes its fields one after the other.
use Rattle.std.proofs.Common.{◌≡◌, ℕ, List, [], ◌∷◌, ◌++◌, Option, None, Some, sym, refl, ap, ◌∙◌, append_assoc, append-nil}
use Rattle.std.specs.Prelude.{codes}
use Rattle.std.specs.List.{fold}
use Rattle.std.specs.Option.{option_or, unwrap_or}
use Rattle.sty_sheet.specs.Fields.{Field, passed, marker, occurs_under, endmarker, name, style_type, text_type, is_word, kind_named, as_name, as_endmarker, as_occurs_under, as_style_type, as_text_type}
use Rattle.sty_sheet.specs.Records.{Record, words_of, closing_name}
use Rattle.sty_sheet.specs.Sheets.{latest, value_of, record_with}
use Rattle.sty_sheet.specs.Loops.Steps.{with_field}

or_none : {A : Type 0} (o : Option A) → option_or None o ≡ option_or o None
or_none None = refl
or_none (Some x) = refl

-- of three things that may be there, the first that is, grouped in either way
pub or_assoc : {A : Type 0} (o p q : Option A) → option_or (option_or o p) q ≡ option_or o (option_or p q)
or_assoc None p q = refl
or_assoc (Some x) p q = refl

latest_push : (read : Field → Option (List ℕ)) (fs : List Field) (f : Field)
    → latest read (fs ++ (f ∷ [])) ≡ option_or (read f) (latest read fs)
latest_push read [] f = or_none (read f)
latest_push read (g ∷ fs) f = ap (λ o. option_or o (read g)) (latest_push read fs f) ∙ or_assoc (read f) (latest read fs) (read g)

value_with : (Field → Option (List ℕ)) → List Field → Field → List ℕ
value_with read fs f = unwrap_or (option_or (read f) (latest read fs)) []

pushed : (read : Field → Option (List ℕ)) (fs : List Field) (f : Field) → value_of read (fs ++ (f ∷ [])) ≡ value_with read fs f
unfolding value_with
pushed read fs f = ap (λ o. unwrap_or o []) (latest_push read fs f)

record_by : List ℕ → List Field → Field → Record
record_by m fs f = record {
  marker = m;
  name = value_with as_name fs f;
  closer = closing_name (value_with as_endmarker fs f);
  under = words_of (value_with as_occurs_under fs f);
  kind = kind_named (value_with as_style_type fs f);
  verse_text = is_word (codes "VerseText") (value_with as_text_type fs f);
}

added : (m : List ℕ) (fs : List Field) (f : Field) → record_by m fs f ≡ with_field f (record_with m fs)
unfolding record_by value_with
added m fs passed = refl
added m fs (marker value) = refl
added m fs (occurs_under value) = refl
added m fs (endmarker value) = refl
added m fs (name value) = refl
added m fs (style_type value) = refl
added m fs (text_type value) = refl

record_push : (m : List ℕ) (fs : List Field) (f : Field) → record_with m (fs ++ (f ∷ [])) ≡ with_field f (record_with m fs)
unfolding record_by
record_push m fs f =
    (λ i. record {
      marker = m;
      name = pushed as_name fs f i;
      closer = closing_name (pushed as_endmarker fs f i);
      under = words_of (pushed as_occurs_under fs f i);
      kind = kind_named (pushed as_style_type fs f i);
      verse_text = is_word (codes "VerseText") (pushed as_text_type fs f i);
    })
    ∙ added m fs f

fields_from : (m : List ℕ) (before fs : List Field) → fold (λ r f. with_field f r) (record_with m before) fs ≡ record_with m (before ++ fs)
fields_from m before [] = ap (record_with m) (sym (append-nil before))
fields_from m before (f ∷ fs) =
    ap (λ r. fold (λ r f. with_field f r) r fs) (sym (record_push m before f)) ∙ fields_from m (before ++ (f ∷ [])) fs
    ∙ ap (record_with m) (append_assoc before (f ∷ []) fs)

-- fields taken one after the other make the record that has them
pub takes_all : (m : List ℕ) (fs : List Field) → fold (λ r f. with_field f r) (record_with m []) fs ≡ record_with m fs
takes_all m fs = fields_from m [] fs
