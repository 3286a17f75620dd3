-- What segments get back.
use Rattle.std.proofs.Common.{◌≡◌, ℕ, ◌+◌, ◌<◌, Bool, cond, List, [], ◌∷◌, ◌++◌, length, take, drop, get_or, map, reverse, Option, None, Some, is_some, Vec, option_map, refl, sym, ap, ◌∙◌, append_assoc}
use Rattle.std.specs.List.{flat_map}
use Rattle.std.specs.BTreeMap.{BTreeMap}
use Rattle.std.specs.Option.{option_or}
use Rattle.std.proofs.lemmas.List.{reverse-append, reverse-reverse, take_more, take-append-drop}
use Rattle.usfm_ref.specs.Books.{same_bytes}
use Rattle.usfm_ref.specs.declared.segment.Segment.{Segment}
use Rattle.op_core.specs.Ids.{Id}
use Rattle.op_core.specs.Lists.{ids_of, shown_ids}
use Rattle.op_core.specs.Ops.{Operation, or_empty}
use Rattle.op_core.specs.Shown.{shown, last, text_if_any, text_of}
use Rattle.op_core.specs.Thinned.{of_ids}
use Rattle.bundle_codec.specs.Summaries.{NameRanges, covers}
use Rattle.segment_history.specs.Histories.{with_text, of_segment}
use Rattle.segment_history.specs.Changes.{ShownParts, shown_part, shown_parts}
use Rattle.segment_history.specs.Restores.{RestoredParts, restored_text, known_greatest, left_out, first_left_out, restored_at}
use Rattle.segment_history.specs.declared.fault.RestoreFault.{RestoreFault}
use Rattle.segment_history.specs.declared.fault.RestoreFault.TheVariants.{Memory, NotHeld, LeftOut}
use Rattle.segment_history.specs.Loops.Gathering.{ops_of, HasSegments}
use Rattle.segment_history.specs.Loops.Restoring.{text_kept, has_text, first_text, first_lost, turned_ids, restored_over, known_parts, restored_by, IsLost}
use Rattle.segment_history.specs.Loops.Showing.{left_parts}
use Rattle.segment_history.proofs.Appending.{appended}
use Rattle.segment_history.proofs.Listing.{ops_are}
use Rattle.segment_history.proofs.ShownLists.{left_shown, left_known, map_reversed}

-- ---- the first of what is shown in falling order is the last

abbrev head : List ShownParts → Option ShownParts
head [] = None
head (s ∷ rest) = Some s

head_append : (a b : List ShownParts) → head (a ++ b) ≡ option_or (head a) (head b)
head_append [] b = refl
head_append (s ∷ a) b = refl

abbrev final : Operation → List Operation → Operation
final o [] = o
final o (p ∷ rest) = final p rest

last_final : (o : Operation) (ops : List Operation) → last (o ∷ ops) ≡ Some (final o ops)
last_final o [] = refl
last_final o (p ∷ rest) = last_final p rest

head_final : (o : Operation) (ops : List Operation) → head (reverse (map shown_part (o ∷ ops))) ≡ Some (shown_part (final o ops))
head_final o [] = refl
head_final o (p ∷ rest) =
    ap head (reverse-append (shown_part o ∷ []) (map shown_part (p ∷ rest)))
    ∙ head_append (reverse (map shown_part (p ∷ rest))) (shown_part o ∷ [])
    ∙ ap (λ s. option_or s (Some (shown_part o))) (head_final p rest)

head_last : (ops : List Operation) → head (reverse (map shown_part ops)) ≡ option_map shown_part (last ops)
head_last [] = refl
head_last (o ∷ ops) = head_final o ops ∙ ap (option_map shown_part) (sym (last_final o ops))

abbrev text_at : Option ShownParts → List ℕ
text_at None = []
text_at (Some s) = text_kept s.kept

abbrev lost_at : Option ShownParts → Option Id
lost_at None = None
lost_at (Some s) = cond (has_text s.kept) None (Some s.id)

text_head : (parts : List ShownParts) → first_text parts ≡ text_at (head parts)
text_head [] = refl
text_head (s ∷ parts) = refl

lost_head : (parts : List ShownParts) → first_lost parts ≡ lost_at (head parts)
lost_head [] = refl
lost_head (s ∷ parts) = refl

text_last : (o : Option Operation) → text_at (option_map shown_part o) ≡ text_if_any o
text_last None = refl
text_last (Some o) = by o.text
  where
    by : (t : Option (List ℕ)) → text_kept (with_text t) ≡ or_empty t
    by None = refl
    by (Some t) = refl

lost_last : (o : Option Operation) → lost_at (option_map shown_part o) ≡ left_out o
lost_last None = refl
lost_last (Some o) = by o.text
  where
    by : (t : Option (List ℕ)) → cond (has_text (with_text t)) None (Some o.id) ≡ cond (is_some t) None (Some o.id)
    by None = refl
    by (Some t) = refl

-- the text that a segment has, by what it shows
pub text_is : (held : List Operation) (g : Segment) → first_text (shown_parts held g) ≡ text_of held g
text_is held g =
    text_head (shown_parts held g) ∙ ap text_at (head_last (shown held g)) ∙ text_last (last (shown held g))

-- whether the text of the greatest was left out
pub lost_is : (held : List Operation) (g : Segment) → first_lost (shown_parts held g) ≡ left_out (last (shown held g))
lost_is held g =
    lost_head (shown_parts held g) ∙ ap lost_at (head_last (shown held g)) ∙ lost_last (last (shown held g))

ids_parts : (ops : List Operation) → map (λ s. s.id) (map shown_part ops) ≡ ids_of ops
ids_parts [] = refl
ids_parts (o ∷ ops) = ap (λ (ids : List Id). o.id ∷ ids) (ids_parts ops)

pub ids_are : (held : List Operation) (g : Segment) → turned_ids (shown_parts held g) ≡ shown_ids held g
ids_are held g =
    ap reverse (map_reversed (λ (s : ShownParts). s.id) (map shown_part (shown held g)) ∙ ap reverse (ids_parts (shown held g)))
    ∙ reverse-reverse (ids_of (shown held g))

-- the edit over what is left of a segment's operations is that of its text
pub restored_held : (held : List Operation) (g : Segment) (text : List ℕ)
    → restored_over (left_parts (of_segment held g) None) g text ≡ restored_text held g text
restored_held held g text =
    (λ i. restored_over (left_shown held g i) g text)
    ∙ (λ i. cond (same_bytes (text_is held g i) text) [] (record { segment = g; text = text; ids = ids_are held g i } ∷ []))

-- ---- one segment after another

pub restored_is : (held : List Operation) (s : List NameRanges) (g : Segment)
    → restored_by (of_segment held g) s g ≡ restored_at held (covers s) g
restored_is held s g =
    (λ i. restored_over (left_shown held g i) g (first_text (left_known held s g i)))
    ∙ (λ i. cond (same_bytes (text_is held g i) (text_is (of_ids (covers s) held) g i)) []
    (record { segment = g; text = text_is (of_ids (covers s) held) g i; ids = ids_are held g i } ∷ []))

pub lost_known : (held : List Operation) (s : List NameRanges) (g : Segment)
    → first_lost (known_parts (of_segment held g) s) ≡ left_out (known_greatest held (covers s) g)
lost_known held s g = ap first_lost (left_known held s g) ∙ lost_is (of_ids (covers s) held) g

or_none : (x : Option Id) → option_or x None ≡ x
or_none None = refl
or_none (Some x) = refl

first_append : (held : List Operation) (knows : Id → Bool) (gs hs : List Segment)
    → first_left_out held knows (gs ++ hs) ≡ option_or (first_left_out held knows gs) (first_left_out held knows hs)
first_append held knows [] hs = refl
first_append held knows (g ∷ gs) hs =
    ap (option_or (left_out (known_greatest held knows g))) (first_append held knows gs hs)
    ∙ by (left_out (known_greatest held knows g))
  where
    by : (x : Option Id) → option_or x (option_or (first_left_out held knows gs) (first_left_out held knows hs))
        ≡ option_or (option_or x (first_left_out held knows gs)) (first_left_out held knows hs)
    by None = refl
    by (Some x) = refl

module _ (held : List Operation) (knows : Id → Bool) (segments : List Segment) (i : ℕ) (g : Segment) (l : i < length segments)
    (is : g ≡ get_or segments i g) (before : first_left_out held knows (take i segments) ≡ None) where
  -- none was left out so far, and not the next one
  pub there_more : left_out (known_greatest held knows g) ≡ None → first_left_out held knows (take (i + 1) segments) ≡ None
  there_more there =
      ap (first_left_out held knows) (take_more segments i g l ∙ ap (λ (h : Segment). take i segments ++ h ∷ []) (sym is))
      ∙ first_append held knows (take i segments) (g ∷ [])
      ∙ (λ j. option_or (before j) (option_or (there j) None))

  -- the next one is the first
  pub lost_first : (id : Id) → left_out (known_greatest held knows g) ≡ Some id → first_left_out held knows segments ≡ Some id
  lost_first id lost =
      ap (first_left_out held knows)
      (sym (take-append-drop (i + 1) segments)
      ∙ ap (λ (gs : List Segment). gs ++ drop (i + 1) segments)
      (take_more segments i g l ∙ ap (λ (h : Segment). take i segments ++ h ∷ []) (sym is))
      ∙ append_assoc (take i segments) (g ∷ []) (drop (i + 1) segments))
      ∙ first_append held knows (take i segments) (g ∷ drop (i + 1) segments)
      ∙ (λ j. option_or (before j) (option_or (lost j) (first_left_out held knows (drop (i + 1) segments))))

module _ {A : Type 0} (held : List Operation) (s : List NameRanges) (segments : List Segment) (m : BTreeMap Segment (Vec Operation A))
    (has : HasSegments held segments m) (i : ℕ) (g : Segment) (l : i < length segments) (is : g ≡ get_or segments i g) where
  parts_known : first_lost (known_parts (ops_of m g) s) ≡ left_out (known_greatest held (covers s) g)
  parts_known = ap (λ (ops : List Operation). first_lost (known_parts ops s)) (ops_are held segments m has i g l is) ∙ lost_known held s g

  pub restored_more : (old new : List RestoredParts) → new ≡ old ++ restored_by (ops_of m g) s g
      → old ≡ flat_map (restored_at held (covers s)) (take i segments)
      → new ≡ flat_map (restored_at held (covers s)) (take (i + 1) segments)
  restored_more old new pushed so =
      appended (restored_at held (covers s)) segments i g [] old new l is
      (pushed ∙ ap (λ (xs : List RestoredParts). old ++ xs)
      (ap (λ (ops : List Operation). restored_by ops s g) (ops_are held segments m has i g l is) ∙ restored_is held s g)) so

  module _ (before : first_left_out held (covers s) (take i segments) ≡ None) where
    pub there_next : first_lost (known_parts (ops_of m g) s) ≡ None → first_left_out held (covers s) (take (i + 1) segments) ≡ None
    there_next there = there_more held (covers s) segments i g l is before (sym parts_known ∙ there)

    pub lost_next : (fault : RestoreFault) → IsLost (first_lost (known_parts (ops_of m g) s)) fault
        → IsLost (first_left_out held (covers s) segments) fault
    lost_next Memory lost = tt
    lost_next (NotHeld id) lost = lost
    lost_next (LeftOut id) lost = lost_first held (covers s) segments i g l is before id (sym parts_known ∙ lost)
