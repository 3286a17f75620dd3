-- What is said of a segment, by its operations.
use Rattle.std.proofs.Common.{◌≡◌, ℕ, Bool, true, false, cond, not, ◌&&◌, ◌||◌, List, [], ◌∷◌, map, refl, sym, ap, ◌∙◌}
use Rattle.std.specs.List.{list_any}
use Rattle.usfm_ref.specs.declared.segment.Segment.{Segment}
use Rattle.op_core.specs.Ids.{Id}
use Rattle.op_core.specs.Ops.{Operation, in_segment, names}
use Rattle.op_core.specs.Shown.{shown}
use Rattle.op_core.specs.Thinned.{of_ids}
use Rattle.op_core.proofs.FilteredLists.{filter_both, any_filter}
use Rattle.segment_history.specs.Histories.{of_segment}
use Rattle.segment_history.proofs.ShownLists.{shown_unnamed, filters_turned}
use Rattle.sync_changes.specs.Changes.{shown_texts, same_texts, has_text, brought, came_in, makers, came_at, removed_at}
use Rattle.sync_changes.specs.declared.files.FileEdits.{FileEdits}
use Rattle.sync_changes.specs.Loops.Parts.{is_left, left, left_texts, unnamed, shows_same_by, is_kept_by, came_by, removed_by}

-- those that are left are those of the passing ones that none of these names
left_unnamed : (ops : List Operation) (p : Id → Bool) → left ops p ≡ unnamed (of_ids p ops)
left_unnamed ops p =
    sym (filter_both (λ (o : Operation). not (list_any (λ r. names r o.id) (of_ids p ops))) (λ (o : Operation). p o.id) (is_left ops p)
    (λ o. ap (λ b. p o.id && not b) (any_filter (λ (r : Operation). names r o.id) (λ (r : Operation). p r.id) ops)) ops)

-- of the operations of a segment, those that are left are what the passing ones show
left_shown : (held : List Operation) (p : Id → Bool) (g : Segment) → left (of_segment held g) p ≡ shown (of_ids p held) g
left_shown held p g =
    left_unnamed (of_segment held g) p
    ∙ ap unnamed (filters_turned (λ (o : Operation). p o.id) (in_segment g) held)
    ∙ sym (shown_unnamed (of_ids p held) g)

pub texts_shown : (held : List Operation) (p : Id → Bool) (g : Segment)
    → left_texts (of_segment held g) p ≡ shown_texts (of_ids p held) g
texts_shown held p g = ap (map (λ (o : Operation). o.text)) (left_shown held p g)

all_of : (held : List Operation) → of_ids (λ id. true) held ≡ held
all_of [] = refl
all_of (o ∷ ops) = ap (λ (os : List Operation). o ∷ os) (all_of ops)

pub came_is : (held : List Operation) (knows : Id → Bool) (files : FileEdits) (g : Segment)
    → came_by (of_segment held g) knows files g ≡ came_at held knows files g
came_is held knows files g = λ i.
    cond (same_texts (texts_shown held knows g i) (texts_shown held (brought files) g i)) []
    (record {
      segment = g;
      names = makers (filters_turned (λ (o : Operation). came_in knows files o.id) (in_segment g) held i);
    } ∷ [])

pub removed_is : (held : List Operation) (files : FileEdits) (g : Segment)
    → removed_by (of_segment held g) files g ≡ removed_at held files g
removed_is held files g =
    (λ i. cond (has_text ((texts_shown held (λ id. true) g ∙ ap (λ (os : List Operation). shown_texts os g) (all_of held)) i)
    || not (has_text (texts_shown held (brought files) g i))) [] (g ∷ []))
    ∙ turned (has_text (shown_texts (of_ids (brought files) held) g)) (has_text (shown_texts held g))
  where
    turned : (was is_now : Bool) → cond (is_now || not was) [] (g ∷ []) ≡ cond (was && not is_now) (g ∷ []) []
    turned true true = refl
    turned true false = refl
    turned false true = refl
    turned false false = refl

-- ---- what is added

pub came_else : (ops : List Operation) (knows : Id → Bool) (files : FileEdits) (g : Segment) (names : List (List ℕ))
    → shows_same_by ops knows files ≡ false → names ≡ makers (of_ids (came_in knows files) ops)
    → record { segment = g; names = names } ∷ [] ≡ came_by ops knows files g
came_else ops knows files g names h e =
    (λ i. record { segment = g; names = e i } ∷ [])
    ∙ sym (ap (λ b. cond b [] (record { segment = g; names = makers (of_ids (came_in knows files) ops) } ∷ [])) h)

pub came_same : (ops : List Operation) (knows : Id → Bool) (files : FileEdits) (g : Segment)
    → shows_same_by ops knows files ≡ true → [] ≡ came_by ops knows files g
came_same ops knows files g h =
    sym (ap (λ b. cond b [] (record { segment = g; names = makers (of_ids (came_in knows files) ops) } ∷ [])) h)

pub removed_else : (ops : List Operation) (files : FileEdits) (g : Segment) (b : Bool) → is_kept_by ops files ≡ b
    → cond b [] (g ∷ []) ≡ removed_by ops files g
removed_else ops files g b h = sym (ap (λ c. cond c [] (g ∷ [])) h)
