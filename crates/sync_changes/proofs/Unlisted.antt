-- Laws of what came in.
use Rattle.std.proofs.Common.{◌≡◌, ℕ, Bool, true, false, cond, not, ◌&&◌, ◌||◌, List, [], ◌∷◌, map, filter, Option, Some, None, is_some, refl, sym, ap, ◌∙◌}
use Rattle.std.specs.Cmp.Lexicographic.{pointwise}
use Rattle.std.specs.List.{list_any, flat_map, AllByRecursion}
use Rattle.std.proofs.lemmas.Bool.{and_parts, or_parts}
use Rattle.std.proofs.lemmas.List.{map-append}
use Rattle.std.proofs.lemmas.List.Folds.{list_any-append}
use Rattle.usfm_ref.specs.Rising.{rising}
use Rattle.usfm_ref.specs.Segments.{segment_cmp, same_segment}
use Rattle.usfm_ref.specs.declared.segment.Segment.{Segment}
use Rattle.usfm_ref.proofs.Orders.{same_segment-is, same_bytes-is}
use Rattle.op_core.specs.Ids.{Id}
use Rattle.op_core.specs.Ops.{Operation, same_text}
use Rattle.op_core.specs.Sets.{get}
use Rattle.op_core.specs.Thinned.{of_ids, is_lacked}
use Rattle.op_core.proofs.FilteredLists.{filter_both}
use Rattle.op_core.proofs.Sets.Union.{held_itself}
use Rattle.bundle_codec.specs.Summaries.{NameRanges, covers}
use Rattle.segment_history.specs.Histories.{of_segment}
use Rattle.segment_history.specs.Loops.Gathering.{is_one_of}
use Rattle.segment_history.proofs.Changing as changing
use Rattle.segment_history.proofs.ShownLists.{filters_turned}
use Rattle.sync_changes.specs.Changes.{by_files, brought, came_in, segments_of, shown_texts, same_texts, shows_same, makers, NamesParts, came_at, came}
use Rattle.sync_changes.specs.Laws.{UnlistedShowsSame, NothingNewNothingCame}
use Rattle.sync_changes.specs.declared.files.FileEdits.{FileEdits}

-- texts that the tests find the same are the same
text_is : (a b : Option (List ℕ)) → same_text a b ≡ true → a ≡ b
text_is None None h = refl
text_is None (Some t) h = cc
text_is (Some s) None h = cc
text_is (Some s) (Some t) h = ap Some (same_bytes-is s t h)

texts_are : (a b : List (Option (List ℕ))) → same_texts a b ≡ true → a ≡ b
texts_are [] [] h = refl
texts_are [] (y ∷ b) h = cc
texts_are (x ∷ a) [] h = cc
texts_are (x ∷ a) (y ∷ b) h =
    let p = and_parts (same_text x y) (pointwise same_text a b) h in λ i. text_is x y p.0 i ∷ texts_are a b p.1 i

module _ (held : List Operation) (knows : Id → Bool) (files : FileEdits) (g : Segment) where
  -- whether the segment is among those of a list that are listed
  abbrev is_listed : List NamesParts → Bool
  is_listed said = is_one_of (map (λ c. c.segment) said) g

  -- a segment that is looked at, and not listed, shows the same
  looked_at : (gs : List Segment) → is_one_of gs g ≡ true → is_listed (flat_map (came_at held knows files) gs) ≡ false
      → shows_same held knows files g ≡ true
  looked_at [] one none = cc
  looked_at (h ∷ gs) one none =
      by (looked_at gs) (same_segment g h) refl (shows_same held knows files h) refl one
      (sym (ap (list_any (same_segment g))
      (map-append (λ (c : NamesParts). c.segment) (came_at held knows files h) (flat_map (came_at held knows files) gs))
      ∙ list_any-append (same_segment g) (map (λ c. c.segment) (came_at held knows files h))
      (map (λ c. c.segment) (flat_map (came_at held knows files) gs))) ∙ none)
    where
      by : (is_one_of gs g ≡ true → is_listed (flat_map (came_at held knows files) gs) ≡ false → shows_same held knows files g ≡ true)
          → (b : Bool) → same_segment g h ≡ b → (s : Bool) → shows_same held knows files h ≡ s
          → (b || is_one_of gs g) ≡ true
          → (is_listed (came_at held knows files h) || is_listed (flat_map (came_at held knows files) gs)) ≡ false
          → shows_same held knows files g ≡ true
      by rest true same true shows there out = ap (shows_same held knows files) (same_segment-is g h same) ∙ shows
      by rest true same false shows there out =
          absurd (let p = or_parts _ (is_listed (flat_map (came_at held knows files) gs)) out in
          let e = sym p.0 ∙ (λ i. is_listed (cond (shows i) [] (record {
            segment = h;
            names = makers (of_segment (of_ids (came_in knows files) held) h);
          } ∷ []))) ∙ ap (λ b. b || false) same in cc)
      by rest false same s shows there out =
          rest there (or_parts (is_listed (came_at held knows files h)) (is_listed (flat_map (came_at held knows files) gs)) out).1

  module _ (separate : (id : Id) → knows id ≡ true → by_files files id ≡ false) where
    -- what is known is known but for the files
    known_brought : of_ids knows (of_ids (brought files) held) ≡ of_ids knows held
    known_brought =
        filter_both (λ (o : Operation). knows o.id) (λ (o : Operation). brought files o.id) (λ (o : Operation). knows o.id)
        (λ o. both o (knows o.id) refl) held
      where
        both : (o : Operation) → (b : Bool) → knows o.id ≡ b → (brought files o.id && b) ≡ b
        both o true k = ap (λ b. not b && true) (separate o.id k)
        both o false k = by (brought files o.id)
          where
            by : (b : Bool) → (b && false) ≡ false
            by true = refl
            by false = refl

    new_are : filter (is_lacked knows) (of_ids (brought files) held) ≡ of_ids (came_in knows files) held
    new_are =
        filters_turned (is_lacked knows) (λ (o : Operation). brought files o.id) held
        ∙ filter_both (λ (o : Operation). brought files o.id) (is_lacked knows) (λ (o : Operation). came_in knows files o.id)
        (λ o. refl) held

    shows : (b : Bool) → is_one_of (segments_of (came_in knows files) held) g ≡ b
        → is_listed (came held knows files) ≡ false
        → shown_texts (of_ids knows held) g ≡ shown_texts (of_ids (brought files) held) g
    shows true one none =
        texts_are (shown_texts (of_ids knows held) g) (shown_texts (of_ids (brought files) held) g)
        (looked_at (segments_of (came_in knows files) held) one none)
    shows false one none =
        ap (λ (ops : List Operation). shown_texts ops g) (sym known_brought)
        ∙ ap (map (λ (o : Operation). o.text))
        (changing.unlisted_shows_same (of_ids (brought files) held) knows g
        (ap (λ (ops : List Operation). is_one_of (rising segment_cmp (map (λ o. o.segment) ops)) g) new_are ∙ one))

pub unlisted_shows_same : UnlistedShowsSame
unlisted_shows_same held knows files g separate none = shows held knows files g separate _ refl none

nothing_new : (s : List NameRanges) (files : FileEdits) (ops : List Operation)
    → AllByRecursion (λ o. covers s o.id ≡ true) ops → of_ids (came_in (covers s) files) ops ≡ []
nothing_new s files [] h = refl
nothing_new s files (o ∷ ops) h =
    ap (λ b. cond (not b && brought files o.id) (o ∷ of_ids (came_in (covers s) files) ops) (of_ids (came_in (covers s) files) ops)) h.0
    ∙ nothing_new s files ops h.1

pub nothing_new_nothing_came : NothingNewNothingCame
nothing_new_nothing_came held s files set own =
    ap (λ (ops : List Operation). flat_map (came_at held (covers s) files) (rising segment_cmp (map (λ o. o.segment) ops)))
    (nothing_new s files held (each held (held_itself held set.rising)))
  where
    each : (ops : List Operation) → AllByRecursion (λ o. get held o.id ≡ Some o) ops → AllByRecursion (λ o. covers s o.id ≡ true) ops
    each [] h = tt
    each (o ∷ ops) h = (own.exactly o.id ∙ ap is_some h.0, each ops h.1)
