-- What the base shows that makes the files as they were read: what the base before it shows, where a file has what that picks; else
-- the file's text.
use Rattle.std.proofs.Common.{◌≡◌, ◌⊎◌, ℕ, Bool, true, false, cond, ◌&&◌, not, List, [], ◌∷◌, filter, inl, inr, Option, None, Some, option_map, is_none, refl, sym, ap, ◌∙◌}
use Rattle.std.specs.List.{AllByRecursion, find}
use Rattle.std.proofs.lemmas.Bool.{and_from, and_parts, false≢true, false_from_ne_true, not-true}
use Rattle.usfm_ref.specs.Books.{same_bytes}
use Rattle.usfm_ref.specs.Keys.{same_key}
use Rattle.usfm_ref.specs.Segments.{same_segment}
use Rattle.usfm_ref.specs.declared.segment.Segment.{Segment}
use Rattle.usfm_ref.proofs.Orders.{same_bytes-is, same_bytes-refl, same_segment-is, same_segment-refl}
use Rattle.op_core.specs.Ids.{Id}
use Rattle.op_core.specs.Ops.{Operation, in_segment, names, own_text}
use Rattle.op_core.specs.Sets.{IsOpSet, clash, get, join, met, rises}
use Rattle.op_core.specs.Shown.{is_replaced, is_shown, last, shown, text_if_any, text_of}
use Rattle.op_core.proofs.Sets.Agreement.{Agree}
use Rattle.op_core.proofs.Sets.Clashes.{get_id}
use Rattle.op_core.proofs.Sets.Filters.{filter_kept, filter_passes, filter_within, rises-filter}
use Rattle.op_core.proofs.Sets.Gets.{AnyHeld, any_from, any_held}
use Rattle.op_core.proofs.Sets.Union.{agree_from_no_clash, get-join, held_itself, rises-join, same_gets}
use Rattle.replica_state.specs.Since.{shows_text}
use Rattle.book_folder.specs.Bases.{found_shown, is_text, kept_shown, shows, stood_text}
use Rattle.book_folder.specs.Taking.{StoodParts}
use Rattle.book_folder.proofs.Twice.ShownBase.{shows_is}

-- what has the same operations is the same
pub same_somes : (a b : Option Operation) → ((o : Operation) → a ≡ Some o → b ≡ Some o) → ((o : Operation) → b ≡ Some o → a ≡ Some o)
    → a ≡ b
same_somes None None f g = refl
same_somes None (Some y) f g = g y refl
same_somes (Some x) b f g = sym (f x refl)

last_all : (x : List ℕ) (a : Operation) (ops : List Operation) → AllByRecursion (λ o. own_text o ≡ x) (a ∷ ops)
    → text_if_any (last (a ∷ ops)) ≡ x
last_all x a [] h = h.0
last_all x a (b ∷ ops) h = last_all x b ops h.1

-- where all have a text, and one is there, the last has it
last_text : (x : List ℕ) (ops : List Operation) → AllByRecursion (λ o. own_text o ≡ x) ops → (q : Id) (o : Operation)
    → get ops q ≡ Some o → text_if_any (last ops) ≡ x
last_text x [] h q o g = cc g
last_text x (a ∷ ops) h q o g = last_all x a ops h

-- the text that a file has depends on the segment
text_by_segment : (stood : List StoodParts) (a b : Operation) → a.segment ≡ b.segment → stood_text stood a ≡ stood_text stood b
text_by_segment stood a b e =
    ap (λ (g : Segment). option_map (λ (s : StoodParts). s.text)
    (find (λ s. same_bytes s.book g.book && same_key s.key g.key) stood)) e

-- an operation of the base is there, where a file has what the base picks
record IsKept (base : List Operation) (stood : List StoodParts) (q : Id) (o : Operation) : Type 0 where
  pub in_base : get base q ≡ Some o
  pub shown : shows base o ≡ true
  pub unstood : stood_text stood o ≡ None

-- one of the project is, where a file has its text, and another one than the base picks
record IsFound (held : List Operation) (stood : List StoodParts) (q : Id) (o : Operation) : Type 0 where
  pub in_held : get held q ≡ Some o
  pub shown : shows held o ≡ true
  pub text : is_text (stood_text stood o) o ≡ true

module _ (base held : List Operation) (bs : IsOpSet base) (hs : IsOpSet held) (none : clash held base ≡ None)
    (stood : List StoodParts) where
  abbrev keeps : Operation → Bool
  keeps o = shows base o && is_none (stood_text stood o)

  abbrev finds : Operation → Bool
  finds o = shows held o && is_text (stood_text stood o) o

  abbrev pub as_read : List Operation
  as_read = join (kept_shown stood base) (found_shown stood held)

  kept_rises : rises (kept_shown stood base) ≡ true
  kept_rises = rises-filter keeps base bs.rising

  found_rises : rises (found_shown stood held) ≡ true
  found_rises = rises-filter finds held hs.rising

  pub read_rises : rises as_read ≡ true
  read_rises = rises-join (kept_shown stood base) (found_shown stood held) kept_rises

  at : (q : Id) → get as_read q ≡ met (get (kept_shown stood base) q) (get (found_shown stood held) q)
  at q = get-join (kept_shown stood base) (found_shown stood held) q kept_rises found_rises

  no_text : (r : Option (List ℕ)) → is_none r ≡ true → r ≡ None
  no_text None e = refl
  no_text (Some t) e = absurd (false≢true e)

  kept_is : (q : Id) (o : Operation) → get (kept_shown stood base) q ≡ Some o → IsKept base stood q o
  kept_is q o g =
      let p = and_parts (shows base o) (is_none (stood_text stood o)) (filter_passes keeps base q o g) in
      record { in_base = filter_within keeps base bs.rising q o g; shown = p.0; unstood = no_text (stood_text stood o) p.1 }

  found_is : (q : Id) (o : Operation) → get (found_shown stood held) q ≡ Some o → IsFound held stood q o
  found_is q o g =
      let p = and_parts (shows held o) (is_text (stood_text stood o) o) (filter_passes finds held q o g) in
      record { in_held = filter_within finds held hs.rising q o g; shown = p.0; text = p.1 }

  -- no id is both
  not_both : (q : Id) (a b : Operation) → IsKept base stood q a → IsFound held stood q b → ⊥
  not_both q a b k f =
      let like : Agree b a = agree_from_no_clash held base none q b a f.in_held k.in_base in
      let same : b.segment ≡ a.segment = ap (λ (o : Operation). o.segment) like.bares in
      absurd (false≢true (sym (ap (λ r. is_text r b) (text_by_segment stood b a same ∙ k.unstood)) ∙ f.text))

  read_is : (q : Id) (o : Operation) → get as_read q ≡ Some o → IsKept base stood q o ⊎ IsFound held stood q o
  read_is q o g = by (get (kept_shown stood base) q) refl (get (found_shown stood held) q) refl (sym (at q) ∙ g)
    where
      by : (r : Option Operation) → get (kept_shown stood base) q ≡ r → (t : Option Operation) → get (found_shown stood held) q ≡ t
          → met r t ≡ Some o → IsKept base stood q o ⊎ IsFound held stood q o
      by None e None f m = cc m
      by None e (Some y) f m = inr (found_is q o (f ∙ m))
      by (Some x) e None f m = inl (kept_is q o (e ∙ m))
      by (Some x) e (Some y) f m = absurd (not_both q x y (kept_is q x e) (found_is q y f))

  kept_there : (q : Id) (o : Operation) → IsKept base stood q o → get as_read q ≡ Some o
  kept_there q o k = at q ∙ by (get (found_shown stood held) q) refl
    where
      in_kept : get (kept_shown stood base) q ≡ Some o
      in_kept = filter_kept keeps base q o k.in_base (and_from _ _ k.shown (ap is_none k.unstood))

      by : (t : Option Operation) → get (found_shown stood held) q ≡ t
          → met (get (kept_shown stood base) q) (get (found_shown stood held) q) ≡ Some o
      by None f = (λ i. met (in_kept i) (f i))
      by (Some y) f = absurd (not_both q o y k (found_is q y f))

  found_there : (q : Id) (o : Operation) → IsFound held stood q o → get as_read q ≡ Some o
  found_there q o k = at q ∙ by (get (kept_shown stood base) q) refl
    where
      in_found : get (found_shown stood held) q ≡ Some o
      in_found = filter_kept finds held q o k.in_held (and_from _ _ k.shown k.text)

      by : (t : Option Operation) → get (kept_shown stood base) q ≡ t
          → met (get (kept_shown stood base) q) (get (found_shown stood held) q) ≡ Some o
      by None f = (λ i. met (f i) (in_found i))
      by (Some y) f = absurd (not_both q y o (kept_is q y f) k)

  module _ (g : Segment) where
    -- an operation of the segment that a set names or does not
    in_it : (ops : List Operation) (o : Operation) → is_shown ops g o ≡ true → (o.segment ≡ g) × (is_replaced ops g o.id ≡ false)
    in_it ops o h =
        let p = and_parts (in_segment g o) (not (is_replaced ops g o.id)) h in
        (same_segment-is o.segment g p.0, not-true (is_replaced ops g o.id) p.1)

    -- what a set shows is not named there
    free : (ops : List Operation) (set : IsOpSet ops) (q : Id) (o : Operation) → get ops q ≡ Some o → o.segment ≡ g
        → shows ops o ≡ not (is_replaced ops g o.id)
    free ops set q o found e =
        shows_is ops set [] o (ap (get ops) (get_id ops q o found) ∙ found) ∙ ap (λ (s : Segment). not (is_replaced ops s o.id)) e

    is_shown_from : (ops : List Operation) (o : Operation) → o.segment ≡ g → is_replaced ops g o.id ≡ false → is_shown ops g o ≡ true
    is_shown_from ops o e f =
        and_from _ _ (ap (λ (s : Segment). same_segment s g) e ∙ same_segment-refl g) (ap not f)

    -- what the base names that is there, another set names
    names_more : (ops : List Operation) → ((q : Id) (p : Operation) → get as_read q ≡ Some p → p.segment ≡ g → get ops q ≡ Some p)
        → (id : Id) → is_replaced as_read g id ≡ true → is_replaced ops g id ≡ true
    names_more ops within id h =
        let a = any_held (λ p. in_segment g p && names p id) as_read read_rises h in
        let p = and_parts (in_segment g a.one) (names a.one id) a.passes in
        any_from (λ p. in_segment g p && names p id) ops a.one.id a.one
        (within a.one.id a.one a.held (same_segment-is a.one.segment g p.0)) a.passes

    unnamed : (ops : List Operation) → ((q : Id) (p : Operation) → get as_read q ≡ Some p → p.segment ≡ g → get ops q ≡ Some p)
        → (id : Id) → is_replaced ops g id ≡ false → is_replaced as_read g id ≡ false
    unnamed ops within id h =
        false_from_ne_true _ (λ t. false≢true (sym h ∙ names_more ops within id t))

    -- ---- a segment where the file has what the base picks

    module _ (unstood : (o : Operation) → o.segment ≡ g → stood_text stood o ≡ None) where
      all_kept : (q : Id) (o : Operation) → get as_read q ≡ Some o → o.segment ≡ g → IsKept base stood q o
      all_kept q o r e = by (read_is q o r)
        where
          by : IsKept base stood q o ⊎ IsFound held stood q o → IsKept base stood q o
          by (inl k) = k
          by (inr f) = absurd (false≢true (sym (ap (λ t. is_text t o) (unstood o e)) ∙ f.text))

      pub shown_as_base : shown as_read g ≡ shown base g
      shown_as_base =
          same_gets (shown as_read g) (shown base g) (rises-filter (is_shown as_read g) as_read read_rises)
          (rises-filter (is_shown base g) base bs.rising) (λ q. same_somes _ _ (there q) (back q))
        where
          there : (q : Id) (o : Operation) → get (shown as_read g) q ≡ Some o → get (shown base g) q ≡ Some o
          there q o r =
              let within = filter_within (is_shown as_read g) as_read read_rises q o r in
              let i = in_it as_read o (filter_passes (is_shown as_read g) as_read q o r) in
              let k = all_kept q o within i.0 in
              filter_kept (is_shown base g) base q o k.in_base
              (is_shown_from base o i.0 (not-true _ (sym (free base bs q o k.in_base i.0) ∙ k.shown)))

          back : (q : Id) (o : Operation) → get (shown base g) q ≡ Some o → get (shown as_read g) q ≡ Some o
          back q o r =
              let within = filter_within (is_shown base g) base bs.rising q o r in
              let i = in_it base o (filter_passes (is_shown base g) base q o r) in
              let k : IsKept base stood q o = record {
                in_base = within;
                shown = free base bs q o within i.0 ∙ ap not i.1;
                unstood = unstood o i.0;
              } in
              filter_kept (is_shown as_read g) as_read q o (kept_there q o k)
              (is_shown_from as_read o i.0 (unnamed base (λ p x s e. (all_kept p x s e).in_base) o.id i.1))

    -- ---- a segment where it has another text

    module _ (x : List ℕ) (stands : (o : Operation) → o.segment ≡ g → stood_text stood o ≡ Some x) where
      all_found : (q : Id) (o : Operation) → get as_read q ≡ Some o → o.segment ≡ g → IsFound held stood q o
      all_found q o r e = by (read_is q o r)
        where
          by : IsKept base stood q o ⊎ IsFound held stood q o → IsFound held stood q o
          by (inl k) = absurd (let no : Some x ≡ None = sym (stands o e) ∙ k.unstood in cc no)
          by (inr f) = f

      text_is : (q : Id) (o : Operation) → IsFound held stood q o → o.segment ≡ g → own_text o ≡ x
      text_is q o f e =
          sym (same_bytes-is x (own_text o) (sym (ap (λ t. is_text t o) (stands o e)) ∙ f.text))

      pub text_as_found : shows_text held g x ≡ true → text_of as_read g ≡ x
      text_as_found h = last_text x (shown as_read g) (texts as_read (held_itself as_read read_rises)) a.one.id a.one one_there
        where
          texts : (ops : List Operation) → AllByRecursion (λ o. get as_read o.id ≡ Some o) ops
              → AllByRecursion (λ o. own_text o ≡ x) (filter (is_shown as_read g) ops)
          texts [] k = tt
          texts (o ∷ ops) k = by (is_shown as_read g o) refl (texts ops k.1)
            where
              by : (b : Bool) → is_shown as_read g o ≡ b → AllByRecursion (λ o. own_text o ≡ x) (filter (is_shown as_read g) ops)
                  → AllByRecursion (λ o. own_text o ≡ x) (cond b (o ∷ filter (is_shown as_read g) ops) (filter (is_shown as_read g) ops))
              by true e rest =
                  let i = in_it as_read o e in
                  (text_is o.id o (all_found o.id o k.0 i.0) i.0, rest)
              by false e rest = rest

          a : AnyHeld (λ o. same_bytes (own_text o) x) (shown held g)
          a = any_held (λ o. same_bytes (own_text o) x) (shown held g) (rises-filter (is_shown held g) held hs.rising) h

          within : get held a.one.id ≡ Some a.one
          within = filter_within (is_shown held g) held hs.rising a.one.id a.one a.held

          i : (a.one.segment ≡ g) × (is_replaced held g a.one.id ≡ false)
          i = in_it held a.one (filter_passes (is_shown held g) held a.one.id a.one a.held)

          same : is_text (stood_text stood a.one) a.one ≡ true
          same =
              ap (λ t. is_text t a.one) (stands a.one i.0)
              ∙ ap (same_bytes x) (same_bytes-is (own_text a.one) x a.passes) ∙ same_bytes-refl x

          one_there : get (shown as_read g) a.one.id ≡ Some a.one
          one_there =
              filter_kept (is_shown as_read g) as_read a.one.id a.one
              (found_there a.one.id a.one
              (record { in_held = within; shown = free held hs a.one.id a.one within i.0 ∙ ap not i.1; text = same }))
              (is_shown_from as_read a.one i.0 (unnamed held (λ p y s e. (all_found p y s e).in_held) a.one.id i.1))
