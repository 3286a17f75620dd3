-- The segments of the index are those of the operations.
use Rattle.std.proofs.Common.{◌≡◌, Bool, true, false, not, ◌&&◌, ◌||◌, List, [], ◌∷◌, Option, Some, None, refl, sym, ap, ◌∙◌}
use Rattle.std.specs.List.{list_any}
use Rattle.std.specs.Cmp.{both_ways}
use Rattle.std.proofs.lemmas.Bool.{and_parts, and_from, false≢true}
use Rattle.std.proofs.Math.Bool.{or-true}
use Rattle.usfm_ref.specs.declared.segment.Segment.{Segment}
use Rattle.usfm_ref.proofs.Orders.{same_segment-is}
use Rattle.op_core.specs.Ids.{Id, is_none_left}
use Rattle.op_core.specs.Ops.{Operation, in_segment}
use Rattle.op_core.specs.Sets.{IsOpSet}
use Rattle.op_core.specs.Shown.{shown}
use Rattle.op_core.specs.Lists.{ids_of}
use Rattle.op_core.specs.Loops.Index.{register_of, shown_in, is_kept, IsIndex}
use Rattle.op_core.specs.declared.index.register.Register.{Register}
use Rattle.op_core.specs.declared.index.chapter.Chapter.{Chapter}
use Rattle.op_core.proofs.Exports.Shows.{shows_one}
use Rattle.op_core.proofs.Indexed.Enrolled.{here}
use Rattle.op_core.proofs.Indexed.Verses.{shown_none}
use Rattle.op_core.proofs.Indexed.Walks.{any_in, from_any, to_any}

-- a segment with an operation that passes
of_segment : (v : Segment → Bool) (g : Segment) (ops : List Operation) → list_any (in_segment g) ops ≡ true → v g ≡ true
    → list_any (λ o. v o.segment) ops ≡ true
of_segment v g [] h p = absurd (false≢true h)
of_segment v g (o ∷ ops) h p = by (of_segment v g ops) (in_segment g o) refl h
  where
    by : (list_any (in_segment g) ops ≡ true → v g ≡ true → list_any (λ o. v o.segment) ops ≡ true) → (b : Bool) → in_segment g o ≡ b
        → (b || list_any (in_segment g) ops) ≡ true → (v o.segment || list_any (λ o. v o.segment) ops) ≡ true
    by rest true e h = ap (λ b. b || list_any (λ o. v o.segment) ops) (ap v (same_segment-is o.segment g e) ∙ p)
    by rest false e h = ap (λ b. v o.segment || b) (rest h p) ∙ or-true (v o.segment)

module _ (ops : List Operation) (chapters : List Chapter) (s : IsOpSet ops) (h : IsIndex ops chapters) (v : Segment → Bool) where
  abbrev kept_and : Segment → Register → Bool
  kept_and g r = v g && is_kept r

  there : any_in (λ g r. v g && is_kept r) chapters ≡ true → list_any (λ o. v o.segment) ops ≡ true
  there a = from_any chapters h.orderly (λ g r. v g && is_kept r)
      (λ g r e p. by g r e (and_parts (v g) (is_kept r) p).0 (and_parts (v g) (is_kept r) p).1 (list_any (in_segment g) ops) refl) a
    where
      by : (g : Segment) (r : Register) → register_of g chapters ≡ Some r → v g ≡ true → is_kept r ≡ true → (b : Bool)
          → list_any (in_segment g) ops ≡ b → list_any (λ o. v o.segment) ops ≡ true
      by g r e p k true f = of_segment v g ops f p
      by g r e p k false f =
          let none : r.shown.items ≡ [] = sym (ap shown_in e) ∙ h.keeps.shown g ∙ ap ids_of (shown_none ops ops g f) in
          absurd (false≢true (ap (λ (ids : List Id). not (is_none_left ids)) (sym none) ∙ k))

  found : (g : Segment) → list_any (in_segment g) ops ≡ true → v g ≡ true → any_in (λ g r. v g && is_kept r) chapters ≡ true
  found g f p = by (register_of g chapters) refl (shown ops g) refl
    where
      by : (r : Option Register) → register_of g chapters ≡ r → (x : List Operation) → shown ops g ≡ x
          → any_in (λ g r. v g && is_kept r) chapters ≡ true
      by r e [] d = absurd (shows_one g ops s f d)
      by None e (o ∷ x) d = cc (sym (h.keeps.shown g ∙ ap ids_of d) ∙ ap shown_in e)
      by (Some r) e (o ∷ x) d = to_any chapters h.orderly (λ g r. v g && is_kept r) g r e
          (and_from _ _ p (ap (λ (ids : List Id). not (is_none_left ids)) (sym (ap shown_in e) ∙ h.keeps.shown g ∙ ap ids_of d)))

  back : (rest : List Operation) → ((g : Segment) → list_any (in_segment g) rest ≡ true → list_any (in_segment g) ops ≡ true)
      → list_any (λ o. v o.segment) rest ≡ true → any_in (λ g r. v g && is_kept r) chapters ≡ true
  back [] all e = absurd (false≢true e)
  back (o ∷ rest) all e = by (back rest (λ g f. all g (ap (λ b. in_segment g o || b) f ∙ or-true (in_segment g o)))) (v o.segment) refl e
    where
      by : (list_any (λ o. v o.segment) rest ≡ true → any_in (λ g r. v g && is_kept r) chapters ≡ true) → (b : Bool) → v o.segment ≡ b
          → (b || list_any (λ o. v o.segment) rest) ≡ true → any_in (λ g r. v g && is_kept r) chapters ≡ true
      by later true f e = found o.segment (all o.segment (ap (λ b. b || list_any (in_segment o.segment) rest) (here o))) f
      by later false f e = later e

  -- a test of segments passes one of the index just where it passes one of the operations
  pub same_segments : any_in (λ g r. v g && is_kept r) chapters ≡ list_any (λ o. v o.segment) ops
  same_segments = both_ways _ _ there (back ops (λ g f. f))
