-- Replicas that thin, and that take in bundles of one family.
use Rattle.std.proofs.Common.{◌≡◌, Bool, true, false, cond, ◌&&◌, ◌||◌, List, [], ◌∷◌, filter}
use Rattle.std.proofs.Common.{map, length, Option, Some, None, Ok, refl, sym, ap, subst, ◌∙◌}
use Rattle.usfm_ref.specs.Keys.{book_head}
use Rattle.usfm_ref.specs.Segments.{segment}
use Rattle.op_core.specs.Ids.{Id, same_id}
use Rattle.op_core.specs.Ops.{Operation, is_full, bare}
use Rattle.op_core.specs.Sets.{get}
use Rattle.op_core.specs.Lists.{ids_of, is_held}
use Rattle.op_core.specs.NextIds.{is_among}
use Rattle.op_core.specs.Thinned.{is_past, is_left_out, thinned_in, thin, IsOf}
use Rattle.op_core.specs.Laws.Joining.{Part}
use Rattle.op_core.specs.ThinLaws.{Alike}
use Rattle.op_core.proofs.ThinnedSets.Bare.{held_same, past_same}
use Rattle.op_core.proofs.ThinnedSets.Alike.{skeleton_answers}
use Rattle.op_core.proofs.Sets.Families.{among_held, family_thins, unions_alike}
use Rattle.op_core.proofs.ThinnedSets.Left.{IsOpSet-thin}
use Rattle.op_core.proofs.Sets.Legal.{bare_thinned, skeleton_thin, thin_again, thin_legal}
use Rattle.bundle_codec.specs.Summaries.{NameRanges, IsSummaryOf}
use Rattle.replica_state.specs.States.{State, IsState}
use Rattle.replica_state.specs.Steps.{Thinned, without_replaced_texts}
use Rattle.replica_state.specs.ThinLaws.{SameButThinned, ThinsUnseen}

-- ---- sets of one family with the same ids

-- a summary of one of two sets with the same ids is one of the other
same_summary : (held other : List Operation) (k : List NameRanges) → ids_of held ≡ ids_of other → IsSummaryOf held k → IsSummaryOf other k
same_summary held other k ids h = record {
  form = h.form;
  exactly = λ q. h.exactly q ∙ sym (among_held held q) ∙ ap (λ all. is_among all q) ids ∙ among_held other q;
}

-- the ids that a set holds, by what it has of them
pub held_among : (ops : List Operation) (q : Id) → is_held ops q ≡ is_among (ids_of ops) q
held_among [] q = refl
held_among (o ∷ ops) q = ap (λ b. same_id q o.id || b) (held_among ops q)

pub same_family : (family : Id → Operation) (s t : State) → IsOf family s.held → IsOf family t.held
    → ((q : Id) → is_held s.held q ≡ is_held t.held q) → SameButThinned s t
same_family family s t hs ht same =
    by (unions_alike family (Part s.held) (Part t.held) hs ht (λ q. sym (held_among s.held q) ∙ same q ∙ held_among t.held q))
  where
    same_answers : (k : Alike (Ok s.held) (Ok t.held))
        → SameButThinned (record { name = s.name; held = k.a }) (record { name = t.name; held = k.b })
    same_answers k = record {
      skeletons = k.skeletons;
      shows = k.shows;
      picks = k.picks;
      exports = k.exports;
      answers = skeleton_answers k.a k.b k.skeletons;
      summaries = λ known. same_summary k.a k.b known (skeleton_answers k.a k.b k.skeletons).ids;
    }

    by : Alike (Ok s.held) (Ok t.held) → SameButThinned s t
    by k =
        let one : s.held ≡ k.a = cc k.one_is in
        let other : t.held ≡ k.b = cc k.other_is in
        subst (λ (ops : List Operation). SameButThinned (record { name = s.name; held = ops }) t) (sym one)
        (subst (λ (ops : List Operation). SameButThinned (record { name = s.name; held = k.a }) (record { name = t.name; held = ops }))
        (sym other) (same_answers k))

-- ---- a thinning

-- a family that has the operations of a set
abbrev held_or_any : Id → Option Operation → Operation
held_or_any q None = record { id = q; segment = segment [] book_head; replaced = []; text = None }
held_or_any q (Some o) = o

of_own : (held : List Operation) (s : State) → IsState s → held ≡ s.held → IsOf (λ q. held_or_any q (get held q)) s.held
of_own held s h e = record {
  rising = h.set.rising;
  legal = h.legal;
  each = λ q o g.
      let is : held_or_any q (get held q) ≡ o = ap (held_or_any q) (ap (λ (ops : List Operation). get ops q) e ∙ g) in
      record { bares = ap bare (sym is); same = λ full. sym is };
}

module _ (held : List Operation) where
  abbrev left_again : List Operation → List Operation
  left_again ops = filter (is_left_out (thin held)) (map (thinned_in held) ops)

  not_left : (o : Operation) → is_left_out (thin held) (thinned_in held o) ≡ false
  not_left o =
      ap (λ b. b && is_full (thinned_in held o))
      (past_same (thin held) held (skeleton_thin held) (thinned_in held o) ∙ ap (is_past held) (bare_thinned held o))
      ∙ by (is_past held o)
    where
      by : (b : Bool) → (b && is_full (cond b (bare o) o)) ≡ false
      by true = refl
      by false = refl

  none_left : (ops : List Operation) → left_again ops ≡ []
  none_left [] = refl
  none_left (o ∷ ops) =
      ap (λ b. cond b (thinned_in held o ∷ left_again ops) (left_again ops)) (not_left o) ∙ none_left ops

pub thins_unseen : (s : State) → IsState s → ThinsUnseen s
thins_unseen s h =
    let own = of_own s.held s h refl in
    record {
      state = record { name = h.name; set = IsOpSet-thin s.held h.set; legal = thin_legal s.held h.legal };
      same = same_family (λ q. held_or_any q (get s.held q)) s (without_replaced_texts s) own
          (family_thins (λ q. held_or_any q (get s.held q)) s.held own)
          (λ q. sym (held_same (thin s.held) s.held (skeleton_thin s.held) q));
      again = λ i. record {
        after = record { name = s.name; held = thin_again s.held i };
        reply = Thinned (length (none_left s.held s.held i));
      };
    }
