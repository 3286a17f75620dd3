-- What a union of BASE and two sides is made of: the two replicas, and what they hold.
use Rattle.std.proofs.Common.{◌≡◌, ℕ, true, List, [], ◌∷◌, ◌++◌, codes}
use Rattle.std.proofs.Common.{Ok, arith, refl, sym, ap, subst, ◌∙◌}
use Rattle.verse_cut.specs.Pieces.{PieceParts, pieces_of}
use Rattle.op_core.specs.Names.{is_name}
use Rattle.op_core.specs.Thinned.{is_legal}
use Rattle.op_core.specs.Ops.{Operation}
use Rattle.op_core.specs.Sets.{IsOpSet, rises, join}
use Rattle.op_core.specs.NextIds.{next_number}
use Rattle.op_core.proofs.Indexed.Enrolled.{apart_at}
use Rattle.op_core.proofs.Sets.Fronts.{join_none}
use Rattle.op_core.proofs.Sets.Union.{AgreeAtAll, join_assoc, join_comm, join_itself}
use Rattle.replica_state.specs.States.{State, IsState}
use Rattle.replica_state.specs.Changes.{ChangeParts, edits_from}
use Rattle.replica_state.specs.Imports.{import_ops, due_changes}
use Rattle.replica_state.specs.Since.{since_changes}
use Rattle.replica_state.specs.Since.{imported_since}
use Rattle.replica_state.specs.Steps.{Import, edited_all, step, with_ops}
use Rattle.replica_state.specs.World.{Event, Imports, world}
use Rattle.replica_state.specs.World.Schedules.{AreSets}
use Rattle.replica_state.proofs.Changes.{edits_after, edits_beyond, edits_rise}
use Rattle.replica_state.proofs.SinceRuns.{Accepted, accepted}
use Rattle.replica_state.proofs.World.Sets.{hold_sets}
use Rattle.book_merge.specs.Merges.{imported, ours_imported, theirs_begun, ours_begun}
use Rattle.book_merge.specs.Laws.{IsUnionOf}
use Rattle.book_merge.proofs.Taken.{Made, made, after_is, taken_is}

-- what a union is made of
pub record Parts (base ours theirs book : List ℕ) (s : State) : Type 0 where
  pub b : State
  pub t : State
  pub of_base : imported theirs_begun base ≡ Ok b
  pub of_theirs : imported b theirs ≡ Ok t
  pub of_ours : ours_imported b.held t.held ours ≡ Ok s

pub parts : (base ours theirs book : List ℕ) (s : State) → IsUnionOf base ours theirs book s → Parts base ours theirs book s
parts base ours theirs book s u =
    let first = after_is (imported theirs_begun base) _ s u.is in
    let second = after_is (imported first.0 theirs) _ s first.2 in
    record { b = first.0; t = second.0; of_base = first.1; of_theirs = second.1; of_ours = second.2 }

module _ (base ours theirs book : List ℕ) (s : State) (u : IsUnionOf base ours theirs book s) where
  abbrev pub p : Parts base ours theirs book s
  p = parts base ours theirs book s u

  abbrev pub b : State
  b = p.b

  abbrev pub t : State
  t = p.t

  abbrev pub tp : List PieceParts
  tp = pieces_of theirs

  abbrev pub op : List PieceParts
  op = pieces_of ours

  -- ---- the two replicas hold sets

  abbrev name : List ℕ
  name = codes "theirs"

  abbrev begun_with : List Event
  begun_with = Imports name base ∷ []

  abbrev both : List Event
  both = Imports name theirs ∷ begun_with

  pub none_yet : IsState theirs_begun
  none_yet = record { name = refl; set = record { rising = refl; each = tt }; legal = refl }

  pub b_made : Made theirs_begun base book b
  b_made = made theirs_begun base book b refl u.base_book p.of_base

  b_is : (world begun_with).held name ≡ b.held
  b_is =
      let e = edited_all theirs_begun theirs_begun (import_ops theirs_begun base) in
      ap (λ (x : State). x.held) (taken_is e.after e.answer b p.of_base).2

  b_sets : AreSets (world begun_with)
  b_sets = hold_sets begun_with ((refl, u.base_text), tt)

  pub b_set : IsOpSet b.held
  b_set = subst IsOpSet b_is (b_sets.held name)

  pub b_state : IsState b
  b_state = record {
    name = ap is_name b_made.name;
    set = b_set;
    legal = subst (λ (ops : List Operation). is_legal ops ≡ true) b_is (b_sets.held_legal name);
  }

  b_there : record { name = name; held = (world begun_with).held name } ≡ b
  b_there = λ i. record { name = sym b_made.name i; held = b_is i }

  pub t_made : Made b theirs book t
  t_made = made b theirs book t b_set.rising u.theirs_book p.of_theirs

  t_is : (world both).held name ≡ t.held
  t_is =
      let e = edited_all b b (import_ops b theirs) in
      ap (λ (x : State). (step x (Import theirs)).after.held) b_there
      ∙ ap (λ (x : State). x.held) (taken_is e.after e.answer t p.of_theirs).2

  pub t_set : IsOpSet t.held
  t_set = subst IsOpSet t_is ((hold_sets both ((refl, u.theirs_text), ((refl, u.base_text), tt))).held name)

  -- ---- the replica of OURS, once it received what the other one holds, and BASE

  abbrev pub from : State
  from = ours_begun t.held

  abbrev pub v : State
  v = with_ops from b.held

  pub from_rise : rises from.held ≡ true
  from_rise = ap rises (join_none t.held t_set.rising) ∙ t_set.rising

  answered : (n : ℕ) × ((imported_since from b.held ours).answer ≡ Ok n) × ((imported_since from b.held ours).after ≡ s)
  answered = taken_is (imported_since from b.held ours).after (imported_since from b.held ours).answer s p.of_ours

  pub took : Accepted from b.held ours book
  took = accepted from b.held ours book answered.0 u.ours_book answered.1

  abbrev new_of_theirs : List Operation
  new_of_theirs = edits_from (next_number b.held) b book (due_changes b.held book tp)

  -- what THEIRS has in common with BASE agrees with it: nothing
  agrees : AgreeAtAll new_of_theirs b.held
  agrees id x y gx gy =
      let none = apart_at b.held new_of_theirs id x
      (edits_beyond b book b.held (next_number b.held) (due_changes b.held book tp) (omega arith)) gx in
      cc (sym none ∙ gy)

  -- it has all of THEIRS, and of BASE nothing more
  pub v_is : v.held ≡ t.held
  v_is =
      let rise : rises new_of_theirs ≡ true = edits_rise b book (next_number b.held) (due_changes b.held book tp) in
      let whole : t.held ≡ join b.held new_of_theirs =
      t_made.held ∙ sym (edits_after b book b.held (next_number b.held) (due_changes b.held book tp) b_set.rising (omega arith)) in
      ap (λ (ops : List Operation). join ops b.held) (join_none t.held t_set.rising ∙ whole)
      ∙ join_assoc b.held new_of_theirs b.held b_set.rising rise b_set.rising
      ∙ ap (join b.held) (join_comm new_of_theirs b.held rise b_set.rising agrees)
      ∙ sym (join_assoc b.held b.held new_of_theirs b_set.rising b_set.rising rise)
      ∙ ap (λ (ops : List Operation). join ops new_of_theirs) (join_itself b.held b_set.rising)
      ∙ sym whole

  pub v_set : IsOpSet v.held
  v_set = subst IsOpSet (sym v_is) t_set

  abbrev pub changes : List ChangeParts
  changes = since_changes v.held b.held book op

  pub s_is : s.held ≡ v.held ++ edits_from (next_number v.held) v book changes
  s_is =
      ap (λ (x : State). x.held) (sym answered.2 ∙ took.is)
      ∙ edits_after v book v.held (next_number v.held) changes v_set.rising (omega arith)
