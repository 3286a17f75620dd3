-- Cut short before a file was put, a sync is done again.
use Rattle.std.proofs.Common.{◌≡◌, ◌⊎◌, inl, inr, ℕ, Bool, true, false, cond, List, [], Contains, None, Some, Ok, option_to_list, refl, sym, ap, subst, ◌∙◌}
use Rattle.std.specs.Option.{is_some}
use Rattle.op_core.specs.OneBook.{ops_of_book}
use Rattle.op_core.specs.Ops.{Operation}
use Rattle.bundle_codec.specs.Spelling.{bundle}
use Rattle.project_file.specs.Projects.{project, project_at}
use Rattle.replica_state.proofs.SinceLaws.{none_there}
use Rattle.book_folder.specs.Begun.{BegunParts, is_one_of, settled, with_next}
use Rattle.book_folder.specs.CutShort.{AllWait, IsUnsettled, MakesAsRead, NextIsReady, NoneIsPut, settled_of}
use Rattle.book_folder.specs.Disks.{bytes_at}
use Rattle.book_folder.specs.DoneAgain.{BaseStands, BasesStand, NextStays, ProjectAndBase, first_of, next_of}
use Rattle.book_folder.specs.Plans.{NewFileParts}
use Rattle.book_folder.proofs.CutShort.LeftBases.{old_base, settled_stands}
use Rattle.book_folder.proofs.CutShort.LeftFiles.{IsKeptOrPut, NameIsKnown}
use Rattle.book_folder.proofs.Schedules.BasesReach.{ok_is}
use Rattle.book_folder.proofs.CutShort.CutRead.{CutRead}
use Rattle.book_folder.proofs.CutShort.LeftOnDisk.{all_is, alone, base_is, base_stands, base_within, began_is, beside, by_left, by_next, each_left, early, first_within, left_each, next_is, next_within, nothing, put, put_base, Same, settled_each}
use Rattle.book_folder.proofs.CutShort.Legible.{legible_read}

module _ (cut : CutRead) where
  abbrev first : List Operation
  first = (first_of cut.b cut.c).held

  abbrev next : List Operation
  next = next_of cut.c

  pub same_cond : (r : Bool) (ops : List Operation) → cond r ops ops ≡ ops
  same_cond true ops = refl
  same_cond false ops = refl

  module _ (h : NoneIsPut cut.d (put cut) cut.made cut.e) where
    same_files : cut.again.files ≡ cut.seen.files
    same_files = cut.x.files h.files

    unput : (keeps : List ℕ → Bool) (name : List ℕ) → NameIsKnown cut.seen.files cut.again.files cut.made keeps name
    unput keeps name = inl (ap (λ fs. bytes_at fs name) same_files)

    waits_kept : AllWait cut.e cut.made → (n : NewFileParts) → Contains cut.made n
        → IsKeptOrPut cut.again.files cut.made (λ book. is_one_of cut.again.unplaced book) n
    waits_kept waits n there = inl (cut.x.read.unplaced n.book ∙ ap is_some (waits n there))

    none_made : cut.made ≡ [] → (keeps : List ℕ → Bool) (n : NewFileParts) → Contains cut.made n
        → IsKeptOrPut cut.again.files cut.made keeps n
    none_made none keeps n there = absurd (none_there n (subst (λ (ns : List NewFileParts). Contains ns n) none there))

    -- the plan's first base stands
    by_first : cut.e.base ≡ Some cut.base → NextIsReady (put cut) cut.made cut.e
        → ((ops : List Operation) → (ops ≡ first) ⊎ (ops ≡ next) → ProjectAndBase cut.again cut.b cut.c cut.y.plan_is.files ops) → Same cut
    by_first is ready project = pick (put_base cut cut.made cut.y.plan_is.first) ready
      where
        pick : (cut.made ≡ []) × (cut.base ≡ bundle next) ⊎ (cut.base ≡ bundle first) → NextIsReady (put cut) cut.made cut.e → Same cut
        pick (inl k) (inl none) =
            let there : cut.e.base ≡ Some (bundle next) = is ∙ ap Some k.1 in
            by_left cut next next (base_stands cut next (next_within cut) there) (project next (inr refl)) (alone cut next none)
            (left_each cut next next first (λ book. false) (inl refl) (λ book. refl)
            (each_left cut (λ book. false) (unput (λ book. false)) (none_made k.0 (λ book. false))))
        pick (inl k) (inr ready) =
            let there : cut.e.base ≡ Some (bundle next) = is ∙ ap Some k.1 in
            by_left cut next (by_next cut next) (base_stands cut next (next_within cut) there) (project next (inr refl))
            (beside cut next (next_within cut) ready.0)
            (left_each cut next (by_next cut next) first (λ book. false) (inl refl)
            (λ book. settled_each cut next (next_within cut) book
            ∙ same_cond (is_one_of cut.again.unplaced book) (ops_of_book next book))
            (each_left cut (λ book. false) (unput (λ book. false)) (none_made k.0 (λ book. false))))
        pick (inr k) (inl none) =
            let there : cut.e.base ≡ Some (bundle first) = is ∙ ap Some k in
            by_left cut first first (base_stands cut first (first_within cut) there) (project first (inl refl)) (alone cut first none)
            (left_each cut first first first (λ book. true) (inl refl) (λ book. refl)
            (each_left cut (λ book. true) (unput (λ book. true)) (λ n there. inl refl)))
        pick (inr k) (inr ready) =
            let there : cut.e.base ≡ Some (bundle first) = is ∙ ap Some k in
            by_left cut first (by_next cut first) (base_stands cut first (first_within cut) there) (project first (inl refl))
            (beside cut first (first_within cut) ready.0)
            (left_each cut first (by_next cut first) first (λ book. is_one_of cut.again.unplaced book) (inl refl)
            (settled_each cut first (first_within cut))
            (each_left cut (λ book. is_one_of cut.again.unplaced book) (unput (λ book. is_one_of cut.again.unplaced book))
            (waits_kept ready.1)))

    -- the base before, or as it was settled
    own_stands : (cut.e.base ≡ cut.d.base) × (cut.d.next ≡ None) ⊎ (cut.e.base ≡ Some (bundle cut.b.base.held))
        → BaseStands cut.again cut.b.base.held
    own_stands (inr is) = base_stands cut cut.b.base.held (base_within cut) is
    own_stands (inl k) =
        let bases : cut.again.bases ≡ cut.seen.bases = cut.x.read.bases ∙ ap option_to_list k.0 ∙ sym cut.y.read.bases in
        let none : cut.seen.next ≡ None = cut.y.read.next ∙ k.1 in
        let same : cut.g.based.base.held ≡ cut.b.base.held =
        ap (λ (t : BegunParts). t.base.held) (ok_is cut.g.based cut.b
        (ap (with_next cut.seen.unplaced cut.g.based) (sym none) ∙ cut.g.next)) in
        elim (old_base cut.seen cut.wishes cut.s cut.b cut.g cut.d cut.y.read cut.y.bytes.bases cut.y.bytes.next) [
          | inl r ↦ inl (r.0, bases ∙ r.1, r.2 ∙ ap (λ (ops : List Operation). Ok ops) same)
          | inr r ↦ inr (bases ∙ r.0, sym same ∙ r.1)
        ]

    settled_is : settled_of cut.d cut.d.next ≡ Ok cut.e.base
        → (cut.e.base ≡ cut.d.base) × (cut.d.next ≡ None) ⊎ (cut.e.base ≡ Some (bundle cut.b.base.held))
    settled_is k = settled_stands cut.seen cut.wishes cut.s cut.b cut.g cut.d cut.y.read cut.y.bytes.bases cut.y.bytes.next cut.e.base k

    -- the bases stand as they did, or settled
    bases_stand : (cut.e.base ≡ cut.d.base) × (cut.d.next ≡ None) ⊎ (cut.e.base ≡ Some (bundle cut.b.base.held))
        → (cut.again.next ≡ None) ⊎ NextStays cut.seen cut.again
        → BasesStand cut.seen cut.again cut.b
    bases_stand (inr is) there =
        inr (
          bundle cut.b.base.held,
          base_is cut (bundle cut.b.base.held) is,
          legible_read cut.b.base.held (base_within cut).legible,
          there,
        )
    bases_stand (inl k) (inr stays) = inl (cut.x.read.bases ∙ ap option_to_list k.0 ∙ sym cut.y.read.bases, inl stays)
    bases_stand (inl k) (inl none) =
        inl (cut.x.read.bases ∙ ap option_to_list k.0 ∙ sym cut.y.read.bases, inr (none, cut.y.read.next ∙ k.1))

    -- with the plan's next one
    by_own : project_at cut.again.project ≡ Ok cut.b.replica → settled_of cut.d cut.d.next ≡ Ok cut.e.base
        → cut.e.next ≡ Some (put cut).next → AllWait cut.e cut.made → Same cut
    by_own project k there waits =
        by_left cut cut.b.base.held (by_next cut cut.b.base.held) (own_stands (settled_is k))
        (inl (project, inr (cut.y.whole, inr (refl, next_is cut there)))) (beside cut cut.b.base.held (base_within cut) there)
        (left_each cut cut.b.base.held (by_next cut cut.b.base.held) cut.b.base.held (λ book. is_one_of cut.again.unplaced book)
        (inr (refl, refl))
        (settled_each cut cut.b.base.held (base_within cut))
        (each_left cut (λ book. is_one_of cut.again.unplaced book) (unput (λ book. is_one_of cut.again.unplaced book)) (waits_kept waits)))

    began_again : cut.e.project ≡ (put cut).began → Same cut
    began_again began = pick h.known
      where
        project : project_at cut.again.project ≡ Ok cut.b.replica
        project = began_is cut began

        first_too : (ops : List Operation) → (ops ≡ first) ⊎ (ops ≡ next) → ProjectAndBase cut.again cut.b cut.c cut.y.plan_is.files ops
        first_too ops (inl same) = inl (project, inl same)
        first_too ops (inr same) = inl (project, inr (cut.y.whole, inl same))

        ready : MakesAsRead cut.d (put cut) cut.e → NextIsReady (put cut) cut.made cut.e → Same cut
        ready (inl k) (inl none) = early cut project (bases_stand (settled_is k) (inl (cut.x.read.next ∙ none))) same_files
        ready (inl k) (inr there) = by_own project k there.0 there.1
        ready (inr is) there = by_first is there first_too

        stays : IsUnsettled cut.d cut.e → Same cut
        stays k =
            let both_stay : NextStays cut.seen cut.again = (cut.x.read.next ∙ k.next ∙ sym cut.y.read.next, cut.x.unplaced k.new) in
            early cut project (elim k.base [
              | inl same ↦ inl (cut.x.read.bases ∙ ap option_to_list same ∙ sym cut.y.read.bases, inl both_stay)
              | inr settled ↦ bases_stand (settled_is settled) (inr both_stay)
            ]) same_files

        pick : IsUnsettled cut.d cut.e ⊎ MakesAsRead cut.d (put cut) cut.e × NextIsReady (put cut) cut.made cut.e → Same cut
        pick (inl k) = stays k
        pick (inr k) = ready k.0 k.1

    pub none_again : Same cut
    none_again = pick h.project
      where
        all_too : project_at cut.again.project ≡ Ok cut.c.replica → (ops : List Operation) → (ops ≡ first) ⊎ (ops ≡ next)
            → ProjectAndBase cut.again cut.b cut.c cut.y.plan_is.files ops
        all_too project ops (inl same) = inr (project, inl same)
        all_too project ops (inr same) = inr (project, inr (inl same))

        pick : (cut.e ≡ cut.d)
            ⊎ (cut.e.project ≡ (put cut).began)
            ⊎ (cut.e.project ≡ (put cut).project) × (cut.e.base ≡ Some (put cut).base) × (cut.e.next ≡ None) → Same cut
        pick (inl same) = nothing cut same
        pick (inr (inl began)) = began_again began
        pick (inr (inr all)) = by_first all.1 (inl all.2) (all_too (all_is cut all.0))
