-- Wherever a sync is cut short, a sync of what stands on the disk then makes the same project.
use Rattle.std.proofs.Common.{◌≡◌, ◌⊎◌, inl, inr, ℕ, Bool, true, false, cond, ◌&&◌, List, [], ◌∷◌, Contains, None, Some, Ok, refl, sym, ap, subst, ◌∙◌}
use Rattle.std.specs.Option.{is_some}
use Rattle.std.proofs.lemmas.Bool.{and_from}
use Rattle.op_core.specs.OneBook.{ops_of_book}
use Rattle.op_core.specs.Ops.{Operation}
use Rattle.op_core.specs.Sets.{join}
use Rattle.bundle_codec.specs.Spelling.{bundle}
use Rattle.project_file.proofs.Files.{project_is}
use Rattle.replica_state.proofs.SinceLaws.{none_there}
use Rattle.book_folder.specs.Begun.{is_one_of, ops_not_of, ops_of, settled, settled_base}
use Rattle.book_folder.specs.CutDisk.{CutShortMakesTheSame}
use Rattle.book_folder.specs.CutShort.{AllKnown, BaseIsSettled, BaseSettled, IsLeft, IsPut, NonePut, SomeArePut, SomePut, Waits}
use Rattle.book_folder.specs.Disks.{bytes_at, cut_short}
use Rattle.book_folder.specs.DoneAgain.{BaseStands, first_of, next_of, ProjectAndBase}
use Rattle.book_folder.specs.Plans.{NewFileParts}
use Rattle.book_folder.proofs.CutShort.BaseReceived.{from_bases}
use Rattle.book_folder.proofs.CutShort.CutLaws.{cut_short_is_known}
use Rattle.book_folder.proofs.CutShort.LeftBases.{settled_books, settled_by, settled_bytes}
use Rattle.book_folder.proofs.CutShort.LeftFiles.{IsKeptOrPut, NameIsKnown}
use Rattle.book_folder.proofs.Schedules.ReadSets.{IsReadable}
use Rattle.book_folder.proofs.CutShort.CutRead.{CutRead, came_along}
use Rattle.book_folder.proofs.CutShort.LeftOnDisk.{all_is, alone, at_name, base_stands, beside, by_left, by_next, each_left, first_within, left_each, mixed_settled, mixed_within, next_within, put, put_base, Same, settled_each}
use Rattle.book_folder.proofs.CutShort.NoneOnDisk.{none_again}

module _ (cut : CutRead) where
  abbrev first : List Operation
  first = (first_of cut.b cut.c).held

  abbrev next : List Operation
  next = next_of cut.c

  -- the base that is put first makes the files as they were read
  is_first : (one : NewFileParts) → Contains cut.made one → cut.base ≡ bundle first
  is_first one there = elim (put_base cut cut.made cut.y.plan_is.first) [
    | inl k ↦ absurd (none_there one (subst (λ (ns : List NewFileParts). Contains ns one) k.0 there))
    | inr is ↦ is
  ]

  some_again : SomeArePut cut.d (put cut) cut.made cut.e → Same cut
  some_again h =
      let there : cut.e.base ≡ Some (bundle first) = h.base ∙ ap Some (is_first h.one h.among) in
      by_left cut first (by_next cut first) (base_stands cut first (first_within cut) there) (inr (all_is cut h.project, inl refl))
      (beside cut first (first_within cut) h.next)
      (left_each cut first (by_next cut first) first keeps (inl refl) (settled_each cut first (first_within cut))
      (each_left cut keeps known others))
    where
      keeps : List ℕ → Bool
      keeps book = is_one_of cut.again.unplaced book

      known : (name : List ℕ) → NameIsKnown cut.seen.files cut.again.files cut.made keeps name
      known name = elim (h.files name) [
        | inl same ↦ inl (at_name cut name same)
        | inr p ↦ inr (p.file, p.of, cut.x.read.files name ∙ p.text, cut.x.read.unplaced p.file.book ∙ ap is_some p.gone)
      ]

      others : (n : NewFileParts) → Contains cut.made n → IsKeptOrPut cut.again.files cut.made keeps n
      others n among = elim (h.all n among) [
        | inl waits ↦ inl (cut.x.read.unplaced n.book ∙ ap is_some waits)
        | inr p ↦ inr (p.1.file, p.1.of, cut.x.read.files n.name ∙ p.1.text)
      ]

  module _ (h : BaseIsSettled cut.d (put cut) cut.made cut.e) where
    first_is : cut.base ≡ bundle first
    first_is = is_first h.one h.among

    abbrev mixed : List Operation
    mixed = join (ops_of h.left first) (ops_not_of h.left next)

    first_set : IsReadable first
    first_set = (first_within cut).legible.set

    next_set : IsReadable next
    next_set = (next_within cut).legible.set

    made_of : settled_base h.left first next ≡ Ok h.base
    made_of =
        settled_by h.left first next first_set next_set h.base
        (ap (λ (bytes : List ℕ). settled (bytes ∷ []) (bundle next) h.left) (sym first_is) ∙ h.of)

    spelled : h.base ≡ bundle mixed
    spelled = settled_bytes h.left first next first_set next_set h.base made_of

    there : cut.e.base ≡ Some (bundle mixed)
    there = h.is ∙ ap Some spelled

    mixed_books : (book : List ℕ) → ops_of_book mixed book ≡ cond (is_one_of h.left book) (ops_of_book first book) (ops_of_book next book)
    mixed_books = settled_books h.left first next first_set next_set mixed (mixed_settled cut h.left)

    all_stands : ProjectAndBase cut.again cut.b cut.c cut.y.plan_is.files mixed
    all_stands = inr (all_is cut h.project, inr (inr (h.left, mixed_settled cut h.left)))

    stands : BaseStands cut.again mixed
    stands = base_stands cut mixed (mixed_within cut h.left) there

    settled_again : Same cut
    settled_again = pick h.next
      where
        gone : cut.e.next ≡ None → Same cut
        gone none =
            by_left cut mixed mixed stands all_stands (alone cut mixed none)
            (left_each cut mixed mixed first keeps (inl refl) mixed_books (each_left cut keeps known others))
          where
            keeps : List ℕ → Bool
            keeps book = is_one_of h.left book

            known : (name : List ℕ) → NameIsKnown cut.seen.files cut.again.files cut.made keeps name
            known name = elim (h.files name) [
              | inl same ↦ inl (at_name cut name same)
              | inr p ↦ inr (p.put.file, p.put.of, cut.x.read.files name ∙ p.put.text, p.next)
            ]

            others : (n : NewFileParts) → Contains cut.made n → IsKeptOrPut cut.again.files cut.made keeps n
            others n among = elim (h.others n among) [
              | inl left ↦ inl left
              | inr p ↦ inr (p.file, p.of, cut.x.read.files n.name ∙ p.text)
            ]

        still : cut.e.next ≡ Some (put cut).next → AllKnown cut.e cut.made → Same cut
        still is all =
            by_left cut mixed (by_next cut mixed) stands all_stands (beside cut mixed (mixed_within cut h.left) is)
            (left_each cut mixed (by_next cut mixed) first keeps (inl refl)
            (λ book. settled_each cut mixed (mixed_within cut h.left) book
            ∙ ap (λ ops. cond (is_one_of cut.again.unplaced book) ops (ops_of_book next book)) (mixed_books book)
            ∙ twice (is_one_of cut.again.unplaced book) (is_one_of h.left book) (ops_of_book first book) (ops_of_book next book))
            (each_left cut keeps known others))
          where
            keeps : List ℕ → Bool
            keeps book = is_one_of cut.again.unplaced book && is_one_of h.left book

            twice : (p q : Bool) (f n : List Operation) → cond p (cond q f n) n ≡ cond (p && q) f n
            twice true q f n = refl
            twice false q f n = refl

            known : (name : List ℕ) → NameIsKnown cut.seen.files cut.again.files cut.made keeps name
            known name = elim (h.files name) [
              | inl same ↦ inl (at_name cut name same)
              | inr p ↦ inr (
                p.put.file,
                p.put.of,
                cut.x.read.files name ∙ p.put.text,
                ap (λ r. r && is_one_of h.left p.put.file.book) (cut.x.read.unplaced p.put.file.book ∙ ap is_some p.put.gone),
              )
            ]

            others : (n : NewFileParts) → Contains cut.made n → IsKeptOrPut cut.again.files cut.made keeps n
            others n among = by (all n among) (h.others n among)
              where
                by : Waits cut.e n ⊎ (bytes_at cut.e.new n.book ≡ None) × IsPut cut.e cut.made n.name
                    → (is_one_of h.left n.book ≡ true) ⊎ IsPut cut.e cut.made n.name → IsKeptOrPut cut.again.files cut.made keeps n
                by k (inr p) = inr (p.file, p.of, cut.x.read.files n.name ∙ p.text)
                by (inr p) (inl left) = inr (p.1.file, p.1.of, cut.x.read.files n.name ∙ p.1.text)
                by (inl waits) (inl left) =
                    inl (and_from (is_one_of cut.again.unplaced n.book) (is_one_of h.left n.book)
                    (cut.x.read.unplaced n.book ∙ ap is_some waits) left)

        pick : (cut.e.next ≡ None) ⊎ (cut.e.next ≡ Some (put cut).next) × AllKnown cut.e cut.made → Same cut
        pick (inl none) = gone none
        pick (inr k) = still k.0 k.1

  by_case : IsLeft cut.d (put cut) cut.made cut.e → Same cut
  by_case (NonePut h) = none_again cut h
  by_case (SomePut h) = some_again h
  by_case (BaseSettled h) = settled_again h

pub cut_short_makes_the_same : CutShortMakesTheSame
cut_short_makes_the_same seen again wishes s b c now made base plan d unsettled fresh joined y stays chance n x clear =
    let state = (project_is seen.project s y.bytes.project y.is).valid in
    let g = from_bases seen wishes s b state y.bytes.bases y.bytes.next y.is y.begun in
    let along = came_along seen wishes s b c y.plan_is.files state y.bytes y.is unsettled fresh y.begun y.plan_is.came y.distinct y.each in
    by_case (record {
      seen = seen;
      again = again;
      wishes = wishes;
      s = s;
      b = b;
      c = c;
      now = now;
      made = made;
      base = base;
      plan = plan;
      d = d;
      e = cut_short stays chance n d plan.steps;
      unsettled = unsettled;
      fresh = fresh;
      joined = joined;
      y = y;
      g = g;
      along = along;
      x = x;
      clear = clear;
    })
    (cut_short_is_known seen wishes c made base plan d y.plan_is y.read stays chance n)
