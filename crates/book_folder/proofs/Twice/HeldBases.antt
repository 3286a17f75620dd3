-- The base that is written has operations of the project alone.
use Rattle.std.proofs.Common.{◌≡◌, Bool, ◌&&◌, not, List, Option, None, Some, refl, sym, ap, subst, ◌∙◌}
use Rattle.std.specs.Option.{is_none, option_map}
use Rattle.op_core.specs.Ids.{Id}
use Rattle.op_core.specs.Ops.{Operation, IsOperation, bare}
use Rattle.op_core.specs.Sets.{IsOpSet, get, join, meet, met, clash}
use Rattle.op_core.proofs.Sets.Clashes.{get_id}
use Rattle.op_core.proofs.FilteredLists.{kept_each}
use Rattle.op_core.proofs.Sets.Filters.{filter_within, rises-filter}
use Rattle.op_core.proofs.Sets.Groupings.{get_bare}
use Rattle.op_core.proofs.Sets.Union.{agree_from_no_clash, get-join}
use Rattle.bundle_codec.specs.Joining.{whole_at}
use Rattle.replica_state.specs.World.Schedules.{Holds}
use Rattle.replica_state.proofs.SinceLaws.{passed}
use Rattle.book_folder.specs.Bases.{found_shown, is_text, kept_shown, shows, stood_text}
use Rattle.book_folder.specs.Begun.{is_one_of}
use Rattle.book_folder.specs.FolderLaws.{BaseAsReadIsHeld, BaseMakesFiles, NextBaseIsPart}
use Rattle.book_folder.specs.Plans.{headless}
use Rattle.book_folder.specs.Taking.{StoodParts}
use Rattle.book_folder.specs.declared.refusal.Place.TheVariants as places
use Rattle.book_folder.proofs.Schedules.BasesReach.{joined_is}
use Rattle.book_folder.proofs.Schedules.ReadSets.{both_set, read_again, short_set, some_set}
use Rattle.book_folder.proofs.Twice.ShownBase.{export_same, shown_legal}
use Rattle.book_folder.proofs.Twice.SyncedFile.{gets}

pub next_base_is_part : NextBaseIsPart
next_base_is_part none held set legal =
    let passes : Operation → Bool = λ x. not (is_one_of none x.segment.book) && shows held x in record {
      set = record { rising = rises-filter passes held set.rising; each = kept_each IsOperation passes held set.each };
      legal = shown_legal held none set legal;
      within = λ o h. (passed passes held o h).0;
    }

pub base_makes_files : BaseMakesFiles
base_makes_files held book set whole = export_same held set (headless held) book (gets held set book whole)

-- what is held under an id is held but for its text
holds_own : (held : List Operation) (q : Id) (o : Operation) → get held q ≡ Some o → Holds held o
holds_own held q o g =
    get_bare held o.id ∙ ap (option_map bare) (ap (get held) (get_id held q o g) ∙ g)

module _ (held base : List Operation) (hs : IsOpSet held) (bs : IsOpSet base) (none : clash held base ≡ None)
    (received : join held base ≡ held) where
  -- what a base has that was received is held but for its text
  holds_base : (q : Id) (x : Operation) → get base q ≡ Some x → Holds held x
  holds_base q x g = by (get held q) refl
    where
      both : get held q ≡ met (get held q) (get base q)
      both = ap (λ (ops : List Operation). get ops q) (sym received) ∙ get-join held base q hs.rising bs.rising

      by : (r : Option Operation) → get held q ≡ r → Holds held x
      by None e = cc (sym e ∙ both ∙ (λ i. met (e i) (g i)))
      by (Some y) e =
          let like = agree_from_no_clash held base none q y x e g in
          get_bare held x.id ∙ ap (option_map bare) (ap (get held) (get_id base q x g) ∙ e) ∙ ap Some like.bares

  module _ (stood : List StoodParts) where
    abbrev kept : List Operation
    kept = kept_shown stood base

    abbrev found : List Operation
    found = found_shown stood held

    held_of_both : (q : Id) (o : Operation) → get (join kept found) q ≡ Some o → Holds held o
    held_of_both q o g =
        by (get kept q) refl (get found q) refl
        (sym (get-join kept found q (rises-filter keeps base bs.rising) (rises-filter finds held hs.rising)) ∙ g)
      where
        keeps : Operation → Bool
        keeps x = shows base x && is_none (stood_text stood x)

        finds : Operation → Bool
        finds x = shows held x && is_text (stood_text stood x) x

        by : (r : Option Operation) → get kept q ≡ r → (t : Option Operation) → get found q ≡ t → met r t ≡ Some o → Holds held o
        by None e None f g = cc g
        by None e (Some y) f g =
            let is : y ≡ o = cc g in
            holds_own held q o (filter_within finds held hs.rising q y f ∙ ap Some is)
        by (Some x) e None f g =
            let is : x ≡ o = cc g in
            holds_base q o (filter_within keeps base bs.rising q x e ∙ ap Some is)
        by (Some x) e (Some y) f g =
            let is : meet x y ≡ o = cc g in
            subst (Holds held) is (holds_base q x (filter_within keeps base bs.rising q x e))

pub base_as_read_is_held : BaseAsReadIsHeld
base_as_read_is_held stood base held bytes ops o bs hs short also none received made read g =
    let x = kept_shown stood base in
    let y = found_shown stood held in
    let hx = some_set (λ o. shows base o && is_none (stood_text stood o)) base (short_set base bs short) in
    let hy = some_set (λ o. shows held o && is_text (stood_text stood o) o) held (short_set held hs also) in
    let is = joined_is places.Project x y bytes hx hy made in
    let again = read_again (join x y) ops (both_set x y hx hy) (ap whole_at (sym is) ∙ read) in
    held_of_both held base hs bs none received stood o.id o (ap (λ (xs : List Operation). get xs o.id) (sym again.0) ∙ g)
