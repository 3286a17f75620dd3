-- Where a sync was cut short, the bases before the base may be one more or one fewer: they ask nothing more of a file.
use Rattle.std.proofs.Common.{◌≡◌, ℕ, suc, Bool, true, false, cond, not, ◌&&◌, ◌||◌, List, [], ◌∷◌, ◌++◌}
use Rattle.std.proofs.Common.{Option, None, Some, Result, Ok, Err, refl, sym, ap, ◌∙◌, append-nil, append_assoc}
use Rattle.std.specs.Option.{is_some, option_or}
use Rattle.std.proofs.lemmas.Bool.{and_right}
use Rattle.usfm_ref.specs.Books.{same_bytes}
use Rattle.usfm_ref.specs.Keys.{KeyParts}
use Rattle.usfm_ref.specs.Segments.{segment}
use Rattle.usfm_ref.proofs.Orders.{same_bytes-refl}
use Rattle.verse_cut.specs.Pieces.{PieceParts}
use Rattle.op_core.specs.Export.{has_book}
use Rattle.op_core.specs.Lists.{keys_of}
use Rattle.op_core.specs.Ops.{Operation, own_text}
use Rattle.op_core.specs.Sets.{rises}
use Rattle.op_core.specs.Shown.{Pick, Line, Greatest, Empty, pick, picked_text}
use Rattle.op_core.proofs.Sets.Fronts.{join_none}
use Rattle.op_core.proofs.Sets.SideBySide.{clash_none}
use Rattle.bundle_codec.specs.Joining.{whole_at}
use Rattle.bundle_codec.specs.declared.fault.WholeFault.{WholeFault}
use Rattle.replica_state.specs.Changes.{changes_ops}
use Rattle.replica_state.specs.States.{State, begun}
use Rattle.replica_state.specs.Steps.{edited_all, with_ops}
use Rattle.replica_state.proofs.OwnExports.{none_pass}
use Rattle.book_folder.specs.Asks.{emptied, has_text_of, if_any, is_new_of_another, is_undone, undone, undone_keys, undone_since}
use Rattle.book_folder.specs.Begun.{holding, received_or, replica_at, set_or}
use Rattle.book_folder.specs.Coming.{AllTaken, added_by, all_taken, earlier_bases, older_from, taken_all}
use Rattle.book_folder.specs.Files.{FileParts}
use Rattle.book_folder.specs.Likes.{like, plain}
use Rattle.book_folder.specs.Refusals.{◌>>=◌, of_bundle}
use Rattle.book_folder.specs.Restored.{coming_pieces}
use Rattle.book_folder.specs.Taking.{AskedParts, StoodParts, Taken, asked, asked_by, file_changes, stood_of, taken, taken_changed, taken_in, taken_strange, text_or, unless_asked}
use Rattle.book_folder.specs.Wanted.{SeenParts, WishParts}
use Rattle.book_folder.specs.declared.refusal.FolderFault.TheVariants as faults
use Rattle.book_folder.specs.declared.refusal.Place.{Place}
use Rattle.book_folder.specs.declared.refusal.Place.TheVariants as places
use Rattle.book_folder.specs.declared.refusal.Refusal.{Refusal}
use Rattle.book_folder.proofs.LostLaws.{changed_is}
use Rattle.book_folder.proofs.Schedules.BasesReach.{ok_is, then_ok}

-- ---- the bases as they are read

-- a bundle, read wherever it stands
pub with_place : (name : List ℕ) (place : Place) (bytes : List ℕ) (ops : List Operation) → whole_at bytes ≡ Ok ops
    → replica_at name place bytes ≡ Ok (with_ops (begun name) ops)
with_place name place bytes ops read =
    ap (λ r. set_or place r >>= holding name place) read
    ∙ ap (λ r. received_or place (begun name) ops r >>= λ y. Ok y.after) (clash_none ops)

any_place : (name : List ℕ) (p q : Place) (bytes : List ℕ) (s : State) → replica_at name p bytes ≡ Ok s → replica_at name q bytes ≡ Ok s
any_place name p q bytes s e = by (whole_at bytes) refl
  where
    by : (r : Result (List Operation) WholeFault) → whole_at bytes ≡ r → replica_at name q bytes ≡ Ok s
    by (Ok ops) f = with_place name q bytes ops f ∙ sym (with_place name p bytes ops f) ∙ e
    by (Err fault) f =
        let refused : Result State Refusal = Err (of_bundle p fault) in
        let no : refused ≡ Ok s = sym (ap (λ r. set_or p r >>= holding name p) f) ∙ e in
        cc no

-- what was read of bases stands behind what was read before, and is the same wherever they stand
pub record AreBehind (name : List ℕ) (before : List State) (bases : List (List ℕ)) (all : List State) : Type 0 where
  pub behind : List State
  pub are : all ≡ before ++ behind
  pub again : (at : ℕ) (front : List State) → older_from name at front bases ≡ Ok (front ++ behind)

abbrev read : List State → Result (List State) Refusal
read states = Ok states

pub are_behind : (name : List ℕ) (at : ℕ) (before : List State) (bases : List (List ℕ)) (all : List State)
    → older_from name at before bases ≡ Ok all → AreBehind name before bases all
are_behind name at before [] all e = record {
  behind = [];
  are = sym (ok_is before all e) ∙ sym (append-nil before);
  again = λ n front. ap read (sym (append-nil front));
}
are_behind name at before (bytes ∷ later) all e =
    let a = then_ok (replica_at name (places.Older at) bytes) (λ t. older_from name (suc at) (before ++ t ∷ []) later) all e in
    let rest = are_behind name (suc at) (before ++ a.0 ∷ []) later all a.1.1 in record {
      behind = a.0 ∷ rest.behind;
      are = rest.are ∙ append_assoc before (a.0 ∷ []) rest.behind;
      again = λ n front.
          ap (λ r. r >>= λ t. older_from name (suc n) (front ++ t ∷ []) later)
          (any_place name (places.Older at) (places.Older n) bytes a.0 a.1.0)
          ∙ rest.again (suc n) (front ++ a.0 ∷ [])
          ∙ ap read (append_assoc front (a.0 ∷ []) rest.behind);
    }

-- the last of several
later_are : (name : List ℕ) (at : ℕ) (before : List State) (bases later : List (List ℕ)) (all : List State)
    → older_from name at before (bases ++ later) ≡ Ok all → (front : List State) × AreBehind name front later all
later_are name at before [] later all e = (before, are_behind name at before later all e)
later_are name at before (bytes ∷ bases) later all e =
    let a = then_ok (replica_at name (places.Older at) bytes)
    (λ t. older_from name (suc at) (before ++ t ∷ []) (bases ++ later)) all e in
    later_are name (suc at) (before ++ a.0 ∷ []) bases later all a.1.1

-- the older bases, which stand behind the base where a next one stands
pub older_are_last : (name : List ℕ) (seen : SeenParts) (all : List State) → older_from name 0 [] (earlier_bases seen) ≡ Ok all
    → (front : List State) × AreBehind name front seen.older all
older_are_last name seen all e = by (is_some seen.next) e
  where
    by : (b : Bool) → older_from name 0 [] (cond b (seen.bases ++ seen.older) seen.older) ≡ Ok all
        → (front : List State) × AreBehind name front seen.older all
    by true e = later_are name 0 [] seen.bases seen.older all e
    by false e = ([], are_behind name 0 [] seen.older all e)

-- ---- what they ask

-- where nothing is asked of a book's file by some bases, nothing is by others
abbrev pub AskNoMore : List Operation → List State → List State → List ℕ → Type 0
AskNoMore base older others book =
    (own : List ℕ) (pieces : List PieceParts) → undone older base own book pieces ≡ None → undone others base own book pieces ≡ None

right_none : {A : Type 0} (x y : Option A) → option_or x y ≡ None → y ≡ None
right_none None y e = e
right_none (Some x) y e = cc e

-- fewer ask no more
pub fewer : (base : List Operation) (front later : List State) (book : List ℕ) → AskNoMore base (front ++ later) later book
fewer base [] later book own pieces e = e
fewer base (o ∷ front) later book own pieces e =
    fewer base front later book own pieces
    (right_none (undone_since o.held base own book pieces) (undone (front ++ later) base own book pieces) e)

-- a base beside itself asks nothing
pub beside_itself : (base : List Operation) (own book : List ℕ) (pieces : List PieceParts)
    → undone_since base base own book pieces ≡ None
unfolding undone_since
beside_itself base own book pieces = by (has_book base book)
  where
    not_new : (key : KeyParts) (p : Pick) → pick base (segment book key) ≡ p → is_new_of_another base own book key p ≡ false
    not_new key (Greatest o) e =
        and_right (not (same_bytes o.id.name own)) (not (like (picked_text (pick base (segment book key))) (own_text o)))
        (ap not (ap (λ q. like (picked_text q) (own_text o)) e ∙ same_bytes-refl (plain (own_text o))))
    not_new key (Line chapter) e = refl
    not_new key Empty e = refl

    none : undone_keys base base own book pieces ≡ []
    none =
        none_pass (is_undone base base own book pieces) (keys_of base book)
        (λ key. ap (λ b. b && has_text_of base book pieces key) (not_new key (pick base (segment book key)) refl))

    by : (b : Bool) → cond b (if_any (undone_keys base base own book pieces)) None ≡ None
    by true = ap if_any none
    by false = refl

-- a base asks no more if it stands before them, too
pub one_more : (name : List ℕ) (base : List Operation) (front later : List State) (book : List ℕ) → rises base ≡ true
    → AskNoMore base (front ++ later) (with_ops (begun name) base ∷ later) book
one_more name base front later book rise own pieces e = λ i. option_or (first i) (fewer base front later book own pieces e i)
  where
    first : undone_since (with_ops (begun name) base).held base own book pieces ≡ None
    first =
        ap (λ (ops : List Operation). undone_since ops base own book pieces) (join_none base rise)
        ∙ beside_itself base own book pieces

-- ---- a file that is taken in

asked_so : (u : Bool) (x z : Option (List KeyParts)) (rest : Option AskedParts) → (x ≡ None → z ≡ None)
    → option_or (asked_by faults.Undone u x) rest ≡ None → option_or (asked_by faults.Undone u z) rest ≡ None
asked_so true x z rest h e = e
asked_so false None z rest h e = ap (λ keys. option_or (asked_by faults.Undone false keys) rest) (h refl) ∙ e
asked_so false (Some keys) z rest h e = cc e

-- nothing is asked of it by others either
pub unasked_by : (wishes : WishParts) (came others gone : Option (List KeyParts)) → (came ≡ None → others ≡ None)
    → asked wishes came gone ≡ None → asked wishes others gone ≡ None
unasked_by wishes came others gone h e =
    asked_so (wishes.undone || wishes.stale) came others (asked_by faults.Emptied wishes.emptied gone) h e

unless_so : (place : Place) (a c : Option AskedParts) (r : Result Taken Refusal) (t : Taken) → (a ≡ None → c ≡ None)
    → unless_asked place a r ≡ Ok t → unless_asked place c r ≡ Ok t
unless_so place None c r t h e = ap (λ q. unless_asked place q r) (h refl) ∙ e
unless_so place (Some fault) c r t h e = cc e

module _ (base : State) (older others : List State) (wishes : WishParts) where
  changed_by_others : (s : State) (stood : List StoodParts) (f : FileParts) (pieces : List PieceParts) (t : Taken)
      → AskNoMore base.held older others f.book → taken_changed s base older wishes stood f pieces ≡ Ok t
      → taken_changed s base others wishes stood f pieces ≡ Ok t
  changed_by_others s stood f pieces t asks e =
      let place = places.File f.at in
      let came = undone older base.held s.name f.book pieces in
      let other = undone others base.held s.name f.book pieces in
      let gone = emptied base.held f.book pieces in
      let made = taken place (stood ++ stood_of s.held base.held f.book pieces)
      (edited_all s s (changes_ops s f.book (file_changes s.held base.held wishes.settled f.book pieces))) in
      changed_is s base others wishes stood f pieces
      ∙ unless_so place (asked wishes came gone) (asked wishes other gone) made t
      (unasked_by wishes came other gone (asks s.name pieces))
      (sym (changed_is s base older wishes stood f pieces) ∙ e)

  in_by_others : (s : State) (stood : List StoodParts) (f : FileParts) (t : Taken) → AskNoMore base.held older others f.book
      → taken_in s base older wishes stood f ≡ Ok t → taken_in s base others wishes stood f ≡ Ok t
  unfolding taken_in
  in_by_others s stood f t asks e =
      let a = then_ok (text_or (places.File f.at) f.bytes) (taken_by older) t e in
      ap (λ r. r >>= taken_by others) a.1.0 ∙ by (has_book base.held f.book) a.0 a.1.1
    where
      taken_by : List State → List ℕ → Result Taken Refusal
      taken_by bases text =
          cond (has_book base.held f.book) (taken_changed s base bases wishes stood f (coming_pieces base.held f.book text))
          (taken_strange s stood f)

      by : (b : Bool) (text : List ℕ)
          → cond b (taken_changed s base older wishes stood f (coming_pieces base.held f.book text)) (taken_strange s stood f) ≡ Ok t
          → cond b (taken_changed s base others wishes stood f (coming_pieces base.held f.book text)) (taken_strange s stood f) ≡ Ok t
      by true text e = changed_by_others s stood f (coming_pieces base.held f.book text) t asks e
      by false text e = e

  -- so all of them are taken in alike
  pub all_by_others : (files : List FileParts) (t all : AllTaken) → ((book : List ℕ) → AskNoMore base.held older others book)
      → taken_all base older wishes t files ≡ Ok all → taken_all base others wishes t files ≡ Ok all
  all_by_others [] t all asks e = e
  all_by_others (f ∷ later) t all asks e =
      let a = then_ok (taken_in t.after base older wishes t.stood f) (λ next. taken_all base older wishes
      (all_taken next.after next.stood (t.added ++ added_by f.book next.count)) later) all e in
      ap (λ r. r >>= λ next. taken_all base others wishes
      (all_taken next.after next.stood (t.added ++ added_by f.book next.count)) later)
      (in_by_others t.after t.stood f a.0 (asks f.book) a.1.0)
      ∙ all_by_others later (all_taken a.0.after a.0.stood (t.added ++ added_by f.book a.0.count)) all asks a.1.1
