-- What a folder begins with is reached from its project, and has each book of the base.
use Rattle.std.proofs.Common.{◌≡◌, ℕ, zero, suc, Bool, true, false, not, cond, ◌||◌, List, [], ◌∷◌, ◌++◌, length, filter, get_or}
use Rattle.std.proofs.Common.{Option, Some, None, option_map, Result, Ok, Err, refl, sym, ap, subst, ◌∙◌}
use Rattle.std.specs.List.{AllByRecursion}
use Rattle.std.specs.Prelude.{IsTrue}
use Rattle.std.proofs.lemmas.Bool.{false≢true}
use Rattle.verse_cut.specs.Pieces.{PieceParts}
use Rattle.op_core.specs.Ids.{Id}
use Rattle.op_core.specs.Export.{has_book}
use Rattle.op_core.specs.Ops.{Operation}
use Rattle.op_core.specs.Sets.{join, clash}
use Rattle.op_core.specs.Thinned.{is_legal}
use Rattle.op_core.proofs.Sets.Fronts.{join_none}
use Rattle.bundle_codec.specs.declared.fault.WholeFault.{WholeFault}
use Rattle.bundle_codec.specs.Spelling.{bundle}
use Rattle.bundle_codec.specs.Reading.{AreBytes}
use Rattle.bundle_codec.specs.Joining.{of_both, union_or_clash, whole_at}
use Rattle.project_file.specs.declared.fault.LoadFault.{LoadFault}
use Rattle.project_file.specs.Projects.{project_at}
use Rattle.replica_state.specs.States.{State, IsState, begun}
use Rattle.replica_state.specs.Steps.{with_ops}
use Rattle.book_folder.specs.Begun.{BegunParts, Received, set_or, judged, received_or, received, received_if_alike, is_strange, refused_strange, with_base, with_base_at, with_bases, is_one_of, joined_or, joined_at, settled_base, holding, replica_at, with_next, project_or, begun_alone, begun_with}
use Rattle.book_folder.specs.Coming.{older_from}
use Rattle.book_folder.specs.Files.{FileParts, text_if}
use Rattle.book_folder.specs.FolderLaws.{MayBeBytes}
use Rattle.book_folder.specs.Refusals.{◌>>=◌}
use Rattle.book_folder.specs.Restored.{coming_pieces}
use Rattle.book_folder.specs.Stale.{OlderParts, is_by_unlike, older_base, older_base_by, older_base_if, older_base_in, older_found, oldest_alike, place_of, rebased, rebased_by, rebased_if, rebased_to, with_older}
use Rattle.book_folder.specs.Wanted.{SeenParts, WantedParts, WishParts, is_none_wanted}
use Rattle.book_folder.specs.declared.refusal.FolderFault.TheVariants as faults
use Rattle.book_folder.specs.declared.refusal.Place.{Place}
use Rattle.book_folder.specs.declared.refusal.Place.TheVariants as places
use Rattle.book_folder.specs.declared.refusal.Refusal.{Refusal}
use Rattle.book_folder.specs.declared.refusal.Refusal.TheVariants.{Of}
use Rattle.book_folder.proofs.Schedules.Along.{Along, along_itself, along_set, along_with}
use Rattle.book_folder.proofs.Schedules.Reached.{HasBooks, some_books, left_books, right_books, books_of_both, all_both}
use Rattle.book_folder.proofs.Schedules.ReadSets.{IsReadable, read_again, read_set, nothing_set, some_set, both_set}

-- ---- steps that were not refused

-- what a step after another one was made of
pub then_ok : {A B : Type 0} (r : Result A Refusal) (next : A → Result B Refusal) (y : B) → (r >>= next) ≡ Ok y
    → (x : A) × ((r ≡ Ok x) × (next x ≡ Ok y))
then_ok (Ok x) next y e = (x, (refl, e))
then_ok (Err refusal) next y e = cc e

abbrev done : {A : Type 0} → A → Result A Refusal
done x = Ok x

pub ok_is : {A : Type 0} (x y : A) → done x ≡ done y → x ≡ y
ok_is x y e = cc

-- what was judged to be a bundle is one
pub judged_is : (place : Place) (bytes : List ℕ) (ops : List Operation) → judged place bytes ≡ Ok ops → whole_at bytes ≡ Ok ops
judged_is place bytes ops e = by (whole_at bytes) e
  where
    by : (r : Result (List Operation) WholeFault) → set_or place r ≡ Ok ops → r ≡ Ok ops
    by (Ok x) e = let same : x ≡ ops = cc e in ap (λ (xs : List Operation). Ok xs) same
    by (Err fault) e = cc e

abbrev after_or : State → Result Received Refusal → State
after_or t (Ok r) = r.after
after_or t (Err refusal) = t

-- what is received does not clash
pub received_is : (place : Place) (s : State) (ops : List Operation) (r : Received) → received place s ops ≡ Ok r
    → (clash s.held ops ≡ None) × (with_ops s ops ≡ r.after)
received_is place s ops r e = by (clash s.held ops) refl e
  where
    by : (c : Option Id) → clash s.held ops ≡ c → received_or place s ops c ≡ Ok r → (clash s.held ops ≡ None) × (with_ops s ops ≡ r.after)
    by None none e = (none, ap (after_or s) e)
    by (Some id) some e = cc e

-- nor does what is received where it is not unlike
pub alike_is : (asked : Bool) (place : Place) (s : State) (ops : List Operation) (r : Received) → received_if_alike asked place s ops ≡ Ok r
    → (clash s.held ops ≡ None) × (with_ops s ops ≡ r.after)
alike_is asked place s ops r e = by (asked || not (is_strange s.held ops)) e
  where
    by : (b : Bool) → cond b (received place s ops) (received place s ops >>= refused_strange place s) ≡ Ok r
        → (clash s.held ops ≡ None) × (with_ops s ops ≡ r.after)
    by true e = received_is place s ops r e
    by false e =
        let x = then_ok (received place s ops) (refused_strange place s) r e in
        let refused : Result Received Refusal = refused_strange place s x.0 in
        let no : refused ≡ Ok r = x.1.1 in
        cc no

-- joined bundles of two sets are the bundle of their union
pub joined_is : (place : Place) (x y : List Operation) (bytes : List ℕ) → IsReadable x → IsReadable y → joined_at place x y ≡ Ok bytes
    → bytes ≡ bundle (join x y)
joined_is place x y bytes h g e = by (whole_at (bundle x)) refl (whole_at (bundle y)) refl e
  where
    joined : (a b : List Operation) (c : Option Id) → joined_or place (union_or_clash a b c) ≡ Ok bytes → bytes ≡ bundle (join a b)
    joined a b None e = sym (ok_is (bundle (join a b)) bytes e)
    joined a b (Some id) e = cc e

    by : (r : Result (List Operation) WholeFault) → whole_at (bundle x) ≡ r → (q : Result (List Operation) WholeFault)
        → whole_at (bundle y) ≡ q → joined_or place (of_both r q) ≡ Ok bytes → bytes ≡ bundle (join x y)
    by (Err fault) f q k e = cc e
    by (Ok a) f (Err fault) k e = cc e
    by (Ok a) f (Ok b) k e =
        joined a b (clash a b) e ∙ (λ i. bundle (join ((read_again x a h f).0 i) ((read_again y b g k).0 i)))

-- a replica that begins with a set holds it
holds : (name : List ℕ) (place : Place) (ops : List Operation) (t : State) → IsReadable ops → holding name place ops ≡ Ok t → t.held ≡ ops
holds name place ops t g e =
    let r = then_ok (received place (begun name) ops) (λ r. Ok r.after) t e in
    let is = received_is place (begun name) ops r.0 r.1.0 in
    ap (λ (s : State). s.held) (sym (is.1 ∙ ok_is r.0.after t r.1.1)) ∙ join_none ops g.set.rising

-- a replica that holds what the bundle of a set has holds the set
pub replica_is : (name : List ℕ) (place : Place) (bytes : List ℕ) (x : List Operation) (t : State) → IsReadable x → bytes ≡ bundle x
    → replica_at name place bytes ≡ Ok t → t.held ≡ x
replica_is name place bytes x t h is e =
    let a = then_ok (judged place bytes) (holding name place) t e in
    let again = read_again x a.0 h (ap whole_at (sym is) ∙ judged_is place bytes a.0 a.1.0) in
    holds name place a.0 t (subst IsReadable (sym again.0) h) a.1.1 ∙ again.0

-- one of several that can be read, or else another one that can
chosen : (older : List State) (at : ℕ) (base : State) → AllByRecursion (λ (t : State). IsReadable t.held) older → IsReadable base.held
    → IsReadable (get_or older at base).held
chosen [] at base known h = h
chosen (t ∷ older) zero base known h = known.0
chosen (t ∷ older) (suc at) base known h = chosen older at base known.1 h

-- ---- an older base that was chosen

-- what was given where it is not refused
unless_refused : {A : Type 0} (b : Bool) (r : Result A Refusal) (refusal : Refusal) (y : A) → cond b r (Err refusal) ≡ Ok y → r ≡ Ok y
unless_refused true r refusal y e = e
unless_refused false r refusal y e = cc e

-- an older base was chosen for the pieces of a file
record OlderMade (base : State) (older : List State) (book : List ℕ) (o : OlderParts) : Type 0 where
  pub pieces : List PieceParts
  pub made : with_older (places.Older o.at) base.held (get_or older o.at base).held book pieces ≡ Ok o.bytes

older_made_if : (base : State) (older : List State) (book : List ℕ) (pieces : List PieceParts) (c : Option ℕ) (o : OlderParts)
    → older_base_if base older book pieces c ≡ Ok (Some o) → OlderMade base older book o
older_made_if base older book pieces None o e = cc e
older_made_if base older book pieces (Some at) o e =
    let w = with_older (places.Older at) base.held (get_or older at base).held book pieces in
    let x = then_ok w (older_found at) (Some o) e in
    subst (OlderMade base older book) (found_is at x.0 o x.1.1) (record { pieces = pieces; made = x.1.0 })
  where
    parts : ℕ → List ℕ → OlderParts
    parts at bytes = record { at = at; bytes = bytes }

    or_other : Result (Option OlderParts) Refusal → OlderParts
    or_other (Ok (Some p)) = p
    or_other (Ok None) = o
    or_other (Err refusal) = o

    found_is : (at : ℕ) (bytes : List ℕ) (p : OlderParts) → older_found at bytes ≡ Ok (Some p) → parts at bytes ≡ p
    found_is at bytes p h = ap or_other h

older_made_by : (base : State) (older : List State) (book : List ℕ) (text : Option (List ℕ)) (o : OlderParts)
    → older_base_by base older book text ≡ Ok (Some o) → OlderMade base older book o
older_made_by base older book None o e = cc e
older_made_by base older book (Some text) o e = by (has_book base.held book) e
  where
    pieces : List PieceParts
    pieces = coming_pieces base.held book text

    by : (b : Bool) → cond b (older_base_in base older book pieces) (Ok None) ≡ Ok (Some o) → OlderMade base older book o
    by true e =
        older_made_if base older book pieces (option_map place_of (oldest_alike 0 older base.held base.name book pieces)) o e
    by false e = cc e

-- ---- what a folder begins with

abbrev pub begun_of : State → State → ℕ → BegunParts
begun_of replica base held = record { replica = replica; base = base; held = held }

-- What a folder begins with so far: a project that was reached, and that has each book of the base.
pub record Going (s : State) (b : BegunParts) : Type 0 where
  pub along : Along s b.base.held b.replica
  pub base : IsReadable b.base.held

-- a set was received, and the base is another one whose books are those of the base before or of the set
goes_with : (s : State) (b : BegunParts) (ops : List Operation) (base : State) → Going s b → IsReadable ops → IsTrue (is_legal ops)
    → clash b.replica.held ops ≡ None → IsReadable base.held
    → ((zs : List Operation) → HasBooks b.base.held zs → HasBooks ops zs → HasBooks base.held zs)
    → Going s (begun_of (with_ops b.replica ops) base b.held)
goes_with s b ops base g read legal none kept books = record {
  along = along_with s b.base.held base.held (with_ops b.replica ops)
      (along_set s b.base.held b.replica ops g.along read.set legal none)
      (books (join b.replica.held ops)
      (λ book h. left_books b.replica.held ops book (g.along.books book h))
      (right_books b.replica.held ops g.along.state.set.rising read.set.rising none));
  base = kept;
}

-- so it is of what is begun with by then
lands : (s replica base after : State) (held : ℕ) (next : BegunParts) → replica ≡ after → done (begun_of after base held) ≡ Ok next
    → Going s (begun_of replica base held) → Going s next
lands s replica base after held next e is g =
    subst (Going s) (ok_is (begun_of after base held) next is) (subst (λ (x : State). Going s (begun_of x base held)) e g)

-- and where the base is another one
rests : (s replica base other : State) (held : ℕ) → base ≡ other → Going s (begun_of replica base held)
    → Going s (begun_of replica other held)
rests s replica base other held e g = subst (λ (x : State). Going s (begun_of replica x held)) e g

module _ (s : State) where
  with_base_goes : (wishes : WishParts) (place : Place) (b : BegunParts) (bytes : List ℕ) (next : BegunParts) → Going s b → AreBytes bytes
      → with_base_at wishes place b bytes ≡ Ok next → Going s next
  with_base_goes wishes place b bytes next g fits e =
      let a = then_ok (judged place bytes) (with_base wishes place b) next e in
      let ops : List Operation = a.0 in
      let read = read_set bytes ops fits (judged_is place bytes ops a.1.0) in
      let r = then_ok (received_if_alike wishes.joined place b.replica ops)
      (λ r. received place b.base ops >>= λ base. Ok (begun_of r.after base.after b.held)) next a.1.1 in
      let q = then_ok (received place b.base ops) (λ base. Ok (begun_of r.0.after base.after b.held)) next r.1.1 in
      let one = alike_is wishes.joined place b.replica ops r.0 r.1.0 in
      let two = received_is place b.base ops q.0 q.1.0 in
      lands s (with_ops b.replica ops) q.0.after r.0.after b.held next one.1 q.1.1
      (rests s (with_ops b.replica ops) (with_ops b.base ops) q.0.after b.held two.1
      (goes_with s b ops (with_ops b.base ops) g read.0 read.1 one.0 (both_set b.base.held ops g.base read.0)
      (books_of_both b.base.held ops)))

  with_bases_goes : (wishes : WishParts) (at : ℕ) (b : BegunParts) (bases : List (List ℕ)) (next : BegunParts) → Going s b
      → AllByRecursion AreBytes bases → with_bases wishes at b bases ≡ Ok next → Going s next
  with_bases_goes wishes at b [] next g fits e = subst (Going s) (ok_is b next e) g
  with_bases_goes wishes at b (bytes ∷ later) next g fits e =
      let a = then_ok (with_base_at wishes (places.Base at) b bytes) (λ n. with_bases wishes (suc at) n later) next e in
      with_bases_goes wishes (suc at) a.0 later next (with_base_goes wishes (places.Base at) b bytes a.0 g fits.0 a.1.0) fits.1 a.1.1

  -- a base of some of a base and some of a set
  mixed : (b : BegunParts) (place other : Place) (ops : List Operation) (p q : Operation → Bool) (bytes : List ℕ) (base : State) → Going s b
      → IsReadable ops → IsTrue (is_legal ops) → clash b.replica.held ops ≡ None
      → joined_at place (filter p b.base.held) (filter q ops) ≡ Ok bytes → replica_at b.base.name other bytes ≡ Ok base
      → Going s (begun_of (with_ops b.replica ops) base b.held)
  mixed b place other ops p q bytes base g read legal none joined is =
      let x = filter p b.base.held in
      let y = filter q ops in
      let hx = some_set p b.base.held g.base in
      let hy = some_set q ops read in
      let held : base.held ≡ join x y =
      replica_is b.base.name other bytes (join x y) base (both_set x y hx hy) (joined_is place x y bytes hx hy joined) is in
      goes_with s b ops base g read legal none (subst IsReadable (sym held) (both_set x y hx hy))
      (λ zs h k. subst (λ (xs : List Operation). HasBooks xs zs) (sym held)
      (books_of_both x y zs (λ book e. h book (some_books p b.base.held book e)) (λ book e. k book (some_books q ops book e))))

  with_next_goes : (unplaced : List (List ℕ)) (b : BegunParts) (there : Option (List ℕ)) (next : BegunParts) → Going s b
      → MayBeBytes there → with_next unplaced b there ≡ Ok next → Going s next
  with_next_goes unplaced b None next g fits e = subst (Going s) (ok_is b next e) g
  with_next_goes unplaced b (Some bytes) next g fits e =
      let a = then_ok (judged places.Next bytes)
      (λ ops. settled_base unplaced b.base.held ops >>= λ base. received places.Next b.replica ops >>= λ r.
      replica_at b.base.name places.Next base >>= λ settled. Ok (begun_of r.after settled b.held)) next e in
      let ops : List Operation = a.0 in
      let read = read_set bytes ops fits (judged_is places.Next bytes ops a.1.0) in
      let c = then_ok (settled_base unplaced b.base.held ops)
      (λ base. received places.Next b.replica ops >>= λ r.
      replica_at b.base.name places.Next base >>= λ settled. Ok (begun_of r.after settled b.held)) next a.1.1 in
      let r = then_ok (received places.Next b.replica ops)
      (λ r. replica_at b.base.name places.Next c.0 >>= λ settled. Ok (begun_of r.after settled b.held)) next c.1.1 in
      let q = then_ok (replica_at b.base.name places.Next c.0) (λ settled. Ok (begun_of r.0.after settled b.held)) next r.1.1 in
      let one = received_is places.Next b.replica ops r.0 r.1.0 in
      lands s (with_ops b.replica ops) q.0 r.0.after b.held next one.1 q.1.1
      (mixed b places.Next places.Next ops (λ o. is_one_of unplaced o.segment.book) (λ o. not (is_one_of unplaced o.segment.book)) c.0 q.0
      g read.0 read.1 one.0 c.1.0 q.1.0)

  -- a folder begins with what is reached
  pub begins_along : (seen : SeenParts) (wishes : WishParts) (b : BegunParts) → IsState s → AllByRecursion AreBytes seen.bases
      → MayBeBytes seen.next → project_at seen.project ≡ Ok s → begun_with seen wishes ≡ Ok b → Going s b
  begins_along seen wishes b state bases next is e =
      let first = begun_of s (begun s.name) (length s.held) in
      let on : (with_bases wishes 0 first seen.bases >>= λ based. with_next seen.unplaced based seen.next) ≡ Ok b =
      ap (λ (r : Result State LoadFault). project_or r >>= λ p.
      with_bases wishes 0 (begun_alone p) seen.bases >>= λ based. with_next seen.unplaced based seen.next)
      (sym is) ∙ e in
      let a = then_ok (with_bases wishes 0 first seen.bases) (λ based. with_next seen.unplaced based seen.next) b on in
      with_next_goes seen.unplaced a.0 seen.next b
      (with_bases_goes wishes 0 first seen.bases a.0
      (record {
        along = along_itself s [] state (λ book h. absurd (false≢true h));
        base = nothing_set;
      }) bases a.1.0) next a.1.1

  -- ---- older bases

  rebased_goes : (b : BegunParts) (place : Place) (was : State) (book : List ℕ) (pieces : List PieceParts) (bytes : List ℕ)
      (next : BegunParts) → Going s b → IsReadable was.held → with_older place b.base.held was.held book pieces ≡ Ok bytes
      → rebased_to b place was bytes ≡ Ok next → Going s next
  rebased_goes b place was book pieces bytes next g known joined e =
      let a = then_ok (judged place (bundle was.held))
      (λ ops. received place b.replica ops >>= λ r.
      replica_at b.base.name place bytes >>= λ base. Ok (begun_of r.after base b.held)) next e in
      let again = read_again was.held a.0 known (judged_is place (bundle was.held) a.0 a.1.0) in
      let r = then_ok (received place b.replica a.0)
      (λ r. replica_at b.base.name place bytes >>= λ base. Ok (begun_of r.after base b.held)) next a.1.1 in
      let q = then_ok (replica_at b.base.name place bytes) (λ base. Ok (begun_of r.0.after base b.held)) next r.1.1 in
      let one = received_is place b.replica a.0 r.0 r.1.0 in
      let none : clash b.replica.held was.held ≡ None = ap (clash b.replica.held) (sym again.0) ∙ one.0 in
      let same : with_ops b.replica was.held ≡ r.0.after = ap (with_ops b.replica) (sym again.0) ∙ one.1 in
      lands s (with_ops b.replica was.held) q.0 r.0.after b.held next same q.1.1
      (mixed b place place was.held (is_by_unlike false b.base.held book pieces) (is_by_unlike true b.base.held book pieces) bytes q.0
      g known again.1 none joined q.1.0)

  -- the base of each file that may be an older one is the older base
  pub rebased_along : (settled : List WantedParts) (b : BegunParts) (older : List State) (files : List FileParts) (next : BegunParts)
      → Going s b → AllByRecursion (λ (t : State). IsReadable t.held) older → rebased settled b older files ≡ Ok next → Going s next
  rebased_along settled b older [] next g known e = subst (Going s) (ok_is b next e) g
  rebased_along settled b older (f ∷ later) next g known e =
      let a = then_ok (rebased_by settled b older f) (λ n. rebased settled n older later) next e in
      let o = then_ok (older_base b.base older f) (rebased_if settled b older f.at) a.0 a.1.0 in
      rebased_along settled a.0 older later next (one o.0 a.0 o.1.0 o.1.1) known a.1.1
    where
      -- by the older base that was chosen, if one was
      one : (o : Option OlderParts) (n : BegunParts) → older_base b.base older f ≡ Ok o → rebased_if settled b older f.at o ≡ Ok n
          → Going s n
      one None n made e = subst (Going s) (ok_is b n e) g
      one (Some o) n made e =
          let m = older_made_by b.base older f.book (text_if f.bytes) o made in
          rebased_goes b (places.Older o.at) (get_or older o.at b.base) f.book m.pieces o.bytes n g
          (chosen older o.at b.base known g.base) m.made
          (unless_refused (is_none_wanted settled) (rebased_to b (places.Older o.at) (get_or older o.at b.base) o.bytes)
          (Of (places.File f.at) faults.SettledEarly) n e)

-- the older bases can be read
pub older_are : (name : List ℕ) (at : ℕ) (before : List State) (bases : List (List ℕ)) (older : List State)
    → AllByRecursion (λ (t : State). IsReadable t.held) before → AllByRecursion AreBytes bases → older_from name at before bases ≡ Ok older
    → AllByRecursion (λ (t : State). IsReadable t.held) older
older_are name at before [] older known fits e =
    subst (AllByRecursion (λ (t : State). IsReadable t.held)) (ok_is before older e) known
older_are name at before (bytes ∷ later) older known fits e =
    let a = then_ok (replica_at name (places.Older at) bytes) (λ t. older_from name (suc at) (before ++ t ∷ []) later) older e in
    let c = then_ok (judged (places.Older at) bytes) (holding name (places.Older at)) a.0 a.1.0 in
    let read = read_set bytes c.0 fits.0 (judged_is (places.Older at) bytes c.0 c.1.0) in
    let held = holds name (places.Older at) c.0 a.0 read.0 c.1.1 in
    older_are name (suc at) (before ++ a.0 ∷ []) later older
    (all_both (λ (t : State). IsReadable t.held) before (a.0 ∷ []) known (subst IsReadable (sym held) read.0, tt)) fits.1 a.1.1
