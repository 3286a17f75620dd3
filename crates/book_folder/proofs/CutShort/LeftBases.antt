-- What is read of the bases of a folder where a sync was cut short.
use Rattle.std.proofs.Common.{◌≡◌, ◌⊎◌, inl, inr, ℕ, not, cond, List, [], ◌∷◌, codes, filter, map, Option, None, Some, Ok, option_to_list, refl, sym, ap, subst, ◌∙◌}
use Rattle.std.specs.List.{AllByRecursion}
use Rattle.std.specs.Option.{is_some}
use Rattle.op_core.specs.OneBook.{ops_of_book}
use Rattle.op_core.specs.Ops.{Operation}
use Rattle.op_core.specs.Sets.{join}
use Rattle.op_core.proofs.Sets.Fronts.{join_none}
use Rattle.bundle_codec.specs.Joining.{whole_at}
use Rattle.bundle_codec.specs.Reading.{AreBytes}
use Rattle.bundle_codec.specs.Spelling.{bundle}
use Rattle.replica_state.specs.States.{State, begun}
use Rattle.book_folder.specs.Begun.{BegunParts, bases_from, begun_alone, is_one_of, joined_at, judged, ops_not_of, ops_of, received, settled, settled_base, union_of, with_base_at, with_bases, with_next}
use Rattle.book_folder.specs.CutShort.{settled_of}
use Rattle.book_folder.specs.Disks.{DiskParts, IsRead, bytes_at, unsettled}
use Rattle.book_folder.specs.DoneAgain.{IsSettledBy}
use Rattle.book_folder.specs.FolderLaws.{MayBeBytes}
use Rattle.book_folder.specs.Refusals.{◌>>=◌}
use Rattle.book_folder.specs.Wanted.{FoundParts, SeenParts, WishParts}
use Rattle.book_folder.specs.declared.refusal.Place.TheVariants as places
use Rattle.book_folder.proofs.CutShort.BaseReceived.{FromBases, base_parts, next_parts, own_settled, NextParts}
use Rattle.book_folder.proofs.CutShort.Names.{is_not_there, is_there}
use Rattle.book_folder.proofs.CutShort.OneBase.{settled_is}
use Rattle.book_folder.proofs.Schedules.BasesReach.{joined_is, judged_is, ok_is, received_is, then_ok}
use Rattle.book_folder.proofs.Schedules.ReadSets.{IsReadable, both_set, read_again, some_set}
use Rattle.book_folder.proofs.SettledBooks.{by_book, joined_apart}
use Rattle.book_folder.proofs.CutShort.Legible.{one_union}

-- the base as it is read, where it is the one that there is
pub union_read : (bytes : List ℕ) (u : State) → ((ops : List Operation) → whole_at bytes ≡ Ok ops → IsReadable ops)
    → union_of (bytes ∷ []) ≡ Ok u → (whole_at bytes ≡ Ok u.held) × IsReadable u.held
union_read bytes u readable e =
    let a = then_ok (judged (places.Base 0) bytes)
    (λ ops. received (places.Base 0) (begun (codes "base")) ops >>= λ r. bases_from 1 r.after []) u e in
    let whole = judged_is (places.Base 0) bytes a.0 a.1.0 in
    let set = readable a.0 whole in
    let r = then_ok (received (places.Base 0) (begun (codes "base")) a.0) (λ r. bases_from 1 r.after []) u a.1.1 in
    let got = received_is (places.Base 0) (begun (codes "base")) a.0 r.0 r.1.0 in
    let held : a.0 ≡ u.held =
    sym (join_none a.0 set.set.rising) ∙ ap (λ (s : State). s.held) (got.1 ∙ ok_is r.0.after u r.1.1) in
    (whole ∙ ap (λ (ops : List Operation). Ok ops) held, subst IsReadable held set)

-- what is read of a set's bundle is the set
pub bundle_readable : (x : List Operation) → IsReadable x → (ops : List Operation) → whole_at (bundle x) ≡ Ok ops → IsReadable ops
bundle_readable x h ops e = subst IsReadable (sym (read_again x ops h e).0) h

pub one_read : (x : List Operation) (u : State) → IsReadable x → union_of (bundle x ∷ []) ≡ Ok u
    → (whole_at (bundle x) ≡ Ok x) × (u.held ≡ x)
one_read x u h e =
    let r = union_read (bundle x) u (bundle_readable x h) e in
    let is = (read_again x u.held h r.0).0 in
    (r.0 ∙ ap (λ (ops : List Operation). Ok ops) is, is)

-- ---- a base that is settled

module _ (unplaced : List (List ℕ)) (base next : List Operation) (hb : IsReadable base) (hn : IsReadable next) where
  abbrev x : List Operation
  x = ops_of unplaced base

  abbrev y : List Operation
  y = ops_not_of unplaced next

  hx : IsReadable x
  hx = some_set (λ o. is_one_of unplaced o.segment.book) base hb

  hy : IsReadable y
  hy = some_set (λ o. not (is_one_of unplaced o.segment.book)) next hn

  pub both : IsReadable (join x y)
  both = both_set x y hx hy

  -- its bytes
  pub settled_bytes : (bytes : List ℕ) → settled_base unplaced base next ≡ Ok bytes → bytes ≡ bundle (join x y)
  settled_bytes bytes e = joined_is places.Next x y bytes hx hy e

  -- book by book
  pub settled_books : (held : List Operation) → IsSettledBy unplaced base next held → (book : List ℕ)
      → ops_of_book held book ≡ cond (is_one_of unplaced book) (ops_of_book base book) (ops_of_book next book)
  settled_books held z book =
      ap (λ (ops : List Operation). ops_of_book ops book) (settled_is unplaced base next held z.bytes hb hn z.joined z.read).0
      ∙ by_book unplaced base next book hb.set.rising hn.set.rising (joined_apart places.Next x y z.bytes hx hy z.joined)

  -- by the bytes of both
  pub settled_by : (bytes : List ℕ) → settled (bundle base ∷ []) (bundle next) unplaced ≡ Ok bytes
      → settled_base unplaced base next ≡ Ok bytes
  settled_by bytes e =
      let v = then_ok (union_of (bundle base ∷ [])) (λ b. judged places.Next (bundle next) >>= settled_base unplaced b.held) bytes e in
      let a = then_ok (judged places.Next (bundle next)) (settled_base unplaced v.0.held) bytes v.1.1 in
      let first = (one_read base v.0 hb v.1.0).1 in
      let last = (read_again next a.0 hn (judged_is places.Next (bundle next) a.0 a.1.0)).0 in
      (λ i. settled_base unplaced (sym first i) (sym last i)) ∙ a.1.1

-- ---- the base before

module _ (seen : SeenParts) (wishes : WishParts) (s : State) (b : BegunParts) (from : FromBases seen wishes s b) (d : DiskParts)
    (read : IsRead seen d) (fits : AllByRecursion AreBytes seen.bases) (next_fits : MayBeBytes seen.next) where
  -- the base that stood there is what the folder begins with, or none did
  pub old_base : ((bytes : List ℕ) × (seen.bases ≡ bytes ∷ []) × (whole_at bytes ≡ Ok from.based.base.held))
      ⊎ (seen.bases ≡ []) × (from.based.base.held ≡ [])
  old_base = by d.base read.bases
    where
      begins : (bases : List (List ℕ)) → seen.bases ≡ bases → with_bases wishes 0 (begun_alone s) bases ≡ Ok from.based
      begins bases e = ap (with_bases wishes 0 (begun_alone s)) (sym e) ∙ from.bases

      by : (base : Option (List ℕ)) → seen.bases ≡ option_to_list base
          → ((bytes : List ℕ) × (seen.bases ≡ bytes ∷ []) × (whole_at bytes ≡ Ok from.based.base.held))
          ⊎ (seen.bases ≡ []) × (from.based.base.held ≡ [])
      by None e = inr (e, ap (λ (x : BegunParts). x.base.held) (sym (ok_is (begun_alone s) from.based (begins [] e))))
      by (Some bytes) e =
          let a = then_ok (with_base_at wishes (places.Base 0) (begun_alone s) bytes) (λ n. with_bases wishes 1 n []) from.based
          (begins (bytes ∷ []) e) in
          let h = base_parts wishes (places.Base 0) (begun_alone s) bytes a.0 (subst (AllByRecursion AreBytes) e fits).0 a.1.0 in
          let held : h.ops ≡ from.based.base.held =
          sym (join_none h.ops h.set.set.rising) ∙ ap (λ (x : BegunParts). x.base.held) (h.is ∙ ok_is a.0 from.based a.1.1) in
          inl (bytes, e, judged_is (places.Base 0) bytes h.ops h.read ∙ ap (λ (ops : List Operation). Ok ops) held)

  -- the union of the bases is what the folder begins with
  old_union : (v : State) → union_of (option_to_list d.base) ≡ Ok v → v.held ≡ from.based.base.held
  old_union v e =
      by d.base (subst (AllByRecursion AreBytes) read.bases fits)
      (ap (with_bases wishes 0 (begun_alone s)) (sym read.bases) ∙ from.bases) e
    where
      by : (base : Option (List ℕ)) → AllByRecursion AreBytes (option_to_list base)
          → with_bases wishes 0 (begun_alone s) (option_to_list base) ≡ Ok from.based → union_of (option_to_list base) ≡ Ok v
          → v.held ≡ from.based.base.held
      by None fits e f =
          ap (λ (t : State). t.held) (sym (ok_is (begun (codes "base")) v f))
          ∙ ap (λ (x : BegunParts). x.base.held) (ok_is (begun_alone s) from.based e)
      by (Some bytes) fits e f =
          let a = then_ok (with_base_at wishes (places.Base 0) (begun_alone s) bytes) (λ n. with_bases wishes 1 n []) from.based e in
          let h = base_parts wishes (places.Base 0) (begun_alone s) bytes a.0 fits.0 a.1.0 in
          let c = then_ok (judged (places.Base 0) bytes)
          (λ ops. received (places.Base 0) (begun (codes "base")) ops >>= λ r. bases_from 1 r.after []) v f in
          let r = then_ok (received (places.Base 0) (begun (codes "base")) c.0) (λ r. bases_from 1 r.after []) v c.1.1 in
          let got = received_is (places.Base 0) (begun (codes "base")) c.0 r.0 r.1.0 in
          let same : c.0 ≡ h.ops = ok_is c.0 h.ops (sym c.1.0 ∙ h.read) in
          ap (λ (t : State). t.held) (sym (got.1 ∙ ok_is r.0.after v r.1.1)) ∙ ap (join []) same
          ∙ ap (λ (x : BegunParts). x.base.held) (h.is ∙ ok_is a.0 from.based a.1.1)

  -- a book's new file stands there, or it does not
  alike : (book : List ℕ) → is_one_of seen.unplaced book ≡ is_one_of (map (λ f. f.name) d.new) book
  alike book = read.unplaced book ∙ by (bytes_at d.new book) refl
    where
      by : (r : Option (List ℕ)) → bytes_at d.new book ≡ r → is_some r ≡ is_one_of (map (λ f. f.name) d.new) book
      by None e = sym (is_not_there d.new book e)
      by (Some bytes) e = sym (is_there d.new book bytes e)

  settled_old : (n bytes : List ℕ) → seen.next ≡ Some n → settled (option_to_list d.base) n (map (λ f. f.name) d.new) ≡ Ok bytes
      → bytes ≡ bundle b.base.held
  settled_old n bytes there g =
      let base = from.based.base.held in
      let fits : AreBytes n = subst MayBeBytes there next_fits in
      let h = next_parts seen.unplaced from.based n b fits (ap (with_next seen.unplaced from.based) (sym there) ∙ from.next) in
      let own = own_settled seen.unplaced from.based n b from.first_grows.received h in
      let left : List (List ℕ) = map (λ (f : FoundParts). f.name) d.new in
      let v = then_ok (union_of (option_to_list d.base)) (λ x. judged places.Next n >>= settled_base left x.held) bytes g in
      let a = then_ok (judged places.Next n) (settled_base left v.0.held) bytes v.1.1 in
      let same : a.0 ≡ h.ops = ok_is a.0 h.ops (sym a.1.0 ∙ h.read) in
      let old = old_union v.0 v.1.0 in
      let joined : settled_base seen.unplaced base h.ops ≡ Ok bytes =
      (λ i. joined_at places.Next (filter (λ o. alike o.segment.book i) (sym old i))
      (filter (λ o. not (alike o.segment.book i)) (sym same i))) ∙ a.1.1 in
      settled_bytes seen.unplaced base h.ops from.first_grows.received.readable h.set bytes joined
      ∙ ap (λ (t : State). bundle t.held) own.0

  -- where a next one stands, it is settled
  pub old_settles : (n : List ℕ) → d.next ≡ Some n
      → (bytes : List ℕ) × (settled (option_to_list d.base) n (map (λ f. f.name) d.new) ≡ Ok bytes)
  old_settles n is = (
    h.settled,
    ap (λ r. r >>= λ b. judged places.Next n >>= settled_base left b.held) there.1
        ∙ ap (λ r. r >>= settled_base left there.0.held) h.read
        ∙ ap (λ (ops : List Operation). settled_base left ops h.ops) there.2
        ∙ (λ i. joined_at places.Next (filter (λ o. sym (alike o.segment.book) i) base)
        (filter (λ o. not (sym (alike o.segment.book) i)) h.ops))
        ∙ h.joined,
  )
    where
      base : List Operation
      base = from.based.base.held

      left : List (List ℕ)
      left = map (λ (f : FoundParts). f.name) d.new

      next : seen.next ≡ Some n
      next = read.next ∙ is

      h : NextParts seen.unplaced from.based n b
      h = next_parts seen.unplaced from.based n b (subst MayBeBytes next next_fits)
          (ap (with_next seen.unplaced from.based) (sym next) ∙ from.next)

      there : (v : State) × (union_of (option_to_list d.base) ≡ Ok v) × (v.held ≡ base)
      there = elim old_base [
        | inl r ↦ (
          record { name = codes "base"; held = base },
          ap union_of (sym read.bases ∙ r.1) ∙ one_union r.0 base from.first_grows.received.base.set.rising r.2,
          refl,
        )
        | inr r ↦ (begun (codes "base"), ap union_of (sym read.bases ∙ r.0), sym r.1)
      ]

  -- what a settled base is: the base that stood there, where no next one did; or what the folder begins with
  pub settled_stands : (base : Option (List ℕ)) → settled_of d d.next ≡ Ok base
      → (base ≡ d.base) × (d.next ≡ None) ⊎ (base ≡ Some (bundle b.base.held))
  settled_stands base e = by d.next refl e
    where
      by : (n : Option (List ℕ)) → d.next ≡ n → settled_of d n ≡ Ok base
          → (base ≡ d.base) × (d.next ≡ None) ⊎ (base ≡ Some (bundle b.base.held))
      by None none f = inl (sym (ok_is d.base base f), none)
      by (Some n) there f =
          let a = then_ok (settled (option_to_list d.base) n (unsettled d).unplaced) (λ bytes. Ok (Some bytes)) base f in
          inr (sym (ok_is (Some a.0) base a.1.1) ∙ ap Some (settled_old n a.0 (read.next ∙ there) a.1.0))
