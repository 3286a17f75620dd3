-- What older sets show in some segments.
use Rattle.std.proofs.Common.{◌≡◌, ℕ, ◌+◌, ◌<◌, Bool, true, false, cond, not, ◌&&◌, ◌||◌, List, [], ◌∷◌, ◌++◌, length, take, get_or, Some, None, rules, refl, sym, ap, subst, ◌∙◌}
use Rattle.std.specs.BTreeMap.{is_at}
use Rattle.std.specs.BTreeSet.{BTreeSet, contains}
use Rattle.std.specs.Cmp.{both_ways, tied_itself, Equal-is}
use Rattle.std.specs.List.{list_any}
use Rattle.std.specs.Option.{unwrap_or}
use Rattle.std.specs.Ordering.{is_eq}
use Rattle.std.specs.declared.cmp.Ordering.{Ordering}
use Rattle.std.proofs.lemmas.List.{take_more}
use Rattle.std.proofs.lemmas.List.Folds.{list_any-append}
use Rattle.std.proofs.Math.Bool.{or-false}
use Rattle.usfm_ref.specs.Books.{book_cmp, same_bytes}
use Rattle.usfm_ref.specs.contracts.book.BookOrd.TheImpl as ordered
use Rattle.usfm_ref.specs.declared.segment.Segment.{Segment}
use Rattle.usfm_ref.proofs.Orders.{same_bytes-is, same_bytes-refl, book_total, book_exact}
use Rattle.op_core.specs.Export.{has_book}
use Rattle.op_core.specs.Ids.{Id, id_cmp, same_id}
use Rattle.op_core.specs.Lists.{is_held, ids_of}
use Rattle.op_core.specs.Ops.{Operation}
use Rattle.op_core.specs.Shown.{shown}
use Rattle.op_core.proofs.FilteredLists.{any_map}
use Rattle.segment_history.specs.Histories.{of_segment}
use Rattle.segment_history.specs.Loops.Gathering.{ops_of, HasSegments}
use Rattle.segment_history.proofs.Gathers.{at_id}
use Rattle.segment_history.proofs.ShownLists.{shown_unnamed}
use Rattle.sync_changes.specs.Loops.Parts.{HasBooks, HasIds, lacks, HasOlder, is_absent, unnamed}
use Rattle.sync_changes.specs.declared.older.Older.{Older}

-- a test of one item more
pub any_more : {X : Type 0} (p : X → Bool) (xs : List X) (i : ℕ) (x : X) → i < length xs → x ≡ get_or xs i x
    → list_any p (take (i + 1) xs) ≡ (list_any p (take i xs) || p x)
any_more {X} p xs i x l is =
    ap (list_any p) (take_more xs i x l ∙ ap (λ (y : X). take i xs ++ y ∷ []) (sym is))
    ∙ list_any-append p (take i xs) (x ∷ []) ∙ ap (λ b. list_any p (take i xs) || b) (or-false (p x))

pub any_pushed : {X : Type 0} (p : X → Bool) (xs more : List X) (x : X) → more ≡ xs ++ x ∷ []
    → list_any p more ≡ (list_any p xs || p x)
any_pushed {X} p xs more x pushed =
    ap (list_any p) pushed ∙ list_any-append p xs (x ∷ []) ∙ ap (λ b. list_any p xs || b) (or-false (p x))

-- ---- books

pub cmp_is : ordered.ghosts.cmp ≡ book_cmp
cmp_is i a b = same a b i
  where
    same : (a b : List ℕ) → ordered.ghosts.cmp a b ≡ book_cmp a b
    same a b = search rules

at_book : (a b : List ℕ) → is_at (book_cmp a) b ≡ same_bytes a b
at_book a b = both_ways (is_eq (book_cmp a b)) (same_bytes a b)
    (λ h. subst (λ (c : List ℕ). same_bytes a c ≡ true) (book_exact a b ((Equal-is _).0 h)) (same_bytes-refl a))
    (λ h. subst (λ (c : List ℕ). is_eq (book_cmp a c) ≡ true) (same_bytes-is a b h) (ap is_eq (tied_itself book_total a)))

pub books_more : (it rest held : List Operation) (o : Operation) (b : List ℕ) (s t : BTreeSet (List ℕ)) → it ≡ o ∷ rest
    → b ≡ o.segment.book
    → ((q : List ℕ) → contains ordered.ghosts.cmp t q ≡ cond (is_at (ordered.ghosts.cmp b) q) true (contains ordered.ghosts.cmp s q))
    → ((q : List ℕ) → (contains book_cmp s q || has_book it q) ≡ has_book held q)
    → (q : List ℕ) → (contains book_cmp t q || has_book rest q) ≡ has_book held q
books_more it rest held o b s t next is updates so q =
    ap (λ x. x || has_book rest q) (updated q ∙ ap (λ x. cond x true (contains book_cmp s q))
    (at_book b q ∙ ap (λ (c : List ℕ). same_bytes c q) is))
    ∙ by (same_bytes o.segment.book q) (contains book_cmp s q) (has_book rest q)
    ∙ ap (λ (os : List Operation). contains book_cmp s q || has_book os q) (sym next) ∙ so q
  where
    updated : (r : List ℕ) → contains book_cmp t r ≡ cond (is_at (book_cmp b) r) true (contains book_cmp s r)
    updated r = subst (λ (cmp : List ℕ → List ℕ → Ordering). contains cmp t r ≡ cond (is_at (cmp b) r) true (contains cmp s r)) cmp_is
        (updates r)

    by : (x c r : Bool) → (cond x true c || r) ≡ (c || (x || r))
    by true true r = refl
    by true false r = refl
    by false c r = refl

pub books_all : (it held : List Operation) (s : BTreeSet (List ℕ)) → it ≡ []
    → ((q : List ℕ) → (contains book_cmp s q || has_book it q) ≡ has_book held q) → HasBooks held s
books_all it held s end so q =
    sym (or-false (contains book_cmp s q)) ∙ ap (λ (os : List Operation). contains book_cmp s q || has_book os q) (sym end) ∙ so q

-- ---- ids

pub set_more : (ids : List Id) (i : ℕ) (id : Id) (s t : BTreeSet Id) → i < length ids → id ≡ get_or ids i id
    → ((q : Id) → contains id_cmp t q ≡ cond (is_at (id_cmp id) q) true (contains id_cmp s q))
    → ((q : Id) → contains id_cmp s q ≡ list_any (same_id q) (take i ids))
    → (q : Id) → contains id_cmp t q ≡ list_any (same_id q) (take (i + 1) ids)
set_more ids i id s t l is updates so q =
    updates q ∙ (λ j. cond (at_id q id j) true (so q j)) ∙ by (same_id q id) (list_any (same_id q) (take i ids))
    ∙ sym (any_more (same_id q) ids i id l is)
  where
    by : (x c : Bool) → cond x true c ≡ (c || x)
    by true true = refl
    by true false = refl
    by false true = refl
    by false false = refl

pub absent_more : (g : Segment) (olds : List Older) (i : ℕ) (old : Older) (s t : List (BTreeSet Id)) → i < length olds
    → old ≡ get_or olds i old → ((id : Id) → is_absent t id ≡ (is_absent s id || lacks g id old))
    → ((id : Id) → is_absent s id ≡ list_any (lacks g id) (take i olds))
    → (id : Id) → is_absent t id ≡ list_any (lacks g id) (take (i + 1) olds)
absent_more g olds i old s t l is more so id =
    more id ∙ ap (λ b. b || lacks g id old) (so id) ∙ sym (any_more (lacks g id) olds i old l is)

-- ---- older sets

pub older_more : (older : List (List Operation)) (segments : List Segment) (i : ℕ) (held : List Operation) (old : Older)
    (olds more : List Older) → i < length older → held ≡ get_or older i held → HasBooks held old.books
    → HasSegments held segments old.gathered → more ≡ olds ++ old ∷ [] → HasOlder (take i older) segments olds
    → HasOlder (take (i + 1) older) segments more
older_more older segments i held old olds more l is books has pushed so g id among =
    any_pushed (lacks g id) olds more old pushed
    ∙ (λ j. so g id among j || (books g.book j && not (is_held (ops j) id)))
    ∙ sym (any_more (λ (b : List Operation). has_book b g.book && not (is_held (shown b g) id)) older i held l is)
  where
    ops : unnamed (ops_of old.gathered g) ≡ shown held g
    ops = ap (λ u. unnamed (unwrap_or u [])) (has g ∙ ap (λ b. cond b (Some (of_segment held g)) None) among)
        ∙ sym (shown_unnamed held g)

-- ---- what one older set shows

module _ (g : Segment) (old : Older) (s : List (BTreeSet Id)) where
  pub shown_not : not (contains book_cmp old.books g.book) ≡ true
      → (id : Id) → is_absent s id ≡ (is_absent s id || lacks g id old)
  shown_not none id = by (contains book_cmp old.books g.book) none
    where
      by : (b : Bool) → not b ≡ true → is_absent s id ≡ (is_absent s id || (b && not (is_held (unnamed (ops_of old.gathered g)) id)))
      by true e = cc
      by false e = sym (or-false (is_absent s id))

  pub shown_more : (more : List (BTreeSet Id)) (set : BTreeSet Id) (ids : List Id) → not (contains book_cmp old.books g.book) ≡ false
      → ids ≡ ids_of (unnamed (ops_of old.gathered g)) → HasIds ids set → more ≡ s ++ set ∷ []
      → (id : Id) → is_absent more id ≡ (is_absent s id || lacks g id old)
  shown_more more set ids some are has pushed id =
      any_pushed (λ (t : BTreeSet Id). not (contains id_cmp t id)) s more set pushed
      ∙ ap (λ b. is_absent s id || not b)
      (has id ∙ ap (list_any (same_id id)) are ∙ any_map (same_id id) (λ (o : Operation). o.id) (unnamed (ops_of old.gathered g)))
      ∙ by (contains book_cmp old.books g.book) some
    where
      by : (b : Bool) → not b ≡ false
          → (is_absent s id || not (is_held (unnamed (ops_of old.gathered g)) id))
          ≡ (is_absent s id || (b && not (is_held (unnamed (ops_of old.gathered g)) id)))
      by true e = refl
      by false e = cc
