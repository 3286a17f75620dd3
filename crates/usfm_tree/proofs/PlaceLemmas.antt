-- Where the entries of a tree are.
use Rattle.std.proofs.Common.{◌≡◌, ℕ, zero, suc, ◌+◌, ◌-◌, Bool, true, false, cond, List, [], ◌∷◌, ◌++◌, length, take, drop, Option, None, Some, sym, refl, ap, ◌∙◌, subst, arith, append_assoc, append-nil, length-append}
use Rattle.std.specs.Prelude.{nat_lt, ◌==◌, option_and_then, unwrap_or}
use Rattle.std.proofs.Math.Seq.{take-append_seam, drop-append_seam}
use Rattle.std.specs.Option.{option_map, IfSome}
use Rattle.usfm_token.specs.Tokens.{MarkParts, Lexeme, mark, words, mark_bytes, slice_of, tokens_of}
use Rattle.sty_sheet.specs.declared.kind.StyleKind.{StyleKind}
use Rattle.sty_sheet.specs.declared.kind.StyleKind.TheVariants as kinds
use Rattle.usfm_tree.specs.Forest.{Forest, nothing, text, leaf, node, spanning, bytes_of, close_bytes, span_bytes, start_of, slice_here, kids_of, entry_at, part_at}
use Rattle.usfm_tree.specs.Places.{Runs, StandsIn, PartsStand}
use Rattle.usfm_tree.specs.Reading.{Styles, Placed, placed, Role, plain, alone, spans, opens, closes, role_bytes, role, Open, ended, Closed, close_by, closed_by, take_close, Taken, take_bare, milestone_at, milestone_takes, Taken_none, bare, is_bare_close, Read, followed, spanned, opened, open_of, has_room, enter, kids, tree_of}
use Rattle.usfm_tree.proofs.LeavesLemmas.{role_slice, bare_slice}
use Rattle.usfm_tree.proofs.SpanLemmas.{span_is, bytes_then}

-- tokens that come one after another from n on
abbrev Placing : ℕ → List Placed → Type 0
Placing n [] = Unit {0}
Placing n (t ∷ l) = (t.start ≡ n) × Placing (n + length (slice_of t.token)) l

placing_at : (n k : ℕ) (l : List Placed) → n ≡ k → Placing n l → Placing k l
placing_at n k l e h = let F : ℕ → Type 0 = λ x. Placing x l in subst F e h

-- nodes that run on from a place do so from one that is equal
pub runs_at : (n k : ℕ) (f : Forest) → n ≡ k → Runs n f → Runs k f
runs_at n k f e h = let F : ℕ → Type 0 = λ x. Runs x f in subst F e h

placed_places : (n : ℕ) (ts : List Lexeme) → Placing n (placed n ts)
placed_places n [] = tt
placed_places n (t ∷ ts) = (refl, placed_places (n + length (slice_of t)) ts)

abbrev ClosePlaces : ℕ → Closed → Type 0
ClosePlaces n c = Placing (n + length (close_bytes c.0)) c.1

either_close : (n : ℕ) (b : Bool) (x y : Closed) → ClosePlaces n x → ClosePlaces n y → ClosePlaces n (cond b x y)
either_close n true x y p q = p
either_close n false x y p q = q

close_by_places : (n : ℕ) (os : List Open) (t : Placed) (l : List Placed) (r : Role) → role_bytes r ≡ slice_of t.token → Placing n (t ∷ l)
    → ClosePlaces n (close_by os t l r)
close_by_places n os t l (plain b) is h = placing_at n (n + 0) (t ∷ l) (omega arith) h
close_by_places n os t l (alone m) is h = placing_at n (n + 0) (t ∷ l) (omega arith) h
close_by_places n os t l (spans m) is h = placing_at n (n + 0) (t ∷ l) (omega arith) h
close_by_places n os t l (opens k c m) is h = placing_at n (n + 0) (t ∷ l) (omega arith) h
close_by_places n os t l (closes m) is h =
    either_close n (closed_by m os == 1) (Some m, l) (None, t ∷ l)
    (placing_at _ _ l (ap (λ b. n + length b) (sym is)) h.1) (placing_at n (n + 0) (t ∷ l) (omega arith) h)

take_close_places : (n : ℕ) (styles : Styles) (os : List Open) (l : List Placed) → Placing n l → ClosePlaces n (take_close styles os l)
take_close_places n styles os [] h = tt
take_close_places n styles os (t ∷ l) h = close_by_places n os t l (role styles t.token) (role_slice styles t.token) h

-- what a milestone takes from n on
abbrev TakenPlaces : ℕ → Taken → Type 0
TakenPlaces n t = Runs n t.kids × Placing (n + (length (bytes_of t.kids) + length (close_bytes t.close))) t.rest

either_taken : (n : ℕ) (b : Bool) (x y : Taken) → TakenPlaces n x → TakenPlaces n y → TakenPlaces n (cond b x y)
either_taken n true x y p q = p
either_taken n false x y p q = q

none_places : (n : ℕ) (l : List Placed) → Placing n l → TakenPlaces n (Taken_none l)
none_places n l h = (tt, placing_at n (n + 0) l (omega arith) h)

take_bare_places : (n : ℕ) (whole : List Placed) (f : Forest) (l : List Placed) → Placing n whole → Runs n f
    → Placing (n + length (bytes_of f)) l → TakenPlaces n (take_bare whole f l)
take_bare_places n whole f [] w r h = none_places n whole w
take_bare_places n whole f (t ∷ l) w r h = by_test (is_bare_close t.token) refl
  where
    by_test : (b : Bool) → is_bare_close t.token ≡ b
        → TakenPlaces n (cond b (record { kids = f; close = Some bare; rest = l }) (Taken_none whole))
    by_test true e =
        (r, placing_at _ _ l (let len : length (slice_of t.token) ≡ 2 = ap length (bare_slice t.token e) in omega (arith, len)) h.1)
    by_test false e = none_places n whole w

milestone_at_places : (n : ℕ) (t : Placed) (x : Lexeme) (l : List Placed) → t.token ≡ x → Placing n (t ∷ l)
    → TakenPlaces n (milestone_at t.start (t ∷ l) x l)
milestone_at_places n t (words b) l e h =
    take_bare_places n (t ∷ l) (text t.start b nothing) l h (h.0, tt)
    (placing_at _ _ l (ap (λ y. n + length (slice_of y)) e ∙ ap (λ y. n + length y) (sym (append-nil b))) h.1)
milestone_at_places n t (mark m) l e h = take_bare_places n (t ∷ l) nothing (t ∷ l) h tt (placing_at n (n + 0) (t ∷ l) (omega arith) h)

milestone_places : (n : ℕ) (l : List Placed) → Placing n l → TakenPlaces n (milestone_takes l)
milestone_places n [] h = (tt, tt)
milestone_places n (t ∷ l) h = milestone_at_places n t t.token l refl h

abbrev ReadPlaces : ℕ → Read → Type 0
ReadPlaces n r = Runs n r.0 × Placing (n + length (bytes_of r.0)) r.1

abbrev Places : (List Open → List Placed → Read) → Type 0
Places go = (os : List Open) (n : ℕ) (l : List Placed) → Placing n l → ReadPlaces n (go os l)

either_places : (n : ℕ) (b : Bool) (x y : Read) → ReadPlaces n x → ReadPlaces n y → ReadPlaces n (cond b x y)
either_places n true x y p q = p
either_places n false x y p q = q

-- one entry of these bytes, then what is read after it
one_text : (n : ℕ) (t : Placed) (b : List ℕ) (after : Read) → b ≡ slice_of t.token → t.start ≡ n
    → ReadPlaces (n + length (slice_of t.token)) after → ReadPlaces n (followed (text t.start b) after)
one_text n t b after is at h = (
  (at, runs_at _ _ after.0 (ap (λ x. n + length x) (sym is)) h.0),
  placing_at _ _ after.1 (omega (arith, ap length is, length-append b (bytes_of after.0))) h.1,
)

one_leaf : (n : ℕ) (t : Placed) (m : MarkParts) (after : Read) → mark_bytes m ≡ slice_of t.token → t.start ≡ n
    → ReadPlaces (n + length (slice_of t.token)) after → ReadPlaces n (followed (leaf t.start m) after)
one_leaf n t m after is at h = (
  (at, runs_at _ _ after.0 (ap (λ x. n + length x) (sym is)) h.0),
  placing_at _ _ after.1 (let len = ap length is in let all = length-append (mark_bytes m) (bytes_of after.0) in omega
      (arith, len, all)) h.1,
)

span_length : (m : MarkParts) (ks : Forest) (c : Option MarkParts)
    → length (span_bytes m ks c) ≡ length (mark_bytes m) + (length (bytes_of ks) + length (close_bytes c))
span_length m ks c = length-append (mark_bytes m) (bytes_of ks ++ close_bytes c)
    ∙ ap (λ x. length (mark_bytes m) + x) (length-append (bytes_of ks) (close_bytes c))

one_node : (n : ℕ) (k : StyleKind) (t : Placed) (m : MarkParts) (ks : Forest) (c : Option MarkParts) (after : Read)
    → mark_bytes m ≡ slice_of t.token → t.start ≡ n → Runs (n + length (slice_of t.token)) ks
    → ReadPlaces (n + length (slice_of t.token) + (length (bytes_of ks) + length (close_bytes c))) after
    → ReadPlaces n (followed (spanning k t.start m ks c) after)
one_node n k t m ks c after is at inside h =
    let b = span_bytes m ks c in
    let len : length b ≡ length (slice_of t.token) + (length (bytes_of ks) + length (close_bytes c)) = span_length m ks c
    ∙ ap (λ x. length x + (length (bytes_of ks) + length (close_bytes c))) is in
    let whole : length (bytes_of (node k t.start b m ks c after.0)) ≡ length b + length (bytes_of after.0) =
    ap length (bytes_then (node k t.start b m ks c nothing) after.0 ∙ ap (λ x. x ++ bytes_of after.0) (span_is k t.start b m ks c))
    ∙ length-append b (bytes_of after.0)
    in (
      (at, refl, runs_at _ _ ks (ap (λ x. n + length x) (sym is)) inside, runs_at _ _ after.0 (omega (arith, len)) h.0),
      placing_at _ _ after.1 (omega (arith, len, whole)) h.1,
    )

enter_places : (n : ℕ) (styles : Styles) (go : List Open → List Placed → Read) (os : List Open) (t : Placed) (l : List Placed) (r : Role)
    → Places go → role_bytes r ≡ slice_of t.token → Placing n (t ∷ l) → ReadPlaces n (enter styles go os t l r)
enter_places n styles go os t l (plain b) h is p = one_text n t b (go os l) is p.0 (h os _ l p.1)
enter_places n styles go os t l (alone m) h is p = one_leaf n t m (go os l) is p.0 (h os _ l p.1)
enter_places n styles go os t l (closes m) h is p = one_leaf n t m (go os l) is p.0 (h os _ l p.1)
enter_places n styles go os t l (spans m) h is p =
    let taken = milestone_takes l in
    let q = milestone_places (n + length (slice_of t.token)) l p.1 in
    either_places n (has_room os) (spanned go os t m taken) (followed (leaf t.start m) (go os l))
    (one_node n kinds.Milestone t m taken.kids taken.close (go os taken.rest) is p.0 q.0 (h os _ taken.rest q.1))
    (one_leaf n t m (go os l) is p.0 (h os _ l p.1))
enter_places n styles go os t l (opens k c m) h is p =
    let inside = open_of k c m ∷ os in
    let inner = go inside l in
    let closed = take_close styles inside inner.1 in
    let q = h inside (n + length (slice_of t.token)) l p.1 in
    either_places n (has_room os) (opened styles go (open_of k c m) os t m inner) (followed (leaf t.start m) (go os l))
    (one_node n k t m inner.0 closed.0 (go os closed.1) is p.0 q.0
    (h os _ closed.1 (placing_at _ _ closed.1 (omega arith)
    (take_close_places (n + length (slice_of t.token) + length (bytes_of inner.0)) styles inside inner.1 q.1))))
    (one_leaf n t m (go os l) is p.0 (h os _ l p.1))

kids_places : (styles : Styles) (k : ℕ) → Places (kids styles k)
unfolding kids
kids_places styles zero os n l p = (tt, placing_at n (n + 0) l (omega arith) p)
kids_places styles (suc k) os n [] p = (tt, tt)
kids_places styles (suc k) os n (t ∷ l) p =
    either_places n (nat_lt 0 (ended os (role styles t.token))) (nothing, t ∷ l) (enter styles (kids styles k) os t l (role styles t.token))
    (tt, placing_at n (n + 0) (t ∷ l) (omega arith) p)
    (enter_places n styles (kids styles k) os t l (role styles t.token) (kids_places styles k) (role_slice styles t.token) p)

-- the entries of a tree come one after another
pub tree_runs : (styles : Styles) (s : List ℕ) → Runs 0 (tree_of styles s)
unfolding tree_of
tree_runs styles s = let l = placed 0 (tokens_of s) in (kids_places styles (suc (length l)) [] 0 l (placed_places 0 (tokens_of s))).0

-- Within a text.

abbrev Within : List ℕ → Forest → Type 0
Within s f = (a : List ℕ) × (b : List ℕ) × (s ≡ a ++ (bytes_of f ++ b)) × Runs (length a) f

-- an entry, and its kids, within the text
abbrev Stands : List ℕ → Forest → Type 0
Stands s g = (a : List ℕ) × (b : List ℕ) × (s ≡ a ++ (slice_here g ++ b)) × (start_of g ≡ length a) × Within s (kids_of g)

-- past an entry of the bytes x
pub past : (s a x y b : List ℕ) → s ≡ a ++ ((x ++ y) ++ b) → s ≡ (a ++ x) ++ (y ++ b)
past s a x y b h = h ∙ ap (λ z. a ++ z) (append_assoc x y b) ∙ sym (append_assoc a x (y ++ b))

here : (s a x y b : List ℕ) → s ≡ a ++ ((x ++ y) ++ b) → s ≡ a ++ (x ++ (y ++ b))
here s a x y b h = h ∙ ap (λ z. a ++ z) (append_assoc x y b)

nothing_within : (s : List ℕ) → Within s nothing
nothing_within s = ([], s, refl, tt)

same_some : (f g : Forest) → Some f ≡ Some g → f ≡ g
same_some f g e = ap (λ o. unwrap_or o f) e

entry_stands : (s : List ℕ) (f : Forest) (i : ℕ) (g : Forest) → Within s f → entry_at i f ≡ Some g → Stands s g
entry_stands s nothing zero g h e = absurd (cc)
entry_stands s nothing (suc i) g h e = absurd (cc)
entry_stands s (text n t f) zero g (a, b, is, runs) e =
    subst (Stands s) (same_some _ _ e) (a, bytes_of f ++ b, here s a t (bytes_of f) b is, runs.0, nothing_within s)
entry_stands s (text n t f) (suc i) g (a, b, is, runs) e =
    entry_stands s f i g (a ++ t, b, past s a t (bytes_of f) b is, runs_at _ _ f (sym (length-append a t)) runs.1) e
entry_stands s (leaf n m f) zero g (a, b, is, runs) e =
    subst (Stands s) (same_some _ _ e) (a, bytes_of f ++ b, here s a (mark_bytes m) (bytes_of f) b is, runs.0, nothing_within s)
entry_stands s (leaf n m f) (suc i) g (a, b, is, runs) e =
    entry_stands s f i g (
      a ++ mark_bytes m,
      b,
      past s a (mark_bytes m) (bytes_of f) b is,
      runs_at _ _ f
          (sym (length-append a (mark_bytes m))) runs.1,
    ) e
entry_stands s (node k n x m ks c f) zero g (a, b, is, runs) e =
    let joined : bytes_of (node k n x m ks c f) ≡ x ++ bytes_of f = bytes_then (node k n x m ks c nothing) f
    ∙ ap (λ z. z ++ bytes_of f) (span_is k n x m ks c ∙ sym runs.1) in
    let at : s ≡ a ++ ((x ++ bytes_of f) ++ b) = is ∙ ap (λ z. a ++ (z ++ b)) joined in
    let inside : s ≡ (a ++ mark_bytes m) ++ (bytes_of ks ++ (close_bytes c ++ (bytes_of f ++ b))) =
    here s a x (bytes_of f) b at ∙ ap (λ z. a ++ (z ++ (bytes_of f ++ b))) runs.1
    ∙ ap (λ z. a ++ z) (append_assoc (mark_bytes m) (bytes_of ks ++ close_bytes c) (bytes_of f ++ b))
    ∙ sym (append_assoc a (mark_bytes m) ((bytes_of ks ++ close_bytes c) ++ (bytes_of f ++ b)))
    ∙ ap (λ z. (a ++ mark_bytes m) ++ z) (append_assoc (bytes_of ks) (close_bytes c) (bytes_of f ++ b))
    in
    subst (Stands s) (same_some _ _ e) (
      a,
      bytes_of f ++ b,
      here s a x (bytes_of f) b at,
      runs.0,
      (a ++ mark_bytes m, close_bytes c ++ (bytes_of f ++ b), inside, runs_at _ _ ks (sym (length-append a (mark_bytes m))) runs.2),
    )
entry_stands s (node k n x m ks c f) (suc i) g (a, b, is, runs) e =
    let joined : bytes_of (node k n x m ks c f) ≡ x ++ bytes_of f = bytes_then (node k n x m ks c nothing) f
    ∙ ap (λ z. z ++ bytes_of f) (span_is k n x m ks c ∙ sym runs.1) in
    let at : s ≡ a ++ ((x ++ bytes_of f) ++ b) = is ∙ ap (λ z. a ++ (z ++ b)) joined in
    entry_stands s f i g (a ++ x, b, past s a x (bytes_of f) b at, runs_at _ _ f (sym (length-append a x)) runs.3) e

part_stands : (s : List ℕ) (path : List ℕ) (f g : Forest) → Within s f → part_at path f ≡ Some g → Stands s g
part_stands s [] f g h e = absurd (cc)
part_stands s (i ∷ []) f g h e = entry_stands s f i g h e
part_stands s (i ∷ j ∷ js) f g h e = by_entry (part_stands s (j ∷ js)) (entry_at i f) refl
  where
    by_entry : ((f' g' : Forest) → Within s f' → part_at (j ∷ js) f' ≡ Some g' → Stands s g') → (o : Option Forest) → entry_at i f ≡ o
        → Stands s g
    by_entry go None is = absurd (let x : None ≡ Some g = ap (option_and_then (λ q. part_at (j ∷ js) (kids_of q))) (sym is) ∙ e in cc)
    by_entry go (Some q) is =
        go (kids_of q) g (entry_stands s f i q h is).4 (ap (option_and_then (λ q. part_at (j ∷ js) (kids_of q))) (sym is) ∙ e)

stands_in : (s : List ℕ) (g : Forest) → Stands s g → StandsIn s g
stands_in s g (a, b, is, at, h) =
    let x = slice_here g in
    let n : start_of g + length x - start_of g ≡ length x = omega arith in
    ap (λ k. take k (drop (start_of g) s)) n
    ∙ ap (λ k. take (length x) (drop k s)) at
    ∙ ap (λ l. take (length x) (drop (length a) l)) is
    ∙ ap (take (length x)) (drop-append_seam a (x ++ b)) ∙ take-append_seam x b

-- each part of a tree is in the text
pub parts_stand : (s : List ℕ) (path : List ℕ) (f g : Forest) → Runs 0 f → bytes_of f ≡ s → part_at path f ≡ Some g → StandsIn s g
parts_stand s path f g runs join e = stands_in s g (part_stands s path f g ([], [], sym join ∙ sym (append-nil (bytes_of f)), runs) e)

-- what a path leads to is in the text at its start
pub found_stands : {X : Type 0} (as_forest : X → Forest) (s : List ℕ) (path : List ℕ) (f : Forest) (found : Option X) → PartsStand s f
    → option_map as_forest found ≡ part_at path f → IfSome found (λ n. StandsIn s (as_forest n))
found_stands as_forest s path f None stand e = tt
found_stands as_forest s path f (Some x) stand e = stand path (as_forest x) (sym e)
