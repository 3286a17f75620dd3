-- The reading, step by step, as a walk over the tree meets it.
use Rattle.sty_sheet.specs.declared.kind.StyleKind.{StyleKind}
use Rattle.sty_sheet.specs.declared.kind.StyleKind.TheVariants as kinds
use Rattle.std.proofs.Common.{◌≡◌, ℕ, zero, suc, ◌<◌, true, false, cond, List, [], ◌∷◌, length, Option, None, refl, ap, ◌∙◌, lt-ltb}
use Rattle.std.specs.Prelude.{nat_lt, is_some}
use Rattle.usfm_token.specs.Tokens.{MarkParts}
use Rattle.usfm_tree.specs.Forest.{Forest, nothing, text, leaf, node, spanning, ◌then◌}
use Rattle.usfm_tree.specs.Loops.Stack.{closing_mark}
use Rattle.usfm_tree.specs.Reading.{Styles, Placed, Role, plain, alone, spans, opens, closes, Open, ended, role, Closed, close_by, take_close, milestone_takes, Read, followed, spanned, opened, open_of, has_room, kids_of_list}
use Rattle.usfm_tree.specs.Events.{Event, words, single, begins, ends, events_before, ends_before, events_left}
use Rattle.usfm_tree.proofs.ReadingLemmas.{kids-nil, kids-stop, close_by_is, enters}

events_then : (f g : Forest) (later : List Event) → events_before (f then g) later ≡ events_before f (events_before g later)
events_then nothing g later = refl
events_then (text s t f) g later = ap (λ l. words s t ∷ l) (events_then f g later)
events_then (leaf s m f) g later = ap (λ l. single m ∷ l) (events_then f g later)
events_then (node k s b m ks c f) g later =
    ap (λ l. begins k m ∷ events_before ks (ends c ∷ l)) (events_then f g later)

-- one end more
pub ends_suc : (n : ℕ) (later : List Event) → ends_before n (ends None ∷ later) ≡ ends_before (suc n) later
ends_suc zero later = refl
ends_suc (suc n) later = ap (λ l. ends None ∷ l) (ends_suc n later)

-- an entry that the reading puts before what it reads after is met before it
left_entry : (styles : Styles) (os : List Open) (l after : List Placed) (g : Forest)
    → kids_of_list styles os l ≡ followed (λ h. g then h) (kids_of_list styles os after)
    → events_left styles os l ≡ events_before g (events_left styles os after)
left_entry styles [] l after g h =
    ap (λ (r : Read). events_before r.0 []) h ∙ events_then g (kids_of_list styles [] after).0 []
left_entry styles (o ∷ os) l after g h =
    let inner = kids_of_list styles (o ∷ os) after in
    let closed = take_close styles (o ∷ os) inner.1 in
    ap (λ (r : Read). events_before r.0
    (ends (take_close styles (o ∷ os) r.1).0 ∷ events_left styles os (take_close styles (o ∷ os) r.1).1)) h
    ∙ events_then g inner.0 (ends closed.0 ∷ events_left styles os closed.1)

-- at a text the walk meets it
pub left_text : (styles : Styles) (os : List Open) (t : Placed) (l : List Placed) (b : List ℕ)
    → role styles t.token ≡ plain b → events_left styles os (t ∷ l) ≡ words t.start b ∷ events_left styles os l
left_text styles os t l b is = left_entry styles os (t ∷ l) l (text t.start b nothing) (enters styles os t l (plain b) is refl)

-- at a mark that is a leaf it meets that
pub left_alone : (styles : Styles) (os : List Open) (t : Placed) (l : List Placed) (m : MarkParts)
    → role styles t.token ≡ alone m → events_left styles os (t ∷ l) ≡ single m ∷ events_left styles os l
left_alone styles os t l m is = left_entry styles os (t ∷ l) l (leaf t.start m nothing) (enters styles os t l (alone m) is refl)

-- a closing mark that ends nothing is a leaf
pub left_stray : (styles : Styles) (os : List Open) (t : Placed) (l : List Placed) (m : MarkParts)
    → role styles t.token ≡ closes m → ended os (closes m) ≡ 0
    → events_left styles os (t ∷ l) ≡ single m ∷ events_left styles os l
left_stray styles os t l m is none =
    left_entry styles os (t ∷ l) l (leaf t.start m nothing) (enters styles os t l (closes m) is none)

-- so is a mark whose node would be too deep
pub left_deep : (styles : Styles) (os : List Open) (t : Placed) (l : List Placed) (k : StyleKind) (c : Option (List ℕ)) (m : MarkParts)
    → role styles t.token ≡ opens k c m → ended os (opens k c m) ≡ 0 → has_room os ≡ false
    → events_left styles os (t ∷ l) ≡ single m ∷ events_left styles os l
left_deep styles os t l k c m is none full =
    let o = open_of k c m in
    left_entry styles os (t ∷ l) l (leaf t.start m nothing)
    (enters styles os t l (opens k c m) is none
    ∙ ap (λ b. cond b (opened styles (kids_of_list styles) o os t m (kids_of_list styles (o ∷ os) l))
    (followed (leaf t.start m) (kids_of_list styles os l))) full)

-- at any other mark that begins a node the node begins
pub left_begin : (styles : Styles) (os : List Open) (t : Placed) (l : List Placed) (k : StyleKind) (c : Option (List ℕ)) (m : MarkParts)
    → role styles t.token ≡ opens k c m → ended os (opens k c m) ≡ 0 → has_room os ≡ true
    → events_left styles os (t ∷ l) ≡ begins k m ∷ events_left styles (open_of k c m ∷ os) l
left_begin styles os t l k c m is none room =
    let o = open_of k c m in
    let inner = kids_of_list styles (o ∷ os) l in
    let closed = take_close styles (o ∷ os) inner.1 in
    left_entry styles os (t ∷ l) closed.1 (spanning k t.start m inner.0 closed.0 nothing)
    (enters styles os t l (opens k c m) is none
    ∙ ap (λ b. cond b (opened styles (kids_of_list styles) o os t m inner)
    (followed (leaf t.start m) (kids_of_list styles os l))) room)

-- a milestone that would be too deep is a leaf
pub left_deep_span : (styles : Styles) (os : List Open) (t : Placed) (l : List Placed) (m : MarkParts)
    → role styles t.token ≡ spans m → has_room os ≡ false
    → events_left styles os (t ∷ l) ≡ single m ∷ events_left styles os l
left_deep_span styles os t l m is full =
    left_entry styles os (t ∷ l) l (leaf t.start m nothing)
    (enters styles os t l (spans m) is refl
    ∙ ap (λ b. cond b (spanned (kids_of_list styles) os t m (milestone_takes l))
    (followed (leaf t.start m) (kids_of_list styles os l))) full)

-- any other milestone begins, takes what it takes, and ends
pub left_span : (styles : Styles) (os : List Open) (t : Placed) (l : List Placed) (m : MarkParts)
    → role styles t.token ≡ spans m → has_room os ≡ true
    → events_left styles os (t ∷ l)
    ≡ begins kinds.Milestone m
    ∷ events_before (milestone_takes l).kids (ends (milestone_takes l).close ∷ events_left styles os (milestone_takes l).rest)
left_span styles os t l m is room =
    let taken = milestone_takes l in
    left_entry styles os (t ∷ l) taken.rest (spanning kinds.Milestone t.start m taken.kids taken.close nothing)
    (enters styles os t l (spans m) is refl
    ∙ ap (λ b. cond b (spanned (kids_of_list styles) os t m taken) (followed (leaf t.start m) (kids_of_list styles os l))) room)

-- where a token ends some nodes, the innermost ends, with the mark that the token gives it, after which it is used up
pub left_end : (styles : Styles) (o : Open) (os : List Open) (t : Placed) (l : List Placed) (r : Role)
    → role styles t.token ≡ r → 0 < ended (o ∷ os) r
    → events_left styles (o ∷ os) (t ∷ l)
    ≡ ends (closing_mark r (ended (o ∷ os) r))
    ∷ events_left styles os (cond (is_some (closing_mark r (ended (o ∷ os) r))) l (t ∷ l))
left_end styles o os t l r is some =
    let all = o ∷ os in
    let test : nat_lt 0 (ended all (role styles t.token)) ≡ true =
    ap (λ q. nat_lt 0 (ended all q)) is ∙ lt-ltb 0 (ended all r) some in
    ap (λ (x : Read). events_before x.0 (ends (take_close styles all x.1).0 ∷ events_left styles os (take_close styles all x.1).1))
    (kids-stop styles all t l test)
    ∙ ap (λ (c : Closed). ends c.0 ∷ events_left styles os c.1) (ap (close_by all t l) is ∙ close_by_is all t l r)

-- at the end of the text all open nodes end without closing marks
pub left_nil : (styles : Styles) (os : List Open) → events_left styles os [] ≡ ends_before (length os) []
left_nil styles [] = ap (λ (r : Read). events_before r.0 []) (kids-nil styles [])
left_nil styles (o ∷ os) =
    ap (λ (x : Read). events_before x.0
    (ends (take_close styles (o ∷ os) x.1).0 ∷ events_left styles os (take_close styles (o ∷ os) x.1).1)) (kids-nil styles (o ∷ os))
    ∙ ap (λ l. ends None ∷ l) (left_nil styles os)
