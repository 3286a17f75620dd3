-- The recursive reading, step by step, as a stack of open nodes sees it.
use Rattle.sty_sheet.specs.declared.kind.StyleKind.{StyleKind}
use Rattle.sty_sheet.specs.declared.kind.StyleKind.TheVariants as kinds
use Rattle.std.proofs.Common.{◌≡◌, ℕ, zero, suc, ◌-◌, ◌<◌, ◌≤◌, Bool, true, false, cond, List, [], ◌∷◌, length, Option, None, Some, sym, refl, ap, ◌∙◌, arith, lt-ltb, le-ltb}
use Rattle.std.specs.Prelude.{nat_lt, ◌==◌, is_some}
use Rattle.usfm_token.specs.Tokens.{MarkParts, Lexeme, mark, words, tokens_of}
use Rattle.usfm_tree.specs.Forest.{Forest, nothing, text, leaf, node, spanning, ◌then◌}
use Rattle.usfm_tree.specs.Loops.Stack.{Frame, opens_of, ended_node, resume, Ends, Resumes, Enters, closing_mark}
use Rattle.usfm_tree.specs.Loops.TakenViews.{left_of}
use Rattle.usfm_tree.specs.Reading.{Styles, Placed, Role, plain, alone, spans, opens, closes, Open, ended, role, Closed, close_by, closed_by, take_close, Taken, take_bare, milestone_at, milestone_takes, Taken_none, bare, is_bare_close, Read, followed, spanned, opened, open_of, has_room, enter, kids, kids_of_list, placed, tree_of}

-- P holds of a choice where it holds of both
pub either : {A : Type 0} (P : A → Type 0) (b : Bool) (x y : A) → P x → P y → P (cond b x y)
either P true x y p q = p
either P false x y p q = q

close_by_shorter : (os : List Open) (t : Placed) (l : List Placed) (r : Role) → length (close_by os t l r).1 ≤ length (t ∷ l)
close_by_shorter os t l (plain b) = omega arith
close_by_shorter os t l (alone m) = omega arith
close_by_shorter os t l (spans m) = omega arith
close_by_shorter os t l (opens k c m) = omega arith
close_by_shorter os t l (closes m) = let P : Closed → Type 0 = λ c. length c.1 ≤ length (t ∷ l) in
    either P (closed_by m os == 1) (Some m, l) (None, t ∷ l) (omega arith) (omega arith)

-- after a closing mark that is taken no more is left
pub take_close_shorter : (styles : Styles) (os : List Open) (l : List Placed) → length (take_close styles os l).1 ≤ length l
take_close_shorter styles os [] = omega arith
take_close_shorter styles os (t ∷ l) = close_by_shorter os t l (role styles t.token)

take_bare_shorter : (whole : List Placed) (k : Forest) (l : List Placed) → length l ≤ length whole
    → length (take_bare whole k l).rest ≤ length whole
take_bare_shorter whole k [] h = omega arith
take_bare_shorter whole k (t ∷ l) h = let P : Taken → Type 0 = λ c. length c.rest ≤ length whole in
    either P (is_bare_close t.token) (record { kids = k; close = Some bare; rest = l }) (Taken_none whole) (omega arith) (omega arith)

milestone_at_shorter : (start : ℕ) (t : Placed) (x : Lexeme) (l : List Placed)
    → length (milestone_at start (t ∷ l) x l).rest ≤ length (t ∷ l)
milestone_at_shorter start t (words b) l = take_bare_shorter (t ∷ l) _ l (omega arith)
milestone_at_shorter start t (mark m) l = take_bare_shorter (t ∷ l) _ (t ∷ l) (omega arith)

-- after what a milestone takes no more is left
pub milestone_shorter : (l : List Placed) → length (milestone_takes l).rest ≤ length l
milestone_shorter [] = omega arith
milestone_shorter (t ∷ l) = milestone_at_shorter t.start t t.token l

-- what reads kids: what it gives, and what is left
abbrev pub Reader : Type 0
Reader = List Open → List Placed → Read

-- it leaves no more than it was given
abbrev pub Shortens : Reader → Type 0
Shortens go = (os : List Open) (l : List Placed) → length (go os l).1 ≤ length l

enter_shorter : (styles : Styles) (go : Reader) (os : List Open) (t : Placed) (l : List Placed) (r : Role) → Shortens go
    → length (enter styles go os t l r).1 ≤ length (t ∷ l)
enter_shorter styles go os t l (plain b) h = omega (arith, h os l)
enter_shorter styles go os t l (alone m) h = omega (arith, h os l)
enter_shorter styles go os t l (closes m) h = omega (arith, h os l)
enter_shorter styles go os t l (spans m) h =
    let P : Read → Type 0 = λ c. length c.1 ≤ length (t ∷ l) in
    either P (has_room os) (spanned go os t m (milestone_takes l)) (followed (leaf t.start m) (go os l))
    (omega (arith, h os (milestone_takes l).rest, milestone_shorter l)) (omega (arith, h os l))
enter_shorter styles go os t l (opens k c m) h =
    let P : Read → Type 0 = λ c. length c.1 ≤ length (t ∷ l) in
    let inside = open_of k c m ∷ os in
    let inner = go inside l in
    either P (has_room os) (opened styles go (open_of k c m) os t m inner) (followed (leaf t.start m) (go os l))
    (omega (arith, h inside l, take_close_shorter styles inside inner.1, h os (take_close styles inside inner.1).1))
    (omega (arith, h os l))

-- the reading of kids leaves no more than it was given
pub kids_shorter : (styles : Styles) (n : ℕ) → Shortens (kids styles n)
unfolding kids
kids_shorter styles zero os l = omega arith
kids_shorter styles (suc n) os [] = omega arith
kids_shorter styles (suc n) os (t ∷ l) =
    let P : Read → Type 0 = λ c. length c.1 ≤ length (t ∷ l) in
    either P (nat_lt 0 (ended os (role styles t.token))) (nothing, t ∷ l) (enter styles (kids styles n) os t l (role styles t.token))
    (omega arith) (enter_shorter styles (kids styles n) os t l (role styles t.token) (kids_shorter styles n))

-- two readers agree on lists of at most n tokens
abbrev Agree : ℕ → Reader → Reader → Type 0
Agree n go to = (os : List Open) (l : List Placed) → length l ≤ n → go os l ≡ to os l

enter_same : (styles : Styles) (go to : Reader) (os : List Open) (t : Placed) (l : List Placed) (r : Role) → Shortens to
    → Agree (length l) go to → enter styles go os t l r ≡ enter styles to os t l r
enter_same styles go to os t l (plain b) s h = ap (followed (text t.start b)) (h os l (omega arith))
enter_same styles go to os t l (alone m) s h = ap (followed (leaf t.start m)) (h os l (omega arith))
enter_same styles go to os t l (closes m) s h = ap (followed (leaf t.start m)) (h os l (omega arith))
enter_same styles go to os t l (spans m) s h =
    let taken = milestone_takes l in
    λ i. cond (has_room os) (followed (spanning kinds.Milestone t.start m taken.kids taken.close)
    (h os taken.rest (milestone_shorter l) i)) (followed (leaf t.start m) (h os l (omega arith) i))
enter_same styles go to os t l (opens k c m) s h =
    let o = open_of k c m in
    let inner = h (o ∷ os) l (omega arith) in
    let closed = take_close styles (o ∷ os) (to (o ∷ os) l).1 in
    let after = h os closed.1 (omega (arith, s (o ∷ os) l, take_close_shorter styles (o ∷ os) (to (o ∷ os) l).1)) in
    let whole : opened styles go o os t m (go (o ∷ os) l) ≡ opened styles to o os t m (to (o ∷ os) l) =
    ap (opened styles go o os t m) inner ∙ ap (followed (spanning k t.start m (to (o ∷ os) l).0 closed.0)) after
    in
    λ i. cond (has_room os) (whole i) (followed (leaf t.start m) (h os l (omega arith) i))

-- a bound above the number of tokens is never met
kids_enough : (styles : Styles) (n k : ℕ) (os : List Open) (l : List Placed) → length l < n → length l < k
    → kids styles n os l ≡ kids styles k os l
unfolding kids
kids_enough styles zero k os l p q = absurd (omega arith)
kids_enough styles (suc n) zero os l p q = absurd (omega arith)
kids_enough styles (suc n) (suc k) os [] p q = refl
kids_enough styles (suc n) (suc k) os (t ∷ l) p q =
    ap (cond (nat_lt 0 (ended os (role styles t.token))) (nothing, t ∷ l))
    (enter_same styles (kids styles n) (kids styles k) os t l (role styles t.token) (kids_shorter styles k)
    (λ os' l' h. kids_enough styles n k os' l' (omega arith) (omega arith)))

-- The equations of the reading.

-- at the end there are no kids
pub kids-nil : (styles : Styles) (os : List Open) → kids_of_list styles os [] ≡ (nothing, [])
unfolding kids
kids-nil styles os = refl

-- a token that ends an open node is no kid
pub kids-stop : (styles : Styles) (os : List Open) (t : Placed) (l : List Placed) → nat_lt 0 (ended os (role styles t.token)) ≡ true
    → kids_of_list styles os (t ∷ l) ≡ (nothing, t ∷ l)
unfolding kids
kids-stop styles os t l h = ap (λ b. cond b (nothing, t ∷ l) (enter styles (kids styles (length (t ∷ l))) os t l (role styles t.token))) h

-- any other token is entered
pub kids-enter : (styles : Styles) (os : List Open) (t : Placed) (l : List Placed) → nat_lt 0 (ended os (role styles t.token)) ≡ false
    → kids_of_list styles os (t ∷ l) ≡ enter styles (kids_of_list styles) os t l (role styles t.token)
unfolding kids
kids-enter styles os t l h =
    ap (λ b. cond b (nothing, t ∷ l) (enter styles (kids styles (length (t ∷ l))) os t l (role styles t.token))) h
    ∙ enter_same styles (kids styles (length (t ∷ l))) (kids_of_list styles) os t l (role styles t.token)
    (λ os' l'. kids_shorter styles (suc (length l')) os' l')
    (λ os' l' h. kids_enough styles (length (t ∷ l)) (suc (length l')) os' l' (omega arith) (omega arith))

-- A stack of open nodes.

-- nodes after nodes after nodes, grouped in either way
pub then-assoc : (f g h : Forest) → (f then g) then h ≡ f then (g then h)
then-assoc nothing g h = refl
then-assoc (text s t f) g h = ap (text s t) (then-assoc f g h)
then-assoc (leaf s m f) g h = ap (leaf s m) (then-assoc f g h)
then-assoc (node k s b m ks c f) g h = ap (node k s b m ks c) (then-assoc f g h)

-- nodes and then nothing
pub then-nothing : (f : Forest) → f then nothing ≡ f
then-nothing nothing = refl
then-nothing (text s t f) = ap (text s t) (then-nothing f)
then-nothing (leaf s m f) = ap (leaf s m) (then-nothing f)
then-nothing (node k s b m ks c f) = ap (node k s b m ks c) (then-nothing f)

-- an entry that the reading puts before what it reads after may be put at the end of what was read so far
pub resume-entry : (styles : Styles) (sofar : Forest) (fs : List Frame) (l after : List Placed) (g : Forest)
    → kids_of_list styles (opens_of fs) l ≡ followed (λ h. g then h) (kids_of_list styles (opens_of fs) after)
    → resume styles sofar fs l ≡ resume styles (sofar then g) fs after
resume-entry styles sofar [] l after g h = ap (λ r. sofar then r.0) h ∙ sym (then-assoc sofar g (kids_of_list styles [] after).0)
resume-entry styles sofar (f ∷ fs) l after g h =
    let os = f.open_node ∷ opens_of fs in
    let inner = kids_of_list styles os after in
    ap (λ (r : Read). resume styles (ended_node f (sofar then r.0) (take_close styles os r.1).0) fs (take_close styles os r.1).1) h
    ∙ ap (λ x. resume styles (ended_node f x (take_close styles os inner.1).0) fs (take_close styles os inner.1).1)
    (sym (then-assoc sofar g inner.0))

-- where nothing more stays in the innermost node, it ends
pub resume-end : (styles : Styles) (sofar : Forest) (f : Frame) (fs : List Frame) (l : List Placed)
    → kids_of_list styles (f.open_node ∷ opens_of fs) l ≡ (nothing, l)
    → resume styles sofar (f ∷ fs) l
    ≡ resume styles (ended_node f sofar (take_close styles (f.open_node ∷ opens_of fs) l).0) fs
    (take_close styles (f.open_node ∷ opens_of fs) l).1
resume-end styles sofar f fs l h =
    let os = f.open_node ∷ opens_of fs in
    ap (λ (r : Read). resume styles (ended_node f (sofar then r.0) (take_close styles os r.1).0) fs (take_close styles os r.1).1) h
    ∙ ap (λ x. resume styles (ended_node f x (take_close styles os l).0) fs (take_close styles os l).1) (then-nothing sofar)

-- a mark that opens a node is pushed
pub resume-open : (styles : Styles) (sofar : Forest) (fs : List Frame) (t : Placed) (l : List Placed) (k : StyleKind) (c : Option (List ℕ))
    (m : MarkParts) → kids_of_list styles (opens_of fs) (t ∷ l)
    ≡ opened styles (kids_of_list styles) (open_of k c m) (opens_of fs) t m (kids_of_list styles (open_of k c m ∷ opens_of fs) l)
    → resume styles sofar fs (t ∷ l)
    ≡ resume styles nothing (record { open_node = open_of k c m; start = t.start; mark = m; before = sofar } ∷ fs) l
resume-open styles sofar fs t l k c m h =
    let os = open_of k c m ∷ opens_of fs in
    let inner = kids_of_list styles os l in
    let closed = take_close styles os inner.1 in
    resume-entry styles sofar fs (t ∷ l) closed.1 (spanning k t.start m inner.0 closed.0 nothing) h

-- the closing mark that ends a node is the token, which is then taken, or there is none
pub close_by_is : (os : List Open) (t : Placed) (l : List Placed) (r : Role)
    → close_by os t l r ≡ (closing_mark r (ended os r), cond (is_some (closing_mark r (ended os r))) l (t ∷ l))
close_by_is os t l (plain b) = refl
close_by_is os t l (alone m) = refl
close_by_is os t l (spans m) = refl
close_by_is os t l (opens k c m) = refl
close_by_is os t l (closes m) = elim (closed_by m os == 1) as
    (λ b. ◌≡◌ {A = Closed} (cond b (Some m, l) (None, t ∷ l))
    (cond b (Some m) None, cond (is_some (cond b (Some m) None)) l (t ∷ l))) [ true ↦ refl | false ↦ refl ]

-- where a token ends some nodes, the innermost ends, with the mark that the token gives it
pub resumes_by_end : (r : Role) (sofar new_sofar : Forest) (fs new_fs : List Frame) (count : ℕ) (close : Option MarkParts)
    → count ≡ ended (opens_of fs) r → 0 < count → close ≡ closing_mark r count → Ends fs sofar close new_fs new_sofar
    → Resumes r sofar fs new_sofar new_fs (is_some close)
resumes_by_end r sofar new_sofar [] new_fs count close counted some is ends styles t l role_is = absurd ends
resumes_by_end r sofar new_sofar (f ∷ fs) new_fs count close counted some is ends styles t l role_is =
    let os = f.open_node ∷ opens_of fs in
    let test : nat_lt 0 (ended os (role styles t.token)) ≡ true = ap (λ q. nat_lt 0 (ended os q)) role_is ∙ ap (nat_lt 0) (sym counted)
    ∙ lt-ltb 0 count some in
    let closed : take_close styles os (t ∷ l) ≡ (close, cond (is_some close) l (t ∷ l)) =
    ap (close_by os t l) role_is ∙ close_by_is os t l r
    ∙ ap (λ n. (closing_mark r n, cond (is_some (closing_mark r n)) l (t ∷ l))) (sym counted)
    ∙ ap (λ c. (c, cond (is_some c) l (t ∷ l))) (sym is)
    in
    resume-end styles sofar f fs (t ∷ l) (kids-stop styles os t l test)
    ∙ ap (λ (c : Closed). resume styles (ended_node f sofar c.0) fs c.1) closed
    ∙ (λ i. resume styles (sym ends.1 i) (sym ends.0 i) (cond (is_some close) l (t ∷ l)))

-- A token that ends nothing.

-- a token that ends nothing is entered
pub enters : (styles : Styles) (os : List Open) (t : Placed) (l : List Placed) (r : Role) → role styles t.token ≡ r
    → ended os r ≡ 0 → kids_of_list styles os (t ∷ l) ≡ enter styles (kids_of_list styles) os t l r
enters styles os t l r is none =
    kids-enter styles os t l (ap (λ q. nat_lt 0 (ended os q)) is ∙ ap (nat_lt 0) none)
    ∙ ap (enter styles (kids_of_list styles) os t l) is

-- the reading goes on after a text, which is put after the nodes so far
pub resume-text : (styles : Styles) (sofar : Forest) (fs : List Frame) (t : Placed) (l : List Placed) (b : List ℕ)
    → role styles t.token ≡ plain b → resume styles sofar fs (t ∷ l) ≡ resume styles (sofar then text t.start b nothing) fs l
resume-text styles sofar fs t l b is =
    resume-entry styles sofar fs (t ∷ l) l (text t.start b nothing) (enters styles (opens_of fs) t l (plain b) is refl)

-- and after a mark that is a leaf
pub resume-alone : (styles : Styles) (sofar : Forest) (fs : List Frame) (t : Placed) (l : List Placed) (m : MarkParts)
    → role styles t.token ≡ alone m → resume styles sofar fs (t ∷ l) ≡ resume styles (sofar then leaf t.start m nothing) fs l
resume-alone styles sofar fs t l m is =
    resume-entry styles sofar fs (t ∷ l) l (leaf t.start m nothing) (enters styles (opens_of fs) t l (alone m) is refl)

-- and after a closing mark that ends nothing, as a leaf
pub resume-stray : (styles : Styles) (sofar : Forest) (fs : List Frame) (t : Placed) (l : List Placed) (m : MarkParts)
    → role styles t.token ≡ closes m → ended (opens_of fs) (closes m) ≡ 0
    → resume styles sofar fs (t ∷ l) ≡ resume styles (sofar then leaf t.start m nothing) fs l
resume-stray styles sofar fs t l m is none =
    resume-entry styles sofar fs (t ∷ l) l (leaf t.start m nothing) (enters styles (opens_of fs) t l (closes m) is none)

-- and after a mark whose node would be too deep, as a leaf
pub resume-deep : (styles : Styles) (sofar : Forest) (fs : List Frame) (t : Placed) (l : List Placed) (k : StyleKind) (c : Option (List ℕ))
    (m : MarkParts) → role styles t.token ≡ opens k c m → ended (opens_of fs) (opens k c m) ≡ 0 → has_room (opens_of fs) ≡ false
    → resume styles sofar fs (t ∷ l) ≡ resume styles (sofar then leaf t.start m nothing) fs l
resume-deep styles sofar fs t l k c m is none full =
    resume-entry styles sofar fs (t ∷ l) l (leaf t.start m nothing)
    (enters styles (opens_of fs) t l (opens k c m) is none
    ∙ ap (λ b. cond b (opened styles (kids_of_list styles) (open_of k c m) (opens_of fs) t m
    (kids_of_list styles (open_of k c m ∷ opens_of fs) l)) (followed (leaf t.start m) (kids_of_list styles (opens_of fs) l))) full)

-- it goes on within a node that begins
pub resume-begin : (styles : Styles) (sofar : Forest) (fs : List Frame) (t : Placed) (l : List Placed) (k : StyleKind)
    (c : Option (List ℕ)) (m : MarkParts) → role styles t.token ≡ opens k c m → ended (opens_of fs) (opens k c m) ≡ 0
    → has_room (opens_of fs) ≡ true
    → resume styles sofar fs (t ∷ l)
    ≡ resume styles nothing (record { open_node = open_of k c m; start = t.start; mark = m; before = sofar } ∷ fs) l
resume-begin styles sofar fs t l k c m is none room =
    resume-open styles sofar fs t l k c m
    (enters styles (opens_of fs) t l (opens k c m) is none
    ∙ ap (λ b. cond b (opened styles (kids_of_list styles) (open_of k c m) (opens_of fs) t m
    (kids_of_list styles (open_of k c m ∷ opens_of fs) l)) (followed (leaf t.start m) (kids_of_list styles (opens_of fs) l))) room)

-- and after a milestone that would be too deep, as a leaf
pub resume-deep_span : (styles : Styles) (sofar : Forest) (fs : List Frame) (t : Placed) (l : List Placed) (m : MarkParts)
    → role styles t.token ≡ spans m → has_room (opens_of fs) ≡ false
    → resume styles sofar fs (t ∷ l) ≡ resume styles (sofar then leaf t.start m nothing) fs l
resume-deep_span styles sofar fs t l m is full =
    resume-entry styles sofar fs (t ∷ l) l (leaf t.start m nothing)
    (enters styles (opens_of fs) t l (spans m) is refl
    ∙ ap (λ b. cond b (spanned (kids_of_list styles) (opens_of fs) t m (milestone_takes l))
    (followed (leaf t.start m) (kids_of_list styles (opens_of fs) l))) full)

-- and after a milestone with what it takes
pub resume-span : (styles : Styles) (sofar : Forest) (fs : List Frame) (t : Placed) (l : List Placed) (m : MarkParts)
    → role styles t.token ≡ spans m → has_room (opens_of fs) ≡ true
    → resume styles sofar fs (t ∷ l)
    ≡ resume styles (sofar then spanning kinds.Milestone t.start m (milestone_takes l).kids (milestone_takes l).close nothing) fs
    (milestone_takes l).rest
resume-span styles sofar fs t l m is room =
    resume-entry styles sofar fs (t ∷ l) (milestone_takes l).rest
    (spanning kinds.Milestone t.start m (milestone_takes l).kids (milestone_takes l).close nothing)
    (enters styles (opens_of fs) t l (spans m) is refl
    ∙ ap (λ b. cond b (spanned (kids_of_list styles) (opens_of fs) t m (milestone_takes l))
    (followed (leaf t.start m) (kids_of_list styles (opens_of fs) l))) room)

-- a tree, as the reading from nothing
pub resume-start : (styles : Styles) (s : List ℕ) → resume styles nothing [] (placed 0 (tokens_of s)) ≡ tree_of styles s
unfolding tree_of
resume-start styles s = refl

-- what is made of the nodes so far and of the open ones at a text
pub enters_text : (start : ℕ) (b : List ℕ) (sofar new_sofar : Forest) (fs new_fs : List Frame)
    → new_sofar ≡ sofar then text start b nothing → new_fs ≡ fs → Enters (plain b) start sofar fs new_sofar new_fs
enters_text start b sofar new_sofar fs new_fs e f styles t l is at =
    resume-text styles sofar fs t l b is ∙ (λ i. resume styles (sofar then text (at i) b nothing) fs l)
    ∙ (λ i. resume styles (sym e i) (sym f i) l)

-- at a mark that is a leaf
pub enters_alone : (start : ℕ) (m : MarkParts) (sofar new_sofar : Forest) (fs new_fs : List Frame)
    → new_sofar ≡ sofar then leaf start m nothing → new_fs ≡ fs → Enters (alone m) start sofar fs new_sofar new_fs
enters_alone start m sofar new_sofar fs new_fs e f styles t l is at =
    resume-alone styles sofar fs t l m is ∙ (λ i. resume styles (sofar then leaf (at i) m nothing) fs l)
    ∙ (λ i. resume styles (sym e i) (sym f i) l)

-- at a closing mark that ends nothing
pub enters_stray : (start : ℕ) (m : MarkParts) (sofar new_sofar : Forest) (fs new_fs : List Frame) → ended (opens_of fs) (closes m) ≡ 0
    → new_sofar ≡ sofar then leaf start m nothing → new_fs ≡ fs → Enters (closes m) start sofar fs new_sofar new_fs
enters_stray start m sofar new_sofar fs new_fs none e f styles t l is at =
    resume-stray styles sofar fs t l m is none ∙ (λ i. resume styles (sofar then leaf (at i) m nothing) fs l)
    ∙ (λ i. resume styles (sym e i) (sym f i) l)

-- at a mark whose node would be too deep
pub enters_deep : (start : ℕ) (k : StyleKind) (c : Option (List ℕ)) (m : MarkParts) (sofar new_sofar : Forest) (fs new_fs : List Frame)
    → ended (opens_of fs) (opens k c m) ≡ 0 → 64 ≤ length (opens_of fs) → new_sofar ≡ sofar then leaf start m nothing → new_fs ≡ fs
    → Enters (opens k c m) start sofar fs new_sofar new_fs
enters_deep start k c m sofar new_sofar fs new_fs none full e f styles t l is at =
    resume-deep styles sofar fs t l k c m is none (le-ltb _ _ full) ∙ (λ i. resume styles (sofar then leaf (at i) m nothing) fs l)
    ∙ (λ i. resume styles (sym e i) (sym f i) l)

-- at a mark that begins a node
pub enters_node : (start : ℕ) (k : StyleKind) (c : Option (List ℕ)) (m : MarkParts) (sofar new_sofar : Forest) (fs new_fs : List Frame)
    → ended (opens_of fs) (opens k c m) ≡ 0 → length (opens_of fs) < 64 → new_sofar ≡ nothing
    → new_fs ≡ record { open_node = open_of k c m; start = start; mark = m; before = sofar } ∷ fs
    → Enters (opens k c m) start sofar fs new_sofar new_fs
enters_node start k c m sofar new_sofar fs new_fs none room e f styles t l is at =
    resume-begin styles sofar fs t l k c m is none (lt-ltb _ _ room)
    ∙ (λ i. resume styles nothing (record { open_node = open_of k c m; start = at i; mark = m; before = sofar } ∷ fs) l)
    ∙ (λ i. resume styles (sym e i) (sym f i) l)

-- at the end of the text the innermost node ends without a closing mark
pub finish_end : (styles : Styles) (sofar new_sofar : Forest) (fs new_fs : List Frame) → Ends fs sofar None new_fs new_sofar
    → resume styles sofar fs [] ≡ resume styles new_sofar new_fs []
finish_end styles sofar new_sofar [] new_fs ends = absurd ends
finish_end styles sofar new_sofar (f ∷ fs) new_fs ends =
    resume-end styles sofar f fs [] (kids-nil styles (f.open_node ∷ opens_of fs)) ∙ (λ i. resume styles (sym ends.1 i) (sym ends.0 i) [])

-- at the end, with nothing open, all was read
pub finish_done : (styles : Styles) (sofar : Forest) → resume styles sofar [] [] ≡ sofar
finish_done styles sofar = ap (λ r. sofar then r.0) (kids-nil styles []) ∙ then-nothing sofar

-- a text's tree is what is under the root from its front on
pub whole_left : (styles : Styles) (source : List ℕ)
    → (kids_of_list styles [] (left_of (length source) source)).0 ≡ tree_of styles source
unfolding tree_of
whole_left styles source =
    let zero_is : length source - length source ≡ 0 = omega arith in
    ap (λ k. (kids_of_list styles [] (placed k (tokens_of source))).0) zero_is
