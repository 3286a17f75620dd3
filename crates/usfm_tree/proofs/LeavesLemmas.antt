-- The marks, texts and closing marks of a tree are the tokens of its text, and so its leaves their slices.
use Rattle.sty_sheet.specs.declared.kind.StyleKind.{StyleKind}
use Rattle.sty_sheet.specs.declared.kind.StyleKind.TheVariants as kinds
use Rattle.std.proofs.Common.{◌≡◌, ℕ, zero, suc, ◌+◌, ◌<◌, Bool, true, false, cond, List, [], ◌∷◌, ◌++◌, length, map, Option, None, Some, sym, refl, ap, ◌∙◌, arith, append_assoc, append-nil}
use Rattle.std.proofs.lemmas.List.{map-append}
use Rattle.std.specs.Prelude.{nat_lt, ◌==◌, ◌&&◌, not}
use Rattle.std.specs.Str.{bytes_eq}
use Rattle.usfm_token.specs.Tokens.{MarkParts, Lexeme, mark, words, mark_bytes, slice_of, joined, tokens_of}
use Rattle.usfm_tree.specs.Forest.{Forest, nothing, text, leaf, node, close_leaves, leaves_of, bytes_of}
use Rattle.std.specs.List.{flat_map}
use Rattle.usfm_token.proofs.TokenLaws.{joined-tokens_of}
use Rattle.usfm_tree.proofs.ReadingLemmas.{Shortens, take_close_shorter, milestone_shorter, kids_shorter}
use Rattle.usfm_tree.specs.Reading as reading
use Rattle.usfm_tree.specs.Reading.{Styles, Placed, placed, Role, plain, alone, spans, opens, closes, role_bytes, styled, marked, role, Open, ended, opening_ends, Closed, close_by, closed_by, take_close, Taken, take_bare, milestone_at, milestone_takes, Taken_none, bare, is_bare_close, Read, followed, spanned, opened, open_of, has_room, enter, kids, kids_of_list, tree_of}

abbrev lexemes : List Placed → List Lexeme
lexemes l = map (λ t. t.token) l

-- ---- a role has its token

-- the token that has a role
abbrev pub role_lexeme : Role → Lexeme
role_lexeme (plain b) = words b
role_lexeme (alone m) = mark m
role_lexeme (spans m) = mark m
role_lexeme (opens kind closer m) = mark m
role_lexeme (closes m) = mark m

either_role : (b : Bool) (m : MarkParts) (x y : Role) → role_lexeme x ≡ mark m → role_lexeme y ≡ mark m → role_lexeme (cond b x y) ≡ mark m
either_role true m x y p q = p
either_role false m x y p q = q

styled_lexeme : (m : MarkParts) (c : Option (List ℕ)) (k : Option StyleKind) → role_lexeme (styled m c k) ≡ mark m
styled_lexeme m c None = refl
styled_lexeme m None (Some kinds.Character) = refl
styled_lexeme m (Some n) (Some kinds.Character) = refl
styled_lexeme m None (Some kinds.Milestone) = either_role m.nested m (alone m) (spans m) refl refl
styled_lexeme m (Some n) (Some kinds.Milestone) = either_role m.nested m (alone m) (spans m) refl refl
styled_lexeme m None (Some kinds.Paragraph) = either_role m.nested m (alone m) (opens kinds.Paragraph None m) refl refl
styled_lexeme m (Some n) (Some kinds.Paragraph) = either_role m.nested m (alone m) (opens kinds.Paragraph (Some n) m) refl refl
styled_lexeme m None (Some kinds.Note) = either_role m.nested m (alone m) (opens kinds.Note None m) refl refl
styled_lexeme m (Some n) (Some kinds.Note) = either_role m.nested m (alone m) (opens kinds.Note (Some n) m) refl refl

marked_lexeme : (m : MarkParts) (s : Option reading.Style) → role_lexeme (marked m s) ≡ mark m
marked_lexeme m None = refl
marked_lexeme m (Some s) = styled_lexeme m s.closer s.kind

-- the role of a token is its own
pub role_is : (styles : Styles) (t : Lexeme) → role_lexeme (role styles t) ≡ t
role_is styles (words b) = refl
role_is styles (mark m) = either_role m.closing m (closes m) (marked m (styles m.name)) refl (marked_lexeme m (styles m.name))

bytes_are : (r : Role) → role_bytes r ≡ slice_of (role_lexeme r)
bytes_are (plain b) = refl
bytes_are (alone m) = refl
bytes_are (spans m) = refl
bytes_are (opens kind closer m) = refl
bytes_are (closes m) = refl

-- the part that a token has in a tree has its bytes
pub role_slice : (styles : Styles) (t : Lexeme) → role_bytes (role styles t) ≡ slice_of t
role_slice styles t = bytes_are (role styles t) ∙ ap slice_of (role_is styles t)

-- ---- the tokens of a tree

-- a closing mark as a list of one token, and nothing where there is none
abbrev pub close_lexemes : Option MarkParts → List Lexeme
close_lexemes None = []
close_lexemes (Some m) = mark m ∷ []

-- the marks, texts and closing marks of a forest, in order
abbrev pub lexemes_of : Forest → List Lexeme
lexemes_of nothing = []
lexemes_of (text s t f) = words t ∷ lexemes_of f
lexemes_of (leaf s m f) = mark m ∷ lexemes_of f
lexemes_of (node k s b m ks c f) = mark m ∷ (lexemes_of ks ++ (close_lexemes c ++ lexemes_of f))

close_by_joins : (os : List Open) (t : Placed) (l : List Placed) (r : Role) → role_lexeme r ≡ t.token
    → close_lexemes (close_by os t l r).0 ++ lexemes (close_by os t l r).1 ≡ lexemes (t ∷ l)
close_by_joins os t l (plain b) h = refl
close_by_joins os t l (alone m) h = refl
close_by_joins os t l (spans m) h = refl
close_by_joins os t l (opens k c m) h = refl
close_by_joins os t l (closes m) h =
    elim (closed_by m os == 1) as
    (λ b. close_lexemes (cond {A = Closed} b (Some m, l) (None, t ∷ l)).0 ++ lexemes (cond {A = Closed} b (Some m, l) (None, t ∷ l)).1
    ≡ lexemes (t ∷ l)) [
      | true ↦ ap (λ x. x ∷ lexemes l) h
      | false ↦ refl
    ]

take_close_joins : (styles : Styles) (os : List Open) (l : List Placed)
    → close_lexemes (take_close styles os l).0 ++ lexemes (take_close styles os l).1 ≡ lexemes l
take_close_joins styles os [] = refl
take_close_joins styles os (t ∷ l) = close_by_joins os t l (role styles t.token) (role_is styles t.token)

bare_parts : (n c : Bool) (w : List ℕ) → (c && (not n && bytes_eq w [])) ≡ true
    → ◌≡◌ {A = MarkParts} (record { nested = n; name = w; closing = c }) bare
bare_parts false true [] h = refl
bare_parts false true (x ∷ w) h = absurd (cc)
bare_parts true true w h = absurd (cc)
bare_parts n false w h = absurd (cc)

bare_lexeme : (t : Lexeme) → is_bare_close t ≡ true → t ≡ mark bare
bare_lexeme (words b) h = absurd (cc)
bare_lexeme (mark m) h = ap mark (bare_parts m.nested m.closing m.name h)

-- a bare closing mark is a backslash and a star
pub bare_slice : (t : Lexeme) → is_bare_close t ≡ true → slice_of t ≡ 92 ∷ 42 ∷ []
bare_slice t h = ap slice_of (bare_lexeme t h)

-- what a milestone takes and what it leaves
abbrev TakenJoins : Taken → List Placed → Type 0
TakenJoins t l = lexemes_of t.kids ++ (close_lexemes t.close ++ lexemes t.rest) ≡ lexemes l

take_bare_joins : (whole : List Placed) (f : Forest) (l : List Placed) → lexemes_of f ++ lexemes l ≡ lexemes whole
    → TakenJoins (take_bare whole f l) whole
take_bare_joins whole f [] h = refl
take_bare_joins whole f (t ∷ l) h = by_test (is_bare_close t.token) refl
  where
    by_test : (b : Bool) → is_bare_close t.token ≡ b
        → TakenJoins (cond b (record { kids = f; close = Some bare; rest = l }) (Taken_none whole)) whole
    by_test true e = ap (λ x. lexemes_of f ++ x ∷ lexemes l) (sym (bare_lexeme t.token e)) ∙ h
    by_test false e = refl

milestone_at_joins : (s : ℕ) (t : Placed) (x : Lexeme) (l : List Placed) → t.token ≡ x → TakenJoins (milestone_at s (t ∷ l) x l) (t ∷ l)
milestone_at_joins s t (words b) l h = take_bare_joins (t ∷ l) (text s b nothing) l (ap (λ y. y ∷ lexemes l) (sym h))
milestone_at_joins s t (mark m) l h = take_bare_joins (t ∷ l) nothing (t ∷ l) refl

milestone_joins : (l : List Placed) → TakenJoins (milestone_takes l) l
milestone_joins [] = refl
milestone_joins (t ∷ l) = milestone_at_joins t.start t t.token l refl

abbrev ReadJoins : Read → List Placed → Type 0
ReadJoins r l = lexemes_of r.0 ++ lexemes r.1 ≡ lexemes l

abbrev Joins : (List Open → List Placed → Read) → Type 0
Joins go = (os : List Open) (l : List Placed) → ReadJoins (go os l) l

either_read : (b : Bool) (x y : Read) (l : List Placed) → ReadJoins x l → ReadJoins y l → ReadJoins (cond b x y) l
either_read true x y l p q = p
either_read false x y l p q = q

-- a node, its kids, its close and what follows
node_joins : (m : MarkParts) (inside : Forest) (close : Option MarkParts) (after : Read) (t : Placed) (left rest : List Placed)
    → mark m ≡ t.token → ReadJoins after rest → lexemes_of inside ++ (close_lexemes close ++ lexemes rest) ≡ lexemes left
    → mark m ∷ (lexemes_of inside ++ (close_lexemes close ++ lexemes_of after.0)) ++ lexemes after.1 ≡ lexemes (t ∷ left)
node_joins m inside close after t left rest is go joins =
    ap (λ x. mark m ∷ x) (append_assoc (lexemes_of inside) (close_lexemes close ++ lexemes_of after.0) (lexemes after.1)
    ∙ ap (λ x. lexemes_of inside ++ x)
    (append_assoc (close_lexemes close) (lexemes_of after.0) (lexemes after.1) ∙ ap (λ x. close_lexemes close ++ x) go)
    ∙ joins)
    ∙ ap (λ x. x ∷ lexemes left) is

enter_joins : (styles : Styles) (go : List Open → List Placed → Read) (os : List Open) (t : Placed) (l : List Placed) (r : Role) → Joins go
    → role_lexeme r ≡ t.token → ReadJoins (enter styles go os t l r) (t ∷ l)
enter_joins styles go os t l (plain b) h is = λ i. is i ∷ h os l i
enter_joins styles go os t l (alone m) h is = λ i. is i ∷ h os l i
enter_joins styles go os t l (closes m) h is = λ i. is i ∷ h os l i
enter_joins styles go os t l (spans m) h is =
    let taken = milestone_takes l in
    either_read (has_room os) (spanned go os t m taken) (followed (leaf t.start m) (go os l)) (t ∷ l)
    (node_joins m taken.kids taken.close (go os taken.rest) t l taken.rest is (h os taken.rest) (milestone_joins l))
    (λ i. is i ∷ h os l i)
enter_joins styles go os t l (opens k c m) h is =
    let inside = open_of k c m ∷ os in
    let inner = go inside l in
    let closed = take_close styles inside inner.1 in
    either_read (has_room os) (opened styles go (open_of k c m) os t m inner) (followed (leaf t.start m) (go os l)) (t ∷ l)
    (node_joins m inner.0 closed.0 (go os closed.1) t l closed.1 is (h os closed.1)
    (ap (λ x. lexemes_of inner.0 ++ x) (take_close_joins styles inside inner.1) ∙ h inside l))
    (λ i. is i ∷ h os l i)

kids_joins : (styles : Styles) (n : ℕ) → Joins (kids styles n)
unfolding kids
kids_joins styles zero os l = refl
kids_joins styles (suc n) os [] = refl
kids_joins styles (suc n) os (t ∷ l) =
    either_read (nat_lt 0 (ended os (role styles t.token))) (nothing, t ∷ l) (enter styles (kids styles n) os t l (role styles t.token))
    (t ∷ l) refl
    (enter_joins styles (kids styles n) os t l (role styles t.token) (kids_joins styles n) (role_is styles t.token))

-- Under the root nothing ends, so nothing is left.

ends_none : (k : StyleKind) (b : Bool) → opening_ends k b [] ≡ 0
ends_none kinds.Paragraph b = refl
ends_none kinds.Character true = refl
ends_none kinds.Character false = refl
ends_none kinds.Note b = refl
ends_none kinds.Milestone b = refl

root_ends : (r : Role) → ended [] r ≡ 0
root_ends (plain b) = refl
root_ends (alone m) = refl
root_ends (spans m) = refl
root_ends (opens k c m) = ends_none k m.nested
root_ends (closes m) = refl

abbrev Done : Read → Type 0
Done r = ◌≡◌ {A = List Placed} r.1 []

either_done : (b : Bool) (x y : Read) → Done x → Done y → Done (cond b x y)
either_done true x y p q = p
either_done false x y p q = q

abbrev Finishes : ℕ → (List Open → List Placed → Read) → Type 0
Finishes n go = (l : List Placed) → length l < n → Done (go [] l)

enter_done : (styles : Styles) (n : ℕ) (go : List Open → List Placed → Read) (t : Placed) (l : List Placed) (r : Role) → Shortens go
    → Finishes n go → length l < n → Done (enter styles go [] t l r)
enter_done styles n go t l (plain b) s h p = h l p
enter_done styles n go t l (alone m) s h p = h l p
enter_done styles n go t l (closes m) s h p = h l p
enter_done styles n go t l (spans m) s h p =
    let taken = milestone_takes l in
    either_done (has_room []) (spanned go [] t m taken) (followed (leaf t.start m) (go [] l))
    (h taken.rest (omega (arith, milestone_shorter l))) (h l p)
enter_done styles n go t l (opens k c m) s h p =
    let inside = open_of k c m ∷ [] in
    let inner = go inside l in
    let closed = take_close styles inside inner.1 in
    either_done (has_room []) (opened styles go (open_of k c m) [] t m inner) (followed (leaf t.start m) (go [] l))
    (h closed.1 (omega (arith, s inside l, take_close_shorter styles inside inner.1))) (h l p)

kids_done : (styles : Styles) (n : ℕ) → Finishes n (kids styles n)
unfolding kids
kids_done styles zero l p = absurd (omega arith)
kids_done styles (suc n) [] p = refl
kids_done styles (suc n) (t ∷ l) p =
    ap (λ k. (cond {A = Read} (nat_lt 0 k) (nothing, t ∷ l) (enter styles (kids styles n) [] t l (role styles t.token))).1)
    (root_ends (role styles t.token))
    ∙ enter_done styles n (kids styles n) t l (role styles t.token) (kids_shorter styles n) (kids_done styles n) (omega arith)

lexemes_placed : (n : ℕ) (ts : List Lexeme) → lexemes (placed n ts) ≡ ts
lexemes_placed n [] = refl
lexemes_placed n (t ∷ ts) = ap (λ l. t ∷ l) (lexemes_placed (n + length (slice_of t)) ts)

-- the marks, texts and closing marks of a tree are the tokens of its text
pub tree_lexemes : (styles : Styles) (s : List ℕ) → lexemes_of (tree_of styles s) ≡ tokens_of s
unfolding tree_of
tree_lexemes styles s =
    let l = placed 0 (tokens_of s) in
    let r = kids_of_list styles [] l in
    sym (append-nil (lexemes_of r.0)) ∙ ap (λ x. lexemes_of r.0 ++ lexemes x) (sym (kids_done styles (suc (length l)) l (omega arith)))
    ∙ kids_joins styles (suc (length l)) [] l ∙ lexemes_placed 0 (tokens_of s)

-- ---- its leaves

close_slices : (c : Option MarkParts) → close_leaves c ≡ map slice_of (close_lexemes c)
close_slices None = refl
close_slices (Some m) = refl

-- the leaves of a forest are the slices of its tokens
pub leaves_are : (f : Forest) → leaves_of f ≡ map slice_of (lexemes_of f)
leaves_are nothing = refl
leaves_are (text s t f) = ap (λ l. t ∷ l) (leaves_are f)
leaves_are (leaf s m f) = ap (λ l. mark_bytes m ∷ l) (leaves_are f)
leaves_are (node k s b m ks c f) =
    ap (λ l. mark_bytes m ∷ l)
    ((λ i. leaves_are ks i ++ (close_slices c i ++ leaves_are f i))
    ∙ ap (λ l. map slice_of (lexemes_of ks) ++ l) (sym (map-append slice_of (close_lexemes c) (lexemes_of f)))
    ∙ sym (map-append slice_of (lexemes_of ks) (close_lexemes c ++ lexemes_of f)))

-- the leaves of a tree are the slices of the tokens
pub tree_leaves : (styles : Styles) (s : List ℕ) → leaves_of (tree_of styles s) ≡ map slice_of (tokens_of s)
tree_leaves styles s = leaves_are (tree_of styles s) ∙ ap (map slice_of) (tree_lexemes styles s)

joined_slices : (ts : List Lexeme) → flat_map (λ t. t) (map slice_of ts) ≡ joined ts
joined_slices [] = refl
joined_slices (t ∷ ts) = ap (λ l. slice_of t ++ l) (joined_slices ts)

-- the bytes of a forest are those of its tokens
pub bytes_joined : (f : Forest) → bytes_of f ≡ joined (lexemes_of f)
bytes_joined f = ap (flat_map (λ t. t)) (leaves_are f) ∙ joined_slices (lexemes_of f)

-- and those of a tree its text's
pub tree_bytes : (styles : Styles) (s : List ℕ) → bytes_of (tree_of styles s) ≡ s
tree_bytes styles s = bytes_joined (tree_of styles s) ∙ ap joined (tree_lexemes styles s) ∙ joined-tokens_of s
