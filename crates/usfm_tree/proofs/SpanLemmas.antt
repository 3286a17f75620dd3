-- The bytes of what is open.
use Rattle.std.proofs.Common.{◌≡◌, ℕ, List, [], ◌∷◌, ◌++◌, map, reverse, Option, None, Some, sym, refl, ap, ◌∙◌, subst, append_assoc, append-nil}
use Rattle.std.proofs.lemmas.List.{reverse-append, map-append}
use Rattle.std.proofs.lemmas.Grind.{flat_map-append}
use Rattle.std.specs.List.{flat_map}
use Rattle.usfm_token.specs.Tokens.{MarkParts, mark_bytes}
use Rattle.sty_sheet.specs.declared.kind.StyleKind.{StyleKind}
use Rattle.usfm_tree.specs.declared.open.Open.{Open}
use Rattle.usfm_tree.specs.declared.reader.Begun.{Begun}
use Rattle.usfm_tree.specs.Forest.{Forest, nothing, text, leaf, node, ◌then◌, leaves_of, close_leaves, bytes_of, close_bytes, span_bytes}
use Rattle.usfm_tree.specs.Loops.ReaderViews.{Span, span_of, Adjoins}

-- the leaves of nodes one after the other
pub leaves_then : (f g : Forest) → leaves_of (f then g) ≡ leaves_of f ++ leaves_of g
leaves_then nothing g = refl
leaves_then (text s t f) g = ap (λ l. t ∷ l) (leaves_then f g)
leaves_then (leaf s m f) g = ap (λ l. mark_bytes m ∷ l) (leaves_then f g)
leaves_then (node k s b m ks c f) g =
    ap (λ l. mark_bytes m ∷ (leaves_of ks ++ (close_leaves c ++ l))) (leaves_then f g)
    ∙ ap (λ l. mark_bytes m ∷ (leaves_of ks ++ l)) (sym (append_assoc (close_leaves c) (leaves_of f) (leaves_of g)))
    ∙ ap (λ l. mark_bytes m ∷ l) (sym (append_assoc (leaves_of ks) (close_leaves c ++ leaves_of f) (leaves_of g)))

-- the bytes of nodes one after the other
pub bytes_then : (f g : Forest) → bytes_of (f then g) ≡ bytes_of f ++ bytes_of g
bytes_then f g = ap (flat_map (λ t. t)) (leaves_then f g) ∙ flat_map-append (λ (t : List ℕ). t) (leaves_of f) (leaves_of g)

close_is : (c : Option MarkParts) → flat_map (λ t. t) (close_leaves c ++ []) ≡ close_bytes c
close_is None = refl
close_is (Some m) = append-nil (mark_bytes m)

-- the bytes of one node
pub span_is : (k : StyleKind) (s : ℕ) (b : List ℕ) (m : MarkParts) (ks : Forest) (c : Option MarkParts)
    → bytes_of (node k s b m ks c nothing) ≡ span_bytes m ks c
span_is k s b m ks c = ap (λ l. mark_bytes m ++ l)
    (flat_map-append (λ (t : List ℕ). t) (leaves_of ks) (close_leaves c ++ []) ∙ ap (λ l. bytes_of ks ++ l) (close_is c))

-- open nodes with one more, as spans
pub spans_push : (os : List (Open Begun)) (o : Open Begun) → reverse (map span_of (os ++ o ∷ [])) ≡ span_of o ∷ reverse (map span_of os)
spans_push os o = ap reverse (map-append span_of os (o ∷ [])) ∙ reverse-append (map span_of os) (span_of o ∷ [])

-- what is open adjoins what is left still, with one node taken off the stack
pub adjoins_pop : (items new_items : List (Open Begun)) (o : Open Begun) (sofar : Forest) (rest : List ℕ) → items ≡ new_items ++ o ∷ []
    → Adjoins (reverse (map span_of items)) sofar rest → Adjoins (span_of o ∷ reverse (map span_of new_items)) sofar rest
adjoins_pop items new_items o sofar rest popped h =
    let F : List Span → Type 0 = λ ss. Adjoins ss sofar rest in
    subst F (ap (λ l. reverse (map span_of l)) popped ∙ spans_push new_items o) h

put_at : (ss : List Span) (sofar e : Forest) (rest : List ℕ) → Adjoins ss sofar (bytes_of e ++ rest) → Adjoins ss (sofar then e) rest
put_at [] sofar e rest h = tt
put_at (s ∷ ss) sofar e rest h = (
  h.0 ∙ ap (λ x. mark_bytes s.mark ++ x)
      (sym (append_assoc (bytes_of sofar) (bytes_of e) rest) ∙ ap (λ x. x ++ rest) (sym (bytes_then sofar e))),
  h.1,
)

-- an entry after what was read so far
pub adjoins_put : (ss new_ss : List Span) (sofar new_sofar e : Forest) (b rest : List ℕ) → Adjoins ss sofar (b ++ rest) → bytes_of e ≡ b
    → new_sofar ≡ sofar then e → new_ss ≡ ss → Adjoins new_ss new_sofar rest
adjoins_put ss new_ss sofar new_sofar e b rest h is made same =
    let F : List ℕ → Type 0 = λ x. Adjoins ss sofar (x ++ rest) in
    let G : Forest → Type 0 = λ x. Adjoins ss x rest in
    let H : List Span → Type 0 = λ x. Adjoins x new_sofar rest in
    subst H (sym same) (subst G (sym made) (put_at ss sofar e rest (subst F (sym is) h)))

-- what adjoins some bytes adjoins equal ones
pub adjoins_at : (ss : List Span) (sofar : Forest) (at rest : List ℕ) → Adjoins ss sofar at → at ≡ rest → Adjoins ss sofar rest
adjoins_at ss sofar at rest h is = let F : List ℕ → Type 0 = λ x. Adjoins ss sofar x in subst F is h

-- a mark that begins a node
pub adjoins_begin : (ss new_ss : List Span) (sofar new_sofar : Forest) (m : MarkParts) (at rest : List ℕ) → Adjoins ss sofar at
    → at ≡ mark_bytes m ++ rest → new_sofar ≡ nothing → new_ss ≡ record { from = at; mark = m; before = sofar } ∷ ss
    → Adjoins new_ss new_sofar rest
adjoins_begin ss new_ss sofar new_sofar m at rest h is made pushed =
    let G : Forest → Type 0 = λ x. Adjoins (record { from = at; mark = m; before = sofar } ∷ ss) x rest in
    let H : List Span → Type 0 = λ x. Adjoins x new_sofar rest in
    subst H (sym pushed) (subst G (sym made) (is, h))

-- the bytes of the innermost node, and what follows it
pub span_front : (from m_bytes inside close rest : List ℕ) → from ≡ m_bytes ++ (inside ++ (close ++ rest))
    → from ≡ (m_bytes ++ (inside ++ close)) ++ rest
span_front from m_bytes inside close rest h =
    h ∙ ap (λ x. m_bytes ++ x) (sym (append_assoc inside close rest)) ∙ sym (append_assoc m_bytes (inside ++ close) rest)

-- the innermost node ends
pub adjoins_end : (s : Span) (ss : List Span) (sofar new_sofar e : Forest) (close : Option MarkParts) (rest : List ℕ)
    → Adjoins (s ∷ ss) sofar (close_bytes close ++ rest) → bytes_of e ≡ span_bytes s.mark sofar close → new_sofar ≡ s.before then e
    → Adjoins ss new_sofar rest
adjoins_end s ss sofar new_sofar e close rest h is made =
    adjoins_put ss ss s.before new_sofar e (span_bytes s.mark sofar close) rest
    (adjoins_at ss s.before s.from (span_bytes s.mark sofar close ++ rest) h.1
    (span_front s.from (mark_bytes s.mark) (bytes_of sofar) (close_bytes close) rest h.0))
    is made refl

-- the bytes of a text
pub bytes_text : (s : ℕ) (t : List ℕ) → bytes_of (text s t nothing) ≡ t
bytes_text s t = append-nil t

-- the bytes of a leaf
pub bytes_leaf : (s : ℕ) (m : MarkParts) → bytes_of (leaf s m nothing) ≡ mark_bytes m
bytes_leaf s m = append-nil (mark_bytes m)
