-- Texts in a map by their segments: they are those of a search through the list.
use Rattle.std.proofs.Common.{◌≡◌, ℕ, Bool, true, false, cond, List, [], ◌∷◌, Option, Some, None, is_some, Bor}
use Rattle.std.proofs.Common.{rules, refl, sym, ap, subst, ◌∙◌}
use Rattle.std.proofs.lemmas.Bool.{false≢true}
use Rattle.std.specs.BTreeMap.{get}
use Rattle.std.specs.Cmp.{Equal-is}
use Rattle.std.specs.List.{find}
use Rattle.std.specs.Option.{option_map, option_or}
use Rattle.std.specs.Ordering.{is_eq}
use Rattle.usfm_ref.specs.Segments.{segment, segment_cmp, same_segment}
use Rattle.usfm_ref.specs.contracts.segment.SegmentOrd.TheImpl as segments
use Rattle.usfm_ref.specs.declared.segment.Segment.{Segment}
use Rattle.usfm_ref.proofs.Orders.{segment_exact, same_segment-cmp}
use Rattle.op_core.specs.Ops.{Operation}
use Rattle.book_folder.specs.Bases.{stood_text}
use Rattle.book_folder.specs.StoodTexts.{Texts, text_under, PutsText}
use Rattle.book_folder.specs.Taking.{StoodParts}

-- the order of a map's segments is that of segments
pub cmp_is : segments.ghosts.cmp ≡ segment_cmp
cmp_is i a b = same a b i
  where
    same : (a b : Segment) → segments.ghosts.cmp a b ≡ segment_cmp a b
    same a b = search rules

-- what is not there is none
pub none_of : {A : Type 0} (x : Option A) → is_some x ≡ false → x ≡ None
none_of None h = refl
none_of (Some a) h = absurd (false≢true (sym h))

-- none is taken in the place of nothing
pub or_none : {A : Type 0} (x : Option A) → x ≡ option_or x None
or_none None = refl
or_none (Some a) = refl

-- what there is stays
pub stays : {A B : Type 0} (f : A → B) (x : Option A) (y : Option B) → is_some x ≡ true
    → option_map f x ≡ option_or (option_map f x) y
stays f None y h = absurd (false≢true h)
stays f (Some a) y h = refl

-- the first of three that there is
pub or_assoc : {A : Type 0} (x y z : Option A) → option_or (option_or x y) z ≡ option_or x (option_or y z)
or_assoc None y z = refl
or_assoc (Some a) y z = refl

-- the segment that one is for
abbrev key_of : StoodParts → Segment
key_of s = segment s.book s.key

abbrev text_in : Option (Bor (List ℕ)) → Option (List ℕ)
text_in = option_map (λ x. x.now)

-- the text of one, where its segment is this
abbrev pub text_if : StoodParts → Bool → Option (List ℕ)
text_if s b = option_map (λ s. s.text) (cond b (Some s) None)

one_text : (s : StoodParts) (o : Operation) (b : Bool) → is_eq (segment_cmp (key_of s) o.segment) ≡ b
    → text_if s b ≡ stood_text (s ∷ []) o
one_text s o b e = ap (text_if s) (sym (same_segment-cmp (key_of s) o.segment ∙ e))

-- a text that is put under a segment which has none
pub put_new : (m n : Texts) (s : StoodParts) (t : Bor (List ℕ)) → t.now ≡ s.text
    → is_some (get segment_cmp m (key_of s)) ≡ false
    → ((q : Segment) → get segment_cmp n q ≡ cond (is_eq (segment_cmp (key_of s) q)) (Some t) (get segment_cmp m q))
    → PutsText m s n
put_new m n s t text absent updates o = by (is_eq (segment_cmp (key_of s) o.segment)) refl
  where
    by : (b : Bool) → is_eq (segment_cmp (key_of s) o.segment) ≡ b → text_under n o ≡ option_or (text_under m o) (stood_text (s ∷ []) o)
    by true e =
        let none : get segment_cmp m o.segment ≡ None =
        subst (λ (g : Segment). get segment_cmp m g ≡ None) (segment_exact (key_of s) o.segment ((Equal-is _).0 e)) (none_of _ absent) in
        ap text_in (updates o.segment ∙ ap (λ b. cond b (Some t) (get segment_cmp m o.segment)) e)
        ∙ ap Some text
        ∙ one_text s o true e
        ∙ ap (λ x. option_or (text_in x) (stood_text (s ∷ []) o)) (sym none)
    by false e =
        ap text_in (updates o.segment ∙ ap (λ b. cond b (Some t) (get segment_cmp m o.segment)) e)
        ∙ or_none (text_under m o)
        ∙ ap (option_or (text_under m o)) (one_text s o false e)

-- a text is not put where its segment has one
pub put_none : (m : Texts) (s : StoodParts) → is_some (get segment_cmp m (key_of s)) ≡ true → PutsText m s m
put_none m s present o = by (is_eq (segment_cmp (key_of s) o.segment)) refl
  where
    by : (b : Bool) → is_eq (segment_cmp (key_of s) o.segment) ≡ b → text_under m o ≡ option_or (text_under m o) (stood_text (s ∷ []) o)
    by true e =
        stays (λ x. x.now) (get segment_cmp m o.segment) (stood_text (s ∷ []) o)
        (subst (λ (g : Segment). is_some (get segment_cmp m g) ≡ true) (segment_exact (key_of s) o.segment ((Equal-is _).0 e)) present)
    by false e = or_none (text_under m o) ∙ ap (option_or (text_under m o)) (one_text s o false e)

or_later : (s : StoodParts) (b : Bool) (x : Option StoodParts)
    → option_or (text_if s b) (option_map (λ t. t.text) x) ≡ option_map (λ t. t.text) (cond b (Some s) x)
or_later s true x = refl
or_later s false x = refl

first_text : (s : StoodParts) (later : List StoodParts) (o : Operation)
    → option_or (stood_text (s ∷ []) o) (stood_text later o) ≡ stood_text (s ∷ later) o
first_text s later o = or_later s (same_segment (key_of s) o.segment) (find (λ t. same_segment (key_of t) o.segment) later)

-- one text more is put, and those of the rest are still to be
pub one_more : (m n : Texts) (s : StoodParts) (later : List StoodParts) (o : Operation) → PutsText m s n
    → option_or (text_under n o) (stood_text later o) ≡ option_or (text_under m o) (stood_text (s ∷ later) o)
one_more m n s later o put =
    ap (λ x. option_or x (stood_text later o)) (put o)
    ∙ or_assoc (text_under m o) (stood_text (s ∷ []) o) (stood_text later o)
    ∙ ap (option_or (text_under m o)) (first_text s later o)
