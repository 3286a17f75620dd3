-- Each reader of operations and of bundles reads exactly what is spelled so.
use Rattle.std.proofs.Common.{◌≡◌, ℕ, ◌+◌, ◌^◌, Bool, true, false, cond, ◌||◌, eqb, List, [], ◌∷◌, ◌++◌, length, codes, IsTrue, Option, Some, None, Ok, Err, is_some, refl, sym, ap, ◌∙◌}
use Rattle.std.specs.Int.{w64}
use Rattle.std.specs.List.{list_all, AllByRecursion}
use Rattle.std.proofs.lemmas.Bool.{and_parts, and_from, eqb-true}
use Rattle.std.proofs.lemmas.List.{append-nil}
use Rattle.std.proofs.lemmas.Str.{IsUtf8-from_is_utf8, is_utf8-from_IsUtf8}
use Rattle.usfm_ref.specs.Books.{is_book_code}
use Rattle.usfm_ref.specs.Keys.{is_key}
use Rattle.usfm_ref.specs.Segments.{segment}
use Rattle.usfm_ref.specs.declared.segment.Segment.{Segment}
use Rattle.op_core.specs.Ids.{Id}
use Rattle.op_core.specs.Ops.{Operation, IsOperation, MayBeText, is_full}
use Rattle.op_core.specs.Sets.{IsOpSet}
use Rattle.op_core.specs.Thinned.{is_past, is_legal, all_full}
use Rattle.op_core.proofs.Sets.Legal.{full_legal}
use Rattle.bundle_codec.specs.declared.fault.BundleFault.TheVariants.{Magic, Truncated, NotRising, BadId, BadKey, BadReplaced, NotUtf8, BadText, Unsupported}
use Rattle.bundle_codec.specs.Spelling.{digit, magic_of, id, key, ids, body, operation, counted_operations, bundle, IsCounted, AreCounted}
use Rattle.bundle_codec.specs.Reading.{any, comes_after, is_tag, may_be_utf8, may_fit, operation_at, after_operation, counted_operations_at, is_digit, magic_at, fields_at, unnamed_from, unnamed_place, judge_named, judge_thinned, bundle_at}
use Rattle.bundle_codec.proofs.Readers.{Each, Reads, step, ends, checked, judged, reads_as, many_reads}
use Rattle.bundle_codec.proofs.FieldReaders.{byte_reads, block_reads, number_reads, exactly_reads, wide64}
use Rattle.bundle_codec.proofs.RisingIds.{Climbs, rises-from_climbs, climbs-from_rises}
use Rattle.bundle_codec.proofs.FieldsSpelled.{id_reads, replaced_reads, key_reads, tag_of, body_reads}
use Rattle.usfm_ref.proofs.Codes.{code_length}
use Rattle.verse_cut.proofs.FitLaws.{fits_is_read}

-- ---- an operation

-- an operation that may be in a bundle of a format after the one before it
abbrev pub Follows : Bool → Option Id → Operation → Type 0
Follows full before o = (comes_after before o.id ≡ true) × ((is_tag full (tag_of o.text) ≡ true) × (IsOperation o × IsCounted o))

-- a text that is not left out, as it is judged and as it is said
text_to : (g : Segment) (text : Option (List ℕ)) → may_be_utf8 text ≡ true → may_fit g.book g.key text ≡ true → MayBeText g text
text_to g None u f = tt
text_to g (Some text) u f = record { utf8 = IsUtf8-from_is_utf8 text u; fits = (fits_is_read g.book g.key text).0 f }

pub text_from : (g : Segment) (text : Option (List ℕ)) → MayBeText g text → (may_be_utf8 text ≡ true) × (may_fit g.book g.key text ≡ true)
text_from g None f = (refl, refl)
text_from g (Some text) f = (is_utf8-from_IsUtf8 text f.utf8, (fits_is_read g.book g.key text).1 f.fits)

-- an operation that follows is read off its spelling
pub operation_reads : (full : Bool) (k : ℕ) (before : Option Id)
    → Reads (operation_at full k before) operation (Follows full before)
unfolding operation_at
operation_reads full k before =
    reads_as operation (Follows full before)
    (step (λ (o : Operation). o.id) (id_reads (BadId k)) (λ i. checked (comes_after before i) (NotRising k)
    (step (λ (o : Operation). o.segment.book) (block_reads 3 is_book_code (BadKey k)) (λ book.
    step (λ (o : Operation). o.segment.key) (key_reads (BadKey k)) (λ key.
    step (λ (o : Operation). o.replaced) (replaced_reads (BadReplaced k) i) (λ replaced.
    step (λ (o : Operation). o.text) (body_reads full k)
    (λ text. checked (may_be_utf8 text) (NotUtf8 k) (checked (may_fit book key text) (BadText k)
    (ends (record { id = i; segment = segment book key; replaced = replaced; text = text }))))
    (λ text o _ f. ap (λ (x : Operation). x.text) (sym f.1.1)))
    (λ replaced o _ f. ap (λ (x : Operation). x.replaced) (sym f.1.1.1)))
    (λ key o _ f. ap (λ (x : Operation). x.segment.key) (sym f.1.1.1.1)))
    (λ book o _ f. ap (λ (x : Operation). x.segment.book) (sym f.1.1.1.1.1))))
    (λ i o _ f. ap (λ (x : Operation). x.id) (sym f.1.1.1.1.1.1.1)))
    (λ o f. (
      f.1.0,
      (
        f.1.1.1.1.1.0.0,
        (
          record {
            id = f.0;
            segment = and_from _ _ f.1.1.0.1 f.1.1.1.0;
            ids = f.1.1.1.1.0.1.0;
            falls = f.1.1.1.1.0.1.1;
            text = text_to o.segment o.text f.1.1.1.1.1.1.0 f.1.1.1.1.1.1.1.0;
          },
          record { replaced = f.1.1.1.1.0.0; text = f.1.1.1.1.1.0.1 },
        ),
      ),
    ))
    (λ o f.
    let fits = f.1.1.0 in
    let text = text_from o.segment o.text fits.text in
    let segment = and_parts (is_book_code o.segment.book) (is_key o.segment.key.chapter o.segment.key.place) fits.segment in (
      fits.id,
      (
        f.0,
        (
          (code_length o.segment.book segment.0, segment.0),
          (segment.1, ((f.1.1.1.replaced, (fits.ids, fits.falls)), ((f.1.0, f.1.1.1.text), (text.0, (text.1, refl))))),
        ),
      ),
    ))
    (λ o f. ap (λ (w : List ℕ). id o.id ++ (o.segment.book ++ (key o.segment.key ++ (ids o.replaced ++ w)))) (append-nil (body o.text)))

-- ---- a bundle

-- the places say nothing of what may follow
abbrev pub FollowsAt : Bool → ℕ × Option Id → Operation → Type 0
FollowsAt full s o = Follows full s.1 o

-- of format 1, each operation has its text
abbrev pub IsOfFormat : Bool → List Operation → Type 0
IsOfFormat full ops = full ≡ true → all_full ops ≡ true

each_climbs_ops : (full : Bool) (k : ℕ) (before : Option Id) (ops : List Operation)
    → Each (FollowsAt full) after_operation (k, before) ops → Climbs (λ o. o.id) before ops
each_climbs_ops full k before [] e = tt
each_climbs_ops full k before (o ∷ ops) e = (e.0.0, each_climbs_ops full (k + 1) (Some o.id) ops e.1)

each_fits : (full : Bool) (k : ℕ) (before : Option Id) (ops : List Operation) → Each (FollowsAt full) after_operation (k, before) ops
    → AllByRecursion IsOperation ops × AllByRecursion IsCounted ops
each_fits full k before [] e = (tt, tt)
each_fits full k before (o ∷ ops) e =
    let p = each_fits full (k + 1) (Some o.id) ops e.1 in ((e.0.1.1.0, p.0), (e.0.1.1.1, p.1))

-- the tag of an operation and the tags of format 1
full_tag : (text : Option (List ℕ)) → is_tag true (tag_of text) ≡ true → is_some text ≡ true
full_tag None h = absurd cc
full_tag (Some text) h = refl

pub any_tag : (text : Option (List ℕ)) → is_tag false (tag_of text) ≡ true
any_tag None = refl
any_tag (Some text) = refl

tag_in : (full : Bool) (text : Option (List ℕ)) → (full ≡ true → is_some text ≡ true) → is_tag full (tag_of text) ≡ true
tag_in full (Some text) h = refl
tag_in false None h = refl
tag_in true None h = h refl

each_full : (k : ℕ) (before : Option Id) (ops : List Operation) → Each (FollowsAt true) after_operation (k, before) ops
    → all_full ops ≡ true
each_full k before [] e = refl
each_full k before (o ∷ ops) e = and_from _ _ (full_tag o.text e.0.1.0) (each_full (k + 1) (Some o.id) ops e.1)

each_of_format : (full : Bool) (ops : List Operation) → Each (FollowsAt full) after_operation (1, None) ops → IsOfFormat full ops
each_of_format true ops e h = each_full 1 None ops e
each_of_format false ops e h = absurd cc

-- operations that rise, and are of the format, follow one another
pub each_follows : (full : Bool) (k : ℕ) (before : Option Id) (ops : List Operation) → Climbs (λ o. o.id) before ops
    → AllByRecursion IsOperation ops → AllByRecursion IsCounted ops → IsOfFormat full ops
    → Each (FollowsAt full) after_operation (k, before) ops
each_follows full k before [] c a b h = tt
each_follows full k before (o ∷ ops) c a b h = (
  (c.0, (tag_in full o.text (λ e. (and_parts (is_full o) (all_full ops) (h e)).0), (a.0, b.0))),
  each_follows full (k + 1) (Some o.id) ops c.1 a.1 b.1 (λ e. (and_parts (is_full o) (all_full ops) (h e)).1),
)

-- what is spelled by a bundle
abbrev pub IsSpelled : List Operation → Type 0
IsSpelled ops = IsOpSet ops × AreCounted ops

-- what is spelled by the fields of a bundle of a format
abbrev pub IsSpelledIn : Bool → List Operation → Type 0
IsSpelledIn full ops = IsSpelled ops × IsOfFormat full ops

pub operations_follow : (full : Bool) (ops : List Operation) → IsSpelledIn full ops → Each (FollowsAt full) after_operation (1, None) ops
operations_follow full ops s =
    each_follows full 1 None ops (climbs-from_rises (λ o. o.id) ops s.0.0.rising) s.0.0.each s.0.1.each s.1

pub counted_operations_reads : (full : Bool) → Reads (counted_operations_at full) counted_operations (IsSpelledIn full)
unfolding counted_operations_at
counted_operations_reads full =
    reads_as counted_operations (IsSpelledIn full)
    (step (λ (ops : List Operation). length ops) (number_reads w64 (2 ^ 64) wide64 any Truncated) (λ count.
    many_reads (λ s. operation_at full s.0 s.1) after_operation operation (FollowsAt full) (λ s. operation_reads full s.0 s.1)
    count (1, None))
    (λ count ops _ f. f.0))
    (λ ops f. let p = each_fits full 1 None ops f.1.1 in (
      (
        record { rising = rises-from_climbs (λ o. o.id) None ops (each_climbs_ops full 1 None ops f.1.1); each = p.0 },
        record { count = f.0.0; each = p.1 },
      ),
      each_of_format full ops f.1.1,
    ))
    (λ ops f. ((f.0.1.count, refl), (refl, operations_follow full ops f)))
    (λ ops f. refl)

-- ---- the magic

digit_is : (full : Bool) → eqb (digit full) 49 ≡ full
digit_is true = refl
digit_is false = refl

a_digit : (full : Bool) → is_digit (digit full) ≡ true
a_digit true = refl
a_digit false = refl

digit_of : (b : ℕ) → is_digit b ≡ true → digit (eqb b 49) ≡ b
digit_of b h = by (eqb b 49) refl h
  where
    by : (c : Bool) → eqb b 49 ≡ c → (c || eqb b 50) ≡ true → digit c ≡ b
    by true e f = sym (eqb-true b 49 e)
    by false e f = sym (eqb-true b 50 f)

-- the first bytes of a bundle are read off their spelling
pub magic_reads : Reads magic_at magic_of (λ _. Unit {0})
unfolding magic_at magic_of
magic_reads =
    reads_as magic_of (λ _. Unit {0})
    (step (λ (full : Bool). tt) (exactly_reads (codes "USFMSR") Magic) (λ _.
    step digit (byte_reads is_digit Magic) (λ b.
    step (λ (full : Bool). tt) (exactly_reads (10 ∷ []) Magic) (λ _. ends (eqb b 49))
    (λ _ full _ f. refl))
    (λ b full h f. ap digit (sym f.1) ∙ digit_of b h))
    (λ _ full _ f. refl))
    (λ full f. tt)
    (λ full f. (tt, (a_digit full, (tt, digit_is full))))
    (λ full f. refl)

-- ---- the whole bundle

-- a format and operations of it, as they are spelled
abbrev pub fields : Bool × List Operation → List ℕ
fields x = magic_of x.0 ++ counted_operations x.1

pub fields_reads : Reads fields_at fields (λ x. IsSpelledIn x.0 x.1)
unfolding fields_at
fields_reads =
    reads_as fields (λ x. IsSpelledIn x.0 x.1)
    (step (λ (x : Bool × List Operation). x.0) magic_reads (λ full.
    step (λ (x : Bool × List Operation). x.1) (counted_operations_reads full) (λ ops. ends (full, ops))
    (λ ops x _ f. ap (λ (y : Bool × List Operation). y.1) (sym f)))
    (λ full x _ f. ap (λ (y : Bool × List Operation). y.0) (sym f.1)))
    (λ x f. f.1.0)
    (λ x f. (tt, (f, refl)))
    (λ x f. ap (λ (w : List ℕ). magic_of x.0 ++ w) (append-nil (counted_operations x.1)))

-- ---- thinned operations

-- where none is unnamed, the operations are legal among those that are held
none_unnamed : (held : List Operation) (k : ℕ) (ops : List Operation) → unnamed_from held k ops ≡ None
    → list_all (λ o. is_full o || is_past held o) ops ≡ true
none_unnamed held k [] e = refl
none_unnamed held k (o ∷ ops) e = by (is_full o || is_past held o) refl e (λ n. none_unnamed held (k + 1) ops n)
  where
    by : (b : Bool) → (is_full o || is_past held o) ≡ b → cond b (unnamed_from held (k + 1) ops) (Some k) ≡ None
        → (unnamed_from held (k + 1) ops ≡ None → list_all (λ o. is_full o || is_past held o) ops ≡ true)
        → list_all (λ o. is_full o || is_past held o) (o ∷ ops) ≡ true
    by true h n on = and_from _ _ h (on n)
    by false h n on = absurd cc

unnamed_none : (held : List Operation) (k : ℕ) (ops : List Operation) → list_all (λ o. is_full o || is_past held o) ops ≡ true
    → unnamed_from held k ops ≡ None
unnamed_none held k [] e = refl
unnamed_none held k (o ∷ ops) e =
    let p = and_parts (is_full o || is_past held o) (list_all (λ o. is_full o || is_past held o) ops) e in
    rw p.0 (unnamed_none held (k + 1) ops p.1)

named_none : (found : Option ℕ) → judge_named found ≡ Ok tt → found ≡ None
named_none None e = refl
named_none (Some k) e = absurd cc

-- what is judged right is legal, and of the format that it is spelled in
pub judged_right : (full : Bool) (ops : List Operation) → IsOfFormat full ops → judge_thinned full ops ≡ Ok tt
    → (full ≡ all_full ops) × (is_legal ops ≡ true)
judged_right true ops f e = (sym (f refl), full_legal ops ops (f refl))
judged_right false ops f e = by (all_full ops) refl e
  where
    by : (b : Bool) → all_full ops ≡ b → cond b (Err (Unsupported 0)) (judge_named (unnamed_place ops)) ≡ Ok tt
        → (false ≡ all_full ops) × (is_legal ops ≡ true)
    by true h e = absurd cc
    by false h e = (sym h, none_unnamed ops 1 ops (named_none (unnamed_place ops) e))

pub right_judged : (ops : List Operation) → is_legal ops ≡ true → judge_thinned (all_full ops) ops ≡ Ok tt
right_judged ops h = by (all_full ops) refl
  where
    by : (b : Bool) → all_full ops ≡ b → judge_thinned b ops ≡ Ok tt
    by true e = refl
    by false e = rw (e, unnamed_none ops 1 ops h) refl

-- the operations of a legal set, with the format that it has
abbrev pub of_set : List Operation → Bool × List Operation
of_set ops = (all_full ops, ops)

-- a bundle is read exactly where a legal set is spelled
pub bundle_reads : Reads bundle_at bundle (λ ops. IsSpelled ops × IsTrue (is_legal ops))
unfolding bundle_at bundle
bundle_reads =
    reads_as bundle (λ ops. IsSpelled ops × IsTrue (is_legal ops))
    (judged of_set (λ x. x.1) (λ x. judge_thinned x.0 x.1) fields_reads
    (λ x f j. λ i. (sym (judged_right x.0 x.1 f.1 j).0 i, x.1))
    (λ ops. refl))
    (λ ops f. (f.0.0, (judged_right (all_full ops) ops f.0.1 f.1).1))
    (λ ops f. ((f.0, λ e. e), right_judged ops f.1))
    (λ ops f. refl)
