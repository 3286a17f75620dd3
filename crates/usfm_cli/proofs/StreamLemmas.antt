-- Streams of bundles, and the sets that they spell.
use Rattle.std.proofs.Common.{◌≡◌, ℕ, zero, suc, ◌≤◌, List, [], ◌∷◌, ◌++◌, length, Option, Some}
use Rattle.std.proofs.Common.{None, Result, Ok, Err, arith, length-append, refl, sym, ap, ◌∙◌}
use Rattle.std.specs.List.{AllByRecursion, flat_map}
use Rattle.op_core.specs.Ids.{Id}
use Rattle.op_core.specs.Ops.{Operation}
use Rattle.op_core.specs.Sets.{IsOpSet, clash, join}
use Rattle.op_core.specs.Laws.{Joining, joined_or_clash, with_both, union_by, SameTogether}
use Rattle.op_core.specs.Laws.Joining.{Part, Joined}
use Rattle.op_core.proofs.Sets.Together.{joined_in, same_from_none}
use Rattle.bundle_codec.specs.declared.fault.BundleFault.{BundleFault}
use Rattle.bundle_codec.specs.Spelling.{bundle}
use Rattle.bundle_codec.specs.Reading.{AreBytes, bundle_at}
use Rattle.bundle_codec.proofs.Spelled.{bundle_reads}
use Rattle.usfm_cli.specs.Streams.{with_set, unless_clash, union_within, union_in, union_with}
use Rattle.usfm_cli.specs.Streams.{HasBundle, AreSpelled, book_from, book_of_stream}
use Rattle.usfm_cli.specs.StreamLaws.{IsStreamOf}
use Rattle.command_faults.specs.declared.fault.Fault.{Fault}
use Rattle.usfm_cli.proofs.Unions.{next, bundle_is_some}

abbrev AreEach : List (List Operation) → Type 0
AreEach sets = AllByRecursion HasBundle sets

within_end : (bound : ℕ) (held : List Operation) → union_within bound held [] ≡ Ok held
unfolding union_within
within_end zero held = refl
within_end (suc bound) held = refl

-- ---- from the sets to the stream

-- a stream that is bundles one after another is read as the union of their sets
pub to_union : (bound : ℕ) (held : List Operation) (sets : List (List Operation)) → AreEach sets → length (flat_map bundle sets) ≤ bound →
    union_within bound held (flat_map bundle sets) ≡ union_with held sets
to_union bound held [] each w = within_end bound held
to_union bound held (set ∷ rest) each w =
    let some = bundle_is_some set in
    let long = length-append (bundle set) (flat_map bundle rest) in
    let n = next bound held (bundle set ++ flat_map bundle rest) w (omega arith) (Ok (set, flat_map bundle rest))
    (bundle_reads.again set (flat_map bundle rest) ((each.0.set, each.0.counted), each.0.legal)) in
    n.2 ∙ ap (unless_clash (clash held set)) (to_union n.0 (join held set) rest each.1 (omega (arith, n.1)))

-- ---- from the stream to the sets

record Spells (held : List Operation) (input : List ℕ) (union : List Operation) : Type 0 where
  sets : List (List Operation)
  each : AreEach sets
  bytes : input ≡ flat_map bundle sets
  is : union_with held sets ≡ Ok union

no_clash : {X : Type 0} (c : Option Id) (r : Result X Fault) (x : X) → unless_clash c r ≡ Ok x → (c ≡ None) × (r ≡ Ok x)
no_clash None r x h = (refl, h)
no_clash (Some id) r x h = absurd cc

-- one bundle and what is left
read_on : (bound : ℕ) (held : List Operation) (bytes : List ℕ) (union : List Operation)
    → ((set : List Operation) (left : List ℕ) → AreBytes left → length left ≤ bound → union_within bound (join held set) left ≡ Ok union →
    Spells (join held set) left union)
    → AreBytes bytes → length bytes ≤ suc bound → (r : Result (List Operation × List ℕ) BundleFault) → bundle_at bytes ≡ r
    → with_set r (λ set left. unless_clash (clash held set) (union_within bound (join held set) left)) ≡ Ok union → Spells held bytes union
read_on bound held bytes union rest b w (Err f) e h = absurd cc
read_on bound held bytes union rest b w (Ok p) e h =
    let t = bundle_reads.takes bytes p.0 p.1 b e in
    let c = no_clash (clash held p.0) (union_within bound (join held p.0) p.1) union h in
    let some = bundle_is_some p.0 in
    let long = ap length t.0.parts ∙ length-append (bundle p.0) p.1 in
    let s = rest p.0 p.1 t.0.rest_fits (omega arith) c.1 in
    record {
      sets = p.0 ∷ s.sets;
      each = (record { set = t.1.0.0; legal = t.1.1; counted = t.1.0.1 }, s.each);
      bytes = t.0.parts ∙ ap (λ (left : List ℕ). bundle p.0 ++ left) s.bytes;
      is = ap (λ x. unless_clash x (union_with (join held p.0) s.sets)) c.0 ∙ s.is;
    }

spells : (bound : ℕ) (held : List Operation) (input : List ℕ) (union : List Operation) → AreBytes input → length input ≤ bound →
    union_within bound held input ≡ Ok union → Spells held input union
unfolding union_within
spells bound held [] union b w h = record { sets = []; each = tt; bytes = refl; is = h }
spells zero held (x ∷ input) union b w h = absurd (omega arith)
spells (suc bound) held (x ∷ input) union b w h =
    read_on bound held (x ∷ input) union (λ set left b w h. spells bound (join held set) left union b w h) b w
    (bundle_at (x ∷ input)) refl h

-- a stream that is read as a union is one of bundles
pub stream_of : (input : List ℕ) (union : List Operation) → AreBytes input → union_in [] input ≡ Ok union → IsStreamOf input union
stream_of input union b h =
    let s = spells (length input) [] input union b (omega arith) h in
    record { sets = s.sets; spelled = record { each = s.each; bytes = s.bytes }; union_is = s.is }

-- what a stream is read as is the union of the sets that it spells
pub gives_union : (sets : List (List Operation)) (input : List ℕ) → AreSpelled sets input → union_in [] input ≡ union_with [] sets
gives_union sets input s =
    ap (λ (bytes : List ℕ). union_in [] bytes) s.bytes ∙ to_union (length (flat_map bundle sets)) [] sets s.each (omega arith)

-- ---- order, grouping and repetition

-- sets joined to a union one after another, as one way of joining
pub union_joined : (way : Joining) (held : List Operation) (sets : List (List Operation)) (union : List Operation) →
    union_by way ≡ Ok held → union_with held sets ≡ Ok union → union_by (joined_in way sets) ≡ Ok union
union_joined way held [] union w h = let same : held ≡ union = cc h in w ∙ ap Ok same
union_joined way held (set ∷ rest) union w h =
    let c = no_clash (clash held set) (union_with (join held set) rest) union h in
    let more : union_by (Joined way (Part set)) ≡ Ok (join held set) =
    ap (λ r. with_both r (Ok set) (λ a b. joined_or_clash a b (clash a b))) w ∙ ap (joined_or_clash held set) c.0 in
    union_joined (Joined way (Part set)) (join held set) rest union more c.1

-- what streams spell are sets
pub are_sets : (sets : List (List Operation)) → AreEach sets → AllByRecursion IsOpSet sets
are_sets [] each = tt
are_sets (set ∷ rest) each = (each.0.set, are_sets rest each.1)

-- streams with the same operations together have the same bytes of every book
pub same_books : (sets others : List (List Operation)) (input other : List ℕ) (a b : List Operation) →
    AreSpelled sets input → AreSpelled others other → SameTogether sets others → union_in [] input ≡ Ok a →
    union_in [] other ≡ Ok b → (book : List ℕ) → book_of_stream book input ≡ book_of_stream book other
same_books sets others input other a b s t same ha hb book = ap (book_from book) (ha ∙ ap Ok union ∙ sym hb)
  where
    union : a ≡ b
    union = same_from_none sets others a b (are_sets sets s.each) (are_sets others t.each) same
        (union_joined (Part []) [] sets a refl (sym (gives_union sets input s) ∙ ha))
        (union_joined (Part []) [] others b refl (sym (gives_union others other t) ∙ hb))
