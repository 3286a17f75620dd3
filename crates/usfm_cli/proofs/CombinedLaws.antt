-- Bundles combined in whatever order and grouping, and one after another.
use Rattle.std.proofs.Common.{◌≡◌, ◌<◌, ◌^◌, ℕ, suc, true, List, [], ◌∷◌, ◌++◌, length, map, append-nil, Option, Some, None}
use Rattle.std.proofs.Common.{Result, Ok, Err, ◌⊎◌, inl, inr, arith, refl, sym, ap, subst, ◌∙◌}
use Rattle.std.specs.List.{AllByRecursion, flat_map}
use Rattle.op_core.specs.Ids.{Id}
use Rattle.op_core.specs.Ops.{Operation}
use Rattle.op_core.specs.Sets.{IsOpSet, clash, join}
use Rattle.op_core.specs.Thinned.{is_legal}
use Rattle.op_core.specs.Laws.{Joining, AreSets, IsInOne, joined_or_clash, with_both, union_by, IsAmong, SameTogether}
use Rattle.op_core.specs.Laws.Joining.{Part, Joined}
use Rattle.op_core.proofs.Sets.Joinings.{same_unions}
use Rattle.op_core.proofs.Sets.Legal.{join_legal}
use Rattle.op_core.proofs.Sets.Together.{joined_in, same_from_none}
use Rattle.op_core.proofs.Sets.Union.{IsOpSet-join, agree_from_no_clash}
use Rattle.bundle_codec.specs.Joining.{whole_at, whole_if}
use Rattle.bundle_codec.specs.Spelling.{bundle}
use Rattle.bundle_codec.proofs.OneSpelling.{AreCounted-from_length}
use Rattle.bundle_codec.proofs.Spelled.{bundle_reads}
use Rattle.command_faults.specs.declared.fault.Fault.{Fault}
use Rattle.usfm_cli.specs.Combining.{with_set, unless_clash, union_of, bundle_or, combined, combined_stream}
use Rattle.usfm_cli.specs.CombiningLaws.{without_place}
use Rattle.usfm_cli.specs.Streams as streams
use Rattle.usfm_cli.specs.Streams.{HasBundle, union_with}
use Rattle.usfm_cli.specs.declared.turns.TurnFault.{TurnFault}
use Rattle.usfm_cli.specs.declared.turns.TurnFault.TheVariants.{Project, Turn}
use Rattle.usfm_cli.proofs.Combined.{union_on, union_none, union_some, first_taken}
use Rattle.usfm_cli.proofs.StreamLemmas.{are_sets, gives_union}

abbrev AreEach : List (List Operation) → Type 0
AreEach sets = AllByRecursion HasBundle sets

-- a bundle is read as its set
set_read : (set : List Operation) → HasBundle set → whole_at (bundle set) ≡ Ok set
set_read set h =
    ap whole_at (sym (append-nil (bundle set)))
    ∙ ap whole_if (bundle_reads.again set [] ((h.set, h.counted), h.legal))

-- the bundle of a union that is answered
made_is : (r : Result (List Operation) TurnFault) (made : List ℕ) → bundle_or r ≡ Ok made
    → (union : List Operation) × (r ≡ Ok union) × (made ≡ bundle union)
made_is (Ok union) made e = (union, refl, cc (sym e))
made_is (Err fault) made e = cc e

-- ---- in whatever order and grouping

-- bundles that have a union are joined so, one after another
in_turn : (way : Joining) (at : ℕ) (held : List Operation) (sets : List (List Operation)) (union : List Operation) → AreEach sets
    → union_by way ≡ Ok held → union_of at held (map bundle sets) ≡ Ok union → union_by (joined_in way sets) ≡ Ok union
in_turn way at held [] union each w h =
    let same : Ok held ≡ Ok union = sym (union_none at held) ∙ h in
    let is : held ≡ union = cc same in w ∙ ap Ok is
in_turn way at held (set ∷ rest) union each w h =
    let t = first_taken at held (bundle set) (map bundle rest) union h in
    let read : Ok set ≡ Ok t.set = sym (set_read set each.0) ∙ t.read in
    let is : set ≡ t.set = cc read in
    let agrees : clash held set ≡ None = ap (clash held) is ∙ t.agrees in
    let more : union_by (Joined way (Part set)) ≡ Ok (join held set) =
    ap (λ r. with_both r (Ok set) (λ a b. joined_or_clash a b (clash a b))) w ∙ ap (joined_or_clash held set) agrees in
    in_turn (Joined way (Part set)) (suc at) (join held set) rest union each.1 more
    (ap (λ (s : List Operation). union_of (suc at) (join held s) (map bundle rest)) is ∙ t.rest)

-- the union of some sets that have bundles is a legal set
legal_union : (at : ℕ) (held : List Operation) (sets : List (List Operation)) (union : List Operation) → AreEach sets
    → IsOpSet held → is_legal held ≡ true → union_of at held (map bundle sets) ≡ Ok union → IsOpSet union × (is_legal union ≡ true)
legal_union at held [] union each s l h =
    let same : Ok held ≡ Ok union = sym (union_none at held) ∙ h in
    let is : held ≡ union = cc same in
    (subst IsOpSet is s, ap is_legal (sym is) ∙ l)
legal_union at held (set ∷ rest) union each s l h =
    let t = first_taken at held (bundle set) (map bundle rest) union h in
    let read : Ok set ≡ Ok t.set = sym (set_read set each.0) ∙ t.read in
    let is : set ≡ t.set = cc read in
    let agrees : clash held set ≡ None = ap (clash held) is ∙ t.agrees in
    legal_union (suc at) (join held set) rest union each.1 (IsOpSet-join held set s each.0.set)
    (join_legal held set s.rising each.0.set.rising l each.0.legal (agree_from_no_clash held set agrees))
    (ap (λ (x : List Operation). union_of (suc at) (join held x) (map bundle rest)) is ∙ t.rest)

-- sets that have the same operations together have one bundle
pub same_bundle : (sets others : List (List Operation)) (one other : List ℕ) → AreEach sets → AreEach others
    → SameTogether sets others → combined (map bundle sets) ≡ Ok one → combined (map bundle others) ≡ Ok other → one ≡ other
same_bundle sets others one other s t same a b =
    let x = made_is (union_of 0 [] (map bundle sets)) one a in
    let y = made_is (union_of 0 [] (map bundle others)) other b in
    let is = same_from_none sets others x.0 y.0 (are_sets sets s) (are_sets others t) same
    (in_turn (Part []) 0 [] sets x.0 s refl x.1) (in_turn (Part []) 0 [] others y.0 t refl y.1) in
    x.2 ∙ ap bundle is ∙ sym y.2

-- ---- as a tree

empty_set : IsOpSet []
empty_set = record { rising = refl; each = tt }

joined_sets : (way : Joining) (sets : List (List Operation)) → AreSets way → AllByRecursion IsOpSet sets → AreSets (joined_in way sets)
joined_sets way [] w each = w
joined_sets way (set ∷ rest) w each = joined_sets (Joined way (Part set)) rest (w, each.0) each.1

in_way : (way : Joining) (sets : List (List Operation)) (o : Operation) → IsInOne (joined_in way sets) o → IsInOne way o ⊎ IsAmong sets o
in_way way [] o i = inl i
in_way way (set ∷ rest) o i = elim (in_way (Joined way (Part set)) rest o i) [
  | inl here ↦ elim here [ inl before ↦ inl before | inr mine ↦ inr (inl mine) ]
  | inr later ↦ inr (inr later)
]

way_in : (way : Joining) (sets : List (List Operation)) (o : Operation) → IsInOne way o ⊎ IsAmong sets o → IsInOne (joined_in way sets) o
way_in way [] o (inl before) = before
way_in way [] o (inr never) = absurd never
way_in way (set ∷ rest) o (inl before) = way_in (Joined way (Part set)) rest o (inl (inl before))
way_in way (set ∷ rest) o (inr (inl mine)) = way_in (Joined way (Part set)) rest o (inl (inr mine))
way_in way (set ∷ rest) o (inr (inr later)) = way_in (Joined way (Part set)) rest o (inr later)

-- some sets after others are joined one after another
joined_append : (way : Joining) (sets rest : List (List Operation)) → joined_in way (sets ++ rest) ≡ joined_in (joined_in way sets) rest
joined_append way [] rest = refl
joined_append way (set ∷ sets) rest = joined_append (Joined way (Part set)) sets rest

-- ways with one union go on to one union
same_on : (way other : Joining) (sets : List (List Operation)) → union_by way ≡ union_by other
    → union_by (joined_in way sets) ≡ union_by (joined_in other sets)
same_on way other [] e = e
same_on way other (set ∷ rest) e =
    same_on (Joined way (Part set)) (Joined other (Part set)) rest
    (ap (λ r. with_both r (Ok set) (λ a b. joined_or_clash a b (clash a b))) e)

each_append : (sets rest : List (List Operation)) → AreEach sets → AreEach rest → AreEach (sets ++ rest)
each_append [] rest s r = r
each_append (set ∷ sets) rest s r = (s.0, each_append sets rest s.1 r)

map_append : (sets rest : List (List Operation)) → map bundle (sets ++ rest) ≡ map bundle sets ++ map bundle rest
map_append [] rest = refl
map_append (set ∷ sets) rest = ap (λ (xs : List (List ℕ)). bundle set ∷ xs) (map_append sets rest)

module _ (before some later : List (List Operation)) where
  -- all one after another
  abbrev flat : Joining
  flat = joined_in (joined_in (joined_in (Part []) before) some) later

  -- with some of them joined first
  abbrev tree : Joining
  tree = joined_in (Joined (joined_in (Part []) before) (joined_in (Part []) some)) later

  to_tree : (o : Operation) → IsInOne flat o → IsInOne tree o
  to_tree o i = elim (in_way (joined_in (joined_in (Part []) before) some) later o i) [
    | inl here ↦ elim (in_way (joined_in (Part []) before) some o here) [
      | inl first ↦ way_in (Joined (joined_in (Part []) before) (joined_in (Part []) some)) later o (inl (inl first))
      | inr mine ↦ way_in (Joined (joined_in (Part []) before) (joined_in (Part []) some)) later o
          (inl (inr (way_in (Part []) some o (inr mine))))
    ]
    | inr last ↦ way_in (Joined (joined_in (Part []) before) (joined_in (Part []) some)) later o (inr last)
  ]

  to_flat : (o : Operation) → IsInOne tree o → IsInOne flat o
  to_flat o i = elim (in_way (Joined (joined_in (Part []) before) (joined_in (Part []) some)) later o i) [
    | inl here ↦ elim here [
      | inl first ↦
          way_in (joined_in (joined_in (Part []) before) some) later o (inl (way_in (joined_in (Part []) before) some o (inl first)))
      | inr mine ↦ elim (in_way (Part []) some o mine) [
        | inl nowhere ↦ absurd (omega (arith, nowhere.1))
        | inr there ↦ way_in (joined_in (joined_in (Part []) before) some) later o
            (inl (way_in (joined_in (Part []) before) some o (inr there)))
      ]
    ]
    | inr last ↦ way_in (joined_in (joined_in (Part []) before) some) later o (inr last)
  ]

  pub stands_for : (made one other : List ℕ) → AreEach before → AreEach some → AreEach later
      → combined (map bundle some) ≡ Ok made → length made < 2 ^ 64
      → combined (map bundle (before ++ (some ++ later))) ≡ Ok one
      → combined (map bundle before ++ (made ∷ map bundle later)) ≡ Ok other → one ≡ other
  stands_for made one other b s l m short f t =
      let x = made_is (union_of 0 [] (map bundle some)) made m in
      let y = made_is (union_of 0 [] (map bundle (before ++ (some ++ later)))) one f in
      let u = legal_union 0 [] some x.0 s empty_set refl x.1 in
      let has : HasBundle x.0 =
      record { set = u.0; legal = u.1; counted = AreCounted-from_length x.0 (omega (arith, ap length x.2, short)) } in
      let listed : map bundle before ++ (made ∷ map bundle later) ≡ map bundle (before ++ (x.0 ∷ later)) =
      ap (λ (bytes : List ℕ). map bundle before ++ (bytes ∷ map bundle later)) x.2 ∙ sym (map_append before (x.0 ∷ later)) in
      let z = made_is (union_of 0 [] (map bundle (before ++ (x.0 ∷ later)))) other (ap combined (sym listed) ∙ t) in
      let by_flat : union_by flat ≡ Ok y.0 =
      ap union_by (sym (joined_append (Part []) before (some ++ later) ∙ joined_append (joined_in (Part []) before) some later))
      ∙ in_turn (Part []) 0 [] (before ++ (some ++ later)) y.0
      (each_append before (some ++ later) b (each_append some later s l)) refl y.1 in
      let alone : union_by (joined_in (Part []) some) ≡ Ok x.0 = in_turn (Part []) 0 [] some x.0 s refl x.1 in
      let by_tree : union_by tree ≡ Ok z.0 =
      same_on (Joined (joined_in (Part []) before) (joined_in (Part []) some)) (Joined (joined_in (Part []) before) (Part x.0)) later
      (ap (λ r. with_both (union_by (joined_in (Part []) before)) r (λ a b. joined_or_clash a b (clash a b))) alone)
      ∙ ap union_by (sym (joined_append (Part []) before (x.0 ∷ later)))
      ∙ in_turn (Part []) 0 [] (before ++ (x.0 ∷ later)) z.0 (each_append before (x.0 ∷ later) b (has, l)) refl z.1 in
      let first = joined_sets (Part []) before empty_set (are_sets before b) in
      let is = same_unions flat tree y.0 z.0
      (joined_sets (joined_in (joined_in (Part []) before) some) later
      (joined_sets (joined_in (Part []) before) some first (are_sets some s)) (are_sets later l))
      (joined_sets (Joined (joined_in (Part []) before) (joined_in (Part []) some)) later
      (first, joined_sets (Part []) some empty_set (are_sets some s)) (are_sets later l))
      (record { there = to_tree; back = to_flat }) by_flat by_tree in
      y.2 ∙ ap bundle is ∙ sym z.2

-- ---- one after another

-- what is answered of a union, without the place of a bundle that is refused
abbrev union_alone : Result (List Operation) TurnFault → Result (List Operation) Fault
union_alone (Ok union) = Ok union
union_alone (Err (Turn at fault)) = Err fault
union_alone (Err (Project fault)) = Err fault

alone_clash : (at : ℕ) (c : Option Id) (r : Result (List Operation) TurnFault)
    → streams.unless_clash c (union_alone r) ≡ union_alone (unless_clash at c r)
alone_clash at None r = refl
alone_clash at (Some id) r = refl

-- sets are joined as their bundles are
unions_alike : (at : ℕ) (held : List Operation) (sets : List (List Operation)) → AreEach sets
    → union_with held sets ≡ union_alone (union_of at held (map bundle sets))
unions_alike at held [] each = ap union_alone (sym (union_none at held))
unions_alike at held (set ∷ rest) each =
    ap (streams.unless_clash (clash held set)) (unions_alike (suc at) (join held set) rest each.1)
    ∙ alone_clash at (clash held set) (union_of (suc at) (join held set) (map bundle rest))
    ∙ ap union_alone (sym (union_some at held (bundle set) (map bundle rest)
    ∙ ap (λ r. with_set at r (union_on at held (map bundle rest))) (set_read set each.0)))

bundle_alone : (r : Result (List Operation) TurnFault) → bundle_or (union_alone r) ≡ without_place (bundle_or r)
bundle_alone (Ok union) = refl
bundle_alone (Err (Turn at fault)) = refl
bundle_alone (Err (Project fault)) = refl

pub streams_alike : (sets : List (List Operation)) → AreEach sets
    → combined_stream (flat_map bundle sets) ≡ without_place (combined (map bundle sets))
streams_alike sets each =
    ap bundle_or (gives_union sets (flat_map bundle sets) (record { each = each; bytes = refl }) ∙ unions_alike 0 [] sets each)
    ∙ bundle_alone (union_of 0 [] (map bundle sets))
