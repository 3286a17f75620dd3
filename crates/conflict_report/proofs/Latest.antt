-- The distinct texts of some operations, each by the last operation that has it.
use Rattle.std.proofs.Common.{Bor, ◌≡◌, ℕ, Bool, true, false, not, cond, ◌&&◌, ◌||◌, List, [], ◌∷◌, ◌++◌, length, map, filter, reverse, arith, refl, sym, ap, ◌∙◌, append-nil, append_assoc}
use Rattle.std.specs.declared.cmp.Ordering.TheVariants.{Less}
use Rattle.std.specs.Ordering.{is_lt}
use Rattle.std.specs.Cmp.{tied_itself}
use Rattle.std.specs.List.{list_all, list_any}
use Rattle.std.proofs.lemmas.Bool.{and_parts, cond-true, cond-false}
use Rattle.std.proofs.lemmas.List.{map-append, reverse-append}
use Rattle.std.proofs.lemmas.List.Sorted.{list_any-IsPermutation, IsPermutation-reverse}
use Rattle.usfm_ref.specs.Books.{same_bytes}
use Rattle.usfm_ref.specs.declared.segment.Segment.{Segment}
use Rattle.usfm_ref.proofs.Orders.{same_bytes-is}
use Rattle.usfm_ref.proofs.Sorted.{parts, back, is_less, rises_filter}
use Rattle.op_core.specs.Ids.{Id, id_cmp, id_below}
use Rattle.op_core.specs.Ops.{Operation, own_text}
use Rattle.op_core.specs.Sets.{rises, IsOpSet}
use Rattle.op_core.specs.Shown.{is_shown, shown}
use Rattle.op_core.proofs.IdOrders.Rising.{id_total}
use Rattle.conflict_report.specs.Reports.{is_repeated, distinct_texts, repeated_texts}

-- whether one of the operations has the text
abbrev pub has_text : List ℕ → List Operation → Bool
has_text text ops = list_any (λ p. same_bytes (own_text p) text) ops

-- the operations whose text no later one has
abbrev pub latest : List Operation → List Operation
latest [] = []
latest (o ∷ later) = cond (has_text (own_text o) later) (latest later) (o ∷ latest later)

-- the operations whose text a later one has
abbrev pub earlier : List Operation → List Operation
earlier [] = []
earlier (o ∷ later) = cond (has_text (own_text o) later) (o ∷ earlier later) (earlier later)

-- they have the texts that the operations have
pub any_latest : (text : List ℕ) (ops : List Operation) → has_text text (latest ops) ≡ has_text text ops
any_latest text [] = refl
any_latest text (o ∷ later) = by (any_latest text later) (has_text (own_text o) later) refl (same_bytes (own_text o) text) refl
  where
    by : has_text text (latest later) ≡ has_text text later → (b : Bool) → has_text (own_text o) later ≡ b → (s : Bool)
        → same_bytes (own_text o) text ≡ s → has_text text (cond b (latest later) (o ∷ latest later)) ≡ (s || has_text text later)
    by rest true e true f = rest ∙ ap (λ (t : List ℕ). has_text t later) (sym (same_bytes-is (own_text o) text f)) ∙ e
    by rest true e false f = rest
    by rest false e s f = ap (λ b. b || has_text text (latest later)) f ∙ ap (λ b. s || b) rest

-- ---- they are those whose text no operation of a greater id has

above_back : (a b : Id) → id_below a b ≡ true → id_below b a ≡ false
above_back a b h = ap is_lt (back id_cmp id_total (λ (i : Id). i) a b Less (is_less _ h))

-- one that is below all others
repeated_above : (o : Operation) (ops : List Operation) → list_all (λ p. id_below o.id p.id) ops ≡ true
    → is_repeated ops o ≡ has_text (own_text o) ops
repeated_above o [] h = refl
repeated_above o (p ∷ ops) h =
    let a = and_parts (id_below o.id p.id) (list_all (λ p. id_below o.id p.id) ops) h in
    λ i. (a.0 i && same_bytes (own_text p) (own_text o)) || repeated_above o ops a.1 i

-- no other one repeats its text
kept_above : (o : Operation) (later ops : List Operation) → list_all (λ p. id_below o.id p.id) ops ≡ true
    → filter (λ p. not (is_repeated (o ∷ later) p)) ops ≡ filter (λ p. not (is_repeated later p)) ops
kept_above o later [] h = refl
kept_above o later (q ∷ ops) h =
    let a = and_parts (id_below o.id q.id) (list_all (λ p. id_below o.id p.id) ops) h in
    let below = above_back o.id q.id a.0 in
    λ i. cond (not ((below i && same_bytes (own_text o) (own_text q)) || is_repeated later q)) (q ∷ kept_above o later ops a.1 i)
    (kept_above o later ops a.1 i)

turned : {X : Type 0} (b : Bool) (x y : X) → cond b x y ≡ cond (not b) y x
turned true x y = refl
turned false x y = refl

-- what a walk from the front keeps of each text is the last operation that has it: those that are not repeated
pub latest_is : (ops : List Operation) → rises ops ≡ true → latest ops ≡ filter (λ o. not (is_repeated ops o)) ops
latest_is [] h = refl
latest_is (o ∷ later) h =
    let p = parts id_cmp id_total (λ (x : Operation). x.id) o later h in
    let rest = latest_is later p.1 ∙ sym (kept_above o later later p.0) in
    let itself = ap is_lt (tied_itself id_total o.id) in
    let first : is_repeated (o ∷ later) o ≡ has_text (own_text o) later =
    λ i. (itself i && same_bytes (own_text o) (own_text o)) || repeated_above o later p.0 i in
    turned (has_text (own_text o) later) (latest later) (o ∷ latest later) ∙ (λ i. cond (not (sym first i)) (o ∷ rest i) (rest i))

-- the same of those that are repeated
repeats_above : (o : Operation) (later ops : List Operation) → list_all (λ p. id_below o.id p.id) ops ≡ true
    → filter (λ p. is_repeated (o ∷ later) p) ops ≡ filter (λ p. is_repeated later p) ops
repeats_above o later [] h = refl
repeats_above o later (q ∷ ops) h =
    let a = and_parts (id_below o.id q.id) (list_all (λ p. id_below o.id p.id) ops) h in
    let below = above_back o.id q.id a.0 in
    λ i. cond ((below i && same_bytes (own_text o) (own_text q)) || is_repeated later q) (q ∷ repeats_above o later ops a.1 i)
    (repeats_above o later ops a.1 i)

-- what a walk from the front finds to have the text of a later one are those that are repeated
pub earlier_is : (ops : List Operation) → rises ops ≡ true → earlier ops ≡ filter (λ o. is_repeated ops o) ops
earlier_is [] h = refl
earlier_is (o ∷ later) h =
    let p = parts id_cmp id_total (λ (x : Operation). x.id) o later h in
    let rest = earlier_is later p.1 ∙ sym (repeats_above o later later p.0) in
    let itself = ap is_lt (tied_itself id_total o.id) in
    let first : is_repeated (o ∷ later) o ≡ has_text (own_text o) later =
    λ i. (itself i && same_bytes (own_text o) (own_text o)) || repeated_above o later p.0 i in
    λ i. cond (sym first i) (o ∷ rest i) (rest i)

-- ---- a walk from the back

-- operations that are lent, as they are now
abbrev pub now_of : List (Bor Operation) → List Operation
now_of ops = map (λ op. op.now) ops

-- the operations after those that are left are in one of the two lists
pub record IsWalked (all left distinct repeated : List Operation) : Type 0 where
  pub after : List Operation
  pub joined : left ++ after ≡ all
  pub told : distinct ≡ reverse (latest after)
  pub again : repeated ≡ reverse (earlier after)

-- before the walk from the back nothing was met
pub walked_start : (all left distinct repeated : List Operation) → left ≡ all → distinct ≡ [] → repeated ≡ []
    → IsWalked all left distinct repeated
walked_start all left distinct repeated e none again = record { after = []; joined = append-nil left ∙ e; told = none; again = again }

any_now : (text : List ℕ) (ops : List (Bor Operation)) → list_any (λ op. same_bytes (own_text op.now) text) ops ≡ has_text text (now_of ops)
any_now text [] = refl
any_now text (op ∷ ops) = ap (λ b. same_bytes (own_text op.now) text || b) (any_now text ops)

any_reverse : (text : List ℕ) (ops : List Operation) → has_text text (reverse ops) ≡ has_text text ops
any_reverse text ops =
    sym (list_any-IsPermutation (λ (p : Operation). same_bytes (own_text p) text) ops (reverse ops) (IsPermutation-reverse ops))

module _ (all : List Operation) (left rest : List (Bor Operation)) (op : Bor Operation) (distinct repeated : List (Bor Operation))
    (e : left ≡ rest ++ op ∷ []) (w : IsWalked all (now_of left) (now_of distinct) (now_of repeated)) where
  seen : (b : Bool) → b ≡ list_any (λ o. same_bytes (own_text o.now) (own_text op.now)) distinct → has_text (own_text op.now) w.after ≡ b
  seen b h =
      sym (h ∙ any_now (own_text op.now) distinct ∙ ap (has_text (own_text op.now)) w.told ∙ any_reverse (own_text op.now) (latest w.after)
      ∙ any_latest (own_text op.now) w.after)

  joined_more : now_of rest ++ op.now ∷ w.after ≡ all
  joined_more =
      sym (append_assoc (now_of rest) (op.now ∷ []) w.after)
      ∙ ap (λ (ops : List Operation). ops ++ w.after) (sym (map-append (λ (o : Bor Operation). o.now) rest (op ∷ [])) ∙ ap now_of (sym e))
      ∙ w.joined

  -- it comes to those of one of the lists
  one_more : (kept : List (Bor Operation)) (ops : List Operation) → now_of kept ≡ reverse ops
      → now_of (kept ++ op ∷ []) ≡ reverse (op.now ∷ ops)
  one_more kept ops h =
      map-append (λ (o : Bor Operation). o.now) kept (op ∷ []) ∙ ap (λ (xs : List Operation). xs ++ op.now ∷ []) h
      ∙ sym (reverse-append (op.now ∷ []) ops)

  -- its text is reported already
  pub walked_past : true ≡ list_any (λ o. same_bytes (own_text o.now) (own_text op.now)) distinct
      → IsWalked all (now_of rest) (now_of distinct) (now_of (repeated ++ op ∷ []))
  walked_past h = record {
    after = op.now ∷ w.after;
    joined = joined_more;
    told = w.told ∙ ap reverse (sym (cond-true _ _ _ (seen true h)));
    again = one_more repeated (earlier w.after) w.again ∙ ap reverse (sym (cond-true _ _ _ (seen true h)));
  }

  -- its text is new
  pub walked_more : false ≡ list_any (λ o. same_bytes (own_text o.now) (own_text op.now)) distinct
      → IsWalked all (now_of rest) (now_of (distinct ++ op ∷ [])) (now_of repeated)
  walked_more h = record {
    after = op.now ∷ w.after;
    joined = joined_more;
    told = one_more distinct (latest w.after) w.told ∙ ap reverse (sym (cond-false _ _ _ (seen false h)));
    again = w.again ∙ ap reverse (sym (cond-false _ _ _ (seen false h)));
  }

no_items : {X : Type 0} (xs : List X) → length xs ≡ 0 → xs ≡ []
no_items [] h = refl
no_items (x ∷ xs) h = absurd (omega arith)

module _ (held : List Operation) (g : Segment) (left distinct repeated : List (Bor Operation)) (set : IsOpSet held)
    (none : length left ≡ 0) (w : IsWalked (shown held g) (now_of left) (now_of distinct) (now_of repeated)) where
  all : w.after ≡ shown held g
  all = ap (λ (ops : List (Bor Operation)). now_of ops ++ w.after) (sym (no_items left none)) ∙ w.joined

  rising : rises (shown held g) ≡ true
  rising = rises_filter id_cmp id_total (λ (o : Operation). o.id) (is_shown held g) held set.rising

  -- after it what was kept are the distinct texts that the segment shows
  pub walked_end : now_of distinct ≡ distinct_texts held g
  walked_end = w.told ∙ ap (λ (ops : List Operation). reverse (latest ops)) all ∙ ap reverse (latest_is (shown held g) rising)

  -- and the operations that repeat one of them
  pub walked_again : now_of repeated ≡ repeated_texts held g
  walked_again = w.again ∙ ap (λ (ops : List Operation). reverse (earlier ops)) all ∙ ap reverse (earlier_is (shown held g) rising)
