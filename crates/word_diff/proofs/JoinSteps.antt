-- One run more.
use Rattle.std.proofs.Common.{◌≡◌, ℕ, ◌+◌, ◌-◌, ◌<◌, ◌≤◌, Bool, true, false, List, [], ◌∷◌, ◌++◌, length, take, drop, get_or, sym, refl, ap, ◌∙◌, subst, arith, cond, append_assoc, length-drop}
use Rattle.std.specs.List.{flat_map, prefix_len}
use Rattle.std.proofs.lemmas.List.{append-nil, length-map, take_rest, take-map, drop-map, drop-drop, drop_more}
use Rattle.std.proofs.lemmas.List.Concat.{flat_map-append}
use Rattle.std.proofs.lemmas.List.Sums.{prefix_len-le-length}
use Rattle.word_diff.specs.declared.part.Kind.{Kind}
use Rattle.word_diff.specs.declared.part.Kind.TheVariants.{Kept, Removed, Added}
use Rattle.word_diff.specs.declared.part.Part.{Part}
use Rattle.word_diff.specs.Joins.{all_bytes}
use Rattle.word_diff.specs.Kinds.{is_kept, is_new, is_old}
use Rattle.word_diff.specs.Parts.{Span, span, spans, texts_of, words_by, GoesOn}
use Rattle.word_diff.specs.Steps.{same_kind}
use Rattle.word_diff.specs.Words.{words_of, joined}
use Rattle.word_diff.proofs.OrderLemmas.{stand_same, at_last_push}
use Rattle.word_diff.proofs.PartLemmas.{texts_of-append}
use Rattle.word_diff.proofs.WordLemmas.{words_of-nil}
use Rattle.word_diff.proofs.JoinLemmas.{run_of, run_of-spans, run_some, run_ends, rest_texts, apart_push, ordered_drop, Joining, OfTexts, joined_words, cut_by, left_by}

abbrev Words : Type 0
Words = List (List ℕ)

-- the texts of the run at the front
abbrev pub run_bytes : Kind → List Span → Words
run_bytes k rest = all_bytes (take (run_of k rest) rest)

tail_by : (b : Bool) (w : List ℕ) → flat_map words_of (cond b (w ∷ []) []) ≡ cond b (words_of w) []
tail_by true w = append-nil (words_of w)
tail_by false w = refl

part_words : (p : Kind → Bool) (k : Kind) (parts : List Span) (x : Span) → x.kind ≡ k
    → words_by p (parts ++ x ∷ []) ≡ words_by p parts ++ cond (p k) (words_of x.bytes) []
part_words p k parts x kind =
    ap (flat_map words_of) (texts_of-append p parts (x ∷ [])) ∙ flat_map-append words_of (texts_of p parts) (texts_of p (x ∷ []))
    ∙ ap (λ (l : Words). words_by p parts ++ l) (tail_by (p x.kind) x.bytes)
    ∙ ap (λ (a : Kind). words_by p parts ++ cond (p a) (words_of x.bytes) []) kind

side_step : (p : Kind → Bool) (k : Kind) (parts rest steps : List Span) (x : Span) → x.kind ≡ k → words_of x.bytes ≡ run_bytes k rest
    → words_by p parts ++ texts_of p rest ≡ texts_of p steps
    → words_by p (parts ++ x ∷ []) ++ texts_of p (drop (run_of k rest) rest) ≡ texts_of p steps
side_step p k parts rest steps x kind words so_far =
    let after = texts_of p (drop (run_of k rest) rest) in
    ap (λ (l : Words). l ++ after) (part_words p k parts x kind)
    ∙ ap (λ (ws : Words). (words_by p parts ++ cond (p k) ws []) ++ after) words
    ∙ append_assoc (words_by p parts) (cond (p k) (run_bytes k rest) []) after
    ∙ ap (λ (l : Words). words_by p parts ++ l) (sym (rest_texts p k rest)) ∙ so_far

some_bytes : (s : List ℕ) (w : List ℕ) (ws : Words) → words_of s ≡ w ∷ ws → 0 < length s
some_bytes [] w ws is = absurd (let none = words_of-nil in cc)
some_bytes (b ∷ bs) w ws is = omega arith

run_first : (r : Span) (rs : List Span) → run_bytes r.kind (r ∷ rs) ≡ r.bytes ∷ all_bytes (take (run_of r.kind rs) rs)
run_first r rs = ap (λ (n : ℕ). all_bytes (take n (r ∷ rs))) (run_some r rs)

-- a run is joined
pub join_step : (r : Span) (rs parts steps : List Span) (old new old_rest new_rest old_after new_after : List ℕ) (x : Span)
    → OfTexts steps old new
    → Joining parts (r ∷ rs) steps old new old_rest new_rest → x.kind ≡ r.kind → x.bytes ≡ joined (run_bytes r.kind (r ∷ rs))
    → old_after ≡ joined (texts_of is_old (drop (run_of r.kind (r ∷ rs)) (r ∷ rs)))
    → new_after ≡ joined (texts_of is_new (drop (run_of r.kind (r ∷ rs)) (r ∷ rs)))
    → Joining (parts ++ x ∷ []) (drop (run_of r.kind (r ∷ rs)) (r ∷ rs)) steps old new old_after new_after
join_step r rs parts steps old new old_rest new_rest old_after new_after x t j kind bytes old_is new_is =
    let rest = r ∷ rs in
    let words : words_of x.bytes ≡ run_bytes r.kind rest = ap words_of bytes
    ∙ joined_words r.kind parts rest steps old new old_rest new_rest t j in
    let some : 0 < length x.bytes = some_bytes x.bytes r.bytes _ (words ∙ run_first r rs) in record {
      old_words = side_step is_old r.kind parts rest steps x kind words j.old_words;
      new_words = side_step is_new r.kind parts rest steps x kind words j.new_words;
      kept_words = side_step is_kept r.kind parts rest steps x kind words j.kept_words;
      old_left = old_is;
      new_left = new_is;
      apart = apart_push parts rs x r j.apart some kind j.goes_on;
      goes_on = at_last_push (λ (k : Kind). GoesOn k (drop (run_of r.kind rest) rest)) parts x
          (subst (λ (a : Kind). GoesOn a (drop (run_of r.kind rest) rest)) (sym kind) (run_ends r.kind rest (stand_same r.kind) j.ordered));
      ordered = ordered_drop (run_of r.kind rest) rest j.ordered;
    }

-- the same, where the steps that are left begin with that one
pub join_run : (r : Span) (rs rest parts steps : List Span) (old new old_rest new_rest old_after new_after : List ℕ) (x : Span)
    → rest ≡ r ∷ rs
    → OfTexts steps old new → Joining parts rest steps old new old_rest new_rest → x.kind ≡ r.kind
    → x.bytes ≡ joined (run_bytes r.kind rest)
    → old_after ≡ joined (texts_of is_old (drop (run_of r.kind rest) rest))
    → new_after ≡ joined (texts_of is_new (drop (run_of r.kind rest) rest))
    → Joining (parts ++ x ∷ []) (drop (run_of r.kind rest) rest) steps old new old_after new_after
join_run r rs rest parts steps old new old_rest new_rest old_after new_after x is t j kind bytes old_is new_is =
    subst (λ (l : List Span). Joining parts l steps old new old_rest new_rest → x.bytes ≡ joined (run_bytes r.kind l)
    → old_after ≡ joined (texts_of is_old (drop (run_of r.kind l) l)) → new_after ≡ joined (texts_of is_new (drop (run_of r.kind l) l))
    → Joining (parts ++ x ∷ []) (drop (run_of r.kind l) l) steps old new old_after new_after) (sym is)
    (λ j bytes a b. join_step r rs parts steps old new old_rest new_rest old_after new_after x t j kind bytes a b) j bytes old_is new_is

chosen_by : (k : Kind) (run : List ℕ) → cond (is_old k) (cond (is_old k) run []) (cond (is_new k) run []) ≡ run
chosen_by Kept run = refl
chosen_by Removed run = refl
chosen_by Added run = refl

-- the text that is lent is the run's, from whichever side it is on
pub lent_is : (k : Kind) (rest : List Span) (old_rest new_rest old_text new_text text : List ℕ) (a b : ℕ)
    → old_rest ≡ joined (texts_of is_old rest) → new_rest ≡ joined (texts_of is_new rest)
    → a ≡ cond (is_old k) (length (joined (run_bytes k rest))) 0 → b ≡ cond (is_new k) (length (joined (run_bytes k rest))) 0
    → old_text ≡ take a old_rest → new_text ≡ take b new_rest → text ≡ cond (is_old k) old_text new_text → text ≡ joined (run_bytes k rest)
lent_is k rest old_rest new_rest old_text new_text text a b old_left new_left a_is b_is old_is new_is text_is =
    let B = run_bytes k rest in
    let first = cut_by (is_old k) B (texts_of is_old (drop (run_of k rest) rest)) old_rest (left_by is_old k rest old_rest old_left) in
    let second = cut_by (is_new k) B (texts_of is_new (drop (run_of k rest) rest)) new_rest (left_by is_new k rest new_rest new_left) in
    text_is
    ∙ (λ i. cond (is_old k) ((old_is ∙ ap (λ (n : ℕ). take n old_rest) a_is ∙ first.0) i) ((new_is
    ∙ ap (λ (n : ℕ). take n new_rest) b_is ∙ second.0) i))
    ∙ chosen_by k (joined B)

-- and what is left of a side is what comes after it
pub after_is : (p : Kind → Bool) (k : Kind) (rest : List Span) (left after : List ℕ) (n : ℕ) → left ≡ joined (texts_of p rest)
    → n ≡ cond (p k) (length (joined (run_bytes k rest))) 0 → after ≡ drop n left
    → after ≡ joined (texts_of p (drop (run_of k rest) rest))
after_is p k rest left after n left_is n_is is =
    is ∙ ap (λ (m : ℕ). drop m left) n_is
    ∙ (cut_by (p k) (run_bytes k rest) (texts_of p (drop (run_of k rest) rest)) left (left_by p k rest left left_is)).1

-- The steps from a place on, as the code has them.

-- how many are of a kind there
pub run_at : (k : Kind) (steps : List Part) (at : ℕ)
    → prefix_len (λ (part : Part). same_kind part.kind k) (take (length steps - at) (drop at steps)) ≡ run_of k (spans (drop at steps))
run_at k steps at = ap (prefix_len (λ (part : Part). same_kind part.kind k)) (take_rest steps at) ∙ run_of-spans k (drop at steps)

-- no more than there are
pub run_within : (k : Kind) (steps : List Part) (at : ℕ) → at ≤ length steps → at + run_of k (spans (drop at steps)) ≤ length steps
run_within k steps at le =
    omega (
      arith,
      prefix_len-le-length (λ (s : Span). same_kind s.kind k) (spans (drop at steps)),
      length-map (drop at steps) span,
      length-drop at steps,
    )

-- the run there
pub run_part : (k : Kind) (steps : List Part) (at n : ℕ) → n ≡ run_of k (spans (drop at steps))
    → all_bytes (spans (take (at + n - at) (drop at steps))) ≡ run_bytes k (spans (drop at steps))
run_part k steps at n is =
    let len : at + n - at ≡ n = omega arith in
    ap (λ (m : ℕ). all_bytes (spans (take m (drop at steps)))) (len ∙ is)
    ∙ ap all_bytes (sym (take-map span (run_of k (spans (drop at steps))) (drop at steps)))

-- what follows the run
pub run_after : (k : Kind) (steps : List Part) (at n : ℕ) → n ≡ run_of k (spans (drop at steps))
    → spans (drop (at + n) steps) ≡ drop (run_of k (spans (drop at steps))) (spans (drop at steps))
run_after k steps at n is =
    ap spans (sym (drop-drop n at steps)) ∙ sym (drop-map span n (drop at steps)) ∙ ap (λ (m : ℕ). drop m (spans (drop at steps))) is

-- the step there is the first of those from there on
pub step_at : (steps : List Part) (at : ℕ) (d : Part) → at < length steps
    → spans (drop at steps) ≡ span (get_or steps at d) ∷ spans (drop (at + 1) steps)
step_at steps at d lt = ap spans (drop_more steps at d lt)

-- a run is not empty
pub run_positive : (steps : List Part) (at : ℕ) (d : Part) → at < length steps → 0 < run_of (get_or steps at d).kind (spans (drop at steps))
run_positive steps at d lt =
    let r = span (get_or steps at d) in
    let rs = spans (drop (at + 1) steps) in
    omega (arith, ap (run_of r.kind) (step_at steps at d lt), run_some r rs)
