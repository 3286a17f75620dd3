-- The order of steps: what is removed does not come after what is added.
use Rattle.std.proofs.Common.{◌≡◌, ℕ, true, false, List, [], ◌∷◌, ◌++◌, sym, refl, subst, append_assoc}
use Rattle.std.proofs.lemmas.List.{append-nil}
use Rattle.word_diff.specs.declared.part.Kind.{Kind}
use Rattle.word_diff.specs.declared.part.Kind.TheVariants.{Kept, Removed, Added}
use Rattle.word_diff.specs.Kinds.{may_follow}
use Rattle.word_diff.specs.Parts.{Span}
use Rattle.word_diff.specs.Steps.{same_kind, may_stand, AreOrdered, AtLast, MayRemove, each, AddsEach}

-- what is kept may come after any
pub stand_kept : (k : Kind) → may_stand k Kept ≡ true
stand_kept Kept = refl
stand_kept Removed = refl
stand_kept Added = refl

-- and so may what is added
pub stand_added : (k : Kind) → may_stand k Added ≡ true
stand_added Kept = refl
stand_added Removed = refl
stand_added Added = refl

-- and what is of the same kind
pub stand_same : (k : Kind) → may_stand k k ≡ true
stand_same Kept = refl
stand_same Removed = refl
stand_same Added = refl

-- what may stand next and is of another kind may follow
pub follows_by : (a b : Kind) → may_stand a b ≡ true → same_kind b a ≡ false → may_follow a b ≡ true
follows_by Kept Kept h o = absurd (cc)
follows_by Kept Removed h o = refl
follows_by Kept Added h o = refl
follows_by Removed Kept h o = refl
follows_by Removed Removed h o = absurd (cc)
follows_by Removed Added h o = refl
follows_by Added Kept h o = refl
follows_by Added Removed h o = absurd (cc)
follows_by Added Added h o = absurd (cc)

-- the last of steps that end with this one
pub at_last_push : (P : Kind → Type 0) (ss : List Span) (x : Span) → P x.kind → AtLast P (ss ++ x ∷ [])
at_last_push P [] x h = h
at_last_push P (s ∷ []) x h = h
at_last_push P (s ∷ t ∷ ss) x h = at_last_push P (t ∷ ss) x h

-- what follows of the last step
pub at_last_map : (P Q : Kind → Type 0) → ((k : Kind) → P k → Q k) → (ss : List Span) → AtLast P ss → AtLast Q ss
at_last_map P Q f [] h = tt
at_last_map P Q f (s ∷ []) h = f s.kind h
at_last_map P Q f (s ∷ t ∷ ss) h = at_last_map P Q f (t ∷ ss) h

-- what holds of each kind
pub at_last_all : (P : Kind → Type 0) → ((k : Kind) → P k) → (ss : List Span) → AtLast P ss
at_last_all P f [] = tt
at_last_all P f (s ∷ []) = f s.kind
at_last_all P f (s ∷ t ∷ ss) = at_last_all P f (t ∷ ss)

-- the last of steps of one kind
pub at_last_each : (P : Kind → Type 0) (k : Kind) → P k → (ws : List (List ℕ)) → AtLast P (each k ws)
at_last_each P k h [] = tt
at_last_each P k h (w ∷ []) = h
at_last_each P k h (w ∷ v ∷ ws) = at_last_each P k h (v ∷ ws)

-- one step more that may come next
pub ordered_push : (ss : List Span) (x : Span) → AreOrdered ss → AtLast (λ (k : Kind). may_stand k x.kind ≡ true) ss
    → AreOrdered (ss ++ x ∷ [])
ordered_push [] x are last = (tt, tt)
ordered_push (s ∷ []) x are last = (last, (tt, tt))
ordered_push (s ∷ t ∷ ss) x are last = (are.0, ordered_push (t ∷ ss) x are.1 last)

-- words more of one kind that may come next
pub ordered_each : (ws : List (List ℕ)) (before : List Span) (k : Kind) → AreOrdered before
    → AtLast (λ (l : Kind). may_stand l k ≡ true) before → AreOrdered (before ++ each k ws)
ordered_each [] before k are last = subst AreOrdered (sym (append-nil before)) are
ordered_each (w ∷ ws) before k are last =
    let x : Span = record { kind = k; bytes = w } in
    subst AreOrdered (append_assoc before (x ∷ []) (each k ws))
    (ordered_each ws (before ++ x ∷ []) k (ordered_push before x are last)
    (at_last_push (λ (l : Kind). may_stand l k ≡ true) before x (stand_same k)))

-- the same, of what was added
pub added_ordered : (before now : List Span) (k : Kind) (ws : List (List ℕ)) → AddsEach before now k ws → AreOrdered before
    → AtLast (λ (l : Kind). may_stand l k ≡ true) before → AreOrdered now
added_ordered before now k ws added are last = subst AreOrdered (sym added.now_is) (ordered_each ws before k are last)

-- kept words at the front may be followed by any
pub front_last : (now : List Span) (ws : List (List ℕ)) → AddsEach [] now Kept ws → AtLast MayRemove now
front_last now ws added = subst (AtLast MayRemove) (sym added.now_is) (at_last_each MayRemove Kept refl ws)

-- and are in order
pub front_ordered : (now : List Span) (ws : List (List ℕ)) → AddsEach [] now Kept ws → AreOrdered now
front_ordered now ws added = added_ordered [] now Kept ws added tt tt
