-- Lists of at most one operation, which is what a book's file shows in each segment.
use Rattle.std.proofs.Common.{◌≡◌, ℕ, Bool, true, false, not, cond, ◌&&◌, ◌||◌, List, [], ◌∷◌, filter}
use Rattle.std.proofs.Common.{refl, sym, ap, ◌∙◌, inl, inr}
use Rattle.std.specs.List.{list_all, list_any}
use Rattle.std.specs.Ordering.{is_eq}
use Rattle.std.specs.Prelude.{◌⊎◌}
use Rattle.std.proofs.lemmas.Bool.{and_from, false_from_ne_true}
use Rattle.usfm_ref.specs.Books.{same_bytes}
use Rattle.usfm_ref.specs.Keys.{KeyParts, key_cmp}
use Rattle.usfm_ref.proofs.Orders.{same_bytes-is, same_bytes-refl}
use Rattle.op_core.specs.Ids.{Id, is_none_left}
use Rattle.op_core.specs.Equal.{same_id-refl}
use Rattle.op_core.specs.Ops.{Operation, own_text}
use Rattle.op_core.specs.Shown.{last, text_if_any}
use Rattle.op_core.specs.Lists.{ids_of}
use Rattle.op_core.specs.NextIds.{is_among}
use Rattle.replica_state.proofs.Appended.{is_there, key_is}
use Rattle.replica_state.proofs.ChangeRuns.{all_given}
use Rattle.book_merge.proofs.ShownAfter.{stays}

-- at most one operation
abbrev pub OneAtMost : List Operation → Type 0
OneAtMost ops = (ops ≡ []) ⊎ ((x : Operation) × (ops ≡ x ∷ []))

-- what names all of them leaves none
pub none_stays : (ops : List Operation) → OneAtMost ops → filter (stays (ids_of ops)) ops ≡ []
none_stays ops (inl e) = ap (λ (os : List Operation). filter (stays (ids_of os)) os) e
none_stays ops (inr (x, e)) = ap (λ (os : List Operation). filter (stays (ids_of os)) os) e
    ∙ ap (λ b. cond (not (b || false)) (x ∷ []) []) (same_id-refl x.id)

pub named_all : (ops : List Operation) → OneAtMost ops → filter (stays (filter (is_among (ids_of ops)) (ids_of ops))) ops ≡ []
named_all ops one = ap (λ (ids : List Id). filter (stays ids) ops) (all_given (ids_of ops)) ∙ none_stays ops one

pub alike : (ops : List Operation) → OneAtMost ops → list_all (λ o. same_bytes (own_text o) (text_if_any (last ops))) ops ≡ true
alike ops (inl e) = ap (λ (os : List Operation). list_all (λ o. same_bytes (own_text o) (text_if_any (last os))) os) e
alike ops (inr (x, e)) = ap (λ (os : List Operation). list_all (λ o. same_bytes (own_text o) (text_if_any (last os))) os) e
    ∙ and_from _ _ (same_bytes-refl (own_text x)) refl

pub none_doubled : (text : List ℕ) (ops : List Operation)
    → (is_none_left (ids_of ops) && list_any (λ o. same_bytes (own_text o) text) ops) ≡ false
none_doubled text [] = refl
none_doubled text (o ∷ ops) = refl

pub and_false : (a : Bool) → (a && false) ≡ false
and_false true = refl
and_false false = refl

pub differs : (a b : List ℕ) → (a ≡ b → ⊥) → same_bytes a b ≡ false
differs a b h = false_from_ne_true _ (λ e. h (same_bytes-is a b e))

-- keys that do not pass are not among those that do
pub none_passes : (p : KeyParts → Bool) (q : KeyParts) (ks : List KeyParts) → p q ≡ false → is_there q (filter p ks) ≡ false
none_passes p q [] f = refl
none_passes p q (k ∷ ks) f = by (none_passes p q ks f) (p k) refl
  where
    by : is_there q (filter p ks) ≡ false → (b : Bool) → p k ≡ b → is_there q (cond b (k ∷ filter p ks) (filter p ks)) ≡ false
    by rest false e = rest
    by rest true e = apart (is_eq (key_cmp q k)) refl
      where
        apart : (c : Bool) → is_eq (key_cmp q k) ≡ c → (c || is_there q (filter p ks)) ≡ false
        apart true g = cc (sym f ∙ ap p (key_is q k g) ∙ e)
        apart false g = rest
