-- Bundles that were received bring nothing again.
use Rattle.std.proofs.Common.{◌≡◌, ℕ, suc, Bool, true, false, cond, not, ◌||◌, ◌&&◌, List, [], ◌∷◌, ◌++◌, map, length, Option, None, Some, Ok}
use Rattle.std.proofs.Common.{refl, sym, ap, ◌∙◌, append-nil, append_assoc, arith}
use Rattle.std.specs.List.{AllByRecursion, Contains, list_any}
use Rattle.std.specs.Option.{is_some}
use Rattle.std.proofs.lemmas.Bool.{and_right}
use Rattle.op_core.specs.Ops.{Operation}
use Rattle.op_core.specs.Sets.{IsOpSet, get, join, met, rises}
use Rattle.op_core.proofs.Sets.Joinings.{get-Contains}
use Rattle.op_core.proofs.Sets.Union.{get-join}
use Rattle.project_file.proofs.Received.{union_length}
use Rattle.replica_state.specs.Receives.{lacked}
use Rattle.replica_state.specs.States.{State, IsState}
use Rattle.book_folder.specs.Begun.{is_none_held, is_of, is_strange, received, received_if_alike, received_or, refused_strange, replaces_held, set_or, shares_an_id}
use Rattle.book_folder.specs.CameIn.{BundlesBringNothingAgain, IsReceived}
use Rattle.book_folder.specs.Coming.{bundles_from}
use Rattle.book_folder.specs.Refusals.{◌>>=◌, stepped}
use Rattle.book_folder.specs.declared.refusal.Place.{Place}
use Rattle.book_folder.specs.declared.refusal.Place.TheVariants as places

-- ---- a set that a replica has in part or in whole is of its project

-- of a set that is held the first id is
held_id : (held ops : List Operation) (o : Operation) → rises held ≡ true → IsOpSet ops → Contains ops o → join held ops ≡ held
    → is_some (get held o.id) ≡ true
held_id held ops o rise set there joined = by (get held o.id) refl
  where
    by : (found : Option Operation) → get held o.id ≡ found → is_some found ≡ true
    by (Some x) e = refl
    by None e =
        let made : get held o.id ≡ met (get held o.id) (get ops o.id) =
        ap (λ (xs : List Operation). get xs o.id) (sym joined) ∙ get-join held ops o.id rise set.rising in
        let no : None ≡ Some o = sym e ∙ made ∙ (λ i. met (e i) (get-Contains ops o set there i)) in
        cc no

-- so it is not strange
pub not_strange : (held ops : List Operation) → rises held ≡ true → IsOpSet ops → join held ops ≡ held → is_strange held ops ≡ false
not_strange held [] rise set joined = by (not (is_none_held held))
  where
    by : (b : Bool) → ((b && not true) && not (shares_an_id held [])) ≡ false
    by true = refl
    by false = refl
not_strange held (o ∷ rest) rise set joined =
    and_right (not (is_none_held held) && not false) (not (shares_an_id held (o ∷ rest)))
    (ap (λ b. not (((b || replaces_held held o) || list_any (is_of held) rest) || list_any (replaces_held (o ∷ rest)) held))
    (held_id held (o ∷ rest) o rise set (0, omega arith, refl) joined))

-- what is not strange is received without a question
pub alike_got : (asked : Bool) (place : Place) (s : State) (ops : List Operation) → is_strange s.held ops ≡ false
    → received_if_alike asked place s ops ≡ received place s ops
alike_got asked place s ops e =
    ap (λ b. cond (asked || not b) (received place s ops) (received place s ops >>= refused_strange place s)) e ∙ by asked
  where
    by : (b : Bool) → cond (b || true) (received place s ops) (received place s ops >>= refused_strange place s) ≡ received place s ops
    by true = refl
    by false = refl

module _ (s : State) (state : IsState s) (asked : Bool) where
  -- what a project holds comes in without a change, and nothing is asked
  pub stays : (place : Place) (bytes : List ℕ) (h : IsReceived s bytes) → received_if_alike asked place s h.ops ≡ Ok (stepped s 0)
  stays place bytes h =
      alike_got asked place s h.ops (not_strange s.held h.ops state.set.rising h.set h.held)
      ∙ ap (received_or place s h.ops) h.agrees
      ∙ (λ i. Ok (stepped (record { name = s.name; held = h.held i }) (none_new i)))
    where
      none_new : length (lacked s.held h.ops) ≡ 0
      none_new = omega (arith, union_length s.held h.ops state.set.rising h.set.rising h.agrees, ap length h.held)

  come_in : (at : ℕ) (made : List ℕ) (bundles : List (List ℕ)) → AllByRecursion (IsReceived s) bundles
      → bundles_from asked at (stepped s made) bundles ≡ Ok (stepped s (made ++ map (λ bytes. 0) bundles))
  come_in at made [] h = ap (λ ns. Ok (stepped s ns)) (sym (append-nil made))
  come_in at made (bytes ∷ later) h =
      ap (λ r. r >>= λ ops. received_if_alike asked (places.Bundle at) s ops >>= λ next.
      bundles_from asked (suc at) (stepped next.after (made ++ next.made ∷ [])) later) (ap (set_or (places.Bundle at)) h.0.read)
      ∙ ap (λ r. r >>= λ next. bundles_from asked (suc at) (stepped next.after (made ++ next.made ∷ [])) later)
      (stays (places.Bundle at) bytes h.0)
      ∙ come_in (suc at) (made ++ 0 ∷ []) later h.1
      ∙ ap (λ ns. Ok (stepped s ns)) (append_assoc made (0 ∷ []) (map (λ bytes. 0) later))

pub bundles_bring_nothing_again : BundlesBringNothingAgain
bundles_bring_nothing_again s asked bundles state h = come_in s state asked 0 [] bundles h
