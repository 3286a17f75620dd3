-- Laws of a text that goes out piece by piece.
use Rattle.std.proofs.Common.{◌≡◌, ◌+◌, ◌-◌, ◌^◌, ◌<◌, ◌≤◌, ℕ, suc, List, [], ◌∷◌, ◌++◌, length, take, drop, get_or, sym, subst, ap, ◌∙◌, arith, append-nil, length-append, length-drop, drop-cons, nat_lt, ◌==◌, ◌&&◌, if◌then◌else◌}
use Rattle.std.proofs.Math.Seq.{take-append-add, take-add}
use Rattle.std.proofs.lemmas.Bool.Decides.{nat_tests}
use Rattle.std.proofs.lemmas.Grind.{flat_map-append}
use Rattle.std.proofs.lemmas.List.{take-append-drop, take-append-le, take_all}
use Rattle.std.proofs.lemmas.List.Concat.{flat_map-cons}
use Rattle.std.specs.List.{flat_map}
use Rattle.std.specs.declared.option.Option.{Option}
use Rattle.std.specs.Io.KnownBytes.{Appends}
use Rattle.std.proofs.KnownBytes.{Appends-nil, Appends-trans}
use Rattle.usfm_export.specs.Counts.{one_more}
use Rattle.usfm_export.specs.Writing.{TakesAll, TakesFront}

-- ---- pieces and their join

-- the pieces before one, that piece, and the pieces after it
pub flat_map-at : {X : Type 0} (f : X → List ℕ) (done : List X) (x : X) (rest : List X)
    → flat_map f (done ++ x ∷ rest) ≡ flat_map f done ++ (f x ++ flat_map f rest)
flat_map-at f done x rest =
    flat_map-append f done (x ∷ rest) ∙ ap (λ (bytes : List ℕ). flat_map f done ++ bytes) (flat_map-cons f x rest)

-- the pieces with one more
pub flat_map-push : {X : Type 0} (f : X → List ℕ) (done : List X) (x : X) → flat_map f (done ++ x ∷ []) ≡ flat_map f done ++ f x
flat_map-push f done x =
    flat_map-at f done x [] ∙ ap (λ (bytes : List ℕ). flat_map f done ++ bytes) (append-nil (f x))

-- ---- what a sink took of a text

-- before the first piece
pub TakesAll-nil : (a : Option (List ℕ)) (gone : ℕ) → gone < 2 ^ 64 → TakesAll a a [] gone gone
TakesAll-nil a gone fits = record { taken = Appends-nil a; counted = omega arith }

-- one text after another
pub TakesAll-append : (a b c : Option (List ℕ)) (done piece : List ℕ) (gone middle total : ℕ) → TakesAll a b done gone middle
    → TakesAll b c piece middle total → TakesAll a c (done ++ piece) gone total
TakesAll-append a b c done piece gone middle total all more =
    record {
      taken = Appends-trans a b c done piece all.taken more.taken;
      counted = omega (arith, length-append done piece, all.counted, more.counted);
    }

-- one piece more
pub TakesAll-push : {X : Type 0} (f : X → List ℕ) (done : List X) (x : X) (a b c : Option (List ℕ)) (gone middle total : ℕ)
    → TakesAll a b (flat_map f done) gone middle → TakesAll b c (f x) middle total → TakesAll a c (flat_map f (done ++ x ∷ [])) gone total
TakesAll-push f done x a b c gone middle total all more =
    subst (λ (text : List ℕ). TakesAll a c text gone total) (sym (flat_map-push f done x))
    (TakesAll-append a b c (flat_map f done) (f x) gone middle total all more)

-- one piece more, which is empty and is not written
pub TakesAll-skip : {X : Type 0} (f : X → List ℕ) (done : List X) (x : X) (a b : Option (List ℕ)) (gone middle : ℕ)
    → f x ≡ [] → TakesAll a b (flat_map f done) gone middle → TakesAll a b (flat_map f (done ++ x ∷ [])) gone middle
TakesAll-skip f done x a b gone middle empty all =
    subst (λ (text : List ℕ). TakesAll a b text gone middle)
    (sym (flat_map-push f done x ∙ ap (λ (bytes : List ℕ). flat_map f done ++ bytes) empty ∙ append-nil (flat_map f done))) all

-- one text, and then a front of another
pub TakesFront-append : (a b c : Option (List ℕ)) (done piece rest : List ℕ) (gone middle total : ℕ) → TakesAll a b done gone middle
    → TakesFront b c piece middle total → TakesFront a c (done ++ (piece ++ rest)) gone total
TakesFront-append a b c done piece rest gone middle total all front =
    let within : front.count ≤ length piece = omega (arith, front.not_all) in
    let front_is : take (length done + front.count) (done ++ (piece ++ rest)) ≡ done ++ take front.count piece =
    take-append-add done (piece ++ rest) front.count
    ∙ ap (λ (bytes : List ℕ). done ++ bytes) (take-append-le front.count piece rest within) in
    record {
      count = length done + front.count;
      taken = subst (λ (bytes : List ℕ). Appends a c bytes) (sym front_is)
          (Appends-trans a b c done (take front.count piece) all.taken front.taken);
      not_all = omega (arith, length-append done (piece ++ rest), length-append piece rest, front.not_all);
      counted = omega (arith, all.counted, front.counted);
    }

-- the pieces before one, and then a front of that one
pub TakesFront-at : {X : Type 0} (f : X → List ℕ) (done : List X) (x : X) (rest : List X) (piece : List ℕ) (a b c : Option (List ℕ))
    (gone middle total : ℕ)
    → f x ≡ piece → TakesAll a b (flat_map f done) gone middle → TakesFront b c piece middle total
    → TakesFront a c (flat_map f (done ++ x ∷ rest)) gone total
TakesFront-at f done x rest piece a b c gone middle total is all front =
    let text_is : flat_map f done ++ (piece ++ flat_map f rest) ≡ flat_map f (done ++ x ∷ rest) =
    ap (λ (bytes : List ℕ). flat_map f done ++ (bytes ++ flat_map f rest)) (sym is) ∙ sym (flat_map-at f done x rest) in
    subst (λ (text : List ℕ). TakesFront a c text gone total) text_is
    (TakesFront-append a b c (flat_map f done) piece (flat_map f rest) gone middle total all front)

-- the same by the place of the piece
pub TakesFront-at_index : {X : Type 0} (f : X → List ℕ) (xs : List X) (i : ℕ) (d : X) (piece : List ℕ) (a b c : Option (List ℕ))
    (gone middle total : ℕ)
    → i < length xs → f (get_or xs i d) ≡ piece → TakesAll a b (flat_map f (take i xs)) gone middle → TakesFront b c piece middle total
    → TakesFront a c (flat_map f xs) gone total
TakesFront-at_index f xs i d piece a b c gone middle total lt is all front =
    let text_is : take i xs ++ get_or xs i d ∷ drop (suc i) xs ≡ xs =
    ap (λ rest. take i xs ++ rest) (sym (drop-cons xs i d lt)) ∙ take-append-drop i xs in
    subst (λ pieces. TakesFront a c (flat_map f pieces) gone total) text_is
    (TakesFront-at f (take i xs) (get_or xs i d) (drop (suc i) xs) piece a b c gone middle total is all front)

-- the count is exact where the text has not more bytes than can be counted
pub TakesFront-exact : (a c : Option (List ℕ)) (text : List ℕ) (gone : ℕ) → length text ≤ 2 ^ 64 → TakesFront a c text 0 gone
    → Appends a c (take gone text) × (gone < length text)
TakesFront-exact a c text gone fits front =
    let same : front.count ≡ gone = omega (arith, front.not_all, front.counted) in
    (subst (λ (n : ℕ). Appends a c (take n text)) same front.taken, omega (arith, same, front.not_all))

-- ---- one text in several writes

-- what `&text[gone..]` is
pub tail_is : (gone : ℕ) (text : List ℕ) → take (length text - gone) (drop gone text) ≡ drop gone text
tail_is gone text = take_all (length text - gone) (drop gone text) (omega (arith, length-drop gone text))

-- one more write took the next bytes of a text
pub Appends-next : (a b c : Option (List ℕ)) (text : List ℕ) (gone count : ℕ) → Appends a b (take gone text)
    → Appends b c (take count (take (length text - gone) (drop gone text))) → Appends a c (take (gone + count) text)
Appends-next a b c text gone count before next =
    let whole : Appends b c (take count (drop gone text)) = subst (λ (rest : List ℕ). Appends b c (take count rest)) (tail_is gone text)
    next in
    subst (λ (bytes : List ℕ). Appends a c bytes) (sym (take-add gone count text))
    (Appends-trans a b c (take gone text) (take count (drop gone text)) before whole)

-- a write that takes a byte is no failure
pub taking_is_no_failure : (count len failures : ℕ) → (count ≡ 0 → ⊥)
    → (if count == 0 && nat_lt 0 len then one_more failures else failures) ≡ failures
taking_is_no_failure count len failures some = grind (arith, nat_tests)
