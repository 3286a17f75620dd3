use Rattle.std.proofs.Common.{◌≡◌, ◌≢◌, ◌<◌, ◌∙◌, ◌++◌, length, get_or, arith, ◌∷◌, ℕ, IsTrue, Option, Some, None, IsSome, IfSome, IfOk, MatchOption, Ok, List, Bor, ap, sym, subst}
use Rattle.std.specs.Option.{ok_or}
use Rattle.std.specs.Fmt.{decimal}
use Rattle.std.proofs.lemmas.Bool.{and_parts}
use Rattle.std.proofs.lemmas.Str.Pattern.{IsSplitOnceResult, split_parts}
use Rattle.op_core.specs.Ids.{Id, is_id, is_number, id_text}
use Rattle.op_core.specs.Names.{is_name}
use Rattle.op_core.specs.declared.fault.IdFault.TheVariants.{BadOpId}
use Rattle.op_core.proofs.IdOrders.IdTexts.{id_parts, number_range}
use Rattle.op_core.proofs.ids.op_id.OpId.read.Goals as goal

record AreParts (id : Id) (x : Bor (List ℕ) × Bor (List ℕ)) : Type 0 where
  number : x.0.now ≡ decimal id.number
  name : x.1.now ≡ id.name

parts_of : (id : Id) (bs : List ℕ) (r : Option (Bor (List ℕ) × Bor (List ℕ))) → IsSplitOnceResult 58 bs r → IsTrue (is_id id)
    → bs ≡ id_text id → (x : Bor (List ℕ) × Bor (List ℕ)) → r ≡ Some x → AreParts id x
parts_of id bs r h valid e x is =
    let parts = id_parts id bs r h (number_range id valid).1 e in
    let both = subst (λ (r : Option (Bor (List ℕ) × Bor (List ℕ))). MatchOption r ⊥ (λ x. (x.0.now ≡ decimal id.number)
    × (x.1.now ≡ id.name))) is parts in
    record { number = both.0; name = both.1 }

-- what is made of a number and a name is the id of the text that they are
made : (bs : List ℕ) (number : ℕ) (name : List ℕ) (r : Option Id) → bs ≡ decimal number ++ 58 ∷ name
    → IfSome r (λ id. id ≡ record { number = number; name = name }) → IfOk (ok_or r BadOpId) (λ id. bs ≡ id_text id)
made bs number name None e h = tt
made bs number name (Some id) e h = e ∙ ap id_text (sym h)

all_made : (id : Id) (number : ℕ) (name : List ℕ) (r : Option Id) → number ≡ id.number → name ≡ id.name → IsSome r
    → IfSome r (λ id. id ≡ record { number = number; name = name }) → ok_or r BadOpId ≡ Ok id
all_made id number name None n m some h = cc
all_made id number name (Some made) n m some h = ap Ok (h ∙ (λ i. record { number = n i; name = m i }))

pub returns-in_default-clause-only : goal.returns-in_default-clause-only
returns-in_default-clause-only c id valid e =
    let parts = id_parts id c.args.text.now c.split_once.result c.split_once.ensures.cases (number_range id valid).1 e in
    absurd (subst (λ (r : Option (Bor (List ℕ) × Bor (List ℕ))). MatchOption r ⊥ (λ x. (x.0.now ≡ decimal id.number)
    × (x.1.now ≡ id.name))) c.in_default.is parts)

pub returns-in_default-number_in-clause-only : goal.returns-in_default-number_in-clause-only
returns-in_default-number_in-clause-only c id valid e =
    let range = number_range id valid in
    let parts = parts_of id c.args.text.now c.split_once.result c.split_once.ensures.cases valid e
    (c.in-Some.number, c.in-Some.name) c.in-Some.is in
    absurd (c.in_default-number_in.not-Some id.number (c.number_in.ensures.only id.number range.0 range.1 parts.number))

pub returns-in_default-read-clause-only : goal.returns-in_default-read-clause-only
returns-in_default-read-clause-only c id valid e =
    let parts = parts_of id c.args.text.now c.split_once.result c.split_once.ensures.cases valid e
    (c.in-Some.number, c.in-Some.name) c.in-Some.is in
    let named =
    subst (λ (name : List ℕ). IsTrue (is_name name)) (sym parts.name) (and_parts (is_number id.number) (is_name id.name) valid).1 in
    let impossible = c.in_default-read.ensures.accepts.1 named in
    absurd cc

pub returns-clause-reads : goal.returns-clause-reads
returns-clause-reads c =
    let split = split_parts 58 c.args.text.now c.split_once.result c.split_once.ensures.cases (omega arith) in
    let whole = (subst (λ (r : Option (Bor (List ℕ) × Bor (List ℕ))). MatchOption r
    ((i : ℕ) → i < length c.args.text.now → get_or c.args.text.now i 0 ≢ 58)
    (λ x. (c.args.text.now ≡ x.0.now ++ 58 ∷ x.1.now)
    × ((i : ℕ) → i < length x.0.now → get_or x.0.now i 0 ≢ 58))) c.in-Some.is split).0 in
    let parts = whole ∙ (λ i. c.in-Some-number_in.ensures.reads i ++ 58 ∷ sym c.in-Ok.ensures.ok i) in
    rw c.ok_or.ensures.value (made c.args.text.now c.in-Some-number_in.number c.in-Ok.name c.new.result parts c.new.ensures.parts)

pub returns-clause-only : goal.returns-clause-only
returns-clause-only c id valid e =
    let range = number_range id valid in
    let parts = parts_of id c.args.text.now c.split_once.result c.split_once.ensures.cases valid e
    (c.in-Some.number, c.in-Some.name) c.in-Some.is in
    let found = c.number_in.ensures.only id.number range.0 range.1 parts.number in
    let is = c.in-Some-number_in.is in
    let same : c.in-Some-number_in.number ≡ id.number = cc in
    let some = c.new.ensures.accepts.1
    (subst (λ (n : ℕ). IsTrue (is_number n)) (sym same) (and_parts (is_number id.number) (is_name id.name) valid).0) in
    c.ok_or.ensures.value ∙ all_made id c.in-Some-number_in.number c.in-Ok.name c.new.result same
    (c.in-Ok.ensures.ok ∙ parts.name) some c.new.ensures.parts
