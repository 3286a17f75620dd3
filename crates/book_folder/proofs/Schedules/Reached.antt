-- What a replica reaches by receivings and edits over given ids, and the books that it has by then.
use Rattle.std.proofs.Common.{◌≡◌, ◌⊎◌, inl, inr, ℕ, Bool, true, false, ◌&&◌, ◌||◌, List, [], ◌∷◌, ◌++◌, filter, length, None, Ok, refl, sym, ap, subst, ◌∙◌}
use Rattle.std.specs.declared.cmp.Ordering.TheVariants.{Less, Equal, Greater}
use Rattle.std.specs.FinMap.Entries.{by_order}
use Rattle.std.specs.List.{AllByRecursion, list_any}
use Rattle.std.specs.Prelude.{IsTrue}
use Rattle.std.proofs.lemmas.Bool.{and_parts, false≢true, or_left, or_right}
use Rattle.usfm_ref.specs.Books.{same_bytes}
use Rattle.usfm_ref.specs.declared.segment.Segment.{Segment}
use Rattle.op_core.specs.Export.{has_book}
use Rattle.op_core.specs.Ids.{id_cmp}
use Rattle.op_core.specs.Ops.{Operation}
use Rattle.op_core.specs.Sets.{IsOpSet, rises, join, put, meet, clash}
use Rattle.op_core.specs.Thinned.{is_legal}
use Rattle.op_core.proofs.FilteredLists.{any_filter, any_weaker}
use Rattle.replica_state.specs.Receives.{lacked}
use Rattle.replica_state.specs.Runs.{IsTaken, NoneRefused, after_all}
use Rattle.replica_state.specs.States.{State}
use Rattle.replica_state.specs.Steps.{Command, Receive, Received, Step, received, step, with_ops}
use Rattle.replica_state.proofs.SinceRuns.{any_received}
use Rattle.book_folder.specs.FolderLaws.{IsReceivingOrEdit, Reached}

-- ---- runs one after another

after_both : (s : State) (cs ds : List Command) → after_all s (cs ++ ds) ≡ after_all (after_all s cs) ds
after_both s [] ds = refl
after_both s (c ∷ cs) ds = after_both (step s c).after cs ds

none_refused : (s : State) (cs ds : List Command) → NoneRefused s cs → NoneRefused (after_all s cs) ds → NoneRefused s (cs ++ ds)
none_refused s [] ds h g = g
none_refused s (c ∷ cs) ds h g = (h.0, none_refused (step s c).after cs ds h.1 g)

-- what all of two lists have, all of one after the other have
pub all_both : {X : Type 0} (P : X → Type 0) (xs ys : List X) → AllByRecursion P xs → AllByRecursion P ys → AllByRecursion P (xs ++ ys)
all_both P [] ys h g = g
all_both P (x ∷ xs) ys h g = (h.0, all_both P xs ys h.1 g)

-- by no command
pub stays : (s : State) → Reached s s
stays s = record { commands = []; each = tt; taken = tt; after = refl }

-- what is reached from what was reached
pub goes_on : (s t u : State) → Reached s t → Reached t u → Reached s u
goes_on s t u r q = record {
  commands = r.commands ++ q.commands;
  each = all_both IsReceivingOrEdit r.commands q.commands r.each q.each;
  taken = none_refused s r.commands q.commands r.taken (subst (λ (x : State). NoneRefused x q.commands) (sym r.after) q.taken);
  after = after_both s r.commands q.commands ∙ ap (λ (x : State). after_all x q.commands) r.after ∙ q.after;
}

-- by one receiving
pub receives : (t : State) (ops : List Operation) → IsOpSet ops → IsTrue (is_legal ops) → clash t.held ops ≡ None
    → Reached t (with_ops t ops)
receives t ops set legal none = record {
  commands = Receive ops ∷ [];
  each = ((set, legal), tt);
  taken = (subst (λ (x : Step). IsTaken x.reply) (sym first) refl, tt);
  after = ap (λ (x : Step). x.after) first;
}
  where
    first : step t (Receive ops) ≡ record { after = with_ops t ops; reply = Received (Ok (length (lacked t.held ops))) }
    first = ap (received t ops) none

-- ---- books of unions

or_cases : (a b : Bool) → (a || b) ≡ true → (a ≡ true) ⊎ (b ≡ true)
or_cases true b h = inl refl
or_cases false b h = inr h

module _ (test : Segment → Bool) where
  abbrev passes : Operation → Bool
  passes o = test o.segment

  -- what is in a set is there once one more is put in
  put_keeps : (o : Operation) (ops : List Operation) → list_any passes ops ≡ true → list_any passes (put o ops) ≡ true
  put_keeps o [] h = absurd (false≢true h)
  put_keeps o (p ∷ ops) h =
      elim (id_cmp o.id p.id) as (λ r. list_any passes (by_order r (o ∷ p ∷ ops) (meet p o ∷ ops) (p ∷ put o ops)) ≡ true) [
        | Less ↦ or_right (test o.segment) _ h
        | Equal ↦ h
        | Greater ↦ elim (or_cases (test p.segment) (list_any passes ops) h) [
          | inl e ↦ or_left _ _ e
          | inr e ↦ or_right (test p.segment) _ (put_keeps o ops e)
        ]
      ]

  -- and in a union with others
  pub left_keeps : (xs ys : List Operation) → list_any passes xs ≡ true → list_any passes (join xs ys) ≡ true
  left_keeps xs [] h = h
  left_keeps xs (y ∷ ys) h = put_keeps y (join xs ys) (left_keeps xs ys h)

  put_of : (o : Operation) (ops : List Operation) → list_any passes (put o ops) ≡ true
      → (test o.segment ≡ true) ⊎ (list_any passes ops ≡ true)
  put_of o [] h = or_cases (test o.segment) false h
  put_of o (p ∷ ops) h =
      elim (id_cmp o.id p.id) as (λ r. list_any passes (by_order r (o ∷ p ∷ ops) (meet p o ∷ ops) (p ∷ put o ops)) ≡ true
      → (test o.segment ≡ true) ⊎ (list_any passes (p ∷ ops) ≡ true)) [
        | Less ↦ λ g. or_cases (test o.segment) (list_any passes (p ∷ ops)) g
        | Equal ↦ λ g. inr g
        | Greater ↦ λ g. elim (or_cases (test p.segment) (list_any passes (put o ops)) g) [
          | inl e ↦ inr (or_left _ _ e)
          | inr e ↦ elim (put_of o ops e) [ inl here ↦ inl here | inr there ↦ inr (or_right (test p.segment) _ there) ]
        ]
      ] h

  -- what is in a union is in one of the two
  pub join_of : (xs ys : List Operation) → list_any passes (join xs ys) ≡ true
      → (list_any passes xs ≡ true) ⊎ (list_any passes ys ≡ true)
  join_of xs [] h = inl h
  join_of xs (y ∷ ys) h =
      elim (put_of y (join xs ys) h) [
        | inl here ↦ inr (or_left _ _ here)
        | inr later ↦ elim (join_of xs ys later) [ inl e ↦ inl e | inr e ↦ inr (or_right (test y.segment) _ e) ]
      ]

-- each book of the first is one of the second
abbrev pub HasBooks : List Operation → List Operation → Type 0
HasBooks xs ys = (book : List ℕ) → has_book xs book ≡ true → has_book ys book ≡ true

-- some of a list have no other books
pub some_books : (p : Operation → Bool) (xs : List Operation) → HasBooks (filter p xs) xs
some_books p xs book h =
    any_weaker (λ (o : Operation). p o && same_bytes o.segment.book book) (λ o. same_bytes o.segment.book book)
    (λ o e. (and_parts (p o) (same_bytes o.segment.book book) e).1) xs
    (sym (any_filter (λ (o : Operation). same_bytes o.segment.book book) p xs) ∙ h)

module _ (xs ys : List Operation) where
  pub left_books : HasBooks xs (join xs ys)
  left_books book h = left_keeps (λ g. same_bytes g.book book) xs ys h

  pub right_books : rises xs ≡ true → rises ys ≡ true → clash xs ys ≡ None → HasBooks ys (join xs ys)
  right_books hx hy none book h = any_received xs ys (λ g. same_bytes g.book book) hx hy none h

  -- a union has the books of both alone
  pub books_of_both : (zs : List Operation) → HasBooks xs zs → HasBooks ys zs → HasBooks (join xs ys) zs
  books_of_both zs hx hy book h =
      elim (join_of (λ g. same_bytes g.book book) xs ys h) [ inl e ↦ hx book e | inr e ↦ hy book e ]
