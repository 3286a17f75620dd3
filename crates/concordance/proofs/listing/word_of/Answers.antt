use Rattle.std.proofs.Common.{rules, ◌≡◌, ◌∙◌, ap, sym, subst}
use Rattle.std.specs.List.Sorted.{IsSorted}
use Rattle.std.specs.Ordering.{is_eq}
use Rattle.std.specs.declared.cmp.Ordering.{Ordering}
use Rattle.std.proofs.lemmas.List.{map-id}
use Rattle.usfm_ref.specs.contracts.key.KeyOrd.TheImpl as ord
use Rattle.usfm_ref.specs.contracts.key.KeyPartialEq.TheImpl as equal
use Rattle.usfm_ref.specs.Keys.{KeyParts, key_cmp, same_key}
use Rattle.usfm_ref.specs.Rising.{rising}
use Rattle.usfm_ref.proofs.Once.{sorted_once}
use Rattle.usfm_ref.proofs.Orders.{key_total, key_exact, same_key-cmp}
use Rattle.concordance.proofs.listing.word_of.Goals as goal

cmp_is : (a b : KeyParts) → ord.ghosts.cmp a b ≡ key_cmp a b
cmp_is a b = search rules

eq_is : (a b : KeyParts) → equal.ghosts.eq a b ≡ is_eq (key_cmp a b)
eq_is a b = (let e : equal.ghosts.eq a b ≡ same_key a b = search rules in e) ∙ same_key-cmp a b

pub returns-clause-keys : goal.returns-clause-keys
returns-clause-keys c =
    sym (map-id c.dedup.new.self.items)
    ∙ sorted_once (λ (k : KeyParts). k) key_cmp key_total key_exact equal.ghosts.eq eq_is c.in_ok-keys.keys.items
    c.sort_unstable.new.self.items c.dedup.new.self.items
    c.sort_unstable.ensures.permutation
    (subst (λ (t : KeyParts → KeyParts → Ordering). IsSorted t c.sort_unstable.new.self.items)
    (λ i a b. cmp_is a b i) c.sort_unstable.ensures.sorted) c.dedup.ensures.filtered
    ∙ ap (rising key_cmp) (map-id c.in_ok-keys.keys.items ∙ c.in_ok-keys.ensures.items)
