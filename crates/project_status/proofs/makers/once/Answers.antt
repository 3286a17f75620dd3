use Rattle.std.proofs.Common.{◌∙◌, ap, sym, List, ℕ}
use Rattle.std.proofs.lemmas.List.{map-id}
use Rattle.usfm_ref.specs.Books.{same_bytes}
use Rattle.usfm_ref.specs.Rising.{rising}
use Rattle.usfm_ref.proofs.Once.{sorted_once}
use Rattle.op_core.specs.Names.{name_cmp}
use Rattle.project_status.proofs.Names.{name_total, name_exact, name_ties}
use Rattle.project_status.proofs.makers.once.Goals as goal

pub returns : goal.returns
returns c =
    sym (map-id c.dedup.new.self.items)
    ∙ sorted_once (λ (n : List ℕ). n) name_cmp name_total name_exact same_bytes name_ties c.in_ok-once.once.items
    c.sort_unstable.new.self.items c.dedup.new.self.items c.sort_unstable.ensures.permutation c.sort_unstable.ensures.sorted
    c.dedup.ensures.filtered
    ∙ ap (rising name_cmp) (map-id c.in_ok-once.once.items ∙ c.in_ok-once.ensures)
