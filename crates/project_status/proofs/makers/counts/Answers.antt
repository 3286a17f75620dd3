use Rattle.std.proofs.Common.{◌+◌, List, ℕ, Vec, Global, take, get_or, set, length-take, arith, ◌∙◌, sym, ap}
use Rattle.std.specs.List.{count_by}
use Rattle.std.proofs.lemmas.List.Sums.{count_by-le-length}
use Rattle.usfm_ref.specs.Books.{same_bytes}
use Rattle.project_status.proofs.Names.{name_exact, none_yet, counts_more, counted_at, counted_not, count_at, found_none}
use Rattle.project_status.proofs.makers.counts.Goals.{in-Ok, in_default}
use Rattle.project_status.proofs.makers.counts.Goals as goal

pub loop-name-init : goal.loop-name-init
loop-name-init c = c.in_ok-counts.ensures.items_if_clones_equal (λ y e. e) ∙ none_yet c.args.once.now

pub overflow_add-index_mut : goal.overflow_add-index_mut
overflow_add-index_mut c =
    let i = c.loop-name.name-index in
    let seen = take i c.args.names.now in
    let place = c.in-Ok.place in
    let n = c.index_mut.result.now in
    let few = count_at (λ name. count_by (same_bytes name) seen) i
    (λ name. omega (arith, count_by-le-length (same_bytes name) seen, length-take i c.args.names.now)) c.args.once.now place n
    c.in-Ok.ensures.bound in
    let same = c.index_mut.ensures.value ∙ ap (λ (ns : List ℕ). get_or ns place n) c.loop-name.invariant in
    omega (arith, few, same, c.loop-name-test.true)

pub loop-name-preserved : goal.loop-name-preserved
loop-name-preserved c = elim c.match-binary_search.branch [
  | in-Ok w ↦
      let i = c.loop-name.name-index in
      let x = c.name-item.result in
      let f = λ (name : List ℕ). count_by (same_bytes name) (take i c.args.names.now) in
      let place = w.in-Ok.place in
      let n = w.index_mut.result.now in
      ap (λ (v : Vec ℕ Global). v.items) w.counts-is
      ∙ ap (λ (ns : List ℕ). set ns place (n + 1)) c.loop-name.invariant
      ∙ counted_at f x c.args.once.now place n c.requires w.in-Ok.ensures.bound
      (name_exact (get_or c.args.once.now place x) x (w.in-Ok.ensures.ok x))
      (w.index_mut.ensures.value ∙ ap (λ (ns : List ℕ). get_or ns place n) c.loop-name.invariant)
      ∙ sym (counts_more c.args.names.now i x c.loop-name-test.true c.name-item.is c.args.once.now)
  | in_default w ↦
      let i = c.loop-name.name-index in
      let x = c.name-item.result in
      let f = λ (name : List ℕ). count_by (same_bytes name) (take i c.args.names.now) in
      ap (λ (v : Vec ℕ Global). v.items) w.counts-is ∙ c.loop-name.invariant
      ∙ counted_not f x c.args.once.now (found_none c.args.once.now x w.in_default.field-0 c.requires w.in_default.ensures.position)
      ∙ sym (counts_more c.args.names.now i x c.loop-name-test.true c.name-item.is c.args.once.now)
]
